use Rattle.std.proofs.Common.{ℕ, List, length, refl, sym, ap, ◌∙◌, subst}
use Rattle.mm_sets.specs.Set.{members, IsSet}
use Rattle.mm_model.specs.Areas.{most_areas}
use Rattle.mm_roots.proofs.Tables.{length-set_part}
use Rattle.mm_roots.proofs.area_table.write_member.Goals as goal

pub returns : goal.returns
returns c =
    let lent = c.part_mut.ensures.value in
    record {
      words = c.set_member.new.set;
      sized = c.set_member.auto.set ∙ ap length lent
          ∙ length-set_part c.args.table.now.words c.args.from c.requires.room;
      is = refl;
      set = c.set_member.ensures.set most_areas c.requires.number
          (subst (λ (ws : List ℕ). IsSet most_areas ws) (sym lent) c.requires.set);
      here = c.set_member.ensures.member;
      others = λ other apart. c.set_member.ensures.others other apart
          ∙ ap (λ (ws : List ℕ). members ws other) lent;
    }
