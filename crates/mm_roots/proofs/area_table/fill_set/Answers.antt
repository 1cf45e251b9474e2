use Rattle.std.proofs.Common.{ap, ◌∙◌, inl, inr, arith}
use Rattle.std.proofs.lemmas.Bool.{cases_eq}
use Rattle.mm_sets.specs.Set.{members}
use Rattle.mm_model.specs.Areas.{most_areas}
use Rattle.mm_roots.proofs.area_table.fill_set.Goals as goal

pub loop-number-preserved : goal.loop-number-preserved
loop-number-preserved c =
    let so_far = c.loop-number.invariant in
    record {
      set = c.insert.ensures.set most_areas (omega (arith, c.loop-number-test.true)) so_far.set;
      members = λ number below. elim (cases_eq number c.loop-number.number) [
        | inl same ↦ ap (members c.insert.new.set) same ∙ c.insert.ensures.member
        | inr apart ↦ c.insert.ensures.others number apart ∙ so_far.members number (omega arith)
      ];
    }
