use Rattle.std.proofs.Common.{◌≡◌, ℕ, ◌+◌, ◌*◌, ◌<◌, ◌^◌, take, length, refl, sym, ap, ◌∙◌, subst, arith}
use Rattle.std.proofs.lemmas.List.{length-take-le}
use Rattle.std.specs.Prelude.{max}
use Rattle.mm_model.specs.declared.command.Command.TheVariants as commands
use Rattle.mm_model.specs.declared.reply.Reply.TheVariants as replies
use Rattle.mm_model.specs.Views.ViewPhase.{view_reaped}
use Rattle.mm_model.specs.Views.ViewWords.{outside_references}
use Rattle.mm_words.specs.Location.{location_of}
use Rattle.mm_gc.specs.Gc.{Gc, view_of_gc}
use Rattle.mm_gc.specs.Inside.{gc_of}
use Rattle.mm_gc.specs.Rows.{Tells}
use Rattle.mm_gc.specs.Steps.{IsReapCost}
use Rattle.mm_gc.proofs.Marking.Begun.{has_counts, holds_tight}
use Rattle.mm_gc.proofs.Frees.Freed.{freed-fits, reaps-shows}
use Rattle.mm_gc.proofs.Frees.Reaped.{HasReaped, few-entries, known-released, partly-released, keeps-reaped}
use Rattle.mm_gc.proofs.Frees.Reaped.{tells-reaped}
use Rattle.mm_gc.proofs.gc.Gc.reap.Given.{Over}
use Rattle.mm_gc.proofs.gc.Gc.reap.Goals as goal

pub free_reapable-found-requires-clause-tight : goal.free_reapable-found-requires-clause-tight
free_reapable-found-requires-clause-tight g c = holds_tight (gc_of c.self.inside) c.self.invariant

pub free_reapable-found-requires-clause-counted : goal.free_reapable-found-requires-clause-counted
free_reapable-found-requires-clause-counted g c =
    (outside_references (view_of_gc (gc_of c.self.inside)), has_counts (gc_of c.self.inside) c.self.invariant)

pub forget_freed-requires-clause-known : goal.forget_freed-requires-clause-known
forget_freed-requires-clause-known g c =
    let found = c.free_reapable-found in
    known-released (gc_of c.self.inside) c.self.invariant (take found.result found.new.dead.words) found.new.region
    found.ensures.objects

pub forget_freed-requires-clause-partly : goal.forget_freed-requires-clause-partly
forget_freed-requires-clause-partly g c =
    let found = c.free_reapable-found in
    partly-released (gc_of c.self.inside) c.self.invariant (take found.result found.new.dead.words) found.new.region
    found.ensures.objects

pub overflow_add-self : goal.overflow_add-self
overflow_add-self g c =
    let gc = gc_of c.self.inside in
    let view = view_of_gc gc in
    let found = c.free_reapable-found in
    let dead = take found.result found.new.dead.words in
    let many : view.totals.freed + length dead ≡ c.self.inside.freed + found.result =
    ap (λ (n : ℕ). c.self.inside.freed + n) (length-take-le found.result found.new.dead.words found.ensures.within) in
    let few = freed-fits c.self.inside.freed c.self.inside.born found.result (view_reaped dead view)
    (reaps-shows view c.self.invariant.shown dead
    (found.ensures.bases (outside_references view) (has_counts gc c.self.invariant))) many refl in
    let born = c.self.ranges.1.1.1.1.1.1.1.1.0.1 in
    omega (arith, few, born)

pub overflow_mul-len : goal.overflow_mul-len
overflow_mul-len g c =
    let gc = gc_of c.self.inside in
    let view = view_of_gc gc in
    let found = c.free_reapable-found in
    let dead = take found.result found.new.dead.words in
    let counts = has_counts gc c.self.invariant in
    let few = few-entries gc c.self.invariant found.new.region found.new.count dead (record {
      objects = found.ensures.objects;
      counted = found.ensures.counted (outside_references view) counts;
      areas = found.ensures.areas;
      same = found.ensures.same;
      settled = found.ensures.settled;
      same_table = found.ensures.table;
    })
    (reaps-shows view c.self.invariant.shown dead (found.ensures.bases (outside_references view) counts)) in
    let most = c.self.invariant.rooms.within.most_pages in
    let len = c.len.ensures in
    omega (arith, few, most, len)

module _ (g : Over) (c : goal.After-self-2-1 g) where
  has : HasReaped (gc_of c.self.inside) c.free_reapable-found.new.region c.free_reapable-found.new.count
      (take c.free_reapable-found.result c.free_reapable-found.new.dead.words)
  has =
      record {
        objects = c.free_reapable-found.ensures.objects;
        counted = c.free_reapable-found.ensures.counted (outside_references (view_of_gc (gc_of c.self.inside)))
            (has_counts (gc_of c.self.inside) c.self.invariant);
        areas = c.free_reapable-found.ensures.areas;
        same = c.free_reapable-found.ensures.same;
        settled = c.free_reapable-found.ensures.settled;
        same_table = c.free_reapable-found.ensures.table;
      }

  so_many : c.free_reapable-found.result
      ≡ length (take c.free_reapable-found.result c.free_reapable-found.new.dead.words)
  so_many =
      sym (length-take-le c.free_reapable-found.result c.free_reapable-found.new.dead.words
      c.free_reapable-found.ensures.within)

  limit : c.max-self-inside.result
      ≡ max c.self.inside.settings.zct (2 * length c.free_reapable-found.new.count.entries)
  limit = c.max-self-inside.ensures ∙ ap (λ (n : ℕ). max c.self.inside.settings.zct (2 * n)) c.len.ensures

pub invariant_of-self : goal.invariant_of-self
invariant_of-self g c =
    let gc = gc_of c.self.inside in
    let view = view_of_gc gc in
    let found = c.free_reapable-found in
    let dead = take found.result found.new.dead.words in
    keeps-reaped gc c.self.invariant found.new.region found.new.count c.forget_freed.new.marker dead
    (location_of found.new.dead) found.result c.max-self-inside.result (has g c) c.forget_freed.ensures.forgotten
    c.forget_freed.ensures.known c.forget_freed.ensures.few found.ensures.dead (so_many g c) (limit g c)
    (reaps-shows view c.self.invariant.shown dead
    (found.ensures.bases (outside_references view) (has_counts gc c.self.invariant)))

pub returns-clause-row : goal.returns-clause-row
returns-clause-row g c =
    let old = gc_of c.self.inside in
    let view = view_of_gc old in
    let found = c.free_reapable-found in
    let dead = take found.result found.new.dead.words in
    let heard = g.J.Finalizer.tells c.args.journal.now found.new.journal in
    let now : Gc = record old {
      region = found.new.region;
      table = found.new.count;
      marker = c.forget_freed.new.marker;
      dead = location_of found.new.dead;
      threshold = c.max-self-inside.result;
      freed = old.freed + found.result;
    } in
    subst (λ (gc : Gc). Tells gc now commands.Reap replies.Done heard) c.self.view_is
    (tells-reaped old c.self.invariant found.new.region found.new.count c.forget_freed.new.marker dead
    (location_of found.new.dead) found.result c.max-self-inside.result (has g c) c.forget_freed.ensures.forgotten
    c.forget_freed.ensures.known c.forget_freed.ensures.few found.ensures.dead (so_many g c) (limit g c) heard
    (found.ensures.bases (outside_references view) (has_counts old c.self.invariant))
    (found.ensures.told view refl))

pub returns-clause-cost : goal.returns-clause-cost
returns-clause-cost g c =
    let old = gc_of c.self.inside in
    let found = c.free_reapable-found in
    subst (λ (gc : Gc). IsReapCost gc c.args.steps.now c.forget_freed.new.steps) c.self.view_is (record {
      dead = take found.result found.new.dead.words;
      bases = found.ensures.bases (outside_references (view_of_gc old)) (has_counts old c.self.invariant);
      within = λ digits few.
          let same = c.self.invariant.settled.keeps.tables.pages ∙ c.self.invariant.rooms.most in
          let freed = found.ensures.cost digits (subst (λ (n : ℕ). n < 2 ^ digits) (sym same) few) in
          omega (arith, freed, c.forget_freed.ensures.cost);
    })
