use Rattle.std.proofs.Common.{ℕ, ◌+◌, ◌*◌, take, refl, sym, ap, ◌∙◌, arith}
use Rattle.std.proofs.lemmas.List.{length-take-le}
use Rattle.mm_model.specs.declared.line.Phase.TheVariants as phases
use Rattle.mm_model.specs.Views.View.{View}
use Rattle.mm_object.specs.Object.{views_of}
use Rattle.mm_sweep.specs.Sweep.{IsWhiteAt}
use Rattle.mm_gc.specs.Gc.{objects_in}
use Rattle.mm_gc.proofs.Colours.Alike.{all_white, AreAlike, all_white-twice, pieces-alike}
use Rattle.mm_gc.proofs.Marking.FinishCost.{finalized-alike, counted-found}
use Rattle.mm_gc.proofs.Writing.Settling.{settled-objects}
use Rattle.mm_gc.proofs.Frees.Sweeping.{releasable, linked-whitened}
use Rattle.mm_gc.proofs.Telling.Heard.{heard-alike}
use Rattle.mm_gc.proofs.freeing.free_white.Goals as goal

pub release-requires-clause-dead : goal.release-requires-clause-dead
release-requires-clause-dead g c =
    let views = objects_in c.args.region.now in
    let after = c.sweep-found.new.heap in
    let same : AreAlike (views_of after.objects) views =
    ap all_white c.sweep-found.ensures.views ∙ all_white-twice views in
    releasable (IsWhiteAt views) views after c.sweep-found.new.dead.words c.sweep-found.result
    c.sweep-found.ensures.within same c.sweep-found.ensures.bases c.sweep-found.ensures.apart
    (linked-whitened c.args.region.now.heap after (sym same) c.sweep-found.ensures.objects c.requires.counted.1.linked)

pub release-requires-clause-settled : goal.release-requires-clause-settled
release-requires-clause-settled g c =
    let views = objects_in c.args.region.now in
    let after = c.sweep-found.new.heap in
    let same : AreAlike (views_of after.objects) views =
    ap all_white c.sweep-found.ensures.views ∙ all_white-twice views in
    settled-objects c.args.region.now after c.sweep-found.ensures.rest c.requires.settled
    (pieces-alike (views_of after.objects) views same) c.sweep-found.ensures.sound

pub returns-clause-told : goal.returns-clause-told
returns-clause-told g c view seen =
    let views = objects_in c.args.region.now in
    let bases = take c.sweep-found.result c.sweep-found.new.dead.words in
    let middle : View = record view { objects = views_of c.sweep-found.new.heap.objects } in
    let same : AreAlike middle.objects view.objects =
    ap all_white c.sweep-found.ensures.views ∙ all_white-twice views ∙ ap all_white (sym seen) in
    heard-alike (g.J.Finalizer.tells c.args.journal.now c.release.new.journal) phases.Collect middle view same bases
    (c.release.ensures.told middle refl)

pub returns-clause-counted : goal.returns-clause-counted
returns-clause-counted g c outside h =
    record {
      right = c.release.ensures.released.right c.sweep-found.new.count c.sweep-found.ensures.right;
      counted = c.release.ensures.released.counts outside (c.sweep-found.ensures.counts outside h.counted);
      listed = c.release.ensures.released.listed c.sweep-found.ensures.apart;
      unpinned = c.release.ensures.released.unpinned c.sweep-found.ensures.unpinned;
      linked = c.release.ensures.released.linked;
    }

pub returns-clause-cost : goal.returns-clause-cost
returns-clause-cost g c digits few =
    let views = objects_in c.args.region.now in
    let found = c.sweep-found in
    let dead = take found.result found.new.dead.words in
    let swept = found.ensures.cost in
    let released = c.release.ensures.cost digits few in
    let same : AreAlike (views_of found.new.heap.objects) views =
    ap all_white found.ensures.views ∙ all_white-twice views in
    let slots = finalized-alike (views_of found.new.heap.objects) views same dead in
    let counted = counted-found (IsWhiteAt views) views dead found.ensures.bases.only in
    let many = ap (λ (n : ℕ). 64 * (1 + digits) * n) (length-take-le found.result found.new.dead.words
    found.ensures.within) in
    omega (arith, swept, released, slots, counted, many)
