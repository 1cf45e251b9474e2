use Rattle.std.proofs.Common.{ℕ, ◌+◌, ◌*◌, take, sym, ap, ◌∙◌, arith}
use Rattle.std.proofs.lemmas.List.{length-take-le}
use Rattle.mm_model.specs.Views.SetsByBase.{IsReapableAt}
use Rattle.mm_model.specs.Views.ViewPhase.{view_after_release}
use Rattle.mm_model.specs.Views.ByBase.{changed}
use Rattle.mm_model.specs.Views.ObjectView.{ObjectsByBase}
use Rattle.mm_object.specs.Object.{views_of}
use Rattle.mm_sweep.specs.Release.{finalized_slots}
use Rattle.mm_gc.specs.Gc.{objects_in}
use Rattle.mm_gc.proofs.Colours.Alike.{all_white, pieces-alike}
use Rattle.mm_gc.proofs.Writing.Settling.{settled-objects}
use Rattle.mm_gc.proofs.Frees.Sweeping.{releasable, linked-recounted}
use Rattle.mm_gc.proofs.freeing.free_reapable.Goals as goal

pub release-requires-clause-dead : goal.release-requires-clause-dead
release-requires-clause-dead g c =
    let views = objects_in c.args.region.now in
    let after = c.reap-found.new.heap in
    let outside = c.requires.counted.0 in
    releasable (IsReapableAt views c.args.stack.now.words outside) views after c.reap-found.new.dead.words
    c.reap-found.result c.reap-found.ensures.dead.within (ap all_white c.reap-found.ensures.heap.views)
    (c.reap-found.ensures.bases outside c.requires.counted.1.counted) c.reap-found.ensures.apart
    (linked-recounted c.args.region.now.heap after c.reap-found.ensures.heap c.requires.counted.1.linked)

pub release-requires-clause-settled : goal.release-requires-clause-settled
release-requires-clause-settled g c =
    let after = c.reap-found.new.heap in
    settled-objects c.args.region.now after c.reap-found.ensures.heap.rest c.requires.settled
    (pieces-alike (views_of after.objects) (objects_in c.args.region.now)
    (ap all_white c.reap-found.ensures.heap.views)) c.reap-found.ensures.sound

pub returns-clause-bases : goal.returns-clause-bases
returns-clause-bases g c outside h = c.reap-found.ensures.bases outside h.counted

pub returns-clause-told : goal.returns-clause-told
returns-clause-told g c view seen = c.release.ensures.told view (seen ∙ sym c.reap-found.ensures.heap.views)

pub returns-clause-objects : goal.returns-clause-objects
returns-clause-objects g c =
    c.release.ensures.released.views
    ∙ ap (λ (os : ObjectsByBase).
    changed (view_after_release (take c.reap-found.result c.reap-found.new.dead.words)) os)
    c.reap-found.ensures.heap.views

pub returns-clause-counted : goal.returns-clause-counted
returns-clause-counted g c outside h =
    record {
      right = c.release.ensures.released.right c.reap-found.new.count c.reap-found.ensures.right;
      counted = c.release.ensures.released.counts outside (c.reap-found.ensures.counts outside h.counted);
      listed = c.release.ensures.released.listed c.reap-found.ensures.apart;
      unpinned = c.release.ensures.released.unpinned c.reap-found.ensures.unpinned;
      linked = c.release.ensures.released.linked;
    }

pub returns-clause-cost : goal.returns-clause-cost
returns-clause-cost g c digits few =
    let found = c.reap-found in
    let reaped = found.ensures.cost in
    let released = c.release.ensures.cost digits few in
    let slots = ap (λ (os : ObjectsByBase). finalized_slots os (take found.result found.new.dead.words))
    found.ensures.heap.views in
    let many = ap (λ (n : ℕ). 64 * (1 + digits) * n)
    (length-take-le found.result found.new.dead.words found.ensures.dead.within) in
    omega (arith, reaped, released, slots, many)
