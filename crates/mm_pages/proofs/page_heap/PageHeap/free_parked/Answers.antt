-- What was noted as parked is noted as out in between.
use Rattle.std.proofs.Common.{◌≡◌, ℕ, sym, ◌∙◌, ap, subst, slice_index, set}
use Rattle.mm_pages.specs.Pages.{Pages, Run, with_out, IsSoundHeap}
use Rattle.mm_pages.specs.Parked.{AreParked}
use Rattle.mm_pages.proofs.Parked.{given-unparked, IsSized, IsSized-unparked, AreParked-freed, AreParked-others}
use Rattle.mm_pages.proofs.page_heap.PageHeap.free_parked.Goals as goal

pub returns-clause-freed : goal.returns-clause-freed
returns-clause-freed g c =
    let heap : Pages = c.args.self.now in
    let first : ℕ = c.args.first in
    let count : ℕ = slice_index heap.parked first in
    let at : c.unpark-run.result.first ≡ first = ap (λ (r : Run). r.first) c.unpark-run.ensures.run in
    c.give.ensures.given
    ∙ ap (λ (f : ℕ). with_out c.unpark-run.new.self f 0) at
    ∙ ap (λ (v : Pages). with_out v first 0) c.unpark-run.ensures.moved
    ∙ given-unparked heap first count c.unpark-run.ensures.not_out

pub returns-clause-fits : goal.returns-clause-fits
returns-clause-fits g c = λ runs parked.
    let heap : Pages = c.args.self.now in
    let sized : IsSized heap = IsSized-unparked heap c.args.first (slice_index heap.parked c.args.first)
    (subst IsSoundHeap c.unpark-run.ensures.moved c.unpark-run.ensures.sound) in
    subst (AreParked (set runs c.args.first 0)) (sym (returns-clause-freed g c))
    (AreParked-freed heap runs c.args.first sized c.requires parked)

pub returns-clause-others : goal.returns-clause-others
returns-clause-others g c = λ runs none parked.
    subst (AreParked runs) (sym (returns-clause-freed g c))
    (AreParked-others c.args.self.now runs c.args.first 0 none parked)
