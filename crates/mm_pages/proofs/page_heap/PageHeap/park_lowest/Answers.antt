-- What was noted as out is noted as parked at once.
use Rattle.std.proofs.Common.{◌≡◌, ℕ, set, slice_index, ◌∙◌, ap, sym, arith, subst}
use Rattle.mm_pages.specs.Pages.{Pages, Run, with_parked, with_out, IsSoundHeap}
use Rattle.mm_pages.specs.Parked.{AreParked}
use Rattle.mm_pages.proofs.Parked.{parked-taken, free-within, IsSized, IsSized-taken, AreParked-vacant, AreParked-taken}
use Rattle.mm_pages.proofs.Parked.{AreParked-others, AreParked-none}
use Rattle.mm_pages.proofs.page_heap.PageHeap.park_lowest.Goals as goal

pub returns-clause-within : goal.returns-clause-within
returns-clause-within g c =
    let sized : IsSized c.args.self.now = IsSized-taken c.args.self.now c.in_ok-run.run'.first c.args.count
    (subst IsSoundHeap c.in_ok-run.ensures.taken c.take.ensures.sound) in
    let within = free-within c.args.self.now c.in_ok-run.run'.first c.args.count sized (omega (arith, c.requires))
    c.in_ok-run.ensures.lowest.free in
    omega (arith, within, c.first-first.ensures)

pub returns-clause-parked : goal.returns-clause-parked
returns-clause-parked g c =
    let heap : Pages = c.args.self.now in
    let count : ℕ = c.args.count in
    let first : ℕ = c.in_ok-run.run'.first in
    let len : c.in_ok-run.run'.len ≡ count = ap (λ (r : Run). r.len) c.in_ok-run.ensures.run in
    c.park.ensures.parked
    ∙ ap (λ (v : Pages). with_parked (with_out v first 0) first c.in_ok-run.run'.len) c.in_ok-run.ensures.taken
    ∙ ap (λ (n : ℕ). with_parked (with_out (with_out heap first count) first 0) first n) len
    ∙ parked-taken heap first count (omega (arith, c.requires)) c.in_ok-run.ensures.lowest.free
    ∙ ap (λ (f : ℕ). with_parked heap f count) (sym c.first-first.ensures)

pub returns-clause-vacant : goal.returns-clause-vacant
returns-clause-vacant g c = λ runs parked page from to.
    AreParked-vacant c.args.self.now runs page parked
    (c.in_ok-run.ensures.lowest.free page (omega (arith, c.first-first.ensures))
    (omega (arith, c.first-first.ensures)))

pub returns-clause-fits : goal.returns-clause-fits
returns-clause-fits g c = λ runs parked.
    let sized : IsSized c.args.self.now = IsSized-taken c.args.self.now c.in_ok-run.run'.first c.args.count
    (subst IsSoundHeap c.in_ok-run.ensures.taken c.take.ensures.sound) in
    subst (AreParked (set runs c.first-first.result c.args.count)) (sym (returns-clause-parked g c))
    (subst (λ (f : ℕ). AreParked (set runs f c.args.count) (with_parked c.args.self.now f c.args.count))
    (sym c.first-first.ensures)
    (AreParked-taken c.args.self.now runs c.in_ok-run.run'.first c.args.count sized (omega (arith, c.requires))
    c.in_ok-run.ensures.lowest.free parked))

pub returns-clause-others : goal.returns-clause-others
returns-clause-others g c = λ runs parked.
    let first : ℕ = c.in_ok-run.run'.first in
    let free = c.in_ok-run.ensures.lowest.free first (omega arith) (omega (arith, c.requires)) in
    subst (AreParked runs) (sym (returns-clause-parked g c))
    (AreParked-others c.args.self.now runs c.first-first.result c.args.count
    (ap (slice_index runs) c.first-first.ensures ∙ AreParked-none c.args.self.now runs first parked free) parked)
