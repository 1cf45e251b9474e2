use Rattle.std.proofs.Common.{ℕ, ◌^◌, set, arith, ◌∙◌, ap, subst}
use Rattle.mm_pages.specs.Entries.{Entries}
use Rattle.mm_pages.specs.Free.{LowestFit}
use Rattle.mm_pages.specs.Pages.{Pages, IsFreeRun, IsLowestRun, IsQuick, unused, run_at}
use Rattle.mm_pages.specs.Kept.{pages_of}
use Rattle.mm_pages.proofs.Counts.{count_below-taken}
use Rattle.mm_pages.proofs.Digits.{IsQuick-height}
use Rattle.mm_pages.proofs.Kept.{none-short, none-past, IsLowestRun-fit, KeepsTree-taken}
use Rattle.mm_pages.proofs.Trees.{Shows-head}
use Rattle.mm_pages.proofs.page_heap.PageHeap.take.Goals as goal

pub returns-then-longest-k-clause-none : goal.returns-then-longest-k-clause-none
returns-then-longest-k-clause-none g c = subst (λ (v : Pages). (p : ℕ) → IsFreeRun v p c.args.k → ⊥) c.self.view_is
    (none-short (pages_of c.self.inside.table c.self.inside.limit)
    (2 ^ c.self.inside.table.height) _ _ _ c.args.k c.self.invariant.sound
    (omega (arith, c.self.invariant.wide, c.self.invariant.sound.limit)) c.requires
    (Shows-head c.self.inside.table.height _ c.self.inside.table.tree c.self.invariant.shows)
    (omega (arith, c.longest.ensures)))

pub returns-then-self-first-clause-none : goal.returns-then-self-first-clause-none
returns-then-self-first-clause-none g c = subst (λ (v : Pages). (p : ℕ) → IsFreeRun v p c.args.k → ⊥) c.self.view_is
    (none-past (pages_of c.self.inside.table c.self.inside.limit)
    (2 ^ c.self.inside.table.height) c.find-first.result c.args.k c.self.invariant.sound
    (omega (arith, c.self.invariant.wide, c.self.invariant.sound.limit)) c.requires
    (c.find-first.ensures.lowest _ c.self.invariant.shows) (omega arith))

pub returns-then-self-first-clause-cost : goal.returns-then-self-first-clause-cost
returns-then-self-first-clause-cost g c = subst (λ (v : Pages).
    IsQuick v.pages c.args.steps.now c.find-first.new.steps) c.self.view_is
    (IsQuick-height c.self.inside.table.pages c.self.inside.table.height c.args.steps.now c.find-first.new.steps
    (omega (arith, c.self.invariant.sound.two, c.self.invariant.sound.limit)) c.self.invariant.tight
    (omega (arith, c.tick.ensures, c.find-first.ensures.visits)))

pub overflow_sub-self : goal.overflow_sub-self
overflow_sub-self g c =
    let fit : LowestFit (unused (run_at (pages_of c.self.inside.table c.self.inside.limit)))
    (2 ^ c.self.inside.table.height) c.args.k c.find-first.result = c.find-first.ensures.lowest _
    c.self.invariant.shows in
    omega (
      arith,
      c.self.invariant.counted,
      count_below-taken
          (unused (run_at (pages_of c.self.inside.table c.self.inside.limit))) c.find-first.result c.args.k
          (2 ^ c.self.inside.table.height) fit.within (λ i a b. fit.fits.each i a b),
    )

pub invariant_of-self : goal.invariant_of-self
invariant_of-self g c =
    let now = c.set_out.ensures ∙ ap (λ (e : Entries).
    record e { out = set e.out c.find-first.result c.args.k }) c.mark.ensures.rest in
    rw now (KeepsTree-taken c.self.inside.table c.self.inside.limit c.self.inside.free c.find-first.result c.args.k
    c.mark.new.self.tree c.self.invariant
    (c.find-first.ensures.lowest _ c.self.invariant.shows) c.requires (omega arith) c.mark.ensures.shows)

pub returns-clause-lowest : goal.returns-clause-lowest
returns-clause-lowest g c = subst (λ (v : Pages). IsLowestRun v c.find-first.result c.args.k) c.self.view_is
    (IsLowestRun-fit (pages_of c.self.inside.table c.self.inside.limit)
    (2 ^ c.self.inside.table.height) c.find-first.result c.args.k c.self.invariant.sound
    (omega (arith, c.self.invariant.wide, c.self.invariant.sound.limit)) c.requires
    (c.find-first.ensures.lowest _ c.self.invariant.shows) (omega arith))

pub returns-clause-cost : goal.returns-clause-cost
returns-clause-cost g c = subst (λ (v : Pages). IsQuick v.pages c.args.steps.now c.mark.new.steps) c.self.view_is
    (IsQuick-height c.self.inside.table.pages c.self.inside.table.height c.args.steps.now c.mark.new.steps
    (omega (arith, c.self.invariant.sound.two, c.self.invariant.sound.limit)) c.self.invariant.tight
    (omega (arith, c.tick.ensures, c.find-first.ensures.visits, c.mark.ensures.visits.any)))

pub returns-clause-sound : goal.returns-clause-sound
returns-clause-sound g c =
    let now = c.set_out.ensures ∙ ap (λ (e : Entries).
    record e { out = set e.out c.find-first.result c.args.k }) c.mark.ensures.rest in
    let kept = KeepsTree-taken c.self.inside.table c.self.inside.limit c.self.inside.free c.find-first.result c.args.k
    c.mark.new.self.tree c.self.invariant
    (c.find-first.ensures.lowest _ c.self.invariant.shows) c.requires (omega arith) c.mark.ensures.shows in
    rw now kept.sound

pub returns-then-longest-k-clause-cost : goal.returns-then-longest-k-clause-cost
returns-then-longest-k-clause-cost g c = subst (λ (v : Pages). IsQuick v.pages c.args.steps.now c.tick.new.self)
    c.self.view_is
    (IsQuick-height c.self.inside.table.pages c.self.inside.table.height c.args.steps.now c.tick.new.self
    (omega (arith, c.self.invariant.sound.two, c.self.invariant.sound.limit)) c.self.invariant.tight
    (omega (arith, c.tick.ensures)))
