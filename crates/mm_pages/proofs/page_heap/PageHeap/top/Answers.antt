use Rattle.std.proofs.Common.{arith, subst}
use Rattle.std.proofs.lemmas.Nat.{pow_pos}
use Rattle.mm_pages.specs.Pages.{IsSoundHeap}
use Rattle.mm_pages.specs.Kept.{pages_of}
use Rattle.mm_pages.proofs.Kept.{IsHighestUsed-last, HasNoRun-unused, last_run-short}
use Rattle.mm_pages.proofs.Trees.{Shows-head}
use Rattle.mm_pages.proofs.page_heap.PageHeap.top.Goals as goal

pub overflow_sub-result : goal.overflow_sub-result
overflow_sub-result c = omega (
  arith,
  c.span.ensures,
  c.last_run.ensures,
  (Shows-head c.self.inside.table.height _ c.self.inside.table.tree c.self.invariant.shows).right_within,
)

pub returns-clause-some : goal.returns-clause-some
returns-clause-some c = omega (
  arith,
  c.span.ensures,
  c.last_run.ensures,
  last_run-short (pages_of c.self.inside.table c.self.inside.limit) _ _ _ _
      (Shows-head c.self.inside.table.height _ c.self.inside.table.tree c.self.invariant.shows)
      (pow_pos c.self.inside.table.height),
)

pub returns-clause-highest : goal.returns-clause-highest
returns-clause-highest c = rw (c.span.ensures, c.last_run.ensures, ← c.self.view_is)
    (IsHighestUsed-last (pages_of c.self.inside.table c.self.inside.limit) _ _ _ _ c.self.invariant.sound
    (Shows-head c.self.inside.table.height _ c.self.inside.table.tree c.self.invariant.shows)
    (omega (arith, c.self.invariant.wide, c.self.invariant.sound.limit)) (pow_pos c.self.inside.table.height))

pub returns-clause-none : goal.returns-clause-none
returns-clause-none c = λ one.
    HasNoRun-unused c.args.self.now _ (subst IsSoundHeap c.self.view_is c.self.invariant.sound)
    (returns-clause-highest c) (omega (arith, one))
