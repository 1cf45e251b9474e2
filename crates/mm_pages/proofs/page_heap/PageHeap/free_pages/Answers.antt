use Rattle.std.proofs.Common.{arith}
use Rattle.mm_pages.proofs.Kept.{count_below-free, count_by-free}
use Rattle.mm_pages.specs.Kept.{pages_of}
use Rattle.mm_pages.proofs.page_heap.PageHeap.free_pages.Goals as goal

pub overflow_sub-result-2 : goal.overflow_sub-result-2
overflow_sub-result-2 c = omega (
  arith,
  c.span.ensures,
  count_below-free c.self.inside.table c.self.inside.limit c.self.inside.free c.self.invariant,
)

pub returns-clause-value : goal.returns-clause-value
returns-clause-value c = rw (← c.self.view_is) (omega (
  arith,
  c.span.ensures,
  count_below-free c.self.inside.table c.self.inside.limit c.self.inside.free c.self.invariant,
))

pub returns-clause-count : goal.returns-clause-count
returns-clause-count c = rw (← c.self.view_is) (λ test tells. omega (
  arith,
  c.span.ensures,
  count_below-free c.self.inside.table c.self.inside.limit c.self.inside.free c.self.invariant,
  count_by-free (pages_of c.self.inside.table c.self.inside.limit) test c.self.invariant.sound tells,
))
