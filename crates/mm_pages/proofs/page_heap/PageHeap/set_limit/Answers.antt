use Rattle.std.proofs.Common.{arith, ap, subst, sym}
use Rattle.mm_pages.specs.Pages.{Pages, EndsBy}
use Rattle.mm_pages.proofs.Kept.{KeepsTree-limit}
use Rattle.mm_pages.proofs.page_heap.PageHeap.set_limit.Goals as goal

pub invariant_of-self : goal.invariant_of-self
invariant_of-self c = KeepsTree-limit c.self.inside.table c.self.inside.limit c.args.limit c.self.inside.free
    c.self.invariant c.requires.two
    (omega (arith, ap (λ (v : Pages). v.pages) c.self.view_is))
    (subst (λ (v : Pages). EndsBy v c.args.limit) (sym c.self.view_is) c.requires.clear)

pub returns-clause-sound : goal.returns-clause-sound
returns-clause-sound c = (invariant_of-self c).sound
