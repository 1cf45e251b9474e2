use Rattle.std.proofs.Common.{arith}
use Rattle.std.proofs.lemmas.Nat.{pow_pos}
use Rattle.mm_pages.proofs.Kept.{KeepsTree-fresh}
use Rattle.mm_pages.proofs.page_heap.PageHeap.make.Goals as goal

pub invariant_of-result : goal.invariant_of-result
invariant_of-result c = KeepsTree-fresh c.make.result _ c.args.pages c.height_over-height.result _ c.make.ensures.fresh
    c.requires.two c.requires.most
    c.height_over-height.ensures.wide c.height_over-height.ensures.tight
    (omega (arith, c.span_of.ensures, pow_pos c.height_over-height.result)) c.make.ensures.shows

pub returns-clause-sound : goal.returns-clause-sound
returns-clause-sound c = (invariant_of-result c).sound
