use Rattle.mm_object.proofs.Sound.{IsSound-kept}
use Rattle.mm_object.proofs.Making.{kept-fresh, heap-fresh}
use Rattle.mm_object.proofs.heap.Heap.make.Goals as goal

pub invariant_of-result : goal.invariant_of-result
invariant_of-result c =
    kept-fresh c.args.memory c.args.cells c.requires.sound c.requires.empty c.requires.whole c.requires.two
    c.requires.most

pub returns-clause-value : goal.returns-clause-value
returns-clause-value c = heap-fresh c.args.memory c.args.cells c.requires.sound c.requires.empty

pub returns-clause-sound : goal.returns-clause-sound
returns-clause-sound c = IsSound-kept c.args.memory c.args.cells (invariant_of-result c)
