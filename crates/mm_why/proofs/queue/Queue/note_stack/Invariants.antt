use Rattle.std.proofs.Common.{◌≡◌, ◌+◌, ◌*◌, List, take}
use Rattle.mm_model.specs.Views.View.{AreaView}
use Rattle.mm_object.specs.Object.{views_of}
use Rattle.mm_why.specs.Queue.{AreShort}
use Rattle.mm_why.specs.Search.{shown_with, HaveReasons, AreWordsFound}
use Rattle.mm_why.proofs.queue.Queue.note_stack.Given as goal

abbrev pub invariant-loop-cell : goal.invariant-loop-cell
invariant-loop-cell g l = record {
  reasons : (areas : List AreaView) →
      HaveReasons (shown_with (views_of l.heap.objects) l.stack.words areas) l.self.found;
  found : AreWordsFound (views_of l.heap.objects) l.self.found (take l.cell l.stack.words) 1;
  short : AreShort l.self.found 1;
  places : l.self.places ≡ l.fn.self.places;
  ticked : l.steps ≡ l.fn.steps + 2 * l.cell;
}
