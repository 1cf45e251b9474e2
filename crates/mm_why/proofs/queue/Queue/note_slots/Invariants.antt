use Rattle.std.proofs.Common.{◌≡◌, ℕ, ◌+◌, List, take, length}
use Rattle.mm_model.specs.Views.View.{AreaView}
use Rattle.mm_object.specs.Object.{views_of}
use Rattle.mm_why.specs.Queue.{AreShort, IsGrown}
use Rattle.mm_why.specs.Search.{shown_with, HaveReasons, AreWordsFound, AreLive}
use Rattle.mm_why.proofs.queue.Queue.note_slots.Given as goal

abbrev pub invariant-loop-slot : goal.invariant-loop-slot
invariant-loop-slot g l = record {
  reasons : (stack : List ℕ) (areas : List AreaView)
      → HaveReasons (shown_with (views_of l.heap.objects) stack areas) l.fn.self.found
      → HaveReasons (shown_with (views_of l.heap.objects) stack areas) l.self.found;
  found : AreWordsFound (views_of l.heap.objects) l.self.found (take l.slot l.words) l.length;
  short : AreShort l.self.found l.length;
  live : AreLive (views_of l.heap.objects) l.self.found;
  grown : IsGrown l.fn.self.found l.self.found;
  places : l.self.places ≡ l.fn.self.places;
  ticked : l.steps ≡ l.fn.steps + 1 + length l.words + l.slot;
}
