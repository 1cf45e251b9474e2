use Rattle.std.proofs.Common.{◌≡◌, ℕ, ◌+◌, ◌*◌, List, take}
use Rattle.mm_object.specs.Object.{views_of}
use Rattle.mm_roots.specs.Views.{cell_words, views_of_areas}
use Rattle.mm_why.specs.Queue.{AreShort, IsGrown}
use Rattle.mm_why.specs.Search.{shown_with, HaveReasons, AreWordsFound}
use Rattle.mm_why.proofs.queue.Queue.note_area.Given as goal

abbrev pub invariant-loop-cell : goal.invariant-loop-cell
invariant-loop-cell g l = record {
  reasons : (stack : List ℕ)
      → HaveReasons (shown_with (views_of l.heap.objects) stack (views_of_areas l.areas l.heap.raw)) l.fn.self.found
      → HaveReasons (shown_with (views_of l.heap.objects) stack (views_of_areas l.areas l.heap.raw)) l.self.found;
  found : AreWordsFound (views_of l.heap.objects) l.self.found
      (take l.cell (cell_words l.heap.raw l.area.base l.area.cells)) 1;
  short : AreShort l.self.found 1;
  grown : IsGrown l.fn.self.found l.self.found;
  places : l.self.places ≡ l.fn.self.places;
  ticked : l.steps ≡ l.fn.steps + 2 * l.cell;
}
