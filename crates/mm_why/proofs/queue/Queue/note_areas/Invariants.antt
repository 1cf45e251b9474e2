use Rattle.std.proofs.Common.{◌≡◌, ℕ, ◌-◌, List}
use Rattle.mm_model.specs.Areas.{most_areas}
use Rattle.mm_object.specs.Object.{views_of}
use Rattle.mm_roots.specs.Views.{views_of_areas}
use Rattle.mm_why.specs.Queue.{AreShort, IsGrown}
use Rattle.mm_why.specs.Search.{shown_with, HaveReasons}
use Rattle.mm_why.proofs.AreaWords.{AreAreasNoted}
use Rattle.mm_why.proofs.queue.Queue.note_areas.Given as goal

abbrev pub invariant-areas : goal.invariant-areas
invariant-areas g l = record {
  reasons : (stack : List ℕ)
      → HaveReasons (shown_with (views_of l.heap.objects) stack (views_of_areas l.areas l.heap.raw)) l.fn.self.found
      → HaveReasons (shown_with (views_of l.heap.objects) stack (views_of_areas l.areas l.heap.raw)) l.self.found;
  noted : AreAreasNoted l.areas l.heap l.self.found l.from l.fn.steps l.steps;
  short : AreShort l.self.found 1;
  grown : IsGrown l.fn.self.found l.self.found;
  places : l.self.places ≡ l.fn.self.places;
}

abbrev pub decreases-areas : goal.decreases-areas
decreases-areas g l = most_areas - l.from
