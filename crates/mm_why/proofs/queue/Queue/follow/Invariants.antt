use Rattle.std.proofs.Common.{◌≡◌, ℕ, ◌+◌, ◌-◌, ◌≤◌, List, take}
use Rattle.mm_model.specs.Views.View.{AreaView}
use Rattle.mm_object.specs.Object.{views_of}
use Rattle.mm_why.specs.Queue.{IsGrown, IsSoundQueue}
use Rattle.mm_why.specs.Search.{shown_with, HaveReasons, AreLive, AreFollowed, cost_of}
use Rattle.mm_why.proofs.queue.Queue.follow.Given as goal

abbrev pub invariant-objects : goal.invariant-objects
invariant-objects g l = record {
  reasons : (stack : List ℕ) (areas : List AreaView)
      → HaveReasons (shown_with (views_of l.heap.objects) stack areas) l.fn.self.found
      → HaveReasons (shown_with (views_of l.heap.objects) stack areas) l.self.found;
  followed : IsSoundQueue l.self → AreFollowed (views_of l.heap.objects) l.self.found l.next;
  live : AreLive (views_of l.heap.objects) l.self.found;
  grown : IsGrown l.fn.self.found l.self.found;
  places : l.self.places ≡ l.fn.self.places;
  ticked : l.steps ≤ l.fn.steps + cost_of (views_of l.heap.objects) (take l.next l.self.found);
}

abbrev pub decreases-objects : goal.decreases-objects
decreases-objects g l = l.fn.self.places - l.next
