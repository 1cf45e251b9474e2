use Rattle.std.proofs.Common.{◌≡◌, ◌<◌, ℕ, List, None}
use Rattle.mm_pages.specs.Parked.{AreParked, AreAllParked}
use Rattle.mm_roots.specs.Areas.{area_at, IsSoundAreas, OwnsAll}
use Rattle.mm_gc.specs.Emptied.{IsUnparked, AreInPlace}
use Rattle.mm_gc.proofs.closing.remove_all.Given as goal

abbrev pub invariant-loop-a : goal.invariant-loop-a
invariant-loop-a g l =
    record {
      none : (number : ℕ) → number < l.a → area_at l.areas number ≡ None;
      parked : AreParked l.areas.fixed.runs l.pages;
      all_parked : (others : List ℕ) → AreAllParked l.fn.areas.fixed.runs others l.fn.pages
          → AreAllParked l.areas.fixed.runs others l.pages;
      pages : IsUnparked l.fn.pages l.pages;
      place : AreInPlace l.fn.areas l.areas;
      owns : OwnsAll l.fn.areas → OwnsAll l.areas;
      sound : 0 < l.a → IsSoundAreas l.areas;
    }
