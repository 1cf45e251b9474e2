use Rattle.std.proofs.Common.{◌*◌, ◌-◌, ℕ, List}
use Rattle.mm_object.specs.Heap.{FitsHeap}
use Rattle.mm_gc.specs.Emptied.{HasNoneBelow, AreParkedBeside, IsUnparked, IsInPlace}
use Rattle.mm_gc.proofs.closing.erase_all.Given as goal

abbrev pub invariant-loop-base : goal.invariant-loop-base
invariant-loop-base g l =
    record {
      fits : FitsHeap l.heap l.pages;
      passed : HasNoneBelow l.heap.objects l.from;
      parked : (others : List ℕ) → AreParkedBeside others l.fn.heap l.fn.pages
          → AreParkedBeside others l.heap l.pages;
      pages : IsUnparked l.fn.pages l.pages;
      place : IsInPlace l.fn.heap l.heap;
    }

-- what is left of the region
abbrev pub decreases-loop-base : goal.decreases-loop-base
decreases-loop-base g l = 4096 * l.fn.heap.pages - l.from
