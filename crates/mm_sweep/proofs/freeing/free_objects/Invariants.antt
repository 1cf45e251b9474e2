use Rattle.std.proofs.Common.{◌+◌, ◌*◌, ◌^◌, ◌<◌, ◌≤◌, ℕ, take, map}
use Rattle.mm_object.specs.Heap.{IsSound, FitsHeap}
use Rattle.mm_weak.specs.Links.{IsLinked}
use Rattle.mm_sweep.specs.Release.{Frees}
use Rattle.mm_sweep.specs.Told.{Free}
use Rattle.mm_sweep.proofs.freeing.free_objects.Given as goal

abbrev pub invariant-loop-i : goal.invariant-loop-i
invariant-loop-i g l =
    record {
      told : g.J.Finalizer.tells l.fn.journal l.journal (map Free (take l.i l.dead.words));
      frees : Frees (take l.i l.dead.words) l.fn.heap l.heap l.fn.pages l.pages;
      linked : IsLinked l.heap;
      fits : FitsHeap l.heap l.pages;
      sound : IsSound l.heap;
      cost : (digits : ℕ) → l.fn.pages.pages < 2 ^ digits → l.steps ≤ l.fn.steps + (9 + 7 * digits) * l.i;
    }
