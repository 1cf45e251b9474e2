use Rattle.std.proofs.Common.{◌≡◌, ◌+◌, take}
use Rattle.mm_object.specs.Object.{views_of}
use Rattle.mm_sweep.specs.Release.{finals_told, finalized_slots}
use Rattle.mm_sweep.proofs.finalizing.run_finalizers.Given as goal

abbrev pub invariant-loop-i : goal.invariant-loop-i
invariant-loop-i g l =
    record {
      told : g.J.Finalizer.tells l.fn.journal l.journal (finals_told (views_of l.heap.objects) (take l.i l.dead.words));
      cost : l.steps ≡ l.fn.steps + l.i + finalized_slots (views_of l.heap.objects) (take l.i l.dead.words);
    }
