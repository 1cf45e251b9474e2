use Rattle.std.proofs.Common.{◌≡◌, ◌+◌, ◌≤◌, Some, take}
use Rattle.mm_model.specs.Views.ByBase.{Begins}
use Rattle.mm_object.specs.Object.{StoredObject}
use Rattle.mm_object.specs.Heap.{with_object, IsSound}
use Rattle.mm_gc.specs.BareWords.{overwritten}
use Rattle.mm_gc.proofs.bare_words.write_slots.Given as goal

-- the words so far are written
abbrev pub invariant-loop-k : goal.invariant-loop-k
invariant-loop-k g l = record {
  written : (object : StoredObject) → Begins l.fn.heap.objects l.base object
      → l.heap ≡ with_object l.fn.heap l.base
      (Some (record object { words = overwritten object.words l.s (take l.k l.words) }));
  sound : IsSound l.heap;
  cost : l.steps ≤ l.fn.steps + l.k;
}
