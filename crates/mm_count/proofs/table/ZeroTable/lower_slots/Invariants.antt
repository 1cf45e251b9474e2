use Rattle.std.proofs.Common.{◌≤◌, ◌+◌, ◌*◌, ◌≡◌, length, take}
use Rattle.mm_model.specs.Views.ByBase.{Begins}
use Rattle.mm_model.specs.Views.ObjectView.{counted_words_of}
use Rattle.mm_object.specs.Object.{StoredObject, view_of_stored}
use Rattle.mm_object.specs.Heap.{IsSound}
use Rattle.mm_count.specs.Table.{IsRight, IsSameTable}
use Rattle.mm_count.specs.Kept.{AreLowered}
use Rattle.mm_count.proofs.table.ZeroTable.lower_slots.Given as goal

abbrev pub invariant-loop-s : goal.invariant-loop-s
invariant-loop-s g l = record {
  lowered : (object : StoredObject) → Begins l.fn.heap.objects l.base object
      → AreLowered l.fn.heap l.heap (take l.s (counted_words_of (view_of_stored object)));
  table : IsSameTable l.fn.self l.self;
  front : take (length l.fn.self.entries) l.self.entries ≡ l.fn.self.entries;
  right : IsRight l.self l.heap;
  sound : IsSound l.heap;
  ticked : l.steps ≤ l.initial.steps + 9 * l.s;
}
