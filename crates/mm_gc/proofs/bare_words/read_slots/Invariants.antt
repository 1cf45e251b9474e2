use Rattle.std.proofs.Common.{◌≡◌, ℕ, ◌+◌, ◌<◌, ◌≤◌, slice_get}
use Rattle.mm_model.specs.Views.ByBase.{Begins}
use Rattle.mm_object.specs.Object.{StoredObject}
use Rattle.mm_gc.proofs.bare_words.read_slots.Given as goal

-- the words so far are read
abbrev pub invariant-loop-k : goal.invariant-loop-k
invariant-loop-k g l = record {
  words : (object : StoredObject) (j : ℕ) → Begins l.heap.objects l.base object → j < l.k
      → slice_get l.into j ≡ slice_get object.words (l.s + j);
  cost : l.steps ≤ l.fn.steps + l.k;
}
