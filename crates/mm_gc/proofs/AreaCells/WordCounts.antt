-- A word that a counted cell holds is counted once more, or once less.
use Rattle.std.proofs.Common.{◌≡◌, ◌≢◌, ℕ, sym, ap, ◌∙◌, arith}
use Rattle.mm_model.proofs.View.ByBase.MappedEntries.{begins_mapped}
use Rattle.mm_object.specs.Object.{StoredObjects, view_of_stored}
use Rattle.mm_object.specs.Heap.{Heap, IsSound}
use Rattle.mm_count.specs.declared.composite.Composite.{Composite}
use Rattle.mm_count.specs.Table.{Table, composite_of}
use Rattle.mm_count.specs.Counts.{NamesCounted, HasReference, composite_told, composite_at}
use Rattle.mm_count.specs.Counts.{one_more}
use Rattle.mm_count.proofs.Counted.{one_more-here}
use Rattle.mm_count.proofs.Entries.{entry_at-begins}
use Rattle.mm_count.proofs.Null.{counted_more-zero, counted_less-zero}
use Rattle.mm_gc.specs.Counts.{HasCounts}
use Rattle.mm_gc.specs.AreaCells.{HoldsCount}

-- what is held once more than a number says has a reference
pub held-reference : (objects : StoredObjects) (word : ℕ) → HoldsCount objects word → NamesCounted objects word
    → word ≢ 0 → HasReference objects word
held-reference objects word holds named some sticky none =
    let k = named some in
    let told : composite_at objects word ≡ composite_of k.object =
    ap composite_told (entry_at-begins objects word k.object k.begins) in
    let exact = holds.counted.exact word (view_of_stored k.object)
    (begins_mapped view_of_stored objects word k.object k.begins) k.counted
    (sym (ap (λ (c : Composite). c.sticky) told) ∙ sticky) in
    let more = one_more-here holds.outside word in
    omega arith

-- 0 isn't counted
pub raised-zero : (h : Heap) → IsSound h → (table : Table) (word : ℕ) → word ≡ 0 → (outside : ℕ → ℕ)
    → HasCounts table h outside → HasCounts table h (one_more outside word)
raised-zero h sound table word e outside counts =
    record {
      right = counts.right;
      counted = counted_more-zero h sound word e outside counts.counted;
      listed = counts.listed;
      unpinned = counts.unpinned;
      linked = counts.linked;
    }

pub lowered-zero : (h : Heap) → IsSound h → (table : Table) (word : ℕ) → word ≡ 0 → (outside : ℕ → ℕ)
    → HasCounts table h (one_more outside word) → HasCounts table h outside
lowered-zero h sound table word e outside counts =
    record {
      right = counts.right;
      counted = counted_less-zero h sound word e outside counts.counted;
      listed = counts.listed;
      unpinned = counts.unpinned;
      linked = counts.linked;
    }
