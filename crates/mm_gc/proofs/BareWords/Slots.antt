-- The slots of an object are overwritten one after the other.
use Rattle.std.proofs.Common.{◌≡◌, ℕ, ◌+◌, ◌/◌, ◌<◌, ◌≤◌, List, take, length, Some, sym, ap, ◌∙◌, subst, arith}
use Rattle.std.proofs.Common.{length-take-le}
use Rattle.std.specs.Prelude.{slice_index, slice_set}
use Rattle.mm_model.specs.Views.ByBase.{Begins}
use Rattle.mm_model.proofs.View.ByBase.ReplacedEntries.{begins_get, begins_here}
use Rattle.mm_object.specs.Object.{StoredObject, StoredObjects}
use Rattle.mm_object.specs.Heap.{Heap, HasSlot, with_object}
use Rattle.mm_count.proofs.Places.{set_same}
use Rattle.mm_weak.proofs.Entries.{with_entry-twice}
use Rattle.mm_gc.specs.BareWords.{overwritten}
use Rattle.mm_gc.proofs.BareWords.Lists.{overwritten-none, overwritten-next, length-overwritten}

module _ (h : Heap) (base s : ℕ) (words : List ℕ) (object : StoredObject) (begins : Begins h.objects base object) where
  -- the object once the first words are written
  abbrev pub part : ℕ → StoredObject
  part k = record object { words = overwritten object.words s (take k words) }

  abbrev after : ℕ → Heap
  after k = with_object h base (Some (part k))

  pub none-written : h ≡ after 0
  none-written =
      sym (ap (λ (ws : List ℕ). with_object h base (Some (record object { words = ws })))
      (overwritten-none object.words s)
      ∙ ap (λ (objects : StoredObjects). record h { objects = objects })
      (set_same h.objects (base / 16) (Some object) (begins_get h.objects base object begins)))

  module _ (fits : s + length words ≤ length object.words) (heap : Heap) (k : ℕ) (below : k < length words)
      (so_far : heap ≡ after k) where
    pub part-begins : Begins heap.objects base (part k)
    part-begins =
        subst (λ (x : Heap). Begins x.objects base (part k)) (sym so_far)
        (begins_here h.objects base object (part k) begins)

    pub next-slot : HasSlot heap base (s + k)
    next-slot =
        let front = length-take-le k words (omega arith) in
        let size = length-overwritten object.words s (take k words) (omega arith) in
        record { object = part k; begins = part-begins; within = omega arith }

    pub next-written : (new : Heap)
        → new ≡ with_object heap base
        (Some (record (part k) { words = slice_set (part k).words (s + k) (slice_index words k) }))
        → new ≡ after (k + 1)
    next-written new is =
        let more : StoredObject = record (part k) {
          words = slice_set (part k).words (s + k) (slice_index words k);
        } in
        is ∙ ap (λ (x : Heap). with_object x base (Some more)) so_far
        ∙ ap (λ (objects : StoredObjects). record h { objects = objects })
        (with_entry-twice h.objects base (Some more) (Some (part k)))
        ∙ ap (λ (ws : List ℕ). with_object h base (Some (record object { words = ws })))
        (overwritten-next object.words s words k below fits)
