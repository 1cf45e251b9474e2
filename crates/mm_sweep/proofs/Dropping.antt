-- Counts of which those of more slots are dropped.
use Rattle.std.proofs.Common.{◌≡◌, ⊎_elim, ℕ, ◌+◌, ◌<◌, Bool, true, false, List, [], ◌∷◌, ◌++◌, length, take, refl, sym}
use Rattle.std.proofs.Common.{ap, subst, ◌∙◌, arith}
use Rattle.std.specs.Prelude.{◌==◌, ◌||◌, slice_index, if◌then◌else◌, None, Some}
use Rattle.std.specs.List.{sum_by}
use Rattle.std.proofs.lemmas.List.Sums.{sum_by-append, sum_by-cons}
use Rattle.mm_model.specs.Phase.{lists}
use Rattle.mm_model.specs.Views.ByBase.{Begins}
use Rattle.mm_model.specs.Views.ObjectView.{ObjectView, ObjectsByBase, counted_words_of}
use Rattle.mm_model.specs.Views.SetsByBase.{count_at}
use Rattle.mm_model.specs.Views.ViewWords.{object_at}
use Rattle.mm_model.proofs.View.ByBase.Entries.{begins_same}
use Rattle.mm_model.proofs.View.ByBase.ChangedEntries.{changed-alike}
use Rattle.mm_model.proofs.View.ByBase.MappedEntries.{begins_mapped}
use Rattle.mm_object.specs.Object.{StoredObject, StoredObjects, view_of_stored, views_of}
use Rattle.mm_object.specs.Heap.{Heap, IsObject}
use Rattle.mm_count.specs.Table.{composite_of}
use Rattle.mm_count.specs.Counts.{KeepsObjects}
use Rattle.mm_count.specs.Listed.{AllListed, NonePinned, KeepsPins, ListsNamed}
use Rattle.mm_count.specs.Apart.{unless_dead, without_dead, AreCountsApart}
use Rattle.mm_sweep.specs.Sweep.{counted_slots, counted_slots_of}
use Rattle.mm_sweep.proofs.Bases.{take-next}
use Rattle.mm_sweep.proofs.Finals.{stored_at-begins}
use Rattle.mm_sweep.proofs.Released.{lists-append}

-- the same bases in another order
or-swap : (a b : Bool) → (a || b) ≡ (b || (a || false))
or-swap true true = refl
or-swap true false = refl
or-swap false true = refl
or-swap false false = refl

lists-last : (bases : List ℕ) (base b : ℕ) → lists (base ∷ bases) b ≡ lists (bases ++ base ∷ []) b
lists-last bases base b = or-swap (base == b) (lists bases b) ∙ sym (lists-append bases (base ∷ []) b)

pub apart-last : (bases : List ℕ) (base : ℕ) (objects : StoredObjects) (outside : ℕ → ℕ)
    → AreCountsApart (base ∷ bases) objects outside → AreCountsApart (bases ++ base ∷ []) objects outside
apart-last bases base objects outside apart =
    record {
      exact = λ b o begins counted exact.
          apart.exact b o begins counted exact ∙ ap (λ (os : StoredObjects). count_at (views_of os) outside b) same;
      few = apart.few;
    }
  where
    same : without_dead (base ∷ bases) objects ≡ without_dead (bases ++ base ∷ []) objects
    same =
        changed-alike (unless_dead (base ∷ bases)) (unless_dead (bases ++ base ∷ [])) objects
        (λ b (o : StoredObject) _. ap (λ (t : Bool). if t then None else Some o) (lists-last bases base b))

-- an object is kept, whatever its composite word says
pub kept-object : (before after : Heap) (base : ℕ) → KeepsObjects before.objects after.objects → IsObject before base
    → IsObject after base
kept-object before after base keeps object =
    let k = keeps.to base object.0 object.1 in (record object.0 { composite = k.0 }, k.1)

-- where what falls to 0 is entered, all that is at 0 stays in the table
pub all_listed-named : (before after : StoredObjects) (words : List ℕ) → views_of after ≡ views_of before
    → KeepsObjects before after → ListsNamed words before after → AllListed before → AllListed after
all_listed-named before after words views keeps named all =
    record {
      listed = λ base now begins counted exact zero.
          let k = keeps.back base now begins in
          let was = record now { composite = k.0 } in
          ⊎_elim
          (λ (none : (composite_of was).count ≡ 0).
          named.still base was now k.1 begins (all.listed base was k.1 counted
          (same base was now k.1 begins ∙ exact) none))
          (λ (is : (composite_of now).listed ≡ true). is)
          (named.zeros base was now k.1 begins zero);
    }
  where
    same : (base : ℕ) (was now : StoredObject) → Begins before base was → Begins after base now
        → (composite_of was).sticky ≡ (composite_of now).sticky
    same base was now begun begins =
        ap (λ (v : ObjectView). v.sticky)
        (begins_same (views_of before) base (view_of_stored was) (view_of_stored now)
        (begins_mapped view_of_stored before base was begun)
        (subst (λ (vs : ObjectsByBase). Begins vs base (view_of_stored now)) views
        (begins_mapped view_of_stored after base now begins)))

pub unpinned-kept : (before after : StoredObjects) → KeepsObjects before after → KeepsPins before after
    → NonePinned before → NonePinned after
unpinned-kept before after keeps pins none =
    record {
      unpinned = λ base now begins.
          let k = keeps.back base now begins in
          let was = record now { composite = k.0 } in
          pins.same base was now k.1 begins ∙ none.unpinned base was k.1;
    }

-- the counted slots of one more object
pub counted_slots-next : (objects : ObjectsByBase) (xs : List ℕ) (i : ℕ) → i < length xs
    → counted_slots_of objects (take (i + 1) xs)
    ≡ counted_slots_of objects (take i xs) + counted_slots (object_at objects (slice_index xs i))
counted_slots-next objects xs i within =
    let slots : ℕ → ℕ = λ base. counted_slots (object_at objects base) in
    let next = ap (sum_by slots) (take-next xs i within) in
    let both = sum_by-append slots (take i xs) (slice_index xs i ∷ []) in
    let one = sum_by-cons slots (slice_index xs i) [] in
    omega arith

pub counted_slots-object : (objects : ObjectsByBase) (now : StoredObjects) (base : ℕ) (object : StoredObject)
    → views_of now ≡ objects → Begins now base object
    → counted_slots (object_at objects base) ≡ length (counted_words_of (view_of_stored object))
counted_slots-object objects now base object views begins =
    ap (λ (vs : ObjectsByBase). counted_slots (object_at vs base)) (sym views)
    ∙ ap counted_slots (stored_at-begins now base object begins)
