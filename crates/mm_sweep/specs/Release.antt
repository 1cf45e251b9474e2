-- What a phase leaves of a heap, and what its finalizers cost.
use Rattle.std.specs.Prelude.{◌≡◌, ℕ, ◌+◌, ◌*◌, ◌^◌, ◌<◌, ◌≤◌, if◌then◌else◌, List, [], ◌∷◌, length, Option, Some}
use Rattle.std.specs.Prelude.{None, slice_get}
use Rattle.std.specs.List.{flat_map, sum_by, AllByRecursion}
use Rattle.mm_model.specs.Phase.{lists}
use Rattle.mm_model.specs.Views.ByBase.{Based, changed}
use Rattle.mm_model.specs.Views.ObjectView.{ObjectView, ObjectsByBase}
use Rattle.mm_model.specs.Views.ViewWords.{object_at}
use Rattle.mm_pages.specs.Pages.{Pages, IsSoundHeap}
use Rattle.mm_pages.specs.Parked.{AreParked, HaveNoCommonRun, AreAllParked}
use Rattle.mm_object.specs.Object.{StoredObject}
use Rattle.mm_object.specs.Heap.{Heap, IsObject}
use Rattle.mm_weak.specs.Links.{unlinked}
use Rattle.mm_sweep.specs.Told.{Told, Finalize}

-- an object begins at each of these bases
abbrev pub AreObjects : Heap → List ℕ → Type 0
AreObjects heap bases = AllByRecursion (IsObject heap) bases

-- a freed object's entry is empty, and another one has no partner any more where its partner is freed
abbrev pub after_release : List ℕ → ℕ → StoredObject → Option StoredObject
after_release bases base object =
    if lists bases base then None else Some (if lists bases object.link then unlinked object else object)

-- the words that lay in no object are as they were
abbrev pub KeepsRaw : List (Option ℕ) → List (Option ℕ) → Type 0
KeepsRaw before after = (place word : ℕ) → slice_get before place ≡ Some (Some word) → slice_get after place
    ≡ Some (Some word)

-- what a finalizer is told of an object, if it has one, and of those at these bases
abbrev pub final_told : Option (Based ObjectView) → List Told
final_told None = []
final_told (Some o) = if o.value.finalize then Finalize o.base o.value.words ∷ [] else []

abbrev pub finals_told : ObjectsByBase → List ℕ → List Told
finals_told objects bases = flat_map (λ base. final_told (object_at objects base)) bases

-- how many slots a finalizer is told, and all of those at these bases
abbrev pub final_slots : Option (Based ObjectView) → ℕ
final_slots None = 0
final_slots (Some o) = if o.value.finalize then length o.value.words else 0

abbrev pub finalized_slots : ObjectsByBase → List ℕ → ℕ
finalized_slots objects bases = sum_by (λ base. final_slots (object_at objects base)) bases

-- some steps for each freed object and binary digit of the number of pages, and one for each slot that a finalizer is
-- told
abbrev pub IsReleaseCost : ℕ → ℕ → ℕ → ℕ → ℕ → Type 0
IsReleaseCost pages freed slots before after =
    (digits : ℕ) → pages < 2 ^ digits → after ≤ before + 64 * (1 + digits) * freed + slots

-- What freeing the objects at these bases makes of a heap and its page heap.
pub record Frees (bases : List ℕ) (before after : Heap) (pages_before pages_after : Pages) : Type 0 where
  pub objects : after.objects ≡ changed (after_release bases) before.objects
  pub rest : after ≡ record before { objects = after.objects; runs = after.runs; raw = after.raw }
  pub raw : KeepsRaw before.raw after.raw
  pub pages_rest : pages_after ≡ record pages_before { parked = pages_after.parked }
  pub apart : (runs : List ℕ) → HaveNoCommonRun before.runs runs → HaveNoCommonRun after.runs runs
  -- runs that another family has parked stay parked
  pub others : (runs : List ℕ) → HaveNoCommonRun before.runs runs → AreParked runs pages_before
      → AreParked runs pages_after
  pub all_parked : (others : List ℕ) → AreAllParked before.runs others pages_before
      → AreAllParked after.runs others pages_after
  pub pages_sound : IsSoundHeap pages_before → IsSoundHeap pages_after
