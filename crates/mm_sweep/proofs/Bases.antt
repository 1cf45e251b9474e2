-- The first bases of a list, one after another.
use Rattle.std.proofs.Common.{◌≡◌, ℕ, zero, suc, ◌+◌, ◌<◌, Bool, false, List, [], ◌∷◌, ◌++◌, map, length, take, refl}
use Rattle.std.proofs.Common.{sym, ap, ◌∙◌, append-nil, arith}
use Rattle.std.specs.Prelude.{◌==◌, ◌||◌, slice_index}
use Rattle.std.specs.List.{AllByRecursion, flat_map, sum_by}
use Rattle.std.proofs.lemmas.Bool.Decides.{nat_tests}
use Rattle.std.proofs.lemmas.List.{take_more, map-append}
use Rattle.std.proofs.lemmas.Grind.{flat_map-append}
use Rattle.std.proofs.lemmas.List.Sums.{sum_by-append, sum_by-cons}
use Rattle.mm_model.specs.Phase.{lists, IsAscending}
use Rattle.mm_model.specs.Views.ObjectView.{ObjectsByBase}
use Rattle.mm_model.specs.Views.ViewWords.{object_at}
use Rattle.mm_sweep.specs.Release.{final_slots, final_told, finalized_slots, finals_told}
use Rattle.mm_sweep.specs.Told.{Told, Free}

-- each of the first k
pub each_at : (P : ℕ → Type 0) (xs : List ℕ) (k i : ℕ) → AllByRecursion P (take k xs) → i < k → i < length xs
    → P (slice_index xs i)
each_at P [] k i all few within = absurd (omega arith)
each_at P (x ∷ xs) zero i all few within = absurd (omega arith)
each_at P (x ∷ xs) (suc k) zero all few within = all.0
each_at P (x ∷ xs) (suc k) (suc i) all few within = each_at P xs k i all.1 (omega arith) (omega arith)

pub take-next : (xs : List ℕ) (i : ℕ) → i < length xs → take (i + 1) xs ≡ take i xs ++ slice_index xs i ∷ []
take-next xs i within = take_more xs i 0 within

-- one of ascending bases isn't among those before it
pub lists-before : (xs : List ℕ) (k i : ℕ) → IsAscending (take k xs) → i < k → i < length xs
    → lists (take i xs) (slice_index xs i) ≡ false
lists-before [] k i ascending few within = absurd (omega arith)
lists-before (x ∷ xs) zero i ascending few within = absurd (omega arith)
lists-before (x ∷ xs) (suc k) zero ascending few within = refl
lists-before (x ∷ xs) (suc k) (suc i) ascending few within =
    let below : x < slice_index xs i =
    each_at (λ next. x < next) xs k i ascending.0 (omega arith) (omega arith) in
    ap (λ (b : Bool). b || lists (take i xs) (slice_index xs i)) (apart x (slice_index xs i) below)
    ∙ lists-before xs k i ascending.1 (omega arith) (omega arith)
  where
    apart : (a b : ℕ) → a < b → (a == b) ≡ false
    apart a b below = grind (arith, nat_tests)

-- what one more finalizer is told
pub finals_told-next : (objects : ObjectsByBase) (xs : List ℕ) (i : ℕ) → i < length xs
    → finals_told objects (take i xs) ++ final_told (object_at objects (slice_index xs i))
    ≡ finals_told objects (take (i + 1) xs)
finals_told-next objects xs i within =
    let told : ℕ → List Told = λ base. final_told (object_at objects base) in
    ap (λ (ts : List Told). flat_map told (take i xs) ++ ts) (sym (append-nil (told (slice_index xs i))))
    ∙ sym (flat_map-append told (take i xs) (slice_index xs i ∷ []))
    ∙ ap (flat_map told) (sym (take-next xs i within))

-- its slots
pub finalized_slots-next : (objects : ObjectsByBase) (xs : List ℕ) (i : ℕ) → i < length xs
    → finalized_slots objects (take (i + 1) xs)
    ≡ finalized_slots objects (take i xs) + final_slots (object_at objects (slice_index xs i))
finalized_slots-next objects xs i within =
    let slots : ℕ → ℕ = λ base. final_slots (object_at objects base) in
    let next = ap (sum_by slots) (take-next xs i within) in
    let both = sum_by-append slots (take i xs) (slice_index xs i ∷ []) in
    let one = sum_by-cons slots (slice_index xs i) [] in
    omega arith

-- one more freed object
pub frees_told-next : (xs : List ℕ) (i : ℕ) → i < length xs
    → map Free (take i xs) ++ Free (slice_index xs i) ∷ [] ≡ map Free (take (i + 1) xs)
frees_told-next xs i within =
    sym (map-append Free (take i xs) (slice_index xs i ∷ []))
    ∙ ap (map Free) (sym (take-next xs i within))
