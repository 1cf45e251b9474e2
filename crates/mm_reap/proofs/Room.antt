-- There is room for the bases of so many objects.
use Rattle.std.proofs.Common.{◌≡◌, ℕ, zero, suc, ◌-◌, ◌*◌, ◌/◌, ◌<◌, ◌≤◌, true, cond, List, [], ◌∷◌, length, refl}
use Rattle.std.proofs.Common.{sym, ap, ◌∙◌, arith}
use Rattle.std.specs.Prelude.{◌==◌, not, slice_index}
use Rattle.std.specs.List.{count_by}
use Rattle.std.proofs.lemmas.Option.{slice_get-get_or}
use Rattle.std.proofs.lemmas.List.Sums.{sum_by-cons}
use Rattle.mm_model.specs.Phase.{lists}
use Rattle.mm_model.proofs.Lists.Counts.{none-counted}
use Rattle.mm_model.proofs.Lists.Growing.{any_from_get}
use Rattle.mm_model.proofs.Lists.Truth.{no_other}
use Rattle.mm_object.specs.Heap.{Heap, IsSound}
use Rattle.mm_count.specs.Table.{IsCountedAt}
use Rattle.mm_count.proofs.Room.{pigeons, IsRoom, begins_room}
use Rattle.mm_reap.proofs.Lists.{true-same}

abbrev pub StandsOnce : List ℕ → Type 0
StandsOnce bases = (base : ℕ) → count_by (λ b. b == base) bases ≤ 1

some-counted : (bases : List ℕ) (base : ℕ) → lists bases base ≡ true → 1 ≤ count_by (λ b. b == base) bases
some-counted bases base e = split (count_by (λ b. b == base) bases) refl
  where
    split : (n : ℕ) → count_by (λ b. b == base) bases ≡ n → 1 ≤ n
    split zero z =
        absurd (no_other (ap not e) (sym (none-counted (λ b. b == base) bases) ∙ ap (λ m. m == 0) z))
    split (suc n) z = omega arith

pub lists-at : (bases : List ℕ) (i : ℕ) → i < length bases → lists bases (slice_index bases i) ≡ true
lists-at bases i below =
    let base = slice_index bases i in
    any_from_get (λ b. b == base) bases i base (slice_get-get_or bases i 0 below) (true-same base base refl)

pub fewer : (x : ℕ) (bases : List ℕ) → StandsOnce (x ∷ bases) → StandsOnce bases
fewer x bases once base =
    let all = sum_by-cons (λ b. cond (b == base) 1 0) x bases in
    let most = once base in
    omega arith

pub first-once : (x : ℕ) (bases : List ℕ) → StandsOnce (x ∷ bases) → lists bases x ≡ true → ⊥
first-once x bases once e =
    let all = sum_by-cons (λ b. cond (b == x) 1 0) x bases in
    let own : cond {A = ℕ} (x == x) 1 0 ≡ 1 = ap (λ t. cond t 1 0) (true-same x x refl) in
    let more : 1 ≤ count_by (λ b. b == x) bases = some-counted bases x e in
    let most = once x in
    omega arith

pub once-places : (bases : List ℕ) → StandsOnce bases → (i j : ℕ) → i < length bases → j < length bases
    → slice_index bases i ≡ slice_index bases j → i ≡ j
once-places [] once i j p q e = absurd (omega arith)
once-places (x ∷ bases) once zero zero p q e = refl
once-places (x ∷ bases) once zero (suc j) p q e =
    absurd (first-once x bases once (ap (lists bases) e ∙ lists-at bases j (omega arith)))
once-places (x ∷ bases) once (suc i) zero p q e =
    absurd (first-once x bases once (ap (lists bases) (sym e) ∙ lists-at bases i (omega arith)))
once-places (x ∷ bases) once (suc i) (suc j) p q e =
    ap suc (once-places bases (fewer x bases once) i j (omega arith) (omega arith) e)

-- so many different bases of objects are no more than there is room for objects
pub bases-fit : (h : Heap) → IsSound h → (bases : List ℕ) → StandsOnce bases
    → ((base : ℕ) → lists bases base ≡ true → IsCountedAt h.objects base) → length bases ≤ 256 * (h.size - 1)
bases-fit h sound bases once counted =
    let two = sound.two in
    pigeons (length bases) (256 * (h.size - 1)) (λ i. slice_index bases i / 16 - 256)
    (λ i below. (let r = room i below in
    let a = r.aligned in let from = r.from in let to = r.to in omega arith))
    (λ i j p q e. (let r = room i p in
    let s = room j q in
    let a = r.aligned in let b = s.aligned in let c = r.from in let d = s.from in
    let same : slice_index bases i ≡ slice_index bases j = omega arith in
    once-places bases once i j p q same))
  where
    room : (i : ℕ) → i < length bases → IsRoom h (slice_index bases i)
    room i below =
        let k = counted (slice_index bases i) (lists-at bases i below) in
        begins_room h sound (slice_index bases i) k.object k.begins
