-- Lists by base: entry k is what begins at the address 16 * k, or none. Two heaps with the same contents have equal
-- lists, and what is born or freed changes one entry.
use Rattle.std.specs.Prelude.{◌≡◌, ℕ, ◌+◌, ◌*◌, ◌/◌, List, [], ◌∷◌, Option, Some, None, slice_get, slice_set}

-- it begins at this base
pub record Begins {X : Type 0} (entries : List (Option X)) (base : ℕ) (x : X) : Type 0 where
  pub grain : ℕ
  pub aligned : base ≡ 16 * grain
  pub is : slice_get entries grain ≡ Some (Some x)

-- with another entry for this base
abbrev pub with_entry : {X : Type 0} → ℕ → Option X → List (Option X) → List (Option X)
with_entry base entry entries = slice_set entries (base / 16) entry

-- what stands in a list by base, with its base
pub record Based (X : Type 0) : Type 0 where
  pub base : ℕ
  pub value : X

-- the same by ascending base, where the first entry is for this base
abbrev pub based_from : {X : Type 0} → ℕ → List (Option X) → List (Based X)
based_from base [] = []
based_from base (None ∷ entries) = based_from (base + 16) entries
based_from base (Some x ∷ entries) = record { base = base; value = x } ∷ based_from (base + 16) entries

abbrev pub based : {X : Type 0} → List (Option X) → List (Based X)
based entries = based_from 0 entries

-- each entry changed by a function that is told its base, where the first is for this base
abbrev pub changed_from : {X : Type 0} → (ℕ → X → Option X) → ℕ → List (Option X) → List (Option X)
changed_from f base [] = []
changed_from f base (None ∷ entries) = None ∷ changed_from f (base + 16) entries
changed_from f base (Some x ∷ entries) = f base x ∷ changed_from f (base + 16) entries

abbrev pub changed : {X : Type 0} → (ℕ → X → Option X) → List (Option X) → List (Option X)
changed f entries = changed_from f 0 entries
