-- The objects that a search has found, one after the other.
use Rattle.std.specs.Prelude.{◌≡◌, ℕ, ◌+◌, ◌*◌, ◌/◌, ◌^◌, ◌<◌, ◌≤◌, List, [], ◌∷◌, ◌++◌, length, take, Some, slice_get}
use Rattle.mm_sets.specs.Bits.{bit_of}
use Rattle.mm_why.specs.declared.hop.Via.{Via}
use Rattle.mm_why.specs.declared.hop.Via.TheVariants.{Stack, Area, Slot}
use Rattle.mm_why.specs.declared.found.Lead.{Lead}
use Rattle.mm_why.specs.declared.found.Found.{Found}

-- how many places there are at which an object can begin, and what was found, in the order in which it was
pub record Queue : Type 0 where
  pub places : ℕ
  pub found : List Found

abbrev pub empty : ℕ → Queue
empty places = record { places = places; found = [] }

abbrev pub queue_of : ℕ → List Found → Queue
queue_of places found = record { places = places; found = found }

-- the lead to a word outside of objects
abbrev pub root_lead : Via → Lead
root_lead via = record { via = via; from = 0; length = 1 }

-- the object at a base was found
pub record IsFound (found : List Found) (base : ℕ) : Type 0 where
  pub place : ℕ
  pub entry : Found
  pub is : slice_get found place ≡ Some entry
  pub at : entry.base ≡ base

-- an object can begin at the base
pub record IsPlace (places base : ℕ) : Type 0 where
  pub aligned : base ≡ 16 * (base / 16)
  pub below : base / 16 < places

-- a path is one hop longer than that to an object that was found
pub record IsLonger (found : List Found) (from count : ℕ) : Type 0 where
  pub by : Found
  pub is : slice_get found from ≡ Some by
  pub longer : count ≡ by.lead.length + 1

-- the length of a path, by what its last hop goes by
abbrev pub IsLengthBy : List Found → Via → ℕ → ℕ → Type 0
IsLengthBy found (Stack cell) from count = count ≡ 1
IsLengthBy found (Area number cell) from count = count ≡ 1
IsLengthBy found (Slot slot) from count = IsLonger found from count

abbrev pub HasLength : List Found → Lead → Type 0
HasLength found lead = IsLengthBy found lead.via lead.from lead.length

-- no path is longer than this
abbrev pub AreShort : List Found → ℕ → Type 0
AreShort found most = (i : ℕ) (entry : Found) → slice_get found i ≡ Some entry → entry.lead.length ≤ most

-- Each object was found once, at a place where an object can begin, and those with shorter paths were first.
pub record IsSoundQueue (q : Queue) : Type 0 where
  pub few : q.places ≤ 2 ^ 20
  pub short : length q.found ≤ q.places
  pub placed : (i : ℕ) (entry : Found) → slice_get q.found i ≡ Some entry → IsPlace q.places entry.base
  pub apart : (i j : ℕ) (entry other : Found) → slice_get q.found i ≡ Some entry → slice_get q.found j ≡ Some other
      → entry.base ≡ other.base → i ≡ j
  pub lengths : (i : ℕ) (entry : Found) → slice_get q.found i ≡ Some entry → HasLength (take i q.found) entry.lead
  pub bounded : (i : ℕ) (entry : Found) → slice_get q.found i ≡ Some entry → entry.lead.length ≤ i + 1
  pub ordered : (i j : ℕ) (entry later : Found) → i ≤ j → slice_get q.found i ≡ Some entry
      → slice_get q.found j ≡ Some later → entry.lead.length ≤ later.lead.length

-- There is room for all. The bit of a place is set exactly where the object there was found.
pub record KeepsQueue (q : Queue) (capacity : ℕ) (words : List ℕ) : Type 0 where
  pub sound : IsSoundQueue q
  pub room : q.places ≤ capacity
  pub bits : q.places ≤ 32 * length words
  pub marked : (i : ℕ) (entry : Found) → slice_get q.found i ≡ Some entry → bit_of words (entry.base / 16) ≡ 1
  pub found : (place : ℕ) → place < q.places → bit_of words place ≡ 1 → IsFound q.found (16 * place)

-- nothing that was found is lost or moved
pub record IsGrown (before after : List Found) : Type 0 where
  pub more : List Found
  pub is : after ≡ before ++ more

-- the object is found, at the end if it wasn't before
pub data IsAdded (before after : List Found) (entry : Found) : Type 0 where
  Was_found : IsFound before entry.base → after ≡ before → IsAdded before after entry
  Is_new : after ≡ before ++ entry ∷ [] → IsAdded before after entry
