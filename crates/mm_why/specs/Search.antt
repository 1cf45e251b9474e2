-- How far a search has come.
use Rattle.std.specs.Prelude.{◌≡◌, ℕ, ◌+◌, ◌*◌, ◌/◌, ◌<◌, ◌≤◌, ◌⊎◌, List, [], ◌∷◌, ◌++◌, length, take, Option, Some}
use Rattle.std.specs.Prelude.{None}
use Rattle.std.specs.Prelude.{slice_get, slice_index_or}
use Rattle.std.specs.List.{sum_by}
use Rattle.mm_model.specs.Views.ByBase.{Begins}
use Rattle.mm_model.specs.Views.ObjectView.{ObjectView, ObjectsByBase, scanned_words_of}
use Rattle.mm_model.specs.Views.View.{AreaView}
use Rattle.mm_why.specs.declared.hop.Via.{Via}
use Rattle.mm_why.specs.declared.hop.Via.TheVariants.{Stack, Area, Slot}
use Rattle.mm_why.specs.declared.hop.Hop.{Hop}
use Rattle.mm_why.specs.declared.found.Lead.{Lead}
use Rattle.mm_why.specs.declared.found.Found.{Found}
use Rattle.mm_why.specs.Path.{Shown, FallsIn, IsAreaWord, IsPath}
use Rattle.mm_why.specs.Queue.{IsFound, AreShort}

abbrev pub shown_with : ObjectsByBase → List ℕ → List AreaView → Shown
shown_with objects stack areas = record { objects = objects; stack = stack; areas = areas }

-- the word of a scanned slot of an object that was found
pub record IsSlotWord (objects : ObjectsByBase) (found : List Found) (from slot word : ℕ) : Type 0 where
  pub by : Found
  pub is : slice_get found from ≡ Some by
  pub holder : ObjectView
  pub begins : Begins objects by.base holder
  pub holds : slice_get (scanned_words_of holder) slot ≡ Some word

-- the word that a hop goes by
abbrev pub IsWordBy : Shown → List Found → Via → ℕ → ℕ → Type 0
IsWordBy shown found (Stack cell) from word = slice_get shown.stack cell ≡ Some word
IsWordBy shown found (Area number cell) from word = IsAreaWord shown.areas number cell word
IsWordBy shown found (Slot slot) from word = IsSlotWord shown.objects found from slot word

abbrev pub IsLead : Shown → List Found → Lead → ℕ → Type 0
IsLead shown found lead word = IsWordBy shown found lead.via lead.from word

-- an object was found by a word that falls in it, when these were found before
pub record IsReason (shown : Shown) (found : List Found) (entry : Found) : Type 0 where
  pub word : ℕ
  pub lead : IsLead shown found entry.lead word
  pub falls : FallsIn shown.objects word entry.base

-- each object was found for a reason
abbrev pub HaveReasons : Shown → List Found → Type 0
HaveReasons shown found =
    (i : ℕ) (entry : Found) → slice_get found i ≡ Some entry → IsReason shown (take i found) entry

-- all that was found lives
abbrev pub AreLive : ObjectsByBase → List Found → Type 0
AreLive objects found =
    (i : ℕ) (entry : Found) → slice_get found i ≡ Some entry → (object : ObjectView) × Begins objects entry.base object

-- what noting a word leaves: the object in which it falls is found, by this lead if it wasn't before
pub data IsNoted (objects : ObjectsByBase) (before after : List Found) (word : ℕ) (lead : Lead) : Type 0 where
  Falls_in_none : ((base : ℕ) → FallsIn objects word base → ⊥) → after ≡ before
      → IsNoted objects before after word lead
  Was_found : (base : ℕ) → ((other : ℕ) → FallsIn objects word other → other ≡ base) → IsFound before base
      → after ≡ before → IsNoted objects before after word lead
  Is_new : (base : ℕ) → ((other : ℕ) → FallsIn objects word other → other ≡ base) → FallsIn objects word base
      → after ≡ before ++ record { lead = lead; base = base } ∷ [] → IsNoted objects before after word lead

-- the object at a base was found, with a path of at most this length
pub record IsFoundWithin (found : List Found) (base most : ℕ) : Type 0 where
  pub place : ℕ
  pub entry : Found
  pub is : slice_get found place ≡ Some entry
  pub at : entry.base ≡ base
  pub short : entry.lead.length ≤ most

-- each object in which one of the words falls was
abbrev pub AreWordsFound : ObjectsByBase → List Found → List ℕ → ℕ → Type 0
AreWordsFound objects found words most =
    (k word base : ℕ) → slice_get words k ≡ Some word → FallsIn objects word base → IsFoundWithin found base most

-- The objects in front of a place were followed: what the words of their scanned slots fall in was found.
pub record AreFollowed (objects : ObjectsByBase) (found : List Found) (next : ℕ) : Type 0 where
  pub within : next ≤ length found
  pub slots : (i : ℕ) (entry : Found) (holder : ObjectView) → i < next → slice_get found i ≡ Some entry
      → Begins objects entry.base holder
      → AreWordsFound objects found (scanned_words_of holder) (entry.lead.length + 1)
  -- no path is longer than those that lead on from there
  pub level : (entry : Found) → slice_get found next ≡ Some entry → AreShort found (entry.lead.length + 1)

-- so many were followed that the target is found, or there are no others
pub record IsSearched (objects : ObjectsByBase) (found : List Found) (target : ℕ) : Type 0 where
  pub next : ℕ
  pub followed : AreFollowed objects found next
  pub enough : IsFound found target ⊎ (length found ≤ next)

-- how many scanned slots the object at a base has
abbrev pub slots_in : Option ObjectView → ℕ
slots_in None = 0
slots_in (Some object) = length (scanned_words_of object)

abbrev pub slots_at : ObjectsByBase → ℕ → ℕ
slots_at objects base = slots_in (slice_index_or objects (base / 16) None)

-- what it costs to follow some objects
abbrev pub cost_of : ObjectsByBase → List Found → ℕ
cost_of objects found = sum_by (λ entry. 1 + 2 * slots_at objects entry.base) found

-- an entry with this base stands at the place
pub record IsEntry (found : List Found) (base : ℕ) (entry : Found) : Type 0 where
  pub place : ℕ
  pub is : slice_get found place ≡ Some entry
  pub at : entry.base ≡ base

-- some hops lead on from the object at a base to another
abbrev pub LeadsOn : Shown → ℕ → List Hop → ℕ → Type 0
LeadsOn shown base hops target = (front : List Hop) → IsPath shown front base → IsPath shown (front ++ hops) target
