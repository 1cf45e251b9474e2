-- Which objects are protected, reached, reapable and marked, by their bases, for heaps that know words alone.
use Rattle.std.specs.Prelude.{◌≡◌, ℕ, ◌+◌, ◌==◌, ◌&&◌, Bool, not, if◌then◌else◌, IsTrue, List, Option, Some}
use Rattle.std.specs.List.{count_by, AllByRecursion}
use Rattle.mm_model.specs.declared.object.Colour.TheVariants.{White, Gray}
use Rattle.mm_model.specs.Object.{is_counted}
use Rattle.mm_model.specs.Sets.Marking.{is_white}
use Rattle.mm_model.specs.Phase.{IsAscending, lists}
use Rattle.mm_model.specs.Views.ByBase.{Begins, based, changed}
use Rattle.mm_model.specs.Views.ObjectView.{ObjectView, ObjectsByBase, counted_words_of, word_words_of}
use Rattle.mm_model.specs.Views.ObjectView.{scanned_words_of}
use Rattle.mm_model.specs.Views.ObjectView.{names_at, holds_base, references_in}

-- the words outside of objects that may keep one: those of the stack, of scanned areas, and of counted cells
pub record RootWords : Type 0 where
  pub stack : List ℕ
  pub areas : List ℕ
  pub counted_cells : List ℕ

-- Protected: the least set with these rules. No phase may free one of it.
pub data IsProtectedAt (objects : ObjectsByBase) (roots : RootWords) : ℕ → Type 0 where
  By_stack : (base : ℕ) (object : ObjectView) → Begins objects base object
      → IsTrue (names_at roots.stack base object) → IsProtectedAt objects roots base
  By_area : (base : ℕ) (object : ObjectView) → Begins objects base object → IsTrue (not (is_counted object.kind))
      → IsTrue (names_at roots.areas base object) → IsProtectedAt objects roots base
  By_counted_cell : (base : ℕ) (object : ObjectView) → Begins objects base object → IsTrue (is_counted object.kind)
      → IsTrue (holds_base roots.counted_cells base) → IsProtectedAt objects roots base
  By_slot : (base : ℕ) (object : ObjectView) (by : ℕ) (holder : ObjectView) → Begins objects base object
      → IsTrue (not (is_counted object.kind)) → Begins objects by holder
      → IsTrue (names_at (word_words_of holder) base object) → IsProtectedAt objects roots by
      → IsProtectedAt objects roots base
  By_counted_slot : (base : ℕ) (object : ObjectView) (by : ℕ) (holder : ObjectView) → Begins objects base object
      → IsTrue (is_counted object.kind) → Begins objects by holder
      → IsTrue (holds_base (counted_words_of holder) base) → IsProtectedAt objects roots by
      → IsProtectedAt objects roots base

-- Conservatively reached from some words: the least set that holds each object in which one of them falls, and each in
-- which the word of a scanned slot of a member falls.
pub data IsReachedAt (objects : ObjectsByBase) (words : List ℕ) : ℕ → Type 0 where
  By_root : (base : ℕ) (object : ObjectView) → Begins objects base object → IsTrue (names_at words base object)
      → IsReachedAt objects words base
  By_slot : (base : ℕ) (object : ObjectView) (by : ℕ) (holder : ObjectView) → Begins objects base object
      → Begins objects by holder → IsTrue (names_at (scanned_words_of holder) base object)
      → IsReachedAt objects words by → IsReachedAt objects words base

-- what a full collection frees, if it lives
abbrev pub IsUnreachedAt : ObjectsByBase → List ℕ → ℕ → Type 0
IsUnreachedAt objects words base = IsReachedAt objects words base → ⊥

-- How often counted places hold a base: counted slots of objects, and besides as often as the number for the base says.
abbrev pub count_at : ObjectsByBase → (ℕ → ℕ) → ℕ → ℕ
count_at objects outside base = references_in objects base + outside base

-- a counted object that isn't sticky and that no counted place holds
abbrev pub is_zero_count_at : ObjectsByBase → (ℕ → ℕ) → ℕ → ObjectView → Bool
is_zero_count_at objects outside base object =
    is_counted object.kind && not object.sticky && count_at objects outside base == 0

-- how many of them there are
abbrev pub zero_count_of : ObjectsByBase → (ℕ → ℕ) → ℕ
zero_count_of objects outside = count_by (λ o. is_zero_count_at objects outside o.base o.value) (based objects)

-- what only counted slots hold: it is counted and not sticky, and neither the stack nor a place outside has it
abbrev pub only_slots_hold_at : List ℕ → (ℕ → ℕ) → ℕ → ObjectView → Bool
only_slots_hold_at stack outside base object =
    is_counted object.kind && not object.sticky && not (names_at stack base object) && outside base == 0

-- Reapable: the least set in which such an object is once every object with a counted slot that holds its base is.
pub data IsReapableAt (objects : ObjectsByBase) (stack : List ℕ) (outside : ℕ → ℕ) : ℕ → Type 0 where
  Reapable : (base : ℕ) (object : ObjectView) → Begins objects base object
      → IsTrue (only_slots_hold_at stack outside base object)
      → ((by : ℕ) (holder : ObjectView) → Begins objects by holder → IsTrue (holds_base (counted_words_of holder) base)
      → IsReapableAt objects stack outside by)
      → IsReapableAt objects stack outside base

-- the white objects in which one of the words falls become gray
abbrev pub grayed_at : List ℕ → ℕ → ObjectView → Option ObjectView
grayed_at words base object =
    Some (if is_white object.colour && names_at words base object then record object { colour = Gray } else object)

abbrev pub with_grayed_objects : List ℕ → ObjectsByBase → ObjectsByBase
with_grayed_objects words objects = changed (grayed_at words) objects

-- What `finish` keeps of what is white: the least set that holds the gray objects and each white one in which the word
-- of a scanned slot of a member falls.
pub data IsKeptAtFinishAt (objects : ObjectsByBase) : ℕ → Type 0 where
  Already : (base : ℕ) (object : ObjectView) → Begins objects base object → object.colour ≡ Gray
      → IsKeptAtFinishAt objects base
  By_slot : (base : ℕ) (object : ObjectView) (by : ℕ) (holder : ObjectView) → Begins objects base object
      → object.colour ≡ White → Begins objects by holder → IsTrue (names_at (scanned_words_of holder) base object)
      → IsKeptAtFinishAt objects by → IsKeptAtFinishAt objects base

-- what `finish` frees: the white objects outside this set, once what the words name is gray
pub record IsFreedAtFinishAt (objects : ObjectsByBase) (words : List ℕ) (base : ℕ) : Type 0 where
  pub object : ObjectView
  pub begins : Begins (with_grayed_objects words objects) base object
  pub white : object.colour ≡ White
  pub unmarked : IsKeptAtFinishAt (with_grayed_objects words objects) base → ⊥

-- Marked: the least set that holds the gray and the black objects, and each in which the word of a scanned slot of a
-- member falls.
pub data IsMarkedAt (objects : ObjectsByBase) : ℕ → Type 0 where
  Already : (base : ℕ) (object : ObjectView) → Begins objects base object → IsTrue (not (is_white object.colour))
      → IsMarkedAt objects base
  By_slot : (base : ℕ) (object : ObjectView) (by : ℕ) (holder : ObjectView) → Begins objects base object
      → Begins objects by holder → IsTrue (names_at (scanned_words_of holder) base object) → IsMarkedAt objects by
      → IsMarkedAt objects base

-- the bases of exactly the objects in a set, ascending
pub record AreBasesAt (objects : ObjectsByBase) (Dead : ℕ → Type 0) (bases : List ℕ) : Type 0 where
  pub ascending : IsAscending bases
  pub only : AllByRecursion (λ base. (object : ObjectView) × Begins objects base object × Dead base) bases
  pub all : (base : ℕ) (object : ObjectView) → Begins objects base object → Dead base → IsTrue (lists bases base)
