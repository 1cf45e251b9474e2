-- What must be entered of a state: each live object, with its site.
use Rattle.std.specs.Prelude.{◌≡◌, ℕ, List, Some, slice_get}
use Rattle.mm_model.specs.Object.{Object}
use Rattle.mm_model.specs.State.{State, Lives}
use Rattle.mm_model.specs.Views.ByBase.{Begins}
use Rattle.mm_sites.specs.declared.entry.Entry.{Entry}
use Rattle.mm_sites.specs.Entries.{EntriesByBase}

abbrev pub entry_with : Object → ℕ → Entry
entry_with object site = record { extent = object.extent; site = site }

-- the object with a birth number lives, and has this site
pub record LivesWith (a : State) (sites : List ℕ) (birth : ℕ) (object : Object) (site : ℕ) : Type 0 where
  pub lives : Lives a birth object
  pub site_is : slice_get sites birth ≡ Some site

-- a live object begins at a base, and the entry is its extent and its site
pub record IsEntryOf (a : State) (sites : List ℕ) (base : ℕ) (entry : Entry) : Type 0 where
  pub birth : ℕ
  pub object : Object
  pub site : ℕ
  pub lives : LivesWith a sites birth object site
  pub at : object.base ≡ base
  pub is : entry ≡ entry_with object site

-- The live objects of a state are entered, and nothing else is. The sites are given by birth number.
pub record AreEntered (a : State) (sites : List ℕ) (entries : EntriesByBase) : Type 0 where
  pub all : (birth : ℕ) (object : Object) (site : ℕ) → LivesWith a sites birth object site
      → Begins entries object.base (entry_with object site)
  pub only : (base : ℕ) (entry : Entry) → Begins entries base entry → IsEntryOf a sites base entry
