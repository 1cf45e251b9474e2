-- What is left of a region once it is emptied.
use Rattle.std.specs.Prelude.{◌≡◌, ℕ, ◌+◌, ◌*◌, ◌≤◌, ◌<◌, List}
use Rattle.mm_model.specs.Views.ByBase.{Begins}
use Rattle.mm_pages.specs.Pages.{Pages}
use Rattle.mm_pages.specs.Parked.{AreParked, AreAllParked}
use Rattle.mm_object.specs.Object.{StoredObject, StoredObjects}
use Rattle.mm_object.specs.Heap.{Heap, FitsHeap}
use Rattle.mm_roots.specs.Areas.{Areas}

-- no object begins below an address
abbrev pub HasNoneBelow : StoredObjects → ℕ → Type 0
HasNoneBelow objects from = (base : ℕ) (object : StoredObject) → Begins objects base object → from ≤ base

-- a base is at an address or above it, lies in the pages, and every object begins past it
pub record HasPassed (from base : ℕ) (heap : Heap) : Type 0 where
  pub reached : from ≤ base
  pub within : base < 4096 * heap.pages
  pub none : HasNoneBelow heap.objects (base + 1)

-- A heap fits its page heap, in which its runs and those of others are parked. Nothing else is parked there.
pub record AreParkedBeside (others : List ℕ) (heap : Heap) (pages : Pages) : Type 0 where
  pub fits : FitsHeap heap pages
  pub others_parked : AreParked others pages
  pub all_parked : AreAllParked heap.runs others pages

-- runs that were parked may be free now
abbrev pub IsUnparked : Pages → Pages → Type 0
IsUnparked before after = after ≡ record before { parked = after.parked }

-- a heap's memory and table lie where they lay
abbrev pub IsInPlace : Heap → Heap → Type 0
IsInPlace before after =
    after ≡ record before { objects = after.objects; runs = after.runs; raw = after.raw }

-- the tables of areas and of their blocks lie where they lay
pub record AreInPlace (before after : Areas) : Type 0 where
  pub table : after.table ≡ before.table
  pub fixed : after.fixed.table ≡ before.fixed.table
