-- What the calls of a region change, and what stays.
use Rattle.std.specs.Prelude.{◌≡◌, ℕ, ◌+◌, ◌*◌, ◌≤◌, false, List, length, take, IsTrue}
use Rattle.mm_model.specs.Views.ByBase.{Begins, changed}
use Rattle.mm_model.specs.Phase.{IsAscending, lists}
use Rattle.mm_model.specs.Views.ViewPhase.{view_after_release}
use Rattle.mm_object.specs.Object.{StoredObject, views_of}
use Rattle.mm_object.specs.Heap.{Heap}
use Rattle.mm_weak.specs.Links.{IsLinked}
use Rattle.mm_count.specs.Table.{Table, IsRight, composite_of}
use Rattle.mm_count.specs.Counts.{IsCountedBy}
use Rattle.mm_count.specs.Listed.{AllListed, NonePinned}
use Rattle.mm_count.specs.Apart.{AreCountsApart}
use Rattle.mm_count.specs.DeadApart.{AreDeadApart}
use Rattle.mm_sweep.specs.Release.{after_release, AreObjects}
use Rattle.mm_gc.specs.declared.region.Region.{Region}
use Rattle.mm_gc.specs.declared.wanted.Reach.{Reach}
use Rattle.mm_gc.specs.declared.wanted.Reach.TheVariants as reach
use Rattle.mm_gc.specs.Gc.{pages_needed, areas_in}

-- below which page a search looks
abbrev pub limit_in : Reach → Region → ℕ
limit_in reach.Now r = pages_needed r
limit_in reach.Grown r = r.most

-- how many words of the arena are out in the parts of a region
abbrev pub words_of : Region → ℕ
words_of r =
    r.pages.table.size + r.heap.table.size + r.areas.fixed.table.size + r.areas.table.size + 1024 * r.heap.size

-- where the parts of a region lie, how many words of the arena are out elsewhere, and how many pages it has at least
-- and at most
pub record IsSameRegion (before after : Region) : Type 0 where
  pub name : after.arena.name ≡ before.arena.name
  pub out : after.arena.out + words_of before ≡ before.arena.out + words_of after
  pub pages : after.pages.table ≡ before.pages.table
  pub cells : after.heap.table ≡ before.heap.table
  pub fixed : after.areas.fixed.table ≡ before.areas.fixed.table
  pub areas : after.areas.table ≡ before.areas.table
  pub least : after.least ≡ before.least
  pub most : after.most ≡ before.most
  pub heap_pages : after.heap.pages ≡ before.heap.pages

-- its objects and areas, and where they lie
pub record IsSameInside (before after : Region) : Type 0 where
  pub objects : after.heap.objects ≡ before.heap.objects
  pub runs : after.heap.runs ≡ before.heap.runs
  pub blocks : after.areas ≡ before.areas
  pub areas : areas_in after ≡ areas_in before
  pub pages : after.pages ≡ record before.pages { limit = after.pages.limit }

-- The first k words are the bases of objects by ascending base, none of which is in the zero-count table.
pub record IsReleasable (heap : Heap) (words : List ℕ) (k : ℕ) : Type 0 where
  pub within : k ≤ length words
  pub ascending : IsAscending (take k words)
  pub objects : AreObjects heap (take k words)
  pub left : (base : ℕ) (object : StoredObject) → Begins heap.objects base object → IsTrue (lists (take k words) base)
      → (composite_of object).listed ≡ false
  pub linked : IsLinked heap

-- The objects at these bases were freed, and what links and counts say of the others is right.
pub record IsReleased (before after : Heap) (bases : List ℕ) : Type 0 where
  pub objects : after.objects ≡ changed (after_release bases) before.objects
  pub views : views_of after.objects ≡ changed (view_after_release bases) (views_of before.objects)
  pub right : (table : Table) → IsRight table before → IsRight table after
  pub counts : (outside : ℕ → ℕ) → AreCountsApart bases before.objects outside → IsCountedBy after.objects outside
  pub listed : AreDeadApart bases before.objects → AllListed after.objects
  pub unpinned : NonePinned before.objects → NonePinned after.objects
  pub linked : IsLinked after
