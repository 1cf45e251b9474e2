-- What holds of a heap between its calls.
use Rattle.std.specs.Prelude.{◌≡◌, ℕ, ◌+◌, ◌-◌, ◌*◌, ◌≤◌, true, false, None, slice_index}
use Rattle.mm_model.specs.Places.Limits.{IsWithinLimits}
use Rattle.mm_model.specs.Views.ViewWords.{outside_references}
use Rattle.mm_pages.specs.Pages.{IsSoundHeap}
use Rattle.mm_pages.specs.Parked.{AreParked, AreAllParked}
use Rattle.mm_object.specs.Heap.{IsSound, FitsHeap, IsAtEnd}
use Rattle.mm_roots.specs.Areas.{IsSoundAreas, IsBeside, OwnsAll}
use Rattle.mm_count.specs.Table.{IsRight}
use Rattle.mm_count.specs.Counts.{IsCountedBy}
use Rattle.mm_count.specs.Listed.{AllListed, NonePinned}
use Rattle.mm_weak.specs.Links.{IsLinked}
use Rattle.mm_mark.specs.Marker.{AreKnown, marking}
use Rattle.mm_mark.specs.Stale.{HasFewStale}
use Rattle.mm_gc.specs.Showing.{IsShowing}
use Rattle.mm_gc.specs.Gc.{Region, Gc, objects_in, pages_needed, freed_since, HasRoomForAll, view_of_gc}

-- what always holds of its parts
pub record IsSoundRegion (r : Region) : Type 0 where
  pub pages : IsSoundHeap r.pages
  pub heap : IsSound r.heap
  pub areas : IsSoundAreas r.areas

-- Objects and areas have parked their runs in the page heap, and nothing else is parked or out there. No run of the one
-- shares a page with a run of the other. Each block is one of an area.
pub record ArePlaced (r : Region) : Type 0 where
  pub heap : FitsHeap r.heap r.pages
  pub areas : AreParked r.areas.fixed.runs r.pages
  pub all_parked : AreAllParked r.heap.runs r.areas.fixed.runs r.pages
  pub none_out : (page : ℕ) → slice_index r.pages.out page ≡ 0
  pub beside : IsBeside r.areas r.heap
  pub owns : OwnsAll r.areas

-- All tables are for the greatest number of pages. The memory is the last piece of the arena, which has words left for
-- as many pages.
pub record HasTables (r : Region) : Type 0 where
  pub two : 2 ≤ r.least
  pub growing : r.least ≤ r.most
  pub most : r.most ≤ 4096
  pub pages : r.pages.pages ≡ r.most
  pub heap : r.heap.pages ≡ r.most
  pub areas : r.areas.fixed.pages ≡ r.most
  pub last : IsAtEnd r.heap r.arena
  pub room : 1024 * r.most ≤ 1024 * r.heap.size + r.arena.spare
  pub out : 1024 * r.heap.size ≤ r.arena.out

-- what holds of a region also while it looks for a place
pub record KeepsRegion (r : Region) : Type 0 where
  pub sound : IsSoundRegion r
  pub placed : ArePlaced r
  pub tables : HasTables r
  pub limit : r.pages.limit ≡ r.heap.size

-- It has as many pages as it needs.
pub record IsSettled (r : Region) : Type 0 where
  pub keeps : KeepsRegion r
  pub size : r.heap.size ≡ pages_needed r

-- Counts are exact or sticky, the table has exactly the zero-count objects, and none is pinned.
pub record KeepsCounts (gc : Gc) : Type 0 where
  pub right : IsRight gc.table gc.region.heap
  pub counted : IsCountedBy gc.region.heap.objects (outside_references (view_of_gc gc))
  pub listed : AllListed gc.region.heap.objects
  pub unpinned : NonePinned gc.region.heap.objects

-- Each gray object is known to the marker. Where no cycle runs, none is scanned in part. No more objects were gone when
-- the cycle began than are gone now. Where the queue has room for every object, at most as many of its entries are
-- stale as objects were freed since then.
pub record KeepsMarking (gc : Gc) : Type 0 where
  pub known : AreKnown gc.marker (objects_in gc.region)
  pub idle : gc.marker.running ≡ false → gc.marker.partly ≡ None
  pub since : gc.gone_before ≤ gc.freed
  pub few : gc.marker.running ≡ true → HasRoomForAll gc
      → HasFewStale (marking gc.marker gc.region.heap) (freed_since gc)

-- what was told when the heap was made
pub record HasRooms (gc : Gc) : Type 0 where
  pub within : IsWithinLimits gc.settings
  pub least : gc.region.least ≡ gc.settings.pages
  pub most : gc.region.most ≡ gc.settings.max
  pub stack : gc.stack.limit ≡ gc.settings.stack
  pub queue : gc.marker.room ≡ gc.settings.queue
  pub table : gc.table.pages ≡ gc.settings.max
  pub dead : 256 * (gc.settings.max - 1) ≤ gc.dead.size

-- All pieces are of the one arena, and no other words of it are out.
pub record HasAllPieces (gc : Gc) : Type 0 where
  pub pages : gc.region.pages.table.arena ≡ gc.region.arena.name
  pub cells : gc.region.heap.table.arena ≡ gc.region.arena.name
  pub fixed : gc.region.areas.fixed.table.arena ≡ gc.region.arena.name
  pub areas : gc.region.areas.table.arena ≡ gc.region.arena.name
  pub stack : gc.stack.location.arena ≡ gc.region.arena.name
  pub table : gc.table.location.arena ≡ gc.region.arena.name
  pub queue : gc.marker.location.arena ≡ gc.region.arena.name
  pub dead : gc.dead.arena ≡ gc.region.arena.name
  pub out : gc.region.arena.out ≡ gc.region.pages.table.size + gc.region.heap.table.size
      + gc.region.areas.fixed.table.size + gc.region.areas.table.size + gc.stack.location.size
      + gc.table.location.size + gc.marker.location.size
      + gc.dead.size + 1024 * gc.region.heap.size

pub record KeepsGc (gc : Gc) : Type 0 where
  pub shown : IsShowing (view_of_gc gc)
  pub settled : IsSettled gc.region
  pub counts : KeepsCounts gc
  pub linked : IsLinked gc.region.heap
  pub marking : KeepsMarking gc
  pub rooms : HasRooms gc
  pub pieces : HasAllPieces gc
