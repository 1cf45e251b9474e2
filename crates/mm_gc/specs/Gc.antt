-- What callers see of a heap with all that its commands need.
use Rattle.std.specs.Prelude.{ℕ, ◌-◌, ◌*◌, ◌≤◌, if◌then◌else◌, List, ◌++◌, map, Option, Some, None}
use Rattle.std.specs.List.{fold}
use Rattle.mm_model.specs.declared.line.Totals.{Totals}
use Rattle.mm_model.specs.declared.settings.Settings.{Settings}
use Rattle.mm_model.specs.Places.Place.{Piece, page_end}
use Rattle.mm_model.specs.Views.ObjectView.{ObjectsByBase, pieces_of_objects}
use Rattle.mm_model.specs.Views.View.{View, AreaView, CycleView}
use Rattle.mm_model.specs.Views.ViewWords.{piece_of_area}
use Rattle.mm_words.specs.Location.{Location}
use Rattle.mm_object.specs.Object.{views_of}
use Rattle.mm_roots.specs.Views.{views_of_areas}
use Rattle.mm_roots.specs.Stack.{Cells}
use Rattle.mm_count.specs.Table.{Table}
use Rattle.mm_mark.specs.Marker as markers
pub use Rattle.mm_gc.specs.declared.region.Region.{Region}

-- the objects of a region, and its areas
abbrev pub objects_in : Region → ObjectsByBase
objects_in r = views_of r.heap.objects

abbrev pub areas_in : Region → List AreaView
areas_in r = views_of_areas r.areas r.heap.raw

-- the room that they take
abbrev pub pieces_in : Region → List Piece
pieces_in r = map piece_of_area (areas_in r) ++ pieces_of_objects (objects_in r)

-- how many pages it needs
abbrev pub pages_needed : Region → ℕ
pages_needed r = fold page_end r.least (pieces_in r)

-- A heap: its region, the stack, the zero-count table, the marker, where the room for the bases of freed objects lies,
-- the settings, the threshold, how many commands were carried out, how many objects were born and were freed, and how
-- many were gone when the cycle began.
pub record Gc : Type 0 where
  pub region : Region
  pub stack : Cells
  pub table : Table
  pub marker : markers.Marker
  pub dead : Location
  pub settings : Settings
  pub threshold : ℕ
  pub commands : ℕ
  pub born : ℕ
  pub freed : ℕ
  pub gone_before : ℕ

abbrev pub cycle_in : Gc → Option CycleView
cycle_in gc =
    if gc.marker.running
    then Some (record { gone_before = gc.gone_before; partly_scanned = gc.marker.partly }) else None

abbrev pub totals_in : Gc → Totals
totals_in gc =
    record { commands = gc.commands; born = gc.born; freed = gc.freed; live = gc.born - gc.freed }

-- how many objects were freed since the cycle began
abbrev pub freed_since : Gc → ℕ
freed_since gc = gc.freed - gc.gone_before

-- the queue has room for every object that there may be
abbrev pub HasRoomForAll : Gc → Type 0
HasRoomForAll gc = 256 * (gc.settings.max - 1) ≤ gc.settings.queue

-- what it shows
abbrev pub view_of_gc : Gc → View
view_of_gc gc =
    record {
      objects = objects_in gc.region;
      stack = gc.stack.words;
      areas = areas_in gc.region;
      cycle = cycle_in gc;
      threshold = gc.threshold;
      totals = totals_in gc;
      settings = gc.settings;
    }
