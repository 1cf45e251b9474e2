-- What is kept between calls stays where objects are changed in their places, with counts and queue.
use Rattle.std.proofs.Common.{◌≡◌, ℕ, Option, List, refl, sym, ap, ◌∙◌, subst}
use Rattle.mm_model.specs.Views.ObjectView.{pieces_of_objects}
use Rattle.mm_model.specs.Views.ViewWords.{outside_references}
use Rattle.mm_object.specs.Object.{StoredObjects, views_of}
use Rattle.mm_object.specs.Heap.{Heap, IsSound}
use Rattle.mm_count.specs.Table.{Table, with_entries, IsSameTable}
use Rattle.mm_mark.specs.Marker.{Marker, AreKnown, IsSameButQueue, marking}
use Rattle.mm_mark.specs.Stale.{KeepsFewStale}
use Rattle.mm_gc.specs.Gc.{Gc, objects_in, freed_since, view_of_gc}
use Rattle.mm_gc.specs.Kept.{KeepsGc}
use Rattle.mm_gc.specs.Showing.{IsShowing}
use Rattle.mm_gc.specs.Counts.{HasCounts}
use Rattle.mm_gc.proofs.Writing.Settling.{settled-objects}

-- a heap with these parts
abbrev pub with_parts : Gc → Heap → Table → Marker → Gc
with_parts gc heap table marker =
    record gc { region = record gc.region { heap = heap }; table = table; marker = marker }

abbrev with_objects : Heap → StoredObjects → Heap
with_objects h objects = record h { objects = objects }

abbrev with_queue : Marker → List ℕ → Option ℕ → Marker
with_queue marker queue left_out = record marker { queue = queue; left_out = left_out }

module _ (gc : Gc) (keeps : KeepsGc gc) where
  keeps-literal : (objects : StoredObjects) (entries queue : List ℕ) (left_out : Option ℕ)
      → pieces_of_objects (views_of objects) ≡ pieces_of_objects (objects_in gc.region)
      → IsSound (with_objects gc.region.heap objects)
      → HasCounts (with_entries gc.table entries) (with_objects gc.region.heap objects)
      (outside_references (view_of_gc gc))
      → AreKnown (with_queue gc.marker queue left_out) (views_of objects)
      → KeepsFewStale (marking gc.marker gc.region.heap)
      (marking (with_queue gc.marker queue left_out) (with_objects gc.region.heap objects))
      → IsShowing (view_of_gc (with_parts gc (with_objects gc.region.heap objects) (with_entries gc.table entries)
      (with_queue gc.marker queue left_out)))
      → KeepsGc (with_parts gc (with_objects gc.region.heap objects) (with_entries gc.table entries)
      (with_queue gc.marker queue left_out))
  keeps-literal objects entries queue left_out pieces sound counts known few shown =
      record {
        shown = shown;
        settled = settled-objects gc.region (with_objects gc.region.heap objects) refl keeps.settled pieces sound;
        counts = record {
          right = counts.right;
          counted = counts.counted;
          listed = counts.listed;
          unpinned = counts.unpinned;
        };
        linked = counts.linked;
        marking = record {
          known = known;
          idle = keeps.marking.idle;
          since = keeps.marking.since;
          few = λ runs room. few (freed_since gc) (keeps.marking.few runs room);
        };
        rooms = record {
          within = keeps.rooms.within;
          least = keeps.rooms.least;
          most = keeps.rooms.most;
          stack = keeps.rooms.stack;
          queue = keeps.rooms.queue;
          table = keeps.rooms.table;
          dead = keeps.rooms.dead;
        };
        pieces = record {
          pages = keeps.pieces.pages;
          cells = keeps.pieces.cells;
          fixed = keeps.pieces.fixed;
          areas = keeps.pieces.areas;
          stack = keeps.pieces.stack;
          table = keeps.pieces.table;
          queue = keeps.pieces.queue;
          dead = keeps.pieces.dead;
          out = keeps.pieces.out;
        };
      }

  pub keeps-objects : (heap : Heap) (table : Table) (marker : Marker)
      → heap ≡ record gc.region.heap { objects = heap.objects } → IsSameTable gc.table table
      → IsSameButQueue gc.marker marker
      → pieces_of_objects (views_of heap.objects) ≡ pieces_of_objects (objects_in gc.region) → IsSound heap
      → HasCounts table heap (outside_references (view_of_gc gc))
      → AreKnown marker (views_of heap.objects)
      → KeepsFewStale (marking gc.marker gc.region.heap) (marking marker heap)
      → IsShowing (view_of_gc (with_parts gc heap table marker)) → KeepsGc (with_parts gc heap table marker)
  keeps-objects heap table marker rest entries queue pieces sound counts known few shown =
      subst (λ (h : Heap). KeepsGc (with_parts gc h table marker)) (sym rest)
      (subst (λ (t : Table). KeepsGc (with_parts gc literal t marker)) (sym entries)
      (subst (λ (m : Marker). KeepsGc (with_parts gc literal (with_entries gc.table table.entries) m)) (sym queue)
      (keeps-literal heap.objects table.entries marker.queue marker.left_out pieces (subst IsSound rest sound)
      (subst (λ (t : Table). HasCounts t literal (outside_references (view_of_gc gc))) entries
      (subst (λ (h : Heap). HasCounts table h (outside_references (view_of_gc gc))) rest counts))
      (subst (λ (m : Marker). AreKnown m (views_of heap.objects)) queue known)
      (subst (λ (m : Marker). KeepsFewStale (marking gc.marker gc.region.heap) (marking m literal)) queue few)
      (subst (λ (m : Marker). IsShowing (view_of_gc (with_parts gc literal (with_entries gc.table table.entries) m)))
      queue
      (subst (λ (t : Table). IsShowing (view_of_gc (with_parts gc literal t marker))) entries
      (subst (λ (h : Heap). IsShowing (view_of_gc (with_parts gc h table marker))) rest shown))))))
    where
      literal : Heap
      literal = record gc.region.heap { objects = heap.objects }

-- what is shown then
pub view-objects : (gc : Gc) (heap : Heap) (table : Table) (marker : Marker)
    → heap ≡ record gc.region.heap { objects = heap.objects } → IsSameButQueue gc.marker marker
    → view_of_gc (with_parts gc heap table marker) ≡ record (view_of_gc gc) { objects = views_of heap.objects }
view-objects gc heap table marker rest queue =
    ap (λ (h : Heap). view_of_gc (with_parts gc h table marker)) rest
    ∙ ap (λ (m : Marker).
    view_of_gc (with_parts gc (record gc.region.heap { objects = heap.objects }) table m)) queue
