-- What a heap keeps whose region and table changed, while its stack, its marker and its numbers stay.
use Rattle.std.proofs.Common.{◌≡◌, ℕ, List, Option, refl, sym, subst, arith}
use Rattle.mm_model.specs.Views.ViewWords.{outside_references}
use Rattle.mm_object.specs.Object.{StoredObjects}
use Rattle.mm_object.specs.Heap.{Heap}
use Rattle.mm_count.specs.Table.{Table, IsSameTable}
use Rattle.mm_mark.specs.Marker.{AreKnown, marking}
use Rattle.mm_mark.specs.Stale.{KeepsFewStale}
use Rattle.mm_gc.specs.Gc.{Region, Gc, objects_in, freed_since, view_of_gc}
use Rattle.mm_gc.specs.Kept.{IsSettled, KeepsGc}
use Rattle.mm_gc.specs.Regions.{IsSameRegion}
use Rattle.mm_gc.specs.Showing.{IsShowing}
use Rattle.mm_gc.specs.Counts.{HasCounts}
use Rattle.mm_gc.proofs.Makes.Made.{rooms-made, pieces-made}

pub counts-kept : (gc : Gc) → KeepsGc gc
    → HasCounts gc.table gc.region.heap (outside_references (view_of_gc gc))
counts-kept gc keeps =
    record {
      right = keeps.counts.right;
      counted = keeps.counts.counted;
      listed = keeps.counts.listed;
      unpinned = keeps.counts.unpinned;
      linked = keeps.linked;
    }

-- another region and another table
abbrev pub with_region : Gc → Region → Table → Gc
with_region gc r table = record gc { region = r; table = table }

pub keeps-region : (gc : Gc) → KeepsGc gc → (r : Region) → IsSameRegion gc.region r → IsSettled r → (table : Table)
    → IsSameTable gc.table table → IsShowing (view_of_gc (with_region gc r table))
    → HasCounts table r.heap (outside_references (view_of_gc (with_region gc r table)))
    → AreKnown gc.marker (objects_in r) → KeepsFewStale (marking gc.marker gc.region.heap) (marking gc.marker r.heap)
    → KeepsGc (with_region gc r table)
keeps-region gc keeps r same settled table entries shown counts known few =
    record {
      shown = shown;
      settled = settled;
      counts = record {
        right = counts.right;
        counted = counts.counted;
        listed = counts.listed;
        unpinned = counts.unpinned;
      };
      linked = counts.linked;
      marking = record {
        known = known;
        idle = keeps.marking.idle;
        since = keeps.marking.since;
        few = λ runs room. few (freed_since gc) (keeps.marking.few runs room);
      };
      rooms = rooms-made gc keeps r same table entries gc.stack refl refl gc.born;
      pieces = pieces-made gc keeps r same table entries gc.stack refl refl gc.born;
    }

same-literal : (r : Region) (objects : StoredObjects) (raw : List (Option ℕ))
    → IsSameRegion r (record r { heap = record r.heap { objects = objects; raw = raw } })
same-literal r objects raw =
    record {
      name = refl;
      out = omega arith;
      pages = refl;
      cells = refl;
      fixed = refl;
      areas = refl;
      least = refl;
      most = refl;
      heap_pages = refl;
    }

-- a region whose objects and areas have other words
pub same_region-rewritten : (r : Region) (heap : Heap)
    → heap ≡ record r.heap { objects = heap.objects; raw = heap.raw } → IsSameRegion r (record r { heap = heap })
same_region-rewritten r heap rest =
    subst (λ (h : Heap). IsSameRegion r (record r { heap = h })) (sym rest) (same-literal r heap.objects heap.raw)
