-- A heap of which colours alone change, and the write barrier.
use Rattle.std.proofs.Common.{◌≡◌, ℕ, ◌+◌, true, map, Some, None, refl}
use Rattle.std.proofs.Common.{ap, ◌∙◌}
use Rattle.std.specs.Prelude.{if◌then◌else◌}
use Rattle.std.specs.Option.{option_map}
use Rattle.mm_model.specs.Views.View.{View}
use Rattle.mm_object.specs.Object.{views_of}
use Rattle.mm_object.specs.Heap.{Heap}
use Rattle.mm_object.specs.Colours.{white_object}
use Rattle.mm_count.specs.Table.{Table}
use Rattle.mm_mark.specs.Marker.{Marker, ShowsMarking, marking}
use Rattle.mm_mark.specs.Colours.{IsSameButColours}
use Rattle.mm_gc.specs.Counts.{HasCounts}
use Rattle.mm_gc.specs.Stores.{cycle_with}
use Rattle.mm_gc.proofs.Colours.Outlines.{HaveOneOutline, white-alike, references-coloured, alike-right, alike-counted}
use Rattle.mm_gc.proofs.Colours.Outlines.{alike-listed}
use Rattle.mm_gc.proofs.Colours.Outlines.{alike-unpinned, alike-links, linked-kept}

module _ (before after : Heap) (same : IsSameButColours before after) where
  white-same : map (option_map white_object) after.objects ≡ map (option_map white_object) before.objects
  white-same = ap (λ (h : Heap). h.objects) same

  alike : HaveOneOutline before.objects after.objects
  alike = white-alike before.objects after.objects white-same

  pub coloured-counts : (table : Table) (outside : ℕ → ℕ) → HasCounts table before outside
      → HasCounts table after outside
  coloured-counts table outside counts =
      record {
        right = alike-right before after alike table (ap (λ (h : Heap). h.pages) same) counts.right;
        counted = alike-counted before.objects after.objects alike outside outside
            (λ b. ap (λ (n : ℕ). n + outside b) (references-coloured before.objects after.objects white-same b))
            counts.counted;
        listed = alike-listed before.objects after.objects alike counts.listed;
        unpinned = alike-unpinned before.objects after.objects alike counts.unpinned;
        linked = linked-kept before after (alike-links before.objects after.objects alike) counts.linked;
      }

-- a view that shows how far a marker has come, where a cycle runs
pub shows-marking : (marker : Marker) (heap : Heap) (view : View) (gone : ℕ) → view.objects ≡ views_of heap.objects
    → view.cycle ≡ cycle_with gone marker → marker.running ≡ true → ShowsMarking (marking marker heap) view
shows-marking marker heap view gone shows cycle runs =
    record {
      shown = shows;
      cycle = record { gone_before = gone; partly_scanned = marker.partly };
      runs = cycle
          ∙ ap (λ b. if b then Some (record { gone_before = gone; partly_scanned = marker.partly }) else None) runs;
      partly = refl;
    }
