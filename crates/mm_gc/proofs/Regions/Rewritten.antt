-- A region whose objects and areas have other words, and the same room, keeps its pages.
use Rattle.std.proofs.Common.{◌≡◌, ℕ, ◌+◌, List, [], ◌∷◌, ◌++◌, map, Option, Some, None, slice_index}
use Rattle.std.proofs.Common.{refl, sym, ap, ◌∙◌, subst, arith}
use Rattle.std.specs.List.{fold}
use Rattle.mm_model.specs.Places.Place.{Areas, Piece, page_end}
use Rattle.mm_model.specs.Views.ObjectView.{pieces_of_objects}
use Rattle.mm_model.specs.Views.ViewWords.{piece_of_area}
use Rattle.mm_pages.specs.Parked.{AreParked}
use Rattle.mm_object.specs.Object.{views_of}
use Rattle.mm_object.specs.Heap.{Heap, IsSound}
use Rattle.mm_roots.specs.declared.area_shape.AreaShape.{AreaShape}
use Rattle.mm_roots.specs.Views.{views_from}
use Rattle.mm_gc.specs.declared.region.Region.{Region}
use Rattle.mm_gc.specs.Gc.{objects_in, areas_in, pages_needed}
use Rattle.mm_gc.specs.Kept.{KeepsRegion, IsSettled}
use Rattle.mm_gc.proofs.Regions.Changed.{heap-stays, stays-heap, keeps-heap}

-- the room of areas is the same whatever their words
pub area_pieces-same : (raw other : List (Option ℕ)) (number : ℕ) (areas : List (Option AreaShape))
    → map piece_of_area (views_from other number areas) ≡ map piece_of_area (views_from raw number areas)
area_pieces-same raw other number [] = refl
area_pieces-same raw other number (None ∷ areas) = area_pieces-same raw other (number + 1) areas
area_pieces-same raw other number (Some area ∷ areas) =
    ap (λ (pieces : List Piece). record { base = area.base; extent = area.extent; family = Areas } ∷ pieces)
    (area_pieces-same raw other (number + 1) areas)

module _ (r : Region) (heap : Heap) (same : heap ≡ record r.heap { objects = heap.objects; raw = heap.raw })
    (room : pieces_of_objects (views_of heap.objects) ≡ pieces_of_objects (objects_in r)) (sound : IsSound heap) where
  runs-same : heap.runs ≡ r.heap.runs
  runs-same = ap (λ (h : Heap). h.runs) same

  pub keeps-rewritten : KeepsRegion r → KeepsRegion (record r { heap = heap })
  keeps-rewritten keeps =
      keeps-heap r heap r.pages keeps
      (stays-heap r heap r.pages (heap-stays r.heap heap heap.objects r.heap.runs heap.raw same) refl) sound
      keeps.sound.pages
      (record {
        parked = subst (λ (runs : List ℕ). AreParked runs r.pages) (sym runs-same) keeps.placed.heap.parked;
        memory = omega (arith, keeps.placed.heap.memory, ap (λ (h : Heap). h.size) same);
      })
      keeps.placed.areas
      (λ page. omega (arith, keeps.placed.all_parked page, ap (λ (l : List ℕ). slice_index l page) runs-same))

  pub needed-rewritten : pages_needed (record r { heap = heap }) ≡ pages_needed r
  needed-rewritten =
      ap (λ (areas : List Piece). fold page_end r.least (areas ++ pieces_of_objects (views_of heap.objects)))
      (area_pieces-same r.heap.raw heap.raw 0 r.areas.areas)
      ∙ ap (λ (objects : List Piece). fold page_end r.least (map piece_of_area (areas_in r) ++ objects)) room

  pub settled-rewritten : IsSettled r → IsSettled (record r { heap = heap })
  settled-rewritten settled = record {
    keeps = keeps-rewritten settled.keeps;
    size = ap (λ (h : Heap). h.size) same ∙ settled.size ∙ sym needed-rewritten;
  }
