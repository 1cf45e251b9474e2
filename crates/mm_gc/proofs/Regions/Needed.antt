-- How many pages a region needs, and that it has no more than it may have.
use Rattle.std.proofs.Common.{◌≡◌, ℕ, ◌-◌, ◌<◌, ◌≤◌, max, List, ◌++◌, map, sym, ap, ◌∙◌, arith}
use Rattle.std.specs.List.{fold}
use Rattle.mm_model.specs.Places.Place.{page_end}
use Rattle.mm_model.specs.Views.ObjectView.{pieces_of_objects}
use Rattle.mm_model.specs.Views.View.{AreaView}
use Rattle.mm_model.specs.Views.ViewWords.{piece_of_area}
use Rattle.mm_pages.specs.Pages.{IsHighestUsed, EndsBy}
use Rattle.mm_object.specs.Object.{StoredObjects, views_of}
use Rattle.mm_object.specs.Heap as objects
use Rattle.mm_object.specs.Heap.{cells_in}
use Rattle.mm_fixed.specs.Cells.{cells_of}
use Rattle.mm_gc.specs.declared.region.Region.{Region}
use Rattle.mm_gc.specs.Gc.{objects_in, areas_in, pieces_in, pages_needed}
use Rattle.mm_gc.specs.Kept.{KeepsRegion}
use Rattle.mm_gc.specs.Regions.{IsSameInside}
use Rattle.mm_gc.proofs.Placing.Contained.{piece-inside}
use Rattle.mm_gc.proofs.Placing.Ends.{end-least, end-most, region_end, ends_by_end, objects_end}
use Rattle.mm_gc.proofs.Regions.Shown.{region-shown}

module _ (r : Region) (keeps : KeepsRegion r) where
  pub needed-least : r.least ≤ pages_needed r
  needed-least = end-least r.least (pieces_in r)

  pub needed-most : pages_needed r ≤ r.most
  needed-most =
      let region = region-shown r keeps in
      end-most r.least (pieces_in r) r.most keeps.tables.growing
      (λ p within.
      omega (arith, (piece-inside r.pages.pages (pieces_in r) p region.placed within).to, keeps.tables.pages))

  -- it ends behind the highest page that is used
  pub needed-top : (top needed : ℕ) → 0 < top → IsHighestUsed r.pages (top - 1) → needed ≡ max r.least top
      → pages_needed r ≡ needed
  needed-top top needed some highest is =
      region_end r.pages (cells_in r.heap) (cells_of r.areas.fixed) (pieces_in r) (region-shown r keeps) top some
      highest r.least (omega (arith, keeps.tables.two))
      ∙ sym is

  pub pages-end_needed : EndsBy r.pages (pages_needed r)
  pages-end_needed =
      ends_by_end r.pages (cells_in r.heap) (cells_of r.areas.fixed) (pieces_in r) (region-shown r keeps) r.least

  pub objects-end_needed : objects.EndsBy r.heap (pages_needed r)
  objects-end_needed = objects_end r.heap (pieces_in r) r.least (region-shown r keeps).objects_are

  -- so do more pages
  pub pages-end_within : (size : ℕ) → pages_needed r ≤ size → EndsBy r.pages size
  pages-end_within size enough = record {
    out = λ p c. omega (arith, pages-end_needed.out p c, enough);
    parked = λ p c. omega (arith, pages-end_needed.parked p c, enough);
  }

  pub objects-end_within : (size : ℕ) → pages_needed r ≤ size → objects.EndsBy r.heap size
  objects-end_within size enough base object begins =
      omega (arith, objects-end_needed base object begins, enough)

-- the same objects and areas need the same room
pub pieces-same : (before after : Region) → IsSameInside before after → pieces_in after ≡ pieces_in before
pieces-same before after inside =
    ap (λ (areas : List AreaView). map piece_of_area areas ++ pieces_of_objects (objects_in after)) inside.areas
    ∙ ap (λ (objects : StoredObjects). map piece_of_area (areas_in before) ++ pieces_of_objects (views_of objects))
    inside.objects

pub needed-same : (before after : Region) → IsSameInside before after → after.least ≡ before.least
    → pages_needed after ≡ pages_needed before
needed-same before after inside least =
    ap (fold page_end after.least) (pieces-same before after inside)
    ∙ ap (λ (n : ℕ). fold page_end n (pieces_in before)) least
