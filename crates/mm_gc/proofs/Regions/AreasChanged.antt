-- A region in which an area was made or taken away.
use Rattle.std.proofs.Common.{◌≡◌, ◌≢◌, ℕ, ◌<◌, List, Option, Some, None, set, slice_index}
use Rattle.std.proofs.Common.{refl, sym, ap, ◌∙◌, subst, arith}
use Rattle.std.specs.Prelude.{Err, not, ◌==◌, ◌/◌, unwrap_or, slice_set}
use Rattle.std.specs.List.{filter}
use Rattle.std.proofs.lemmas.List.{set-get_or}
use Rattle.mm_model.specs.Areas.{most_areas}
use Rattle.mm_model.specs.Places.SizeClass.{size_of, area_bytes}
use Rattle.mm_model.specs.Views.View.{View, AreaView}
use Rattle.mm_model.specs.Views.ViewEffect.{view_free_number}
use Rattle.mm_pages.specs.Pages.{Pages, IsSoundHeap, with_parked}
use Rattle.mm_pages.specs.Parked.{AreParked, AreAllParked}
use Rattle.mm_cells.specs.Cells.{Cells}
use Rattle.mm_cells.specs.Placing.{LeavesPage, Page_stays, Page_goes}
use Rattle.mm_object.specs.Heap.{Heap, IsSound, FitsHeap}
use Rattle.mm_fixed.specs.Fixed.{Block, Fixed, with_block}
use Rattle.mm_fixed.specs.Cells.{cells_of}
use Rattle.mm_fixed.specs.Placing.{IsPlaceForBlock}
use Rattle.mm_roots.specs.declared.area_shape.AreaShape.{AreaShape}
use Rattle.mm_roots.specs.declared.area_shape.AreaRefusal.{AreaRefusal}
use Rattle.mm_roots.specs.declared.area_shape.AreaRefusal.TheVariants.{AreasFull, NoRun, NoArea, NoSlot}
use Rattle.mm_roots.specs.Areas as areas
use Rattle.mm_roots.specs.Areas.{area_at, live_areas, with_area, over, AddCause, RemoveCause, ClearsCells}
use Rattle.mm_roots.specs.Areas.{IsSoundAreas, OwnsAll}
use Rattle.mm_roots.specs.Views.{views_of_areas, free_number_in}
use Rattle.mm_roots.proofs.Views.{views_from-left}
use Rattle.mm_gc.specs.declared.region.Region.{Region}
use Rattle.mm_gc.specs.Kept.{KeepsRegion}
use Rattle.mm_gc.proofs.Regions.Changed.{StaysBeside, heap-stays, pages-stay, keeps-changed}

pub fixed-stays : (before after : Fixed) (blocks : List (Option Block)) (runs : List ℕ)
    → after ≡ record before { blocks = blocks; runs = runs }
    → after ≡ record before { blocks = after.blocks; runs = after.runs }
fixed-stays before after blocks runs e =
    subst (λ (f : Fixed). f ≡ record before { blocks = f.blocks; runs = f.runs }) (sym e) refl

-- a page that is left changes nothing in the page heap but what is parked
pub pages-left : (before after : Cells) (heap now : Pages) (page : ℕ) → LeavesPage before after heap page now
    → now ≡ record heap { parked = now.parked }
pages-left before after heap now page (Page_stays base cell begins inside same) = refl
pages-left before after heap now page (Page_goes none same) = refl

pub some-unless : {X : Type 0} (o : Option X) → o ≢ None → (x : X) × (o ≡ Some x)
some-unless None other = absurd (other refl)
some-unless (Some x) other = (x, refl)

-- where some number is free, an area is refused for want of a place alone
pub no_place-refused : (a : areas.Areas) (heap : Pages) (cells : ℕ) (refused : AreaRefusal)
    → live_areas a < most_areas → AddCause a heap cells (Err refused)
    → IsPlaceForBlock a.fixed heap (size_of (area_bytes cells)) None
no_place-refused a heap cells AreasFull few cause = absurd (omega (arith, few, cause))
no_place-refused a heap cells NoRun few cause = cause.1
no_place-refused a heap cells NoArea few cause = absurd cause
no_place-refused a heap cells NoSlot few cause = absurd cause

pub free_number-seen : (view : View) (views : List AreaView) (number : ℕ) → view.areas ≡ views
    → free_number_in views ≡ Some number → number ≡ view_free_number view
unfolding free_number_in
free_number-seen view views number same free =
    sym (ap (λ (vs : List AreaView). unwrap_or (free_number_in vs) most_areas) same
    ∙ ap (λ (o : Option ℕ). unwrap_or o most_areas) free)

-- where no area has the number, leaving it out changes nothing
pub views-none : (a : areas.Areas) (raw : List (Option ℕ)) (number : ℕ) → area_at a number ≡ None
    → views_of_areas a raw ≡ filter (λ area. not (area.number == number)) (views_of_areas a raw)
views-none a raw number none =
    let same : set a.areas number None ≡ a.areas =
    ap (set a.areas number) (sym none) ∙ set-get_or a.areas number None in
    sym (ap (λ (entries : List (Option AreaShape)). views_of_areas (record a { areas = entries }) raw) same)
    ∙ views_from-left raw 0 number number a.areas (omega arith)

pub none-refused : (a : areas.Areas) (number : ℕ) (refused : AreaRefusal) → RemoveCause a number (Err refused)
    → area_at a number ≡ None
none-refused a number NoArea cause = cause
none-refused a number AreasFull cause = absurd cause
none-refused a number NoRun cause = absurd cause
none-refused a number NoSlot cause = absurd cause

-- what an area that is made leaves as it was
pub stays-added : (r : Region) (heap : Heap) (pages : Pages) (a : areas.Areas) (number base cells count : ℕ)
    (entry : Option AreaShape) (blocks : List (Option Block)) (runs : List ℕ)
    → a ≡ with_area (over a.fixed r.areas) number entry
    → a.fixed ≡ record r.areas.fixed { blocks = blocks; runs = runs } → ClearsCells r.heap heap base cells
    → pages ≡ with_parked r.pages (base / 4096) count
    → StaysBeside r (record r { heap = heap; pages = pages; areas = a })
stays-added r heap pages a number base cells count entry blocks runs is fixed clears parked = record {
  arena = refl;
  least = refl;
  most = refl;
  heap = heap-stays r.heap heap r.heap.objects r.heap.runs heap.raw clears.same;
  pages = pages-stay r.pages pages (slice_set r.pages.parked (base / 4096) count) parked;
  table = ap (λ (x : areas.Areas). x.table) is;
  fixed = fixed-stays r.areas.fixed a.fixed blocks runs fixed;
}

-- what an area that is taken away leaves as it was
pub stays-removed : (r : Region) (pages : Pages) (a : areas.Areas) (number : ℕ) → area_at r.areas number ≢ None
    → a ≡ with_area (over a.fixed r.areas) number None
    → ((area : AreaShape) → area_at r.areas number ≡ Some area
    → a.fixed ≡ record (with_block r.areas.fixed area.base None) { runs = a.fixed.runs })
    → ((area : AreaShape) → area_at r.areas number ≡ Some area
    → LeavesPage (cells_of r.areas.fixed) (cells_of a.fixed) r.pages (area.base / 4096) pages)
    → StaysBeside r (record r { pages = pages; areas = a })
stays-removed r pages a number there is fixed left =
    let area = some-unless (area_at r.areas number) there in
    record {
      arena = refl;
      least = refl;
      most = refl;
      heap = refl;
      pages = pages-left (cells_of r.areas.fixed) (cells_of a.fixed) r.pages pages (area.0.base / 4096)
          (left area.0 area.1);
      table = ap (λ (x : areas.Areas). x.table) is;
      fixed = fixed-stays r.areas.fixed a.fixed (with_block r.areas.fixed area.0.base None).blocks a.fixed.runs
          (fixed area.0 area.1);
    }

module _ (r : Region) (heap : Heap) (pages : Pages) (a : areas.Areas) (keeps : KeepsRegion r)
    (stays : StaysBeside r (record r { heap = heap; pages = pages; areas = a })) where
  pub keeps-areas : heap.runs ≡ r.heap.runs → IsSound heap → IsSoundHeap pages → IsSoundAreas a
      → FitsHeap heap pages → AreParked a.fixed.runs pages → AreAllParked a.fixed.runs r.heap.runs pages → OwnsAll a
      → KeepsRegion (record r { heap = heap; pages = pages; areas = a })
  keeps-areas runs sound pages_sound areas_sound fits parked all owns =
      keeps-changed r (record r { heap = heap; pages = pages; areas = a }) stays keeps
      (record { pages = pages_sound; heap = sound; areas = areas_sound })
      (record {
        heap = fits;
        areas = parked;
        all_parked = λ page. omega (arith, all page, ap (λ (l : List ℕ). slice_index l page) runs);
        owns = owns;
      })
