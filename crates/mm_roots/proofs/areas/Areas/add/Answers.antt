use Rattle.std.proofs.Common.{◌≡◌, ◌+◌, ◌/◌, ◌<◌, ◌≤◌, ℕ, Bool, false, List, Option, Some, None, set}
use Rattle.std.proofs.Common.{refl, sym, ap, ◌∙◌, subst, arith}
use Rattle.std.specs.Prelude.{is_some}
use Rattle.std.specs.List.{count_by}
use Rattle.mm_model.specs.Places.SizeClass.{size_of, extent_of, extent_of_size, area_bytes}
use Rattle.mm_model.specs.declared.object.Size.{Size}
use Rattle.mm_model.specs.Views.ViewEffect.{new_area_view, view_area_inserted}
use Rattle.mm_pages.specs.Pages.{Pages, IsSoundHeap}
use Rattle.mm_pages.specs.Parked.{AreParked, HaveNoCommonRun, AreAllParked}
use Rattle.mm_object.specs.Heap.{Heap, FitsHeap}
use Rattle.mm_model.specs.Views.ByBase.{Begins, with_entry}
use Rattle.mm_fixed.specs.Fixed.{Fixed, block_parked, IsSoundFixed, HasNoBlockAt}
use Rattle.mm_fixed.specs.Placing.{IsPlaceForBlock}
use Rattle.mm_roots.specs.declared.area_shape.AreaShape.{AreaShape}
use Rattle.mm_roots.specs.Areas.{Areas, with_area, over, live_areas, placed_at, IsAreaShape, IsSoundAreas}
use Rattle.mm_roots.specs.Areas.{IsLowestNumber}
use Rattle.mm_roots.specs.Areas.{IsBeside, OwnsAll}
use Rattle.mm_roots.specs.Kept.{AreaRows, areas_of}
use Rattle.mm_roots.specs.Views.{views_from, views_of_areas}
use Rattle.mm_roots.proofs.Added.{old-views, new-words}
use Rattle.mm_roots.proofs.Blocks.{raw-block, beside-raw, FitsHeap-raw, HaveNoCommonRun-beside}
use Rattle.mm_roots.proofs.Counts.{count-full, count-free, count-entered}
use Rattle.mm_roots.proofs.Kept.{IsBeside-parked}
use Rattle.mm_roots.proofs.Numbers.{free_number_in-lowest}
use Rattle.mm_roots.proofs.Sound.{IsNewBlock, added-sound, added-owns}
use Rattle.mm_roots.proofs.Views.{length-views_from, views_from-entered}
use Rattle.mm_roots.proofs.areas.Areas.add.Goals as goal

pub returns-in-None-clause-cause : goal.returns-in-None-clause-cause
returns-in-None-clause-cause g c =
    let i = c.self.inside in
    let entries = c.self.invariant.sound.entries in
    ap live_areas (sym c.self.view_is)
    ∙ count-full i.table.areas (λ number within. c.in-None.ensures number (omega (arith, within, entries))) ∙ entries

pub returns-in-None-clause-live : goal.returns-in-None-clause-live
returns-in-None-clause-live g c = λ raw. sym (length-views_from raw 0 c.args.self.now.areas)

pub returns-in-Err-clause-cause : goal.returns-in-Err-clause-cause
returns-in-Err-clause-cause g c =
    let i = c.self.inside in
    let entries = c.self.invariant.sound.entries in
    let free = count-free i.table.areas c.in-Some.number (omega (arith, c.in-Some.ensures.below, entries))
    c.in-Some.ensures.free in
    let live : live_areas (areas_of i.table i.fixed) < 1024 = omega (arith, free, entries) in (
      subst (λ (v : Areas). live_areas v < 1024) c.self.view_is live,
      subst (λ (v : Areas). IsPlaceForBlock v.fixed c.args.pages.now (size_of (area_bytes c.args.cells)) None)
          c.self.view_is c.in-Err.ensures.place,
    )

pub returns-in-Err-clause-live : goal.returns-in-Err-clause-live
returns-in-Err-clause-live g c = λ raw. sym (length-views_from raw 0 c.args.self.now.areas)

-- the heap fits the page heap with the new block, and the areas lie beside it
fits-new : (heap : Heap) (old new : Pages) → new.limit ≡ old.limit
    → ((runs : List ℕ) → AreParked runs old → AreParked runs new) → FitsHeap heap old → FitsHeap heap new
fits-new heap old new limit others fits =
    record { parked = others heap.runs fits.parked; memory = omega (arith, limit, fits.memory) }

beside-new : (rows new_rows : AreaRows) (before after : Fixed) (heap : Heap) (old new : Pages) → IsSoundHeap new
    → AreParked after.runs new → FitsHeap heap old → FitsHeap heap new
    → ((runs : List ℕ) → AreParked runs old → HaveNoCommonRun before.runs runs → HaveNoCommonRun after.runs runs)
    → IsBeside (areas_of rows before) heap → IsBeside (areas_of new_rows after) heap
beside-new rows new_rows before after heap old new sound parked fits new_fits apart beside =
    IsBeside-parked (areas_of new_rows after) heap new sound parked new_fits
    (apart heap.runs fits.parked (HaveNoCommonRun-beside before.runs heap.runs beside.apart))

pub clear_cells-requires-clause-raw : goal.clear_cells-requires-clause-raw
clear_cells-requires-clause-raw g c = λ s within.
    let heap = c.args.heap.now in
    let i = c.self.inside in
    let new = c.in-Ok.ensures in
    let there = new.there in
    let fits = fits-new heap c.args.pages.now c.place_block.new.pages (ap (λ (v : Pages). v.limit) new.heap) new.others
    c.requires.fits in
    let beside = beside-new i.table i.table i.fixed c.place_block.new.fixed heap c.args.pages.now
    c.place_block.new.pages new.heap_sound new.parked c.requires.fits fits new.apart
    (subst (λ (v : Areas). IsBeside v heap) (sym c.self.view_is) c.requires.beside) in
    raw-block (areas_of i.table c.place_block.new.fixed) heap new.sound c.size.ensures.sound beside c.in-Ok.base
    (block_parked (extent_of (area_bytes c.args.cells))) there (c.in-Ok.base / 4 + s) (omega (arith, there.aligned))
    (omega (arith, there.aligned, new.enough, within))

-- the extent is that of the bytes of the cells
extent_is : (extent : ℕ) (size : Size) (cells : ℕ) → extent ≡ extent_of_size size → size ≡ size_of (area_bytes cells)
    → extent ≡ extent_of (area_bytes cells)
extent_is extent size cells is sized = is ∙ ap extent_of_size sized

shape-allowed : (scanned : Bool) (counted cells base : ℕ) → counted ≤ cells → 1 ≤ cells → cells ≤ 1048575
    → (scanned ≡ false → counted ≡ 0) → IsAreaShape (placed_at scanned counted cells base)
shape-allowed scanned counted cells base few some most raw =
    record { counted = few; some = some; most = most; raw = raw; extent = refl }

new-block : (before after : Fixed) (base extent : ℕ) → IsSoundFixed after
    → Begins after.blocks base (block_parked extent) → HasNoBlockAt before base
    → after.blocks ≡ with_entry base (Some (block_parked extent)) before.blocks
    → IsNewBlock before after base (block_parked extent)
new-block before after base extent sound there vacant entries =
    record { sound = sound; there = there; vacant = vacant; entries = entries }

-- the rows with the new area
entered : (rows new : AreaRows) (number : ℕ) (area shape : AreaShape) → area ≡ shape
    → new.areas ≡ set rows.areas number (Some area) → new.areas ≡ set rows.areas number (Some shape)
entered rows new number area shape same is = is ∙ ap (λ (a : AreaShape). set rows.areas number (Some a)) same

rows-added : (rows new : AreaRows) (fixed after : Fixed) (number : ℕ) (area : AreaShape)
    → new.location ≡ rows.location → new.areas ≡ set rows.areas number (Some area)
    → with_area (over after (areas_of rows fixed)) number (Some area) ≡ areas_of new after
rows-added rows new fixed after number area location areas = cc

placed_is : (scanned : Bool) (counted cells base extent : ℕ) → extent ≡ extent_of (area_bytes cells)
    → ◌≡◌ {A = AreaShape}
    (record { scanned = scanned; counted = counted; cells = cells; base = base; extent = extent })
    (placed_at scanned counted cells base)
placed_is scanned counted cells base extent is =
    ap (λ (n : ℕ). record (placed_at scanned counted cells base) { extent = n }) is

pub invariant_of-self-2 : goal.invariant_of-self-2
invariant_of-self-2 g c =
    let i = c.self.inside in
    let shape = placed_at c.args.scanned c.args.counted c.args.cells c.in-Ok.base in
    let areas = entered i.table c.enter.new.self c.in-Some.number _ shape
    (placed_is c.args.scanned c.args.counted c.args.cells c.in-Ok.base c.extent_of.result
    (extent_is c.extent_of.result c.class_of.result c.args.cells c.extent_of.ensures.value c.class_of.ensures.value))
    c.enter.ensures.areas in
    let new = c.in-Ok.ensures in
    let more = count-entered i.table.areas c.in-Some.number shape
    (omega (arith, c.in-Some.ensures.below, c.self.invariant.sound.entries)) c.in-Some.ensures.free in
    let counts = ap (λ (entries : List (Option AreaShape)). count_by is_some entries) areas in
    record {
      sound = subst IsSoundAreas
          (rows-added i.table c.enter.new.self i.fixed c.place_block.new.fixed c.in-Some.number shape
          c.enter.ensures.location areas)
          (added-sound (areas_of i.table i.fixed) c.self.invariant.sound c.place_block.new.fixed c.in-Some.number shape
          c.in-Some.ensures.below c.in-Some.ensures.free
          (shape-allowed c.args.scanned c.args.counted c.args.cells c.in-Ok.base c.requires.counted c.requires.some
          c.requires.most c.requires.raw)
          (new-block i.fixed c.place_block.new.fixed c.in-Ok.base (extent_of (area_bytes c.args.cells)) new.sound
          new.there new.was_free (ap (λ (v : Fixed). v.blocks) new.taken)));
      live = omega (arith, more, counts, c.self.invariant.live);
    }

pub returns-clause-sound : goal.returns-clause-sound
returns-clause-sound g c = (invariant_of-self-2 g c).sound

pub returns-clause-owns : goal.returns-clause-owns
returns-clause-owns g c = λ owns.
    let i = c.self.inside in
    let shape = placed_at c.args.scanned c.args.counted c.args.cells c.in-Ok.base in
    let areas = entered i.table c.enter.new.self c.in-Some.number _ shape
    (placed_is c.args.scanned c.args.counted c.args.cells c.in-Ok.base c.extent_of.result
    (extent_is c.extent_of.result c.class_of.result c.args.cells c.extent_of.ensures.value c.class_of.ensures.value))
    c.enter.ensures.areas in
    let new = c.in-Ok.ensures in
    subst OwnsAll
    (rows-added i.table c.enter.new.self i.fixed c.place_block.new.fixed c.in-Some.number shape
    c.enter.ensures.location areas)
    (added-owns (areas_of i.table i.fixed) c.self.invariant.sound c.place_block.new.fixed c.in-Some.number shape
    c.in-Some.ensures.below c.in-Some.ensures.free
    (shape-allowed c.args.scanned c.args.counted c.args.cells c.in-Ok.base c.requires.counted c.requires.some
    c.requires.most c.requires.raw)
    (new-block i.fixed c.place_block.new.fixed c.in-Ok.base (extent_of (area_bytes c.args.cells)) new.sound new.there
    new.was_free (ap (λ (v : Fixed). v.blocks) new.taken))
    (subst OwnsAll (sym c.self.view_is) owns))

pub returns-clause-views : goal.returns-clause-views
returns-clause-views g c =
    let i = c.self.inside in
    let a = areas_of i.table i.fixed in
    let number = c.in-Some.number in
    let base = c.in-Ok.base in
    let shape = placed_at c.args.scanned c.args.counted c.args.cells base in
    let raw = c.clear_cells.new.heap.raw in
    let areas = entered i.table c.enter.new.self number _ shape
    (placed_is c.args.scanned c.args.counted c.args.cells base c.extent_of.result
    (extent_is c.extent_of.result c.class_of.result c.args.cells c.extent_of.ensures.value c.class_of.ensures.value))
    c.enter.ensures.areas in
    let new = c.in-Ok.ensures in
    let block = new-block i.fixed c.place_block.new.fixed base (extent_of (area_bytes c.args.cells)) new.sound new.there
    new.was_free (ap (λ (v : Fixed). v.blocks) new.taken) in
    let words = new-words a c.self.invariant.sound c.place_block.new.fixed base c.args.cells block c.args.heap.now
    c.clear_cells.new.heap c.clear_cells.ensures.cleared in
    ap (views_from raw 0) areas
    ∙ views_from-entered raw 0 number number i.table.areas shape
    (omega (arith, c.in-Some.ensures.below, c.self.invariant.sound.entries)) c.in-Some.ensures.free (omega arith)
    ∙ ap (λ (ws : List ℕ). view_area_inserted
    (record (new_area_view number base c.args.scanned c.args.counted c.args.cells) { words = ws })
    (views_from raw 0 i.table.areas)) words
    ∙ ap (view_area_inserted (new_area_view number base c.args.scanned c.args.counted c.args.cells))
    (old-views a c.self.invariant.sound c.place_block.new.fixed base c.args.cells block c.args.heap.now
    c.clear_cells.new.heap c.clear_cells.ensures.cleared
    ∙ ap (λ (v : Areas). views_of_areas v c.args.heap.now.raw) c.self.view_is)

pub returns-clause-number : goal.returns-clause-number
returns-clause-number g c = λ raw.
    let lowest = c.in-Some.ensures in
    free_number_in-lowest c.args.self.now raw c.in-Some.number
    (subst (λ (v : Areas). IsLowestNumber v c.in-Some.number) c.self.view_is
    (record { below = lowest.below; free = lowest.free; lowest = lowest.lowest }))

pub returns-clause-live : goal.returns-clause-live
returns-clause-live g c = λ raw. sym (length-views_from raw 0 c.args.self.now.areas)

pub returns-clause-fits : goal.returns-clause-fits
returns-clause-fits g c =
    let new = c.in-Ok.ensures in
    FitsHeap-raw c.args.heap.now c.clear_cells.new.heap c.place_block.new.pages c.clear_cells.ensures.cleared.same
    (fits-new c.args.heap.now c.args.pages.now c.place_block.new.pages (ap (λ (v : Pages). v.limit) new.heap) new.others
    c.requires.fits)

pub returns-clause-beside : goal.returns-clause-beside
returns-clause-beside g c =
    let heap = c.args.heap.now in
    let i = c.self.inside in
    let new = c.in-Ok.ensures in
    let fits = fits-new heap c.args.pages.now c.place_block.new.pages (ap (λ (v : Pages). v.limit) new.heap) new.others
    c.requires.fits in
    beside-raw (areas_of c.enter.new.self c.place_block.new.fixed) heap c.clear_cells.new.heap
    c.clear_cells.ensures.cleared.same
    (beside-new i.table c.enter.new.self i.fixed c.place_block.new.fixed heap c.args.pages.now c.place_block.new.pages
    new.heap_sound new.parked c.requires.fits fits new.apart
    (subst (λ (v : Areas). IsBeside v heap) (sym c.self.view_is) c.requires.beside))

pub returns-clause-all_parked : goal.returns-clause-all_parked
returns-clause-all_parked g c = λ others parked.
    c.in-Ok.ensures.all_parked others
    (subst (λ (v : Areas). AreAllParked v.fixed.runs others c.args.pages.now) (sym c.self.view_is) parked)
