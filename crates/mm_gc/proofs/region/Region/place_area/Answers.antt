use Rattle.std.proofs.Common.{arith, Some, None, sym, ap, ◌∙◌, subst}
use Rattle.mm_model.specs.Places.SizeClass.{area_bytes}
use Rattle.mm_pages.specs.Pages.{Pages}
use Rattle.mm_object.specs.Heap.{Heap, cells_in}
use Rattle.mm_fixed.specs.Cells.{cells_of}
use Rattle.mm_roots.specs.Areas as areas
use Rattle.mm_gc.specs.Gc.{areas_in, pieces_in}
use Rattle.mm_gc.specs.Kept.{KeepsRegion}
use Rattle.mm_gc.proofs.Placing.Places.{block_place}
use Rattle.mm_gc.proofs.Regions.Shown.{region-shown}
use Rattle.mm_gc.proofs.Regions.AreasChanged.{no_place-refused, free_number-seen, stays-added, keeps-areas}
use Rattle.mm_gc.proofs.region.Region.place_area.Goals as goal

pub returns-in-Ok-clause-place : goal.returns-in-Ok-clause-place
returns-in-Ok-clause-place g c =
    let r = c.args.self.now in
    block_place r.pages (cells_in r.heap) (cells_of r.areas.fixed) (pieces_in r) (region-shown r c.requires.keeps)
    (area_bytes c.args.wanted.cells) (Some c.in-Ok.area.base) c.in-Ok.ensures.cause.1

pub returns-in-Err-clause-place : goal.returns-in-Err-clause-place
returns-in-Err-clause-place g c =
    let r = c.args.self.now in
    block_place r.pages (cells_in r.heap) (cells_of r.areas.fixed) (pieces_in r) (region-shown r c.requires.keeps)
    (area_bytes c.args.wanted.cells) None
    (no_place-refused r.areas r.pages c.args.wanted.cells c.in-Err.field-0
    (omega (arith, c.add-made.ensures.live r.heap.raw, c.requires.number)) c.in-Err.ensures.cause)

pub returns-in-Ok-clause-number : goal.returns-in-Ok-clause-number
returns-in-Ok-clause-number g c = λ view same.
    free_number-seen view (areas_in c.args.self.now) c.in-Ok.area.number same
    (c.in-Ok.ensures.number c.args.self.now.heap.raw)

pub returns-in-Ok-clause-keeps : goal.returns-in-Ok-clause-keeps
returns-in-Ok-clause-keeps g c =
    let r = c.args.self.now in
    let keeps = c.requires.keeps in
    keeps-areas r c.add-made.new.heap c.add-made.new.pages c.add-made.new.self keeps
    (stays-added r c.add-made.new.heap c.add-made.new.pages c.add-made.new.self c.in-Ok.area.number c.in-Ok.area.base
    c.args.wanted.cells _ _ _ _ c.in-Ok.ensures.areas c.in-Ok.ensures.block c.in-Ok.ensures.cells
    c.in-Ok.ensures.pages)
    (ap (λ (h : Heap). h.runs) c.in-Ok.ensures.cells.same) c.in-Ok.ensures.heap_sound
    (c.add-made.ensures.pages_sound keeps.sound.pages) c.in-Ok.ensures.sound c.in-Ok.ensures.fits c.in-Ok.ensures.parked
    (c.in-Ok.ensures.all_parked r.heap.runs (λ page. omega (arith, keeps.placed.all_parked page)))
    (c.in-Ok.ensures.owns keeps.placed.owns)

pub returns-in-Err-clause-keeps : goal.returns-in-Err-clause-keeps
returns-in-Err-clause-keeps g c =
    let r = c.args.self.now in
    let same = ap (λ (p : Pages). record r { pages = p; heap = c.add-made.new.heap; areas = c.add-made.new.self })
    c.in-Err.ensures.unchanged.2
    ∙ ap (λ (h : Heap). record r { heap = h; areas = c.add-made.new.self }) c.in-Err.ensures.unchanged.1
    ∙ ap (λ (a : areas.Areas). record r { areas = a }) c.in-Err.ensures.unchanged.0 in
    subst KeepsRegion (sym same) c.requires.keeps
