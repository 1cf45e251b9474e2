-- The runs of objects and of areas are all that is parked, so that no run is left once both are gone.
use Rattle.std.proofs.Common.{sym, ap, ◌∙◌, subst}
use Rattle.std.specs.Prelude.{slice_index}
use Rattle.mm_pages.specs.Pages.{Pages}
use Rattle.mm_cells.specs.Cells.{Cells, HasNoCell}
use Rattle.mm_fixed.specs.Fixed.{Fixed, HasNoBlock}
use Rattle.mm_fixed.proofs.Left.{AreAllParked-swap}
use Rattle.mm_gc.proofs.Frees.Emptied.{no-block, no-run}
use Rattle.mm_gc.proofs.closing.close_region.Goals as goal

pub remove_all-requires : goal.remove_all-requires
remove_all-requires g c =
    let placed = c.requires.keeps.placed in
    let beside = c.erase_all.ensures.parked c.args.region.areas.fixed.runs (record {
      fits = placed.heap;
      others_parked = placed.areas;
      all_parked = placed.all_parked;
    }) in
    beside.others_parked

pub close-requires : goal.close-requires
close-requires g c =
    let areas = c.args.region.areas in
    let heap = c.erase_all.new.heap in
    let placed = c.requires.keeps.placed in
    let beside = c.erase_all.ensures.parked areas.fixed.runs (record {
      fits = placed.heap;
      others_parked = placed.areas;
      all_parked = placed.all_parked;
    }) in
    let none = no-block c.remove_all.new.areas (c.remove_all.ensures.owns placed.owns) c.remove_all.ensures.none in
    no-run c.remove_all.new.pages heap c.remove_all.new.areas c.erase_all.ensures.sound c.erase_all.ensures.none
    c.remove_all.ensures.sound none
    (c.remove_all.ensures.all_parked heap.runs
    (AreAllParked-swap heap.runs areas.fixed.runs c.erase_all.new.pages beside.all_parked))
    (λ page.
    ap (λ (v : Pages). slice_index v.out page) c.remove_all.ensures.pages
    ∙ ap (λ (v : Pages). slice_index v.out page) c.erase_all.ensures.pages ∙ placed.none_out page)

pub close-requires-2 : goal.close-requires-2
close-requires-2 g c =
    subst (λ (v : Cells). HasNoCell v) (sym c.close-memory.ensures.cells) c.erase_all.ensures.none

pub close-requires-3 : goal.close-requires-3
close-requires-3 g c =
    subst (λ (v : Fixed). HasNoBlock v) (sym c.close-table.ensures.fixed)
    (no-block c.remove_all.new.areas (c.remove_all.ensures.owns c.requires.keeps.placed.owns)
    c.remove_all.ensures.none)
