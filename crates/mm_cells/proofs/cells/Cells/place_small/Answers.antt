-- A cell of a page that has room, or the first one of a fresh page.
use Rattle.std.proofs.Common.{ℕ, ◌*◌, ◌/◌, set, slice_index, List, refl, arith, sym, ◌∙◌, ap, subst}
use Rattle.std.specs.Prelude.{Some}
use Rattle.mm_model.specs.Places.Lowest.{IsLowest, IsNowhere, Of_first, Of_second}
use Rattle.mm_pages.specs.Parked.{AreParked, AreAllParked}
use Rattle.mm_cells.specs.declared.page_use.PageUse.TheVariants.{Class}
use Rattle.mm_cells.specs.Cells.{Cells, newly_taken, with_cell, with_run, IsSoundCells}
use Rattle.mm_cells.specs.Kept.{class_size, cells_of}
use Rattle.mm_cells.specs.Placing.{IsFreeCell}
use Rattle.mm_cells.proofs.Region.PageCells.{IsLowestRoom-class, IsNowhere-none}
use Rattle.mm_cells.proofs.Region.Parking.{with_run-there, with_parked-there, run-seen, run-parked, runs-seen}
use Rattle.mm_cells.proofs.Region.Parking.{seen-unused}
use Rattle.mm_cells.proofs.Region.Parking.{IsLowest-run, IsNowhere-run}
use Rattle.mm_cells.proofs.Region.Places.{IsOpen, seen-sound, open-cell, open-page, begins-placed, was-free}
use Rattle.mm_cells.proofs.Region.Places.{parked-below, AreAllParked-taken}
use Rattle.mm_cells.proofs.Region.Soundness.{IsSoundCells-kept}
use Rattle.mm_cells.proofs.cells.Cells.place_small.Given.{Over}
use Rattle.mm_cells.proofs.cells.Cells.place_small.Goals as goal

pub take_fresh_page-requires-clause-within : goal.take_fresh_page-requires-clause-within
take_fresh_page-requires-clause-within g c =
    omega (
      arith,
      runs-seen c.self.inside.table c.args.self.now c.self.view_is,
      c.requires.parked.pages,
      c.in-Ok.ensures.within,
    )

pub take_fresh_page-requires-clause-unused : goal.take_fresh_page-requires-clause-unused
take_fresh_page-requires-clause-unused g c =
    seen-unused c.self.inside.table c.args.self.now c.in-Ok.page c.self.view_is c.self.invariant
    (take_fresh_page-requires-clause-within g c)
    (c.in-Ok.ensures.vacant c.args.self.now.runs c.requires.parked c.in-Ok.page (omega arith) (omega arith))

pub prove-unreachable-requires : goal.prove-unreachable-requires
prove-unreachable-requires g c =
    let used = IsLowestRoom-class c.self.inside.table c.args.class c.in-Some.page c.self.invariant c.requires.class
    c.in-Some.ensures in
    let there = run-parked c.self.inside.table c.args.self.now c.args.pages.now c.in-Some.page (Class c.args.class)
    c.self.view_is c.in-Some.ensures.within used.0 (omega arith) c.requires.parked in
    let below = parked-below c.args.pages.now c.in-Some.page c.limit.ensures.sound (omega (arith, there)) in
    absurd (omega (arith, c.if-prove.true, below, c.limit.ensures.value))

pub returns-in-Some-clause-place : goal.returns-in-Some-clause-place
returns-in-Some-clause-place g c =
    Of_first c.take_cell.result refl
    (subst (λ (v : Cells). IsLowest (IsFreeCell v (class_size c.args.class)) c.take_cell.result) c.self.view_is
    c.take_cell.ensures.lowest)

pub returns-in-Some-clause-taken : goal.returns-in-Some-clause-taken
returns-in-Some-clause-taken g c =
    let base : ℕ = c.take_cell.result in
    let cell = newly_taken (class_size c.args.class) c.args.colour in
    let now : Cells = with_cell c.args.self.now base (Some cell) in
    let there = run-seen c.self.inside.table c.args.self.now c.in-Some.page (Class c.args.class) c.self.view_is
    c.in-Some.ensures.within c.take_cell.ensures.used in
    c.take_cell.ensures.taken ∙ ap (λ (v : Cells). with_cell v base (Some cell)) c.self.view_is
    ∙ sym (with_run-there now (base / 4096) 1 (omega arith)
    (ap (λ (p : ℕ). slice_index now.runs p) c.take_cell.ensures.here ∙ there))

pub returns-in-Some-clause-begins : goal.returns-in-Some-clause-begins
returns-in-Some-clause-begins g c =
    let place = open-cell c.args.self.now (class_size c.args.class) c.take_cell.result
    (seen-sound c.self.inside.table c.args.self.now c.self.view_is c.self.invariant)
    (subst (λ (v : Cells). IsFreeCell v (class_size c.args.class) c.take_cell.result) c.self.view_is
    c.take_cell.ensures.lowest.is) in
    begins-placed c.args.self.now (cells_of c.take_cell.new.table) c.take_cell.result (c.take_cell.result / 4096) 1
    (newly_taken (class_size c.args.class) c.args.colour) place (returns-in-Some-clause-taken g c)

pub returns-in-Some-clause-was_free : goal.returns-in-Some-clause-was_free
returns-in-Some-clause-was_free g c =
    was-free c.args.self.now c.take_cell.result (open-cell c.args.self.now (class_size c.args.class) c.take_cell.result
    (seen-sound c.self.inside.table c.args.self.now c.self.view_is c.self.invariant)
    (subst (λ (v : Cells). IsFreeCell v (class_size c.args.class) c.take_cell.result) c.self.view_is
    c.take_cell.ensures.lowest.is))

pub returns-in-Some-clause-all_parked : goal.returns-in-Some-clause-all_parked
returns-in-Some-clause-all_parked g c = λ others all.
    subst (λ (runs : List ℕ). AreAllParked runs others c.args.pages.now)
    (sym (ap (λ (w : Cells). w.runs) c.take_cell.ensures.taken ∙ ap (λ (w : Cells). w.runs) c.self.view_is)) all

pub returns-in-Some-clause-heap : goal.returns-in-Some-clause-heap
returns-in-Some-clause-heap g c =
    let there = run-parked c.self.inside.table c.args.self.now c.args.pages.now c.in-Some.page (Class c.args.class)
    c.self.view_is c.in-Some.ensures.within c.take_cell.ensures.used (omega arith) c.requires.parked in
    sym (with_parked-there c.args.pages.now (c.take_cell.result / 4096) 1 (omega arith)
    (ap (λ (p : ℕ). slice_index c.args.pages.now.parked p) c.take_cell.ensures.here ∙ there))

pub returns-in-Some-clause-sound : goal.returns-in-Some-clause-sound
returns-in-Some-clause-sound g c = IsSoundCells-kept c.take_cell.new.table c.take_cell.ensures.kept

pub returns-in-Ok-clause-place : goal.returns-in-Ok-clause-place
returns-in-Ok-clause-place g c =
    Of_second
    (subst (λ (v : Cells). IsNowhere (IsFreeCell v (class_size c.args.class))) c.self.view_is
    (IsNowhere-none c.self.inside.table c.args.class c.self.invariant c.requires.class c.in-None.ensures))
    (IsLowest-run c.args.pages.now c.in-Ok.page 1 (4096 * c.in-Ok.page) refl c.in-Ok.ensures.lowest)

-- its page is free
place-fresh : (g : Over) (c : goal.After-take_fresh_page g) → IsOpen c.args.self.now (4096 * c.in-Ok.page)
place-fresh g c =
    let sound = seen-sound c.self.inside.table c.args.self.now c.self.view_is c.self.invariant in
    open-page c.args.self.now c.args.pages.now c.in-Ok.page 1 sound c.requires.parked (omega arith)
    c.in-Ok.ensures.lowest.free (omega (arith, sound.runs_size, c.requires.parked.pages, c.in-Ok.ensures.within))

pub returns-in-Ok-clause-begins : goal.returns-in-Ok-clause-begins
returns-in-Ok-clause-begins g c =
    let cell = newly_taken (class_size c.args.class) c.args.colour in
    begins-placed c.args.self.now (cells_of c.take_fresh_page.new.table) (4096 * c.in-Ok.page) c.in-Ok.page 1 cell
    (place-fresh g c)
    (c.take_fresh_page.ensures.taken
    ∙ ap (λ (v : Cells). with_run (with_cell v (4096 * c.in-Ok.page) (Some cell)) c.in-Ok.page 1) c.self.view_is)

pub returns-in-Ok-clause-was_free : goal.returns-in-Ok-clause-was_free
returns-in-Ok-clause-was_free g c = was-free c.args.self.now (4096 * c.in-Ok.page) (place-fresh g c)

pub returns-in-Ok-clause-all_parked : goal.returns-in-Ok-clause-all_parked
returns-in-Ok-clause-all_parked g c = λ others all.
    subst (λ (runs : List ℕ). AreAllParked runs others c.park_lowest.new.self)
    (sym (ap (λ (w : Cells). w.runs) c.take_fresh_page.ensures.taken
    ∙ ap (λ (w : Cells). set w.runs c.in-Ok.page 1) c.self.view_is))
    (AreAllParked-taken c.args.self.now.runs others c.args.pages.now c.park_lowest.new.self c.in-Ok.page 1 (omega arith)
    c.in-Ok.ensures.lowest.free c.in-Ok.ensures.within c.requires.parked c.park_lowest.ensures.sound
    c.in-Ok.ensures.parked all)

pub returns-in-Ok-clause-parked : goal.returns-in-Ok-clause-parked
returns-in-Ok-clause-parked g c =
    subst (λ (runs : List ℕ). AreParked runs c.park_lowest.new.self)
    (sym (ap (λ (w : Cells). w.runs) c.take_fresh_page.ensures.taken
    ∙ ap (λ (w : Cells). set w.runs c.in-Ok.page 1) c.self.view_is))
    (c.in-Ok.ensures.fits c.args.self.now.runs c.requires.parked)

pub returns-in-Ok-clause-sound : goal.returns-in-Ok-clause-sound
returns-in-Ok-clause-sound g c = IsSoundCells-kept c.take_fresh_page.new.table c.take_fresh_page.ensures.kept

pub returns-in-Err-clause-place : goal.returns-in-Err-clause-place
returns-in-Err-clause-place g c =
    Of_second
    (subst (λ (v : Cells). IsNowhere (IsFreeCell v (class_size c.args.class))) c.self.view_is
    (IsNowhere-none c.self.inside.table c.args.class c.self.invariant c.requires.class c.in-None.ensures))
    (IsNowhere-run c.args.pages.now 1 c.in-Err.ensures.none)

pub returns-in-Err-clause-sound : goal.returns-in-Err-clause-sound
returns-in-Err-clause-sound g c =
    subst IsSoundCells c.self.view_is (IsSoundCells-kept c.self.inside.table c.self.invariant)
