-- The lowest run of so many pages.
use Rattle.std.proofs.Common.{ℕ, ◌*◌, set, List, refl, arith, sym, ◌∙◌, ap, subst}
use Rattle.std.specs.Prelude.{Some}
use Rattle.mm_pages.specs.Parked.{AreParked, AreAllParked}
use Rattle.mm_cells.specs.Cells.{Cells, newly_taken, with_cell, with_run, IsSoundCells}
use Rattle.mm_cells.specs.Kept.{cells_of}
use Rattle.mm_cells.proofs.Region.Parking.{runs-seen, seen-unused, IsLowest-run}
use Rattle.mm_cells.proofs.Region.Places.{IsOpen, seen-sound, open-page, begins-placed, was-free, AreAllParked-taken}
use Rattle.mm_cells.proofs.Region.Soundness.{IsSoundCells-kept}
use Rattle.mm_cells.proofs.cells.Cells.place_whole.Given.{Over}
use Rattle.mm_cells.proofs.cells.Cells.place_whole.Goals as goal

pub take_pages-requires-clause-within : goal.take_pages-requires-clause-within
take_pages-requires-clause-within g c =
    omega (
      arith,
      runs-seen c.self.inside.table c.args.self.now c.self.view_is,
      c.requires.parked.pages,
      c.in-Ok.ensures.within,
    )

pub take_pages-requires-clause-unused : goal.take_pages-requires-clause-unused
take_pages-requires-clause-unused g c = λ page from to.
    seen-unused c.self.inside.table c.args.self.now page c.self.view_is c.self.invariant
    (omega (arith, take_pages-requires-clause-within g c))
    (c.in-Ok.ensures.vacant c.args.self.now.runs c.requires.parked page from to)

pub returns-in-Ok-clause-place : goal.returns-in-Ok-clause-place
returns-in-Ok-clause-place g c =
    IsLowest-run c.args.pages.now c.in-Ok.first c.args.count (4096 * c.in-Ok.first) refl c.in-Ok.ensures.lowest

-- its pages are free
place-fresh : (g : Over) (c : goal.After-take_pages g) → IsOpen c.args.self.now (4096 * c.in-Ok.first)
place-fresh g c =
    let sound = seen-sound c.self.inside.table c.args.self.now c.self.view_is c.self.invariant in
    open-page c.args.self.now c.args.pages.now c.in-Ok.first c.args.count sound c.requires.parked
    (omega (arith, c.requires.some)) c.in-Ok.ensures.lowest.free
    (omega (arith, c.requires.some, sound.runs_size, c.requires.parked.pages, c.in-Ok.ensures.within))

pub returns-in-Ok-clause-begins : goal.returns-in-Ok-clause-begins
returns-in-Ok-clause-begins g c =
    let cell = newly_taken (4096 * c.args.count) c.args.colour in
    begins-placed c.args.self.now (cells_of c.take_pages.new.table) (4096 * c.in-Ok.first) c.in-Ok.first c.args.count
    cell (place-fresh g c)
    (c.take_pages.ensures.taken
    ∙ ap (λ (v : Cells). with_run (with_cell v (4096 * c.in-Ok.first) (Some cell)) c.in-Ok.first c.args.count)
    c.self.view_is)

pub returns-in-Ok-clause-was_free : goal.returns-in-Ok-clause-was_free
returns-in-Ok-clause-was_free g c = was-free c.args.self.now (4096 * c.in-Ok.first) (place-fresh g c)

pub returns-in-Ok-clause-all_parked : goal.returns-in-Ok-clause-all_parked
returns-in-Ok-clause-all_parked g c = λ others all.
    subst (λ (runs : List ℕ). AreAllParked runs others c.park_lowest.new.self)
    (sym (ap (λ (w : Cells). w.runs) c.take_pages.ensures.taken
    ∙ ap (λ (w : Cells). set w.runs c.in-Ok.first c.args.count) c.self.view_is))
    (AreAllParked-taken c.args.self.now.runs others c.args.pages.now c.park_lowest.new.self c.in-Ok.first c.args.count
    (omega (arith, c.requires.some)) c.in-Ok.ensures.lowest.free c.in-Ok.ensures.within c.requires.parked
    c.park_lowest.ensures.sound c.in-Ok.ensures.parked all)

pub returns-in-Ok-clause-parked : goal.returns-in-Ok-clause-parked
returns-in-Ok-clause-parked g c =
    subst (λ (runs : List ℕ). AreParked runs c.park_lowest.new.self)
    (sym (ap (λ (w : Cells). w.runs) c.take_pages.ensures.taken
    ∙ ap (λ (w : Cells). set w.runs c.in-Ok.first c.args.count) c.self.view_is))
    (c.in-Ok.ensures.fits c.args.self.now.runs c.requires.parked)

pub returns-in-Ok-clause-sound : goal.returns-in-Ok-clause-sound
returns-in-Ok-clause-sound g c = IsSoundCells-kept c.take_pages.new.table c.take_pages.ensures.kept

pub returns-in-Err-clause-sound : goal.returns-in-Err-clause-sound
returns-in-Err-clause-sound g c =
    subst IsSoundCells c.self.view_is (IsSoundCells-kept c.self.inside.table c.self.invariant)
