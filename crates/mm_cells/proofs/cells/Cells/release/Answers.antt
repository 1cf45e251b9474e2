-- A cell goes, and its run where it was the last one in it.
use Rattle.std.proofs.Common.{◌≡◌, ◌+◌, ◌*◌, ◌/◌, ◌%◌, ◌<◌, inl, inr, arith, sym, ◌∙◌, ap, subst}
use Rattle.std.specs.Prelude.{None}
use Rattle.mm_cells.specs.declared.page_use.PageUse.TheVariants.{Class, First}
use Rattle.mm_cells.specs.Map.{use_at}
use Rattle.mm_cells.specs.Cells.{Cells, with_cell, with_run, IsTaken}
use Rattle.mm_cells.specs.Kept.{cells_of}
use Rattle.mm_cells.specs.Placing.{Page_stays}
use Rattle.mm_cells.proofs.Region.Empty.{rest-left}
use Rattle.mm_cells.proofs.Region.Parking.{run-parked, gone-seen, gone-seen_run, own-runs, LeavesPage-goes}
use Rattle.mm_cells.proofs.Region.Parking.{AreParked-goes}
use Rattle.mm_cells.proofs.Region.Places.{run-taken, parked-below, AreAllParked-left}
use Rattle.mm_cells.proofs.Region.Released.{IsTaken-within, IsTaken-used, IsTaken-first}
use Rattle.mm_cells.proofs.Region.Soundness.{IsSoundCells-kept}
use Rattle.mm_cells.proofs.cells.Cells.release.Goals as goal

-- the run of the cell's page ends by the limit
pub prove-unreachable-requires : goal.prove-unreachable-requires
prove-unreachable-requires g c =
    let some = run-taken c.self.inside.table c.args.self.now c.args.base c.self.view_is c.self.invariant
    c.requires.taken in
    let below = parked-below c.args.pages.now (c.args.base / 4096) c.limit.ensures.sound
    (omega (arith, some, c.requires.parked.parked (c.args.base / 4096) some)) in
    absurd (omega (arith, c.if-prove.true, below, c.limit.ensures.value))

pub use_at-page_use-requires : goal.use_at-page_use-requires
use_at-page_use-requires g c =
    IsTaken-within c.self.inside.table c.args.base c.self.invariant
    (subst (λ (v : Cells). IsTaken v c.args.base) (sym c.self.view_is) c.requires.taken)

pub free_parked-requires : goal.free_parked-requires
free_parked-requires g c =
    let within : c.args.base / 4096 < c.self.inside.table.pages =
    IsTaken-within c.self.inside.table c.args.base c.self.invariant
    (subst (λ (v : Cells). IsTaken v c.args.base) (sym c.self.view_is) c.requires.taken) in
    omega (
      arith,
      run-parked c.self.inside.table c.args.self.now c.args.pages.now (c.args.base / 4096) (Class c.in-Class.class)
          c.self.view_is within (sym c.use_at-page_use.ensures ∙ c.in-Class.is) (omega arith) c.requires.parked,
    )

pub free_parked-requires-in-First : goal.free_parked-requires-in-First
free_parked-requires-in-First g c =
    let within : c.args.base / 4096 < c.self.inside.table.pages =
    IsTaken-within c.self.inside.table c.args.base c.self.invariant
    (subst (λ (v : Cells). IsTaken v c.args.base) (sym c.self.view_is) c.requires.taken) in
    let used : use_at c.self.inside.table (c.args.base / 4096) ≡ First c.in-First.field-0 =
    sym c.use_at-page_use.ensures ∙ c.in-First.is in
    let some : 0 < c.in-First.field-0 =
    (c.self.invariant.wholes (c.args.base / 4096) c.in-First.field-0 used).some in
    omega (
      arith,
      run-parked c.self.inside.table c.args.self.now c.args.pages.now (c.args.base / 4096) (First c.in-First.field-0)
          c.self.view_is within used some c.requires.parked,
    )

-- no taken cell begins in another page
pub unreachable-requires : goal.unreachable-requires
unreachable-requires g c =
    IsTaken-used c.self.inside.table c.args.base c.self.invariant
    (subst (λ (v : Cells). IsTaken v c.args.base) (sym c.self.view_is) c.requires.taken) (elim c.in-Unused.is [
      | inl unused ↦ inl (sym c.use_at-page_use.ensures ∙ unused)
      | inr later ↦ inr (later.0, sym c.use_at-page_use.ensures ∙ later.1)
    ])

pub returns-then-release_cell-clause-page : goal.returns-then-release_cell-clause-page
returns-then-release_cell-clause-page g c =
    let is : cells_of c.release_cell.new.table ≡ with_run (with_cell c.args.self.now c.args.base None)
    (c.args.base / 4096) 0 =
    gone-seen_run c.self.inside.table c.release_cell.new.table c.args.self.now c.args.base
    (4096 * (c.args.base / 4096) + c.args.base % 4096) (c.args.base / 4096) c.self.view_is (omega arith)
    (c.release_cell.ensures.goes c.if-release_cell.true) in
    LeavesPage-goes c.args.self.now (cells_of c.release_cell.new.table) c.args.pages.now c.free_parked.new.self
    c.args.base (c.args.base / 4096) is c.free_parked.ensures.freed (c.release_cell.ensures.none c.if-release_cell.true)

pub returns-then-release_cell-clause-rest : goal.returns-then-release_cell-clause-rest
returns-then-release_cell-clause-rest g c = rest-left _ _ _ _ _ (returns-then-release_cell-clause-page g c)

pub returns-then-release_cell-clause-parked : goal.returns-then-release_cell-clause-parked
returns-then-release_cell-clause-parked g c =
    let is : cells_of c.release_cell.new.table ≡ with_run (with_cell c.args.self.now c.args.base None)
    (c.args.base / 4096) 0 =
    gone-seen_run c.self.inside.table c.release_cell.new.table c.args.self.now c.args.base
    (4096 * (c.args.base / 4096) + c.args.base % 4096) (c.args.base / 4096) c.self.view_is (omega arith)
    (c.release_cell.ensures.goes c.if-release_cell.true) in
    AreParked-goes c.args.self.now (cells_of c.release_cell.new.table) c.free_parked.new.self c.args.base
    (c.args.base / 4096) is (c.free_parked.ensures.fits c.args.self.now.runs c.requires.parked)

pub returns-then-release_cell-clause-all_parked : goal.returns-then-release_cell-clause-all_parked
returns-then-release_cell-clause-all_parked g c = λ others all.
    AreAllParked-left c.args.self.now (cells_of c.release_cell.new.table) others c.args.pages.now c.free_parked.new.self
    (c.args.base / 4096) (returns-then-release_cell-clause-page g c) c.requires.parked
    (run-taken c.self.inside.table c.args.self.now c.args.base c.self.view_is c.self.invariant c.requires.taken) all

pub returns-then-release_cell-clause-sound : goal.returns-then-release_cell-clause-sound
returns-then-release_cell-clause-sound g c = IsSoundCells-kept c.release_cell.new.table c.release_cell.ensures.kept

pub returns-else-release_cell-clause-page : goal.returns-else-release_cell-clause-page
returns-else-release_cell-clause-page g c =
    let is : cells_of c.release_cell.new.table ≡ with_cell c.args.self.now c.args.base None =
    gone-seen c.self.inside.table c.release_cell.new.table c.args.self.now c.args.base
    (4096 * (c.args.base / 4096) + c.args.base % 4096) c.self.view_is (omega arith)
    (c.release_cell.ensures.stays c.if-release_cell.false) in
    let found = c.release_cell.ensures.another c.if-release_cell.false in
    Page_stays found.0 found.1 found.2 found.3 (ap (λ (w : Cells). w.runs) is)

pub returns-else-release_cell-clause-all_parked : goal.returns-else-release_cell-clause-all_parked
returns-else-release_cell-clause-all_parked g c = λ others all.
    AreAllParked-left c.args.self.now (cells_of c.release_cell.new.table) others c.args.pages.now c.args.pages.now
    (c.args.base / 4096) (returns-else-release_cell-clause-page g c) c.requires.parked
    (run-taken c.self.inside.table c.args.self.now c.args.base c.self.view_is c.self.invariant c.requires.taken) all

pub returns-else-release_cell-clause-sound : goal.returns-else-release_cell-clause-sound
returns-else-release_cell-clause-sound g c = IsSoundCells-kept c.release_cell.new.table c.release_cell.ensures.kept

-- a cell of whole pages begins where its first page does
pub returns-in-First-clause-gone : goal.returns-in-First-clause-gone
returns-in-First-clause-gone g c =
    let used : use_at c.self.inside.table (c.args.base / 4096) ≡ First c.in-First.field-0 =
    sym c.use_at-page_use.ensures ∙ c.in-First.is in
    let at : 4096 * (c.args.base / 4096) ≡ c.args.base =
    sym (IsTaken-first c.self.inside.table c.args.base c.in-First.field-0 c.self.invariant
    (subst (λ (v : Cells). IsTaken v c.args.base) (sym c.self.view_is) c.requires.taken) used) in
    let is : cells_of c.release_pages.new.table ≡ with_run (with_cell c.args.self.now c.args.base None)
    (c.args.base / 4096) 0 =
    gone-seen_run c.self.inside.table c.release_pages.new.table c.args.self.now c.args.base
    (4096 * (c.args.base / 4096)) (c.args.base / 4096) c.self.view_is at c.release_pages.ensures.gone in
    own-runs c.args.self.now (cells_of c.release_pages.new.table) c.args.base _ is

pub returns-in-First-clause-page : goal.returns-in-First-clause-page
returns-in-First-clause-page g c =
    let used : use_at c.self.inside.table (c.args.base / 4096) ≡ First c.in-First.field-0 =
    sym c.use_at-page_use.ensures ∙ c.in-First.is in
    let at : 4096 * (c.args.base / 4096) ≡ c.args.base =
    sym (IsTaken-first c.self.inside.table c.args.base c.in-First.field-0 c.self.invariant
    (subst (λ (v : Cells). IsTaken v c.args.base) (sym c.self.view_is) c.requires.taken) used) in
    let is : cells_of c.release_pages.new.table ≡ with_run (with_cell c.args.self.now c.args.base None)
    (c.args.base / 4096) 0 =
    gone-seen_run c.self.inside.table c.release_pages.new.table c.args.self.now c.args.base
    (4096 * (c.args.base / 4096)) (c.args.base / 4096) c.self.view_is at c.release_pages.ensures.gone in
    LeavesPage-goes c.args.self.now (cells_of c.release_pages.new.table) c.args.pages.now
    c.free_parked-in-First.new.self c.args.base (c.args.base / 4096) is c.free_parked-in-First.ensures.freed
    c.release_pages.ensures.goes

pub returns-in-First-clause-rest : goal.returns-in-First-clause-rest
returns-in-First-clause-rest g c = rest-left _ _ _ _ _ (returns-in-First-clause-page g c)

pub returns-in-First-clause-parked : goal.returns-in-First-clause-parked
returns-in-First-clause-parked g c =
    let used : use_at c.self.inside.table (c.args.base / 4096) ≡ First c.in-First.field-0 =
    sym c.use_at-page_use.ensures ∙ c.in-First.is in
    let at : 4096 * (c.args.base / 4096) ≡ c.args.base =
    sym (IsTaken-first c.self.inside.table c.args.base c.in-First.field-0 c.self.invariant
    (subst (λ (v : Cells). IsTaken v c.args.base) (sym c.self.view_is) c.requires.taken) used) in
    let is : cells_of c.release_pages.new.table ≡ with_run (with_cell c.args.self.now c.args.base None)
    (c.args.base / 4096) 0 =
    gone-seen_run c.self.inside.table c.release_pages.new.table c.args.self.now c.args.base
    (4096 * (c.args.base / 4096)) (c.args.base / 4096) c.self.view_is at c.release_pages.ensures.gone in
    AreParked-goes c.args.self.now (cells_of c.release_pages.new.table) c.free_parked-in-First.new.self c.args.base
    (c.args.base / 4096) is (c.free_parked-in-First.ensures.fits c.args.self.now.runs c.requires.parked)

pub returns-in-First-clause-all_parked : goal.returns-in-First-clause-all_parked
returns-in-First-clause-all_parked g c = λ others all.
    AreAllParked-left c.args.self.now (cells_of c.release_pages.new.table) others c.args.pages.now
    c.free_parked-in-First.new.self
    (c.args.base / 4096) (returns-in-First-clause-page g c) c.requires.parked
    (run-taken c.self.inside.table c.args.self.now c.args.base c.self.view_is c.self.invariant c.requires.taken) all

pub returns-in-First-clause-sound : goal.returns-in-First-clause-sound
returns-in-First-clause-sound g c = IsSoundCells-kept c.release_pages.new.table c.release_pages.ensures.kept
