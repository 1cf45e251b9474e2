-- What becomes of the blocks where their cells change.
use Rattle.std.proofs.Common.{◌≡◌, ℕ, ◌/◌, Bool, List, refl, arith, sym, ◌∙◌, ap, subst}
use Rattle.std.specs.Prelude.{Some, None, Result, Ok, Err, slice_get, slice_set}
use Rattle.std.specs.Result.{IsErr}
use Rattle.mm_model.specs.declared.object.Colour.TheVariants.{White}
use Rattle.mm_model.specs.Views.ByBase.{Begins}
use Rattle.mm_model.proofs.Lists.Replaced.{get-set_same}
use Rattle.mm_pages.specs.Pages as heaps
use Rattle.mm_cells.specs.Cells as cells
use Rattle.mm_cells.specs.Cells.{Taken, Cells, with_cell, newly_taken, IsTaken, IsSoundCells}
use Rattle.mm_cells.specs.Placing.{LeavesPage}
use Rattle.mm_fixed.specs.Fixed.{Block, Fixed, OutBlock, with_block, with_run, block_out, IsSoundFixed}
use Rattle.mm_fixed.specs.Cells.{colour_of, cell_of, cells_of}
use Rattle.mm_fixed.specs.Kept.{fixed_of, KeepsBlocks}
use Rattle.mm_fixed.specs.Placing.{base_in}
use Rattle.mm_fixed.proofs.Shown.{kept-shown, cells_of-with_block, begins-cell}
use Rattle.mm_fixed.proofs.Sound.{IsSoundFixed-cells}

pub keeps : (c : Cells) (v : Fixed) → c ≡ cells_of v → IsSoundCells c → KeepsBlocks c
keeps c v is sound = record { blocks = v; is = is; sound = sound }

pub sound-shown : (c : Cells) (v : Fixed) → KeepsBlocks c → fixed_of c ≡ v → IsSoundFixed v
sound-shown c v kept shown =
    IsSoundFixed-cells v (subst (λ (w : Cells). IsSoundCells w) (kept-shown c v kept shown) kept.sound)

pub taken-kept : (c : Cells) (v : Fixed) (base : ℕ) (block : Block) → c ≡ cells_of v → Begins v.blocks base block →
    cells.Begins c base (cell_of block)
taken-kept c v base block is begins =
    subst (λ (w : Cells). cells.Begins w base (cell_of block)) (sym is) (begins-cell v base block begins)

pub placed-kept : (c after : Cells) (v : Fixed) (base extent page count : ℕ) → c ≡ cells_of v →
    after ≡ cells.with_run (with_cell c base (Some (newly_taken extent White))) page count →
    after ≡ cells_of (with_run (with_block v base (Some (block_out extent))) page count)
placed-kept c after v base extent page count is placed =
    placed
    ∙ ap (λ (w : Cells). cells.with_run (with_cell w base (Some (newly_taken extent White))) page count) is
    ∙ ap (λ (w : Cells). cells.with_run w page count) (cells_of-with_block v base (Some (block_out extent)))

pub gone-kept : (c after : Cells) (v : Fixed) (base : ℕ) (runs : List ℕ) → c ≡ cells_of v →
    after ≡ record (with_cell c base None) { runs = runs } →
    after ≡ cells_of (record (with_block v base None) { runs = runs })
gone-kept c after v base runs is gone =
    gone
    ∙ ap (λ (w : Cells). record (with_cell w base None) { runs = runs }) is
    ∙ ap (λ (w : Cells). record w { runs = runs }) (cells_of-with_block v base None)

pub page-kept : (c after : Cells) (v w : Fixed) (heap now : heaps.Pages) (page : ℕ) → c ≡ cells_of v →
    after ≡ cells_of w → LeavesPage c after heap page now → LeavesPage (cells_of v) (cells_of w) heap page now
page-kept c after v w heap now page is is_after leaves =
    subst (λ (x : Cells). LeavesPage x (cells_of w) heap page now) is
    (subst (λ (y : Cells). LeavesPage c y heap page now) is_after leaves)

pub painted-kept : (c after : Cells) (v : Fixed) (base : ℕ) (block : Block) (parked : Bool) → c ≡ cells_of v →
    Begins v.blocks base block →
    ((cell : Taken) → cells.Begins c base cell
    → after ≡ with_cell c base (Some (record cell { colour = colour_of parked }))) →
    after ≡ cells_of (with_block v base (Some (record block { parked = parked })))
painted-kept c after v base block parked is begins painted =
    let other : Taken = cell_of (record block { parked = parked }) in
    painted (cell_of block) (taken-kept c v base block is begins)
    ∙ ap (λ (w : Cells). with_cell w base (Some other)) is
    ∙ cells_of-with_block v base (Some (record block { parked = parked }))

-- another block in the place of one
pub begins-written : (v : Fixed) (base : ℕ) (block other : Block) → Begins v.blocks base block →
    Begins (with_block v base (Some other)).blocks base other
begins-written v base block other begins =
    let whole : base / 16 ≡ begins.grain = omega (arith, begins.aligned) in
    record {
      grain = begins.grain;
      aligned = begins.aligned;
      is =
          ap (λ (n : ℕ). slice_get (slice_set v.blocks n (Some other)) begins.grain) whole
          ∙ get-set_same v.blocks begins.grain (Some block) (Some other) begins.is;
    }

pub base_in-err : {E : Type 0} → (result : Result OutBlock E) → IsErr result → base_in result ≡ None
base_in-err (Ok block) refused = absurd (cc)
base_in-err (Err e) refused = refl
