-- The blocks that cells show, and the cells that keep them.
use Rattle.std.proofs.Common.{◌≡◌, ℕ, zero, suc, ◌/◌, Bool, true, false, List, [], ◌∷◌, map, refl, sym, ◌∙◌, ap}
use Rattle.std.specs.Prelude.{Option, Some, None, slice_get, replicate, ◌*◌}
use Rattle.std.specs.Option.{option_map}
use Rattle.std.proofs.lemmas.List.{map-set}
use Rattle.std.proofs.lemmas.Option.{slice_get-map}
use Rattle.mm_model.specs.Views.ByBase.{Begins}
use Rattle.mm_words.specs.Location.{Location}
use Rattle.mm_cells.specs.Cells as cells
use Rattle.mm_cells.specs.Cells.{Taken, Cells, with_cell}
use Rattle.mm_fixed.specs.Fixed.{Block, Fixed, fresh, with_block}
use Rattle.mm_fixed.specs.Cells.{colour_of, cell_of, cells_of}
use Rattle.mm_fixed.specs.Kept.{is_parked, block_of, fixed_of, KeepsBlocks}

is_parked-colour_of : (parked : Bool) → is_parked (colour_of parked) ≡ parked
is_parked-colour_of true = refl
is_parked-colour_of false = refl

block_of-cell_of : (block : Block) → block_of (cell_of block) ≡ block
block_of-cell_of block = ap (λ (p : Bool). record block { parked = p }) (is_parked-colour_of block.parked)

entries-back : (entries : List (Option Block)) → map (option_map block_of) (map (option_map cell_of) entries) ≡ entries
entries-back [] = refl
entries-back (None ∷ entries) = ap (λ (rest : List (Option Block)). None ∷ rest) (entries-back entries)
entries-back (Some block ∷ entries) =
    ap (λ (b : Block). Some b ∷ map (option_map block_of) (map (option_map cell_of) entries)) (block_of-cell_of block)
    ∙ ap (λ (rest : List (Option Block)). Some block ∷ rest) (entries-back entries)

pub fixed_of-cells_of : (v : Fixed) → fixed_of (cells_of v) ≡ v
fixed_of-cells_of v = ap (λ (blocks : List (Option Block)). record v { blocks = blocks }) (entries-back v.blocks)

-- cells that keep blocks are the cells of those that they show
pub kept-shown : (c : Cells) (v : Fixed) → KeepsBlocks c → fixed_of c ≡ v → c ≡ cells_of v
kept-shown c v kept shown =
    kept.is ∙ ap cells_of (sym (fixed_of-cells_of kept.blocks) ∙ sym (ap fixed_of kept.is) ∙ shown)

pub shown-kept : (c : Cells) (v : Fixed) → c ≡ cells_of v → fixed_of c ≡ v
shown-kept c v is = ap fixed_of is ∙ fixed_of-cells_of v

-- a block becomes another where its cell does
pub cells_of-with_block : (v : Fixed) (base : ℕ) (entry : Option Block) →
    with_cell (cells_of v) base (option_map cell_of entry) ≡ cells_of (with_block v base entry)
cells_of-with_block v base entry =
    ap (λ (taken : List (Option Taken)). record (cells_of v) { taken = taken })
    (sym (map-set (option_map cell_of) v.blocks (base / 16) entry))

none-map : (n : ℕ) → map (option_map cell_of) (replicate n None) ≡ replicate n None
none-map zero = refl
none-map (suc n) = ap (λ (rest : List (Option Taken)). None ∷ rest) (none-map n)

pub cells_of-fresh : (table : Location) (pages : ℕ) → cells.fresh table pages ≡ cells_of (fresh table pages)
cells_of-fresh table pages =
    ap (λ (taken : List (Option Taken)). record (cells.fresh table pages) { taken = taken })
    (sym (none-map (256 * pages)))

-- the block and its cell begin at one base
pub begins-cell : (v : Fixed) (base : ℕ) (block : Block) → Begins v.blocks base block →
    cells.Begins (cells_of v) base (cell_of block)
begins-cell v base block begins = record {
  grain = begins.grain;
  aligned = begins.aligned;
  is =
      slice_get-map (option_map cell_of) v.blocks begins.grain
      ∙ ap (λ (o : Option (Option Block)). option_map (option_map cell_of) o) begins.is;
}

pub begins-shown : (c : Cells) (base : ℕ) (cell : Taken) → cells.Begins c base cell →
    Begins (fixed_of c).blocks base (block_of cell)
begins-shown c base cell begins = record {
  grain = begins.grain;
  aligned = begins.aligned;
  is =
      slice_get-map (option_map block_of) c.taken begins.grain
      ∙ ap (λ (o : Option (Option Taken)). option_map (option_map block_of) o) begins.is;
}

pub record IsCellOfBlock (v : Fixed) (base : ℕ) (cell : Taken) : Type 0 where
  pub block : Block
  pub begins : Begins v.blocks base block
  pub is : cell ≡ cell_of block

block-of_entry : (entry : Option (Option Block)) (cell : Taken) →
    option_map (option_map cell_of) entry ≡ Some (Some cell) →
    (block : Block) × ((entry ≡ Some (Some block)) × (cell ≡ cell_of block))
block-of_entry None cell e = absurd (cc)
block-of_entry (Some None) cell e = absurd (cc)
block-of_entry (Some (Some block)) cell e = (block, (refl, cc))

pub begins-block : (v : Fixed) (base : ℕ) (cell : Taken) → cells.Begins (cells_of v) base cell →
    IsCellOfBlock v base cell
begins-block v base cell begins =
    let there = block-of_entry (slice_get v.blocks begins.grain) cell
    (sym (slice_get-map (option_map cell_of) v.blocks begins.grain) ∙ begins.is) in
    record {
      block = there.0;
      begins = record { grain = begins.grain; aligned = begins.aligned; is = there.1.0 };
      is = there.1.1;
    }
