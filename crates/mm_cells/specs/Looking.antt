-- What is asked of the cell in which a word falls, and of those of one colour.
use Rattle.std.specs.Prelude.{◌≡◌, ◌≢◌, ◌*◌, ◌<◌, ◌≤◌, ◌⊎◌, ℕ, map, length, get_or, Option, Some, None}
use Rattle.mm_model.specs.declared.object.Colour.{Colour}
use Rattle.mm_model.specs.declared.object.Colour.TheVariants.{White, Gray}
use Rattle.mm_cells.specs.Cells.{Taken, Cells, Begins, Covers, with_cell}

-- the word falls in no white cell
abbrev pub NoWhite : Cells → ℕ → Type 0
NoWhite v word = (base : ℕ) (cell : Taken) → Covers v word base cell → cell.colour ≢ White

-- the white cell in which the word falls becomes gray
pub record Shades (before after : Cells) (word base : ℕ) : Type 0 where
  pub cell : Taken
  pub covers : Covers before word base cell
  pub white : cell.colour ≡ White
  pub now : after ≡ with_cell before base (Some (record cell { colour = Gray }))

-- the least base of a taken cell of this colour that is at least `from`
pub record IsNextOf (v : Cells) (colour : Colour) (from base : ℕ) : Type 0 where
  pub cell : Taken
  pub begins : Begins v base cell
  pub is : cell.colour ≡ colour
  pub reached : from ≤ base
  pub least : (lower : ℕ) (other : Taken) → Begins v lower other → other.colour ≡ colour → from ≤ lower → base ≤ lower

-- there is none
abbrev pub NoneOfFrom : Cells → Colour → ℕ → Type 0
NoneOfFrom v colour from = (base : ℕ) (cell : Taken) → Begins v base cell → cell.colour ≡ colour → base < from

-- a taken cell is white from now on
abbrev pub whitened : Option Taken → Option Taken
whitened None = None
whitened (Some cell) = Some (record cell { colour = White })

-- all are
abbrev pub all_white : Cells → Cells
all_white v = record v { taken = map whitened v.taken }

-- what begins at a multiple of 16 bytes
abbrev pub taken_of : Cells → ℕ → Option Taken
taken_of v grain = get_or v.taken grain None

-- the cells that begin at from .. to are white from now on, and all else is as it was
pub record Whitens (before after : Cells) (from to : ℕ) : Type 0 where
  pub same : after ≡ record before { taken = after.taken }
  pub size : length after.taken ≡ length before.taken
  pub inside : (grain : ℕ) → from ≤ 16 * grain → 16 * grain < to
      → taken_of after grain ≡ whitened (taken_of before grain)
  pub outside : (grain : ℕ) → (16 * grain < from) ⊎ (to ≤ 16 * grain) → taken_of after grain ≡ taken_of before grain
