-- The cell in which a word falls is one, and what is told of it.
use Rattle.std.proofs.Common.{◌≡◌, ◌≢◌, ℕ, inl, inr, arith, sym, ◌∙◌, ap, subst}
use Rattle.std.proofs.lemmas.Bool.{cases_eq}
use Rattle.mm_model.specs.declared.object.Colour.{Colour}
use Rattle.mm_model.specs.declared.object.Colour.TheVariants.{White, Gray}
use Rattle.mm_cells.specs.declared.marks.CellBits.{CellBits}
use Rattle.mm_cells.specs.Cells.{Taken, Cells, Begins, Covers, IsSoundCells}
use Rattle.mm_cells.specs.declared.marks.Mark.TheVariants as marks
use Rattle.mm_cells.specs.Map.{Map, mark_at, SetsMark}
use Rattle.mm_cells.specs.Kept.{cells_of, KeepsCells}
use Rattle.mm_cells.specs.Indexes.{IsLocated}
use Rattle.mm_cells.specs.Looking.{NoWhite, Shades}
use Rattle.mm_cells.proofs.Region.Indexes.{Begins-one, told-colour, told-flags, cells_of-coloured}
use Rattle.mm_cells.proofs.Region.Soundness.{IsSoundCells-kept}

told-cell : (cell : Taken) (extent : ℕ) (colour : Colour) (flags : CellBits) → cell.extent ≡ extent →
    colour ≡ cell.colour → flags ≡ cell.flags → cell ≡ record { extent = extent; colour = colour; flags = flags }
told-cell cell extent colour flags same shown marked =
    ap (λ (n : ℕ). record cell { extent = n }) same
    ∙ ap (λ (k : Colour). record cell { extent = extent; colour = k }) (sym shown)
    ∙ ap (λ (f : CellBits). record cell { extent = extent; colour = colour; flags = f }) (sym marked)

Covers-told : (v : Cells) (word base : ℕ) (cell : Taken) (extent : ℕ) (colour : Colour) (flags : CellBits) →
    Covers v word base cell → cell.extent ≡ extent → colour ≡ cell.colour → flags ≡ cell.flags →
    Covers v word base (record { extent = extent; colour = colour; flags = flags })
Covers-told v word base cell extent colour flags covers same shown marked =
    subst (Covers v word base) (told-cell cell extent colour flags same shown marked) covers

pub Covers-marked : (m : Map) (word page number base extent : ℕ) (colour : Colour) (flags : CellBits) →
    IsLocated m word page number base extent → mark_at m page number ≡ marks.Taken colour flags →
    Covers (cells_of m) word base (record { extent = extent; colour = colour; flags = flags })
Covers-marked m word page number base extent colour flags found mark =
    Covers-told (cells_of m) word base found.cell extent colour flags found.covers found.sized
    (told-colour m page number base colour flags found.cell found.index mark found.covers.begins)
    (told-flags m page number base colour flags found.cell found.index mark found.covers.begins)

-- the white cell in which a word falls becomes gray
pub Shades-marked : (a b : Map) (word page number base extent : ℕ) (flags : CellBits) → KeepsCells a →
    IsLocated a word page number base extent → mark_at a page number ≡ marks.Taken White flags →
    SetsMark a b page number (marks.Taken Gray flags) → Shades (cells_of a) (cells_of b) word base
Shades-marked a b word page number base extent flags kept found mark sets = record {
  cell = found.cell;
  covers = found.covers;
  white = sym (told-colour a page number base White flags found.cell found.index mark found.covers.begins);
  now = cells_of-coloured a b page number base White Gray flags kept found.index mark sets found.cell
      found.covers.begins;
}

-- a word falls in one cell at most
pub Covers-one : (v : Cells) (word base other_base : ℕ) (cell other : Taken) → IsSoundCells v →
    Covers v word base cell → Covers v word other_base other → cell ≡ other
Covers-one v word base other_base cell other sound c o = elim (cases_eq base other_base) [
  | inl same ↦ Begins-one v other_base cell other (subst (λ (b : ℕ). Begins v b cell) same c.begins) o.begins
  | inr apart ↦ absurd (elim (sound.apart base other_base cell other c.begins o.begins apart).disjoint [
    | inl below ↦ omega (arith, c.to, o.from)
    | inr above ↦ omega (arith, o.to, c.from)
  ])
]

pub NoWhite-other : (v : Cells) (word base : ℕ) (cell : Taken) → IsSoundCells v → Covers v word base cell →
    (cell.colour ≡ White → ⊥) → NoWhite v word
NoWhite-other v word base cell sound covers other b c o white =
    let same : cell ≡ c = Covers-one v word base b cell c sound covers o in
    other (ap (λ (t : Taken). t.colour) same ∙ white)

pub NoWhite-marked : (m : Map) (word page number base extent : ℕ) → KeepsCells m →
    IsLocated m word page number base extent → ((flags : CellBits) → mark_at m page number ≢ marks.Taken White flags) →
    NoWhite (cells_of m) word
NoWhite-marked m word page number base extent kept found other =
    NoWhite-other (cells_of m) word base found.index.cell (IsSoundCells-kept m kept)
    (subst (Covers (cells_of m) word base)
    (Begins-one (cells_of m) base found.cell found.index.cell found.covers.begins found.index.begins) found.covers)
    (λ white. other found.index.cell.flags
    (found.index.mark ∙ ap (λ (k : Colour). marks.Taken k found.index.cell.flags) white))
