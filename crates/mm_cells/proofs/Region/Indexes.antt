-- Where the mark of a taken cell stands, and what callers see once it tells something else.
use Rattle.std.proofs.Common.{◌≡◌, ℕ, ◌+◌, ◌*◌, ◌/◌, ◌%◌, ◌<◌, ◌≤◌, refl, arith, sym, ◌∙◌, ap, subst}
use Rattle.std.specs.Prelude.{Some, slice_get}
use Rattle.std.proofs.lemmas.Nat.{div-mul-add}
use Rattle.mm_model.specs.declared.object.Colour.{Colour}
use Rattle.mm_cells.specs.declared.marks.CellBits.{CellBits}
use Rattle.mm_cells.specs.declared.page_use.PageUse.TheVariants.{Class, First}
use Rattle.mm_cells.specs.declared.marks.Mark.{Mark}
use Rattle.mm_cells.specs.declared.marks.Mark.TheVariants as marks
use Rattle.mm_cells.specs.Map.{Map, use_at, mark_at, SetsMark}
use Rattle.mm_cells.specs.Cells.{Taken, Cells, Begins, IsTaken, with_cell}
use Rattle.mm_cells.specs.Kept.{class_size, cells_in, taken_as, cells_of, KeepsCells, IsWhole}
use Rattle.mm_cells.specs.Indexes.{in_class, in_whole, IsMarkIndex}
use Rattle.mm_cells.proofs.Sizes.ClassSizes.{class_size-least, cells_in-fit, cells_in-most}
use Rattle.mm_cells.proofs.Sizes.Grains.{cell-fits}
use Rattle.mm_cells.proofs.Region.Begins.{IsSmallCell, IsWholeCell, small, whole, Begins-cell}
use Rattle.mm_cells.proofs.Region.Sound.{taken_as-extent}
use Rattle.mm_cells.proofs.Tables.Marked.{KeepsCells-classes, KeepsCells-marked, cells_of-marked}

-- at most one cell begins at a base
pub Begins-one : (v : Cells) (base : ℕ) (one other : Taken) → Begins v base one → Begins v base other → one ≡ other
Begins-one v base one other b b' =
    let same : b.grain ≡ b'.grain = omega (arith, b.aligned, b'.aligned) in
    let both : Some (Some one) ≡ Some (Some other) =
    sym b.is ∙ ap (λ (g : ℕ). slice_get v.taken g) same ∙ b'.is in
    cc

-- the mark that a taken cell is read from
pub taken_as-mark : (extent : ℕ) (mark : Mark) (cell : Taken) → taken_as extent mark ≡ Some cell →
    mark ≡ marks.Taken cell.colour cell.flags
taken_as-mark extent marks.Free cell e = absurd (cc)
taken_as-mark extent (marks.Taken colour flags) cell e =
    let told : Taken = record { extent = extent; colour = colour; flags = flags } in
    let same : told ≡ cell = cc in
    ap (λ (c : Taken). marks.Taken c.colour c.flags) same

-- the page in which a cell of a class begins, and which one it is there
pub small-page : (m : Map) (page class number base : ℕ) (cell : Taken) → KeepsCells m →
    IsSmallCell m page class number base cell →
    (base / 4096 ≡ page) × (base % 4096 ≡ number * class_size class)
small-page m page class number base cell kept s =
    let some : 16 ≤ class_size class = class_size-least class (kept.classes page class s.used).0 in
    let fits : number * class_size class + class_size class ≤ 4096 =
    cell-fits number (cells_in class) (class_size class) s.number_within (cells_in-fit class) in
    (omega (arith, s.begins), omega (arith, s.begins))

-- a number of bytes in a cell of a class
pub number-in : (number size rest offset : ℕ) → offset ≡ number * size + rest → rest < size → offset / size ≡ number
number-in number size rest offset is low = ap (λ (x : ℕ). x / size) is ∙ div-mul-add number size rest low

pub small-number : (m : Map) (page class number base : ℕ) (cell : Taken) → KeepsCells m →
    IsSmallCell m page class number base cell → base % 4096 / class_size class ≡ number
small-number m page class number base cell kept s =
    let some : 16 ≤ class_size class = class_size-least class (kept.classes page class s.used).0 in
    number-in number (class_size class) 0 (base % 4096)
    (omega (arith, (small-page m page class number base cell kept s).1)) (omega arith)

pub small-seat : (m : Map) (page class number base : ℕ) (cell : Taken) → KeepsCells m → Begins (cells_of m) base cell →
    IsSmallCell m page class number base cell → IsMarkIndex m page number base
small-seat m page class number base cell kept begins s =
    let low : class < 19 = (kept.classes page class s.used).0 in
    record {
      page_within = s.page_within;
      number_within = omega (arith, s.number_within, cells_in-most class low);
      cell = cell;
      begins = begins;
      seat = in_class class s.page_within low s.used s.number_within s.begins
          (taken_as-extent (class_size class) (mark_at m page number) cell s.taken);
      mark = taken_as-mark (class_size class) (mark_at m page number) cell s.taken;
    }

pub whole-seat : (m : Map) (page count base : ℕ) (cell : Taken) → KeepsCells m → Begins (cells_of m) base cell →
    IsWholeCell m page count base cell → IsMarkIndex m page 0 base
whole-seat m page count base cell kept begins w =
    let known : IsWhole m page count = kept.wholes page count w.used in
    let within : page < m.pages = omega (arith, known.some, known.within) in
    record {
      page_within = within;
      number_within = omega arith;
      cell = cell;
      begins = begins;
      seat = in_whole count within w.used refl w.begins
          (taken_as-extent (4096 * count) (mark_at m page 0) cell w.taken);
      mark = taken_as-mark (4096 * count) (mark_at m page 0) cell w.taken;
    }

-- a taken cell begins in a page of the table
pub taken-page : (m : Map) (base : ℕ) → IsTaken (cells_of m) base → KeepsCells m → base / 4096 < m.pages
taken-page m base taken kept = elim (Begins-cell m base taken.0 taken.1) [
  | small page class number s ↦ omega (arith, s.page_within, (small-page m page class number base taken.0 kept s).0)
  | whole page count w ↦ omega (
    arith,
    (kept.wholes page count w.used).some,
    (kept.wholes page count w.used).within,
    w.begins,
  )
]

-- the mark by the use of the page
pub seat-class : (m : Map) (base class : ℕ) → KeepsCells m → IsTaken (cells_of m) base →
    use_at m (base / 4096) ≡ Class class → IsMarkIndex m (base / 4096) (base % 4096 / class_size class) base
seat-class m base class kept taken used = elim (Begins-cell m base taken.0 taken.1) [
  | small page class' number s ↦
      let here : base / 4096 ≡ page = (small-page m page class' number base taken.0 kept s).0 in
      let both : Class class ≡ Class class' = sym used ∙ ap (λ (p : ℕ). use_at m p) here ∙ s.used in
      let one : class ≡ class' = cc in
      let count : base % 4096 / class_size class ≡ number =
      ap (λ (c : ℕ). base % 4096 / class_size c) one ∙ small-number m page class' number base taken.0 kept s in
      subst (λ (p : ℕ). IsMarkIndex m p (base % 4096 / class_size class) base) (sym here)
      (subst (λ (n : ℕ). IsMarkIndex m page n base) (sym count)
      (small-seat m page class' number base taken.0 kept taken.1 s))
  | whole page count w ↦
      let here : base / 4096 ≡ page = omega (arith, w.begins) in
      let both : Class class ≡ First count = sym used ∙ ap (λ (p : ℕ). use_at m p) here ∙ w.used in
      absurd (cc)
]

pub seat-whole : (m : Map) (base : ℕ) → KeepsCells m → IsTaken (cells_of m) base →
    ((class : ℕ) → use_at m (base / 4096) ≡ Class class → ⊥) → IsMarkIndex m (base / 4096) 0 base
seat-whole m base kept taken other = elim (Begins-cell m base taken.0 taken.1) [
  | small page class number s ↦
      let here : base / 4096 ≡ page = (small-page m page class number base taken.0 kept s).0 in
      absurd (other class (ap (λ (p : ℕ). use_at m p) here ∙ s.used))
  | whole page count w ↦
      let here : base / 4096 ≡ page = omega (arith, w.begins) in
      subst (λ (p : ℕ). IsMarkIndex m p 0 base) (sym here) (whole-seat m page count base taken.0 kept taken.1 w)
]

-- a taken cell isn't free
pub seat-taken : (m : Map) (page number base : ℕ) → IsMarkIndex m page number base →
    mark_at m page number ≡ marks.Free → ⊥
seat-taken m page number base seat free =
    let both : marks.Free ≡ marks.Taken seat.cell.colour seat.cell.flags = sym free ∙ seat.mark in
    absurd (cc)

-- its mark tells something else
pub KeepsCells-told : (a b : Map) (page number base : ℕ) (colour : Colour) (flags : CellBits) → KeepsCells a →
    IsMarkIndex a page number base → SetsMark a b page number (marks.Taken colour flags) → KeepsCells b
KeepsCells-told a b page number base colour flags kept seat sets =
    KeepsCells-marked a b page number (marks.Taken colour flags) kept sets seat.number_within
    (seat-taken a page number base seat) (λ e. absurd (cc))

pub cells_of-told : (a b : Map) (page number base : ℕ) (colour : Colour) (flags : CellBits) → KeepsCells a →
    IsMarkIndex a page number base → SetsMark a b page number (marks.Taken colour flags) → (cell : Taken) →
    Begins (cells_of a) base cell →
    cells_of b ≡ with_cell (cells_of a) base (Some (record cell { colour = colour; flags = flags }))
cells_of-told a b page number base colour flags kept seat sets cell begins =
    let same : seat.cell ≡ cell = Begins-one (cells_of a) base seat.cell cell seat.begins begins in
    cells_of-marked a b page number base seat.cell.extent (marks.Taken colour flags) (KeepsCells-classes a kept)
    seat.seat sets
    ∙ ap (λ (c : Taken). with_cell (cells_of a) base (Some (record c { colour = colour; flags = flags }))) same

-- what the mark tells
pub told-colour : (m : Map) (page number base : ℕ) (colour : Colour) (flags : CellBits) (cell : Taken) →
    IsMarkIndex m page number base → mark_at m page number ≡ marks.Taken colour flags → Begins (cells_of m) base cell →
    colour ≡ cell.colour
told-colour m page number base colour flags cell seat mark begins =
    let same : seat.cell ≡ cell = Begins-one (cells_of m) base seat.cell cell seat.begins begins in
    let both : marks.Taken colour flags ≡ marks.Taken seat.cell.colour seat.cell.flags = sym mark ∙ seat.mark in
    let told : colour ≡ seat.cell.colour = cc in
    told ∙ ap (λ (c : Taken). c.colour) same

pub told-flags : (m : Map) (page number base : ℕ) (colour : Colour) (flags : CellBits) (cell : Taken) →
    IsMarkIndex m page number base → mark_at m page number ≡ marks.Taken colour flags → Begins (cells_of m) base cell →
    flags ≡ cell.flags
told-flags m page number base colour flags cell seat mark begins =
    let same : seat.cell ≡ cell = Begins-one (cells_of m) base seat.cell cell seat.begins begins in
    let both : marks.Taken colour flags ≡ marks.Taken seat.cell.colour seat.cell.flags = sym mark ∙ seat.mark in
    let told : flags ≡ seat.cell.flags = cc in
    told ∙ ap (λ (c : Taken). c.flags) same

-- one of the two changes, and the other is what the mark told
pub cells_of-coloured : (a b : Map) (page number base : ℕ) (old colour : Colour) (flags : CellBits) → KeepsCells a →
    IsMarkIndex a page number base → mark_at a page number ≡ marks.Taken old flags →
    SetsMark a b page number (marks.Taken colour flags) → (cell : Taken) → Begins (cells_of a) base cell →
    cells_of b ≡ with_cell (cells_of a) base (Some (record cell { colour = colour }))
cells_of-coloured a b page number base old colour flags kept seat mark sets cell begins =
    cells_of-told a b page number base colour flags kept seat sets cell begins
    ∙ ap (λ (f : CellBits). with_cell (cells_of a) base (Some (record cell { colour = colour; flags = f })))
    (told-flags a page number base old flags cell seat mark begins)

pub cells_of-flagged : (a b : Map) (page number base : ℕ) (colour : Colour) (old flags : CellBits) → KeepsCells a →
    IsMarkIndex a page number base → mark_at a page number ≡ marks.Taken colour old →
    SetsMark a b page number (marks.Taken colour flags) → (cell : Taken) → Begins (cells_of a) base cell →
    cells_of b ≡ with_cell (cells_of a) base (Some (record cell { flags = flags }))
cells_of-flagged a b page number base colour old flags kept seat mark sets cell begins =
    cells_of-told a b page number base colour flags kept seat sets cell begins
    ∙ ap (λ (k : Colour). with_cell (cells_of a) base (Some (record cell { colour = k; flags = flags })))
    (told-colour a page number base colour old cell seat mark begins)
