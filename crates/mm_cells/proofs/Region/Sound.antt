-- The taken cells of a table are apart, leave out page 0 and end with the region.
use Rattle.std.proofs.Common.{◌≡◌, ℕ, ◌+◌, ◌*◌, ◌<◌, ◌≤◌, inl, inr, arith, sym, ◌∙◌, ap, subst}
use Rattle.std.proofs.Math.Nat.{mul-le-mul_right}
use Rattle.std.proofs.lemmas.Bool.{cases_lt, cases_order}
use Rattle.std.specs.Prelude.{⊤, ◌-◌, Some}
use Rattle.mm_cells.specs.declared.page_use.PageUse.{PageUse}
use Rattle.mm_cells.specs.declared.page_use.PageUse.TheVariants.{Unused, Class, First, Later}
use Rattle.mm_cells.specs.declared.marks.Mark.{Mark}
use Rattle.mm_cells.specs.declared.marks.Mark.TheVariants as marks
use Rattle.mm_cells.specs.Map.{Map, use_at, mark_at}
use Rattle.mm_cells.specs.Cells.{Taken, Cells, Begins}
use Rattle.mm_cells.specs.Kept.{class_size, cells_in, taken_as, cells_of, KeepsCells, IsWhole}
use Rattle.mm_cells.proofs.Sizes.ClassSizes.{class_size-least, cells_in-fit}
use Rattle.mm_cells.proofs.Sizes.Grains.{cell-fits}
use Rattle.mm_cells.proofs.Region.Begins.{IsSmallCell, IsWholeCell, IsCellOf, small, whole, Begins-cell}

-- a taken cell has the bytes that its mark is read with
pub taken_as-extent : (extent : ℕ) (mark : Mark) (cell : Taken) → taken_as extent mark ≡ Some cell →
    cell.extent ≡ extent
taken_as-extent extent marks.Free cell e = absurd (cc)
taken_as-extent extent (marks.Taken colour flags) cell e =
    let whole : Taken = record { extent = extent; colour = colour; flags = flags } in
    let same : whole ≡ cell = cc in
    sym (ap (λ (c : Taken). c.extent) same)

-- a cell begins in such a page, and in no other
abbrev pub IsHead : PageUse → Type 0
IsHead Unused = ⊥
IsHead (Class class) = ⊤
IsHead (First count) = ⊤
IsHead (Later distance) = ⊥

-- the page in which a cell begins, and where it may end
pub record IsSeated (m : Map) (base : ℕ) (cell : Taken) (page : ℕ) : Type 0 where
  pub head : IsHead (use_at m page)
  pub off_zero : 0 < page
  pub from : 4096 * page ≤ base
  pub before : base < 4096 * page + 4096
  pub some : 16 ≤ cell.extent
  pub within : base + cell.extent ≤ 4096 * m.pages
  pub apart : (other : ℕ) → IsHead (use_at m other) → page < other → base + cell.extent ≤ 4096 * other

head-off_zero : (m : Map) (page : ℕ) → KeepsCells m → IsHead (use_at m page) → 0 < page
head-off_zero m page kept head = elim (cases_lt 0 page) [
  | inl h ↦ h
  | inr h ↦
      let none : use_at m page ≡ Unused = ap (λ (p : ℕ). use_at m p) (omega arith) ∙ kept.off_zero in
      absurd (subst IsHead none head)
]

-- no cell begins in the pages of another
head-past : (m : Map) (page count other : ℕ) → IsWhole m page count → IsHead (use_at m other) → page < other →
    page + count ≤ other
head-past m page count other known head above = elim (cases_lt other (page + count)) [
  | inr h ↦ h
  | inl h ↦
      let apart : page + (other - page) ≡ other = omega arith in
      let later : use_at m other ≡ Later (other - page) =
      ap (λ (p : ℕ). use_at m p) (sym apart) ∙ known.later (other - page) (omega arith) (omega arith) in
      absurd (subst IsHead later head)
]

pub small-seated : (m : Map) (page class number base : ℕ) (cell : Taken) → KeepsCells m →
    IsSmallCell m page class number base cell → IsSeated m base cell page
small-seated m page class number base cell kept s =
    let known = kept.classes page class s.used in
    let extent : cell.extent ≡ class_size class = taken_as-extent (class_size class) (mark_at m page number) cell
    s.taken in
    let fits : number * class_size class + class_size class ≤ 4096 =
    cell-fits number (cells_in class) (class_size class) s.number_within (cells_in-fit class) in
    let some : 16 ≤ class_size class = class_size-least class known.0 in
    let head : IsHead (use_at m page) = subst IsHead (sym s.used) tt in
    record {
      head = head;
      off_zero = head-off_zero m page kept head;
      from = omega (arith, s.begins);
      before = omega (arith, s.begins);
      some = omega arith;
      within = omega (arith, s.begins, s.page_within);
      apart = λ other is above. omega (arith, s.begins);
    }

pub whole-seated : (m : Map) (page count base : ℕ) (cell : Taken) → KeepsCells m → IsWholeCell m page count base cell →
    IsSeated m base cell page
whole-seated m page count base cell kept w =
    let known : IsWhole m page count = kept.wholes page count w.used in
    let extent : cell.extent ≡ 4096 * count = taken_as-extent (4096 * count) (mark_at m page 0) cell w.taken in
    let head : IsHead (use_at m page) = subst IsHead (sym w.used) tt in
    record {
      head = head;
      off_zero = head-off_zero m page kept head;
      from = omega (arith, w.begins);
      before = omega (arith, w.begins);
      some = omega (arith, known.some);
      within = omega (arith, w.begins, known.within);
      apart = λ other is above. omega (arith, w.begins, head-past m page count other known is above);
    }

cell-seated : (m : Map) (base : ℕ) (cell : Taken) → KeepsCells m → IsCellOf m base cell → (page : ℕ) ×
    IsSeated m base cell page
cell-seated m base cell kept (small page class number s) =
    (page, small-seated m page class number base cell kept s)
cell-seated m base cell kept (whole page count w) = (page, whole-seated m page count base cell kept w)

-- one of two cells of a page that begins below the other
pub numbers-apart : (low high size : ℕ) → low * size < high * size → low * size + size ≤ high * size
numbers-apart low high size below = elim (cases_lt low high) [
  | inl h ↦ omega (arith, mul-le-mul_right size h)
  | inr h ↦ absurd (omega (arith, mul-le-mul_right size h))
]

-- cells that overlap would begin in one page
pages-same : (m : Map) (low high page page' : ℕ) (lower higher : Taken) → IsSeated m low lower page →
    IsSeated m high higher page' → low < high → high < low + lower.extent → page ≡ page'
pages-same m low high page page' lower higher seat seat' below inside = elim (cases_order page page') [
  | inl e ↦ e
  | inr (inl h) ↦ absurd (omega (arith, seat.apart page' seat'.head h, seat'.from))
  | inr (inr h) ↦ absurd (omega (arith, seat.from, seat'.before))
]

small-clash : (m : Map) (low high page page' class class' number number' : ℕ) (lower higher : Taken) →
    IsSmallCell m page class number low lower → IsSmallCell m page' class' number' high higher → page ≡ page' →
    low < high → high < low + lower.extent → ⊥
small-clash m low high page page' class class' number number' lower higher s s' same below inside =
    let used : use_at m page ≡ use_at m page' = ap (λ (p : ℕ). use_at m p) same in
    let both : Class class ≡ Class class' = sym s.used ∙ used ∙ s'.used in
    let one : class ≡ class' = cc in
    let size : class_size class ≡ class_size class' = ap (λ (c : ℕ). class_size c) one in
    let place : number' * class_size class ≡ number' * class_size class' = ap (λ (x : ℕ). number' * x) size in
    let extent : lower.extent ≡ class_size class =
    taken_as-extent (class_size class) (mark_at m page number) lower s.taken in
    omega (
      arith,
      s.begins,
      s'.begins,
      numbers-apart number number' (class_size class) (omega (arith, s.begins, s'.begins)),
    )

-- no two cells overlap
cells-clash : (m : Map) (low high : ℕ) (lower higher : Taken) → KeepsCells m → IsCellOf m low lower →
    IsCellOf m high higher → low < high → high < low + lower.extent → ⊥
cells-clash m low high lower higher kept (small page class number s) (small page' class' number' s') below inside =
    small-clash m low high page page' class class' number number' lower higher s s'
    (pages-same m low high page page' lower higher (small-seated m page class number low lower kept s)
    (small-seated m page' class' number' high higher kept s') below inside) below inside
cells-clash m low high lower higher kept (small page class number s) (whole page' count' w') below inside =
    let same : page ≡ page' = pages-same m low high page page' lower higher
    (small-seated m page class number low lower kept s) (whole-seated m page' count' high higher kept w') below inside
    in
    let both : Class class ≡ First count' = sym s.used ∙ ap (λ (p : ℕ). use_at m p) same ∙ w'.used in
    absurd (cc)
cells-clash m low high lower higher kept (whole page count w) (small page' class' number' s') below inside =
    let same : page ≡ page' = pages-same m low high page page' lower higher
    (whole-seated m page count low lower kept w) (small-seated m page' class' number' high higher kept s') below inside
    in
    let both : First count ≡ Class class' = sym w.used ∙ ap (λ (p : ℕ). use_at m p) same ∙ s'.used in
    absurd (cc)
cells-clash m low high lower higher kept (whole page count w) (whole page' count' w') below inside =
    let same : page ≡ page' = pages-same m low high page page' lower higher
    (whole-seated m page count low lower kept w) (whole-seated m page' count' high higher kept w') below inside in
    omega (arith, w.begins, w'.begins)

-- cells are apart, leave out page 0, and end with the region
pub record IsSpaced (v : Cells) : Type 0 where
  pub off_zero : (base : ℕ) (cell : Taken) → Begins v base cell → 4096 ≤ base
  pub within : (base : ℕ) (cell : Taken) → Begins v base cell → base + cell.extent ≤ 4096 * v.pages
  pub some : (base : ℕ) (cell : Taken) → Begins v base cell → 16 ≤ cell.extent
  pub apart : (low high : ℕ) (lower higher : Taken) → Begins v low lower → Begins v high higher → low < high
      → low + lower.extent ≤ high

pub IsSpaced-kept : (m : Map) → KeepsCells m → IsSpaced (cells_of m)
IsSpaced-kept m kept = record {
  off_zero = λ base cell begins.
      let seat = cell-seated m base cell kept (Begins-cell m base cell begins) in
      omega (arith, seat.1.off_zero, seat.1.from);
  within = λ base cell begins. (cell-seated m base cell kept (Begins-cell m base cell begins)).1.within;
  some = λ base cell begins. (cell-seated m base cell kept (Begins-cell m base cell begins)).1.some;
  apart = λ low high lower higher begins begins' below. elim (cases_lt high (low + lower.extent)) [
    | inr h ↦ h
    | inl h ↦ absurd (cells-clash m low high lower higher kept (Begins-cell m low lower begins)
        (Begins-cell m high higher begins') below h)
  ];
}
