-- The lowest cell that is sought and begins in a page, from some place on.
use Rattle.std.proofs.Common.{◌≡◌, ℕ, ◌+◌, ◌-◌, ◌*◌, ◌/◌, ◌<◌, ◌≤◌, inl, inr, refl, arith, sym, ◌∙◌, ap, subst}
use Rattle.std.proofs.Math.Nat.{mul-le-mul_right}
use Rattle.std.specs.Prelude.{Some}
use Rattle.std.proofs.lemmas.Bool.{cases_lt}
use Rattle.mm_model.specs.declared.object.Colour.{Colour}
use Rattle.mm_cells.specs.declared.page_use.PageUse.TheVariants.{Class, First}
use Rattle.mm_cells.specs.declared.marks.Mark.{Mark}
use Rattle.mm_cells.specs.declared.marks.Mark.TheVariants as marks
use Rattle.mm_cells.specs.declared.marks.Sought.{Sought}
use Rattle.mm_cells.specs.declared.marks.Sought.TheVariants as sought
use Rattle.mm_cells.specs.Marks.{IsSought}
use Rattle.mm_cells.specs.Map.{Map, use_at, mark_at}
use Rattle.mm_cells.specs.Cells.{Taken, Cells, Begins, IsNextTaken, NoneTakenFrom}
use Rattle.mm_cells.specs.Kept.{class_size, taken_as, cells_of, KeepsCells}
use Rattle.mm_cells.specs.Indexes.{IsSuch, NoneInPage, IsLowestInPage, NoneIn, IsLowestIn}
use Rattle.mm_cells.specs.Looking.{IsNextOf, NoneOfFrom}
use Rattle.mm_cells.proofs.Sizes.ClassSizes.{class_size-least}
use Rattle.mm_cells.proofs.Region.Begins.{IsSmallCell, small, whole, Begins-cell, cell-Begins}
use Rattle.mm_cells.proofs.Region.Covering.{taken_as-some}
use Rattle.mm_cells.proofs.Region.Indexes.{small-page, taken_as-mark}
use Rattle.mm_cells.proofs.Region.Sound.{IsSpaced-kept}

-- a cell of a class begins at some number of the page
pub data InClass (m : Map) (page class base : ℕ) (cell : Taken) : Type 0 where
  at_number : (number : ℕ) → IsSmallCell m page class number base cell → InClass m page class base cell

pub Begins-class : (m : Map) (page class base : ℕ) (cell : Taken) → KeepsCells m → use_at m page ≡ Class class →
    Begins (cells_of m) base cell → base / 4096 ≡ page → InClass m page class base cell
Begins-class m page class base cell kept used begins here = elim (Begins-cell m base cell begins) [
  | small page' class' number s ↦
      let same : page' ≡ page = sym (small-page m page' class' number base cell kept s).0 ∙ here in
      let both : Class class' ≡ Class class = sym s.used ∙ ap (λ (p : ℕ). use_at m p) same ∙ used in
      let one : class' ≡ class = cc in
      at_number number (subst (λ (k : ℕ). IsSmallCell m page k number base cell) one
      (subst (λ (p : ℕ). IsSmallCell m p class' number base cell) same s))
  | whole page' count w ↦
      let same : page' ≡ page = omega (arith, w.begins) in
      let both : First count ≡ Class class = sym w.used ∙ ap (λ (p : ℕ). use_at m p) same ∙ used in
      absurd (cc)
]

pub Begins-whole : (m : Map) (page count base : ℕ) (cell : Taken) → KeepsCells m → use_at m page ≡ First count →
    Begins (cells_of m) base cell → base / 4096 ≡ page → base ≡ 4096 * page
Begins-whole m page count base cell kept used begins here = elim (Begins-cell m base cell begins) [
  | small page' class number s ↦
      let same : page' ≡ page = sym (small-page m page' class number base cell kept s).0 ∙ here in
      let both : Class class ≡ First count = sym s.used ∙ ap (λ (p : ℕ). use_at m p) same ∙ used in
      absurd (cc)
  | whole page' count' w ↦ omega (arith, w.begins)
]

-- a page in which no cell begins
pub NoneInPage-other : (m : Map) (page : ℕ) (what : Sought) (from : ℕ) → KeepsCells m
    → ((class : ℕ) → use_at m page ≡ Class class → ⊥) →
    ((count : ℕ) → use_at m page ≡ First count → ⊥) → NoneInPage (cells_of m) page what from
NoneInPage-other m page what from kept no_class no_first base cell begins is here = elim
    (Begins-cell m base cell begins) [
      | small page' class number s ↦
          let same : page' ≡ page = sym (small-page m page' class number base cell kept s).0 ∙ here in
          absurd (no_class class (ap (λ (p : ℕ). use_at m p) (sym same) ∙ s.used))
      | whole page' count w ↦
          let same : page' ≡ page = omega (arith, w.begins) in
          absurd (no_first count (ap (λ (p : ℕ). use_at m p) (sym same) ∙ w.used))
    ]

-- a mark that is sought is that of such a cell
such-mark : (what : Sought) (mark : Mark) (cell : Taken) → mark ≡ marks.Taken cell.colour cell.flags → IsSuch what cell
    →
    IsSought what mark
such-mark sought.Taken mark cell is such = λ free. absurd
    (let both : marks.Free ≡ marks.Taken cell.colour cell.flags = sym free ∙ is in cc)
such-mark (sought.Of colour) mark cell is such = rw is such

-- and the other way round, where it can be read
record IsSuchAs (what : Sought) (extent : ℕ) (mark : Mark) : Type 0 where
  cell : Taken
  taken : taken_as extent mark ≡ Some cell
  such : IsSuch what cell

mark-such : (what : Sought) (extent : ℕ) (mark : Mark) → IsSought what mark → IsSuchAs what extent mark
mark-such sought.Taken extent mark is =
    let found = taken_as-some extent mark is in
    record { cell = found.0; taken = found.1; such = tt }
mark-such (sought.Of colour) extent marks.Free is = absurd is
mark-such (sought.Of colour) extent (marks.Taken its flags) is =
    record { cell = record { extent = extent; colour = its; flags = flags }; taken = refl; such = is }

-- in a page of a class, from so many bytes into the page on
pub NoneInPage-class : (m : Map) (page class : ℕ) (what : Sought) (from offset : ℕ) → KeepsCells m →
    use_at m page ≡ Class class → offset ≡ from - 4096 * page → NoneIn m page class what offset →
    NoneInPage (cells_of m) page what from
NoneInPage-class m page class what from offset kept used is none base cell begins such here =
    elim (Begins-class m page class base cell kept used begins here) [
      | at_number number s ↦ elim (cases_lt base from) [
        | inl h ↦ h
        | inr h ↦ absurd (none number s.number_within (omega (arith, s.begins))
            (such-mark what (mark_at m page number) cell
            (taken_as-mark (class_size class) (mark_at m page number) cell s.taken) such))
      ]
    ]

pub IsLowestInPage-class : (m : Map) (page class : ℕ) (what : Sought) (from offset base : ℕ) → KeepsCells m →
    page < m.pages → use_at m page ≡ Class class → offset ≡ from - 4096 * page →
    IsLowestIn m page class what offset base → IsLowestInPage (cells_of m) page what from base
IsLowestInPage-class m page class what from offset base kept within used is low =
    let size : ℕ = class_size class in
    let number : ℕ = low.number in
    let some : 16 ≤ size = class_size-least class (kept.classes page class used).0 in
    let found = mark-such what size (mark_at m page number) low.is in
    let cell : IsSmallCell m page class number base found.cell = record {
      page_within = within;
      used = used;
      number_within = low.within;
      begins = low.begins;
      taken = found.taken;
    } in
    record {
      cell = found.cell;
      begins = cell-Begins m base found.cell kept (small page class number cell);
      is = found.such;
      here = (small-page m page class number base found.cell kept cell).0;
      reached = omega (arith, low.reached, low.begins);
      least = λ lower other begins such here above.
          elim (Begins-class m page class lower other kept used begins here) [
            | at_number number' s ↦ elim (cases_lt number' number) [
              | inl h ↦ absurd (low.lowest number' h (omega (arith, s.begins))
                  (such-mark what (mark_at m page number') other
                  (taken_as-mark size (mark_at m page number') other s.taken) such))
              | inr h ↦ omega (arith, s.begins, low.begins, mul-le-mul_right size h)
            ]
          ];
    }

-- the mark of a cell of whole pages
whole-mark : (m : Map) (page count base : ℕ) (cell : Taken) → KeepsCells m → use_at m page ≡ First count →
    Begins (cells_of m) base cell → base / 4096 ≡ page → mark_at m page 0 ≡ marks.Taken cell.colour cell.flags
whole-mark m page count base cell kept used begins here = elim (Begins-cell m base cell begins) [
  | small page' class number s ↦
      let same : page' ≡ page = sym (small-page m page' class number base cell kept s).0 ∙ here in
      let both : Class class ≡ First count = sym s.used ∙ ap (λ (p : ℕ). use_at m p) same ∙ used in
      absurd (cc)
  | whole page' count' w ↦
      let same : page' ≡ page = omega (arith, w.begins) in
      ap (λ (p : ℕ). mark_at m p 0) (sym same) ∙ taken_as-mark (4096 * count') (mark_at m page' 0) cell w.taken
]

-- in the first page of some whole pages
pub NoneInPage-whole : (m : Map) (page count : ℕ) (what : Sought) (from : ℕ) → KeepsCells m →
    use_at m page ≡ First count → (IsSought what (mark_at m page 0) → 4096 * page < from) →
    NoneInPage (cells_of m) page what from
NoneInPage-whole m page count what from kept used above base cell begins such here =
    let at = Begins-whole m page count base cell kept used begins here in
    let past = above (such-mark what (mark_at m page 0) cell (whole-mark m page count base cell kept used begins here)
    such) in
    omega arith

pub IsLowestInPage-whole : (m : Map) (page count : ℕ) (what : Sought) (from base : ℕ) → KeepsCells m →
    use_at m page ≡ First count → IsSought what (mark_at m page 0) → base ≡ 4096 * page → from ≤ base →
    IsLowestInPage (cells_of m) page what from base
IsLowestInPage-whole m page count what from base kept used suits is reached =
    let found = mark-such what (4096 * count) (mark_at m page 0) suits in
    record {
      cell = found.cell;
      begins = cell-Begins m base found.cell kept
          (whole page count (record { used = used; begins = is; taken = found.taken }));
      is = found.such;
      here = omega arith;
      reached = reached;
      least = λ lower other begins such here above.
          omega (arith, Begins-whole m page count lower other kept used begins here);
    }

-- over all pages: no such cell that begins in an earlier page does so at `from` or above
abbrev pub NoneBefore : Cells → ℕ → Sought → ℕ → Type 0
NoneBefore v page what from =
    (base : ℕ) (cell : Taken) → Begins v base cell → IsSuch what cell → base / 4096 < page → base < from

pub NoneBefore-more : (v : Cells) (page : ℕ) (what : Sought) (from : ℕ) → NoneBefore v page what from →
    NoneInPage v page what from → NoneBefore v (page + 1) what from
NoneBefore-more v page what from before here base cell begins such below = elim (cases_lt (base / 4096) page) [
  | inl h ↦ before base cell begins such h
  | inr h ↦ here base cell begins such (omega arith)
]

pub NoneBefore-first : (v : Cells) (what : Sought) (from : ℕ) → NoneBefore v (from / 4096) what from
NoneBefore-first v what from base cell begins such below = omega arith

-- the lowest one of a page is that of all pages
lowest-least : (v : Cells) (page : ℕ) (what : Sought) (from base lower : ℕ) (other : Taken) →
    NoneBefore v page what from → IsLowestInPage v page what from base → Begins v lower other → IsSuch what other →
    from ≤ lower → base ≤ lower
lowest-least v page what from base lower other before low begins such reached = elim (cases_lt (lower / 4096) page) [
  | inl h ↦ absurd (omega (arith, before lower other begins such h))
  | inr h ↦ elim (cases_lt lower base) [
    | inr k ↦ k
    | inl k ↦ low.least lower other begins such (omega (arith, low.here)) reached
  ]
]

pub IsNextTaken-lowest : (v : Cells) (page from base : ℕ) → NoneBefore v page sought.Taken from →
    IsLowestInPage v page sought.Taken from base → IsNextTaken v from base
IsNextTaken-lowest v page from base before low = record {
  cell = low.cell;
  begins = low.begins;
  reached = low.reached;
  least = λ lower other begins reached. lowest-least v page sought.Taken from base lower other before low begins tt
      reached;
}

pub IsNextOf-lowest : (v : Cells) (page : ℕ) (colour : Colour) (from base : ℕ) →
    NoneBefore v page (sought.Of colour) from → IsLowestInPage v page (sought.Of colour) from base →
    IsNextOf v colour from base
IsNextOf-lowest v page colour from base before low = record {
  cell = low.cell;
  begins = low.begins;
  is = low.is;
  reached = low.reached;
  least = λ lower other begins same reached.
      lowest-least v page (sought.Of colour) from base lower other before low begins same reached;
}

-- all cells begin in pages of the table
begins-before : (m : Map) (page base : ℕ) (cell : Taken) → KeepsCells m → m.pages ≤ page → Begins (cells_of m) base cell
    →
    base / 4096 < page
begins-before m page base cell kept all begins =
    let sound = IsSpaced-kept m kept in
    omega (arith, sound.within base cell begins, sound.some base cell begins)

pub NoneTakenFrom-before : (m : Map) (page from : ℕ) → KeepsCells m → m.pages ≤ page →
    NoneBefore (cells_of m) page sought.Taken from → NoneTakenFrom (cells_of m) from
NoneTakenFrom-before m page from kept all before base cell begins =
    before base cell begins tt (begins-before m page base cell kept all begins)

pub NoneOfFrom-before : (m : Map) (page : ℕ) (colour : Colour) (from : ℕ) → KeepsCells m → m.pages ≤ page →
    NoneBefore (cells_of m) page (sought.Of colour) from → NoneOfFrom (cells_of m) colour from
NoneOfFrom-before m page colour from kept all before base cell begins same =
    before base cell begins same (begins-before m page base cell kept all begins)
