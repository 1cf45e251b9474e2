-- The cell in which a word falls, by the use of the word's page.
use Rattle.std.proofs.Common.{◌≡◌, ℕ, ◌+◌, ◌-◌, ◌*◌, ◌/◌, ◌%◌, ◌<◌, ◌≤◌, inl, inr, refl, arith, sym, ◌∙◌, ap, subst}
use Rattle.std.specs.Prelude.{Option, Some, None, MatchOption}
use Rattle.std.proofs.lemmas.Bool.{cases_eq}
use Rattle.mm_cells.specs.declared.page_use.PageUse.TheVariants.{Unused, Class, First, Later}
use Rattle.mm_cells.specs.declared.marks.Mark.{Mark}
use Rattle.mm_cells.specs.declared.marks.Mark.TheVariants as marks
use Rattle.mm_cells.specs.Map.{Map, use_at, mark_at}
use Rattle.mm_cells.specs.Cells.{Taken, Covers}
use Rattle.mm_cells.specs.Kept.{class_size, cells_in, taken_as, cells_of, KeepsCells, IsWhole}
use Rattle.mm_cells.specs.Indexes.{IsTakenIn, IsMarkIndex, IsLocated}
use Rattle.mm_cells.proofs.Sizes.ClassSizes.{class_size-least, cells_in-fit}
use Rattle.mm_cells.proofs.Sizes.Grains.{cell-fits, div-rest}
use Rattle.mm_cells.proofs.Region.Begins.{IsSmallCell, IsWholeCell, IsCellOf, small, whole, Begins-cell, cell-Begins}
use Rattle.mm_cells.proofs.Region.Indexes.{number-in, small-seat, whole-seat}
use Rattle.mm_cells.proofs.Region.Sound.{taken_as-extent, IsSpaced-kept}

-- what a mark that isn't free is read as
pub taken_as-some : (extent : ℕ) (mark : Mark) → (mark ≡ marks.Free → ⊥) → (cell : Taken) ×
    (taken_as extent mark ≡ Some cell)
taken_as-some extent marks.Free taken = absurd (taken refl)
taken_as-some extent (marks.Taken colour flags) taken =
    (record { extent = extent; colour = colour; flags = flags }, refl)

-- the cell that a word falls in, by the word's page
pub data Covering (m : Map) (word base : ℕ) (cell : Taken) : Type 0 where
  by_class : (class : ℕ) → IsSmallCell m (word / 4096) class (word % 4096 / class_size class) base cell
      → Covering m word base cell
  by_first : (count : ℕ) → use_at m (word / 4096) ≡ First count → Covering m word base cell
  by_later : (distance : ℕ) → use_at m (word / 4096) ≡ Later distance → Covering m word base cell

small-covers : (m : Map) (page class number word base : ℕ) (cell : Taken) → KeepsCells m →
    IsSmallCell m page class number base cell → base ≤ word → word < base + cell.extent → Covering m word base cell
small-covers m page class number word base cell kept s from to =
    let size : ℕ = class_size class in
    let extent : cell.extent ≡ size = taken_as-extent size (mark_at m page number) cell s.taken in
    let fits : number * size + size ≤ 4096 =
    cell-fits number (cells_in class) size s.number_within (cells_in-fit class) in
    let here : page ≡ word / 4096 = omega (arith, s.begins) in
    let count : number ≡ word % 4096 / size =
    sym (number-in number size (word - base) (word % 4096) (omega (arith, s.begins)) (omega arith)) in
    by_class class (subst (λ (p : ℕ). IsSmallCell m p class (word % 4096 / size) base cell) here
    (subst (λ (n : ℕ). IsSmallCell m page class n base cell) count s))

whole-covers : (m : Map) (page count word base : ℕ) (cell : Taken) → KeepsCells m →
    IsWholeCell m page count base cell → base ≤ word → word < base + cell.extent → Covering m word base cell
whole-covers m page count word base cell kept w from to =
    let extent : cell.extent ≡ 4096 * count = taken_as-extent (4096 * count) (mark_at m page 0) cell w.taken in
    elim (cases_eq (word / 4096) page) [
      | inl e ↦ by_first count (ap (λ (p : ℕ). use_at m p) e ∙ w.used)
      | inr d ↦
          let distance : ℕ = word / 4096 - page in
          let here : word / 4096 ≡ page + distance = omega (arith, w.begins) in
          by_later distance (ap (λ (p : ℕ). use_at m p) here
          ∙ (kept.wholes page count w.used).later distance (omega (arith, w.begins)) (omega (arith, w.begins)))
    ]

covers-parts : (m : Map) (word base : ℕ) (cell : Taken) → KeepsCells m → IsCellOf m base cell → base ≤ word →
    word < base + cell.extent → Covering m word base cell
covers-parts m word base cell kept (small page class number s) from to =
    small-covers m page class number word base cell kept s from to
covers-parts m word base cell kept (whole page count w) from to =
    whole-covers m page count word base cell kept w from to

pub Covers-covering : (m : Map) (word base : ℕ) (cell : Taken) → KeepsCells m → Covers (cells_of m) word base cell →
    Covering m word base cell
Covers-covering m word base cell kept c =
    covers-parts m word base cell kept (Begins-cell m base cell c.begins) c.from c.to

-- no cell reaches past the table
pub none-past : (m : Map) (word base : ℕ) (cell : Taken) → KeepsCells m → m.pages ≤ word / 4096 →
    Covers (cells_of m) word base cell → ⊥
none-past m word base cell kept past c =
    omega (arith, c.to, (IsSpaced-kept m kept).within base cell c.begins)

-- no cell has an unused page
pub none-unused : (m : Map) (word base : ℕ) (cell : Taken) → KeepsCells m → use_at m (word / 4096) ≡ Unused →
    Covers (cells_of m) word base cell → ⊥
none-unused m word base cell kept none c = elim (Covers-covering m word base cell kept c) [
  | by_class class s ↦
      let both : Unused ≡ Class class = sym none ∙ s.used in
      absurd (cc)
  | by_first count used ↦
      let both : Unused ≡ First count = sym none ∙ used in
      absurd (cc)
  | by_later distance used ↦
      let both : Unused ≡ Later distance = sym none ∙ used in
      absurd (cc)
]

-- in a page of a class only the one cell may have the word
pub none-free : (m : Map) (word class base : ℕ) (cell : Taken) → KeepsCells m → use_at m (word / 4096) ≡ Class class →
    (word % 4096 / class_size class < cells_in class →
    mark_at m (word / 4096) (word % 4096 / class_size class) ≡ marks.Free) →
    Covers (cells_of m) word base cell → ⊥
none-free m word class base cell kept used free c = elim (Covers-covering m word base cell kept c) [
  | by_class class' s ↦
      let both : Class class' ≡ Class class = sym s.used ∙ used in
      let one : class' ≡ class = cc in
      let here : IsSmallCell m (word / 4096) class (word % 4096 / class_size class) base cell =
      subst (λ (k : ℕ). IsSmallCell m (word / 4096) k (word % 4096 / class_size k) base cell) one s in
      let none : None ≡ Some cell =
      sym (ap (λ (mark : Mark). taken_as (class_size class) mark) (free here.number_within)) ∙ here.taken in
      absurd (cc)
  | by_first count other ↦
      let both : First count ≡ Class class = sym other ∙ used in
      absurd (cc)
  | by_later distance other ↦
      let both : Later distance ≡ Class class = sym other ∙ used in
      absurd (cc)
]

-- there that cell has the word
pub class-has : (m : Map) (word class base : ℕ) → KeepsCells m → word / 4096 < m.pages →
    use_at m (word / 4096) ≡ Class class →
    IsTakenIn m (word / 4096) class (word % 4096 / class_size class) base →
    IsLocated m word (word / 4096) (word % 4096 / class_size class) base (class_size class)
class-has m word class base kept page used known =
    let size : ℕ = class_size class in
    let number : ℕ = word % 4096 / size in
    let some : 16 ≤ size = class_size-least class (kept.classes (word / 4096) class used).0 in
    let found = taken_as-some size (mark_at m (word / 4096) number) known.taken in
    let extent : found.0.extent ≡ size = taken_as-extent size (mark_at m (word / 4096) number) found.0 found.1 in
    let rest = div-rest (word % 4096) size (omega arith) in
    let there : IsSmallCell m (word / 4096) class number base found.0 = record {
      page_within = page;
      used = used;
      number_within = known.within;
      begins = known.begins;
      taken = found.1;
    } in
    let begins = cell-Begins m base found.0 kept (small (word / 4096) class number there) in
    record {
      cell = found.0;
      covers = record {
        begins = begins;
        from = omega (arith, rest.0, known.begins);
        to = omega (arith, rest.1, known.begins);
      };
      sized = extent;
      index = small-seat m (word / 4096) class number base found.0 kept begins there;
    }

pub whole-has : (m : Map) (word page count base : ℕ) → KeepsCells m → use_at m page ≡ First count → base ≡ 4096 * page →
    page ≤ word / 4096 → word / 4096 < page + count →
    IsLocated m word page 0 base (4096 * count)
whole-has m word page count base kept used is from to =
    let known : IsWhole m page count = kept.wholes page count used in
    let found = taken_as-some (4096 * count) (mark_at m page 0) known.taken in
    let extent : found.0.extent ≡ 4096 * count = taken_as-extent (4096 * count) (mark_at m page 0) found.0 found.1 in
    let there : IsWholeCell m page count base found.0 = record { used = used; begins = is; taken = found.1 } in
    let begins = cell-Begins m base found.0 kept (whole page count there) in
    record {
      cell = found.0;
      covers = record { begins = begins; from = omega arith; to = omega arith };
      sized = extent;
      index = whole-seat m page count base found.0 kept begins there;
    }

-- the same, as the program has it
pub IsLocated-same : (m : Map) (word page page' number number' base extent extent' : ℕ) → page' ≡ page →
    number' ≡ number → extent' ≡ extent → IsLocated m word page number base extent →
    IsLocated m word page' number' base extent'
IsLocated-same m word page page' number number' base extent extent' at is sized found = record {
  cell = found.cell;
  covers = found.covers;
  sized = found.sized ∙ sym sized;
  index = subst (λ (p : ℕ). IsMarkIndex m p number' base) (sym at)
      (subst (λ (n : ℕ). IsMarkIndex m page n base) (sym is) found.index);
}

-- another thing is known of each answer
pub MatchOption-map : {A : Type 0} (answer : Option A) (P P' : Type 0) (Q Q' : A → Type 0) → (P → P') →
    ((x : A) → Q x → Q' x) → MatchOption answer P Q → MatchOption answer P' Q'
MatchOption-map None P P' Q Q' none some known = none known
MatchOption-map (Some x) P P' Q Q' none some known = some x known
