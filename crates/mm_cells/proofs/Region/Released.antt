-- A table in which a cell was given back.
use Rattle.std.proofs.Common.{◌≡◌, ◌≢◌, ℕ, ◌+◌, ◌-◌, ◌*◌, ◌/◌, ◌<◌, ◌≤◌, ◌⊎◌, inl, inr, true, false, refl, arith, sym}
use Rattle.std.proofs.Common.{◌∙◌, ap, subst}
use Rattle.std.specs.Prelude.{None}
use Rattle.std.proofs.lemmas.Bool.{cases_lt, cases_eq}
use Rattle.mm_cells.specs.declared.page_use.PageUse.TheVariants.{Unused, Class, First, Later}
use Rattle.mm_cells.specs.declared.marks.Mark.TheVariants as marks
use Rattle.mm_cells.specs.declared.marks.Mark.{Mark}
use Rattle.mm_cells.specs.Map.{Map, use_at, mark_at, room_at, SetsUse, SetsMark, SetsRoom}
use Rattle.mm_cells.specs.Cells.{Taken, IsTaken, with_cell, with_run}
use Rattle.mm_cells.specs.Kept.{class_size, cells_in, cells_of, KeepsCells, HasTaken}
use Rattle.mm_cells.specs.Spans.{SetsUses, AreUnused, AreWhole}
use Rattle.mm_cells.proofs.Sizes.ClassSizes.{class_size-least, cells_in-most}
use Rattle.mm_cells.proofs.Sizes.Grains.{div-whole}
use Rattle.mm_cells.proofs.Region.Begins.{IsCellOf, small, whole, Begins-cell}
use Rattle.mm_cells.proofs.Tables.Blocks.{IsInside, AgreesOff, AgreesOff-mark, AgreesOff-use, AgreesOff-room}
use Rattle.mm_cells.proofs.Tables.Blocks.{AgreesOff-uses}
use Rattle.mm_cells.proofs.Tables.Blocks.{AgreesOff-trans, use_at-same, room_at-same}
use Rattle.mm_cells.proofs.Tables.KeptBlocks.{KeepsCells-block, IsClosed-class, IsClosed-whole, KeepsPages-unused}
use Rattle.mm_cells.proofs.Tables.KeptBlocks.{use_in-whole}
use Rattle.mm_cells.proofs.Tables.KeptBlocks.{no_room-other, only_page}
use Rattle.mm_cells.proofs.Tables.Marked.{KeepsCells-classes}
use Rattle.mm_cells.proofs.Tables.Placed.{KeepsCells-cell}
use Rattle.mm_cells.proofs.Region.PageCells.{cell-page, of_class, of_whole, IsTaken-page}
use Rattle.mm_cells.proofs.Tables.TakenBlocks.{cells_of-emptied, cells_of-cleared}

-- a used page is one of the table's, and isn't page 0
pub used-within : (m : Map) (page : ℕ) → KeepsCells m → (use_at m page ≡ Unused → ⊥) → (0 < page) × (page < m.pages)
used-within m page kept used = (
  elim (cases_lt 0 page) [
    | inl h ↦ h
    | inr h ↦ absurd (used (ap (use_at m) (omega arith) ∙ kept.off_zero))
  ],
  elim (cases_lt page m.pages) [
    | inl h ↦ h
    | inr h ↦ absurd (used (kept.inside page h))
  ],
)

pub class-within : (m : Map) (page class : ℕ) → KeepsCells m → use_at m page ≡ Class class
    → (0 < page) × (page < m.pages)
class-within m page class kept used = used-within m page kept (λ none. absurd (cc))

pub first-within : (m : Map) (page count : ℕ) → KeepsCells m → use_at m page ≡ First count
    → (0 < page) × (page < m.pages)
first-within m page count kept used = used-within m page kept (λ none. absurd (cc))

-- a taken cell of a page of a class begins at a multiple of its size
pub record IsNumberOf (class offset number : ℕ) : Type 0 where
  pub within : number < cells_in class
  pub at : offset ≡ number * class_size class

offset-number : (m : Map) (page class offset base : ℕ) (cell : Taken) → KeepsCells m → use_at m page ≡ Class class →
    offset < 4096 → base ≡ 4096 * page + offset → IsCellOf m base cell →
    IsNumberOf class offset (offset / class_size class)
offset-number m page class offset base cell kept used inside at (small p c n s) =
    let low : c < 19 = (kept.classes p c s.used).0 in
    let same_page : p ≡ page = sym (cell-page p n c low s.number_within)
    ∙ ap (λ (b : ℕ). b / 4096) (sym s.begins ∙ at) ∙ omega arith in
    let used_there : use_at m p ≡ Class class = ap (use_at m) same_page ∙ used in
    let used_so : use_at m p ≡ Class c = s.used in
    let same : c ≡ class = cc in
    let size : class_size c ≡ class_size class = ap class_size same in
    let least : 16 ≤ class_size c = class_size-least c low in
    let is : offset ≡ n * class_size class = omega (arith, s.begins) ∙ ap (λ (x : ℕ). n * x) size in
    let number : offset / class_size class ≡ n =
    ap (λ (x : ℕ). x / class_size class) is ∙ div-whole n (class_size class) (omega arith) in
    subst (λ (k : ℕ). IsNumberOf class offset k) (sym number)
    (record { within = subst (λ (k : ℕ). n < cells_in k) same s.number_within; at = is })
offset-number m page class offset base cell kept used inside at (whole p count w) =
    let same_page : p ≡ page = omega (arith, w.begins) in
    let used_there : use_at m p ≡ Class class = ap (use_at m) same_page ∙ used in
    let used_so : use_at m p ≡ First count = w.used in
    absurd (cc)

pub IsTaken-number : (m : Map) (page class offset : ℕ) → KeepsCells m → use_at m page ≡ Class class → offset < 4096 →
    IsTaken (cells_of m) (4096 * page + offset) → IsNumberOf class offset (offset / class_size class)
IsTaken-number m page class offset kept used inside taken =
    offset-number m page class offset (4096 * page + offset) taken.0 kept used inside refl
    (Begins-cell m (4096 * page + offset) taken.0 taken.1)

-- the page has another taken cell
pub KeepsCells-stays : (a b c : Map) (page class number : ℕ) → KeepsCells a → use_at a page ≡ Class class →
    number < cells_in class → SetsMark a b page number marks.Free → HasTaken b page class →
    SetsRoom b c class page true → KeepsCells c
KeepsCells-stays a b c page class number kept used fits marked taken room =
    let known : class < 19 = (kept.classes page class used).0 in
    let place = class-within a page class kept used in
    KeepsCells-cell a b c page class number marks.Free true kept known used place.1 place.0 marked
    taken room (
      (λ has. record { cell = number; within = fits; free = marked.here }),
      (λ has. refl),
    )

-- the page has no other taken cell
AgreesOff-goes : (a b c d : Map) (page class number : ℕ) → SetsMark a b page number marks.Free →
    SetsUse b c page Unused → SetsRoom c d class page false → AgreesOff a d page 1
AgreesOff-goes a b c d page class number marked used room =
    AgreesOff-trans a b d page 1 (AgreesOff-mark a b page number marks.Free marked)
    (AgreesOff-trans b c d page 1 (AgreesOff-use b c page Unused used) (AgreesOff-room c d class page false room))

pub use_at-goes : (b c d : Map) (page class : ℕ) → SetsUse b c page Unused → SetsRoom c d class page false →
    use_at d page ≡ Unused
use_at-goes b c d page class used room = use_at-same c d page room.uses ∙ used.here

pub KeepsCells-goes : (a b c d : Map) (page class number : ℕ) → KeepsCells a → use_at a page ≡ Class class →
    SetsMark a b page number marks.Free → SetsUse b c page Unused → SetsRoom c d class page false → KeepsCells d
KeepsCells-goes a b c d page class number kept used marked unused room =
    let place = class-within a page class kept used in
    let now : use_at d page ≡ Unused = use_at-goes b c d page class unused room in
    KeepsCells-block a d page 1 kept (AgreesOff-goes a b c d page class number marked unused room)
    (IsClosed-class a page class kept used) place.0 (omega (arith, place.1))
    (KeepsPages-unused d page 1
    (λ other from to. ap (use_at d) (only_page page other (record { from = from; to = to })) ∙ now)
    (λ k other low inside.
    ap (room_at d k) (only_page page other inside) ∙ elim (cases_eq k class) [
      | inl e ↦ ap (λ (x : ℕ). room_at d x page) e ∙ room.here
      | inr apart ↦
          room.others k page low (omega (arith, place.1, marked.same.pages, unused.same.pages)) (inl apart)
          ∙ room_at-same b c k page unused.same.pages unused.rooms
          ∙ room_at-same a b k page marked.same.pages marked.rooms
          ∙ no_room-other a k page kept low place.1 (λ is. apart (cc))
    ]))

-- a mark that isn't of a taken cell says free
mark-free : (mark : Mark) → (mark ≢ marks.Free → ⊥) → mark ≡ marks.Free
mark-free marks.Free none = refl
mark-free (marks.Taken colour flags) none = absurd (none (λ e. absurd (cc)))

pub cells_of-goes : (a b c d : Map) (page class number base : ℕ) → KeepsCells a → use_at a page ≡ Class class →
    number < cells_in class → base ≡ 4096 * page + number * class_size class →
    SetsMark a b page number marks.Free → (HasTaken b page class → ⊥) →
    SetsUse b c page Unused → SetsRoom c d class page false
    → cells_of d ≡ with_run (with_cell (cells_of a) base None) page 0
cells_of-goes a b c d page class number base kept used fits begins marked none unused room =
    let known : class < 19 = (kept.classes page class used).0 in
    let most : cells_in class ≤ 256 = cells_in-most class known in
    let place = class-within a page class kept used in
    cells_of-emptied a d page class number base (KeepsCells-classes a kept)
    (AgreesOff-goes a b c d page class number marked unused room) place.1 known fits begins used
    (use_at-goes b c d page class unused room)
    (λ cell low apart. sym (marked.other_cells cell (omega arith) apart)
    ∙ mark-free (mark_at b page cell) (λ taken. none (record { cell = cell; within = low; taken = taken })))

-- the pages of one cell are cleared with it
pub whole-clears : (a b : Map) (first count : ℕ) → KeepsCells a → use_at a first ≡ First count →
    ((n : ℕ) → 0 < n → AreWhole a first n → SetsUses a b first n (λ distance. Unused)) →
    SetsUses a b first count (λ distance. Unused)
whole-clears a b first count kept used clears =
    clears count (kept.wholes first count used).some
    (λ distance less. use_in-whole a first count distance kept used less)

pub AreUnused-cleared : (a b : Map) (first count : ℕ) → SetsUses a b first count (λ distance. Unused) →
    AreUnused b first count
AreUnused-cleared a b first count cleared =
    λ page from to. ap (use_at b) (omega arith) ∙ cleared.here (page - first) (omega arith)

-- none of them is of a class
whole-no_class : (m : Map) (first count page class : ℕ) → KeepsCells m → use_at m first ≡ First count →
    IsInside first count page → use_at m page ≡ Class class → ⊥
whole-no_class m first count page class kept used inside is = elim (cases_eq page first) [
  | inl e ↦ let first_is : use_at m page ≡ First count = ap (use_at m) e ∙ used in cc
  | inr ne ↦
      let later : use_at m page ≡ Later (page - first) =
      ap (use_at m) (omega (arith, inside.from)) ∙ (kept.wholes first count used).later (page - first)
      (omega (arith, inside.from)) (omega (arith, inside.from, inside.to)) in
      cc
]

pub KeepsCells-cleared : (a b : Map) (first count : ℕ) → KeepsCells a → use_at a first ≡ First count →
    SetsUses a b first count (λ distance. Unused) → KeepsCells b
KeepsCells-cleared a b first count kept used cleared =
    let place = first-within a first count kept used in
    let known = kept.wholes first count used in
    KeepsCells-block a b first count kept (AgreesOff-uses a b first count (λ distance. Unused) cleared)
    (IsClosed-whole a first count kept used) place.0 known.within
    (KeepsPages-unused b first count (AreUnused-cleared a b first count cleared)
    (λ class page low inside.
    room_at-same a b class page cleared.same.pages cleared.rooms
    ∙ no_room-other a class page kept low (omega (arith, inside.to, known.within))
    (λ is. whole-no_class a first count page class kept used inside is)))

pub cells_of-cleared_pages : (a b : Map) (first count : ℕ) → KeepsCells a → use_at a first ≡ First count →
    SetsUses a b first count (λ distance. Unused)
    → cells_of b ≡ with_run (with_cell (cells_of a) (4096 * first) None) first 0
cells_of-cleared_pages a b first count kept used cleared =
    let known = kept.wholes first count used in
    cells_of-cleared a b first count (KeepsCells-classes a kept)
    (AgreesOff-uses a b first count (λ distance. Unused) cleared) known.within known.some
    (λ distance low. use_in-whole a first count distance kept used low) (AreUnused-cleared a b first count cleared)

-- where a taken cell begins
pub IsTaken-within : (m : Map) (base : ℕ) → KeepsCells m → IsTaken (cells_of m) base → base / 4096 < m.pages
IsTaken-within m base kept taken = elim (IsTaken-page m base kept taken) [
  | of_class class used ↦ (class-within m (base / 4096) class kept used).1
  | of_whole count used at ↦ (first-within m (base / 4096) count kept used).1
]

pub IsTaken-used : (m : Map) (base : ℕ) → KeepsCells m → IsTaken (cells_of m) base →
    ((use_at m (base / 4096) ≡ Unused) ⊎ ((distance : ℕ) × (use_at m (base / 4096) ≡ Later distance))) → ⊥
IsTaken-used m base kept taken other = elim (IsTaken-page m base kept taken) [
  | of_class class used ↦ elim other [ inl unused ↦ cc | inr later ↦ let is = later.1 in cc ]
  | of_whole count used at ↦ elim other [ inl unused ↦ cc | inr later ↦ let is = later.1 in cc ]
]

pub IsTaken-first : (m : Map) (base count : ℕ) → KeepsCells m → IsTaken (cells_of m) base →
    use_at m (base / 4096) ≡ First count → base ≡ 4096 * (base / 4096)
IsTaken-first m base count kept taken used = elim (IsTaken-page m base kept taken) [
  | of_class class is ↦ absurd (cc)
  | of_whole n is at ↦ at
]
