-- Two tables that say the same of all pages but some in a row.
use Rattle.std.proofs.Common.{◌≡◌, ℕ, ◌+◌, ◌*◌, ◌<◌, ◌≤◌, ◌⊎◌, inl, inr, Bool, List, arith, sym, ◌∙◌, ap, subst}
use Rattle.std.proofs.lemmas.Bool.{cases_lt}
use Rattle.mm_cells.specs.declared.page_use.PageUse.{PageUse}
use Rattle.mm_cells.specs.declared.marks.Mark.{Mark}
use Rattle.mm_cells.specs.Uses.{use_in}
use Rattle.mm_cells.specs.Marks.{code_of_cell, mark_of_cell, IsPlain}
use Rattle.mm_cells.specs.Map.{Map, use_at, mark_at, room_at, HasPlainMarks, IsSame, SetsUse, SetsMark, FreesPage}
use Rattle.mm_cells.specs.Map.{SetsRoom}
use Rattle.mm_cells.specs.Spans.{SetsUses}

-- a page isn't one of so many from a page on
abbrev pub IsOutside : ℕ → ℕ → ℕ → Type 0
IsOutside first count page = (page < first) ⊎ (first + count ≤ page)

-- it is one of them
pub record IsInside (first count page : ℕ) : Type 0 where
  pub from : first ≤ page
  pub to : page < first + count

pub outside_or_inside : (first count page : ℕ) → IsOutside first count page ⊎ IsInside first count page
outside_or_inside first count page = elim (cases_lt page first) [
  | inl low ↦ inl (inl low)
  | inr from ↦ elim (cases_lt page (first + count)) [
    | inl to ↦ inr (record { from = from; to = to })
    | inr high ↦ inl (inr high)
  ]
]

-- the tables say the same of all other pages
pub record AgreesOff (a b : Map) (first count : ℕ) : Type 0 where
  pub same : IsSame a b
  pub uses : (page : ℕ) → IsOutside first count page → use_at b page ≡ use_at a page
  pub marks : (page cell : ℕ) → IsOutside first count page → cell < 256 → mark_at b page cell ≡ mark_at a page cell
  pub rooms : (class page : ℕ) → class < 19 → page < a.pages → IsOutside first count page →
      room_at b class page ≡ room_at a class page
  pub plain : (page : ℕ) → HasPlainMarks a page → HasPlainMarks b page

-- one word after another of them is the same
pub use_at-same : (a b : Map) (page : ℕ) → b.uses ≡ a.uses → use_at b page ≡ use_at a page
use_at-same a b page e = ap (λ (words : List ℕ). use_in words page) e

pub mark_at-same : (a b : Map) (page cell : ℕ) → b.marks ≡ a.marks → mark_at b page cell ≡ mark_at a page cell
mark_at-same a b page cell e = ap (λ (words : List ℕ). mark_of_cell words (256 * page + cell)) e

pub plain-same : (a b : Map) (page : ℕ) → b.marks ≡ a.marks → HasPlainMarks a page → HasPlainMarks b page
plain-same a b page e before = λ cell low.
    subst (λ (words : List ℕ). IsPlain (code_of_cell words (256 * page + cell))) (sym e) (before cell low)

pub room_at-same : (a b : Map) (class page : ℕ) → b.pages ≡ a.pages → b.rooms ≡ a.rooms →
    room_at b class page ≡ room_at a class page
room_at-same a b class page pages rooms =
    ap (λ (n : ℕ). room_at (record b { pages = n }) class page) pages
    ∙ ap (λ (words : List ℕ). room_at (record b { pages = a.pages; rooms = words }) class page) rooms

-- each change of a page is one
pub AgreesOff-mark : (a b : Map) (page cell : ℕ) (mark : Mark) → SetsMark a b page cell mark → AgreesOff a b page 1
AgreesOff-mark a b page cell mark s = record {
  same = s.same;
  uses = λ other outside. use_at-same a b other s.uses;
  marks = λ other any outside small. s.other_pages other any (λ e. elim outside [
    | inl low ↦ omega arith
    | inr high ↦ omega arith
  ]) small;
  rooms = λ class other known within outside. room_at-same a b class other s.same.pages s.rooms;
  plain = s.plain;
}

pub AgreesOff-free : (a b : Map) (page : ℕ) → FreesPage a b page → AgreesOff a b page 1
AgreesOff-free a b page s = record {
  same = s.same;
  uses = λ other outside. use_at-same a b other s.uses;
  marks = λ other any outside small. s.other_pages other any (λ e. elim outside [
    | inl low ↦ omega arith
    | inr high ↦ omega arith
  ]) small;
  rooms = λ class other known within outside. room_at-same a b class other s.same.pages s.rooms;
  plain = s.plain;
}

pub AgreesOff-use : (a b : Map) (page : ℕ) (page_use : PageUse) → SetsUse a b page page_use → AgreesOff a b page 1
AgreesOff-use a b page page_use s = record {
  same = s.same;
  uses = λ other outside. s.others other (λ e. elim outside [
    | inl low ↦ omega arith
    | inr high ↦ omega arith
  ]);
  marks = λ other any outside small. mark_at-same a b other any s.marks;
  plain = λ any. plain-same a b any s.marks;
  rooms = λ class other known within outside. room_at-same a b class other s.same.pages s.rooms;
}

pub AgreesOff-room : (a b : Map) (class page : ℕ) (has_room : Bool) → SetsRoom a b class page has_room →
    AgreesOff a b page 1
AgreesOff-room a b class page has_room s = record {
  same = s.same;
  uses = λ other outside. use_at-same a b other s.uses;
  marks = λ other any outside small. mark_at-same a b other any s.marks;
  plain = λ any. plain-same a b any s.marks;
  rooms = λ c other known within outside. s.others c other known within (inr (λ e. elim outside [
    | inl low ↦ omega arith
    | inr high ↦ omega arith
  ]));
}

pub AgreesOff-uses : (a b : Map) (first count : ℕ) (uses : ℕ → PageUse) → SetsUses a b first count uses →
    AgreesOff a b first count
AgreesOff-uses a b first count uses s = record {
  same = s.same;
  uses = s.others;
  marks = λ other any outside small. mark_at-same a b other any s.marks;
  plain = λ any. plain-same a b any s.marks;
  rooms = λ class other known within outside. room_at-same a b class other s.same.pages s.rooms;
}

-- one after another
IsSame-trans : (a b c : Map) → IsSame a b → IsSame b c → IsSame a c
IsSame-trans a b c first second =
    record { location = second.location ∙ first.location; pages = second.pages ∙ first.pages }

pub AgreesOff-trans : (a b c : Map) (first count : ℕ) → AgreesOff a b first count → AgreesOff b c first count →
    AgreesOff a c first count
AgreesOff-trans a b c first count one two = record {
  same = IsSame-trans a b c one.same two.same;
  uses = λ page outside. two.uses page outside ∙ one.uses page outside;
  marks = λ page cell outside small. two.marks page cell outside small ∙ one.marks page cell outside small;
  plain = λ any before. two.plain any (one.plain any before);
  rooms = λ class page known within outside.
      two.rooms class page known (omega (arith, one.same.pages)) outside ∙ one.rooms class page known within outside;
}

-- the first of some pages
pub AgreesOff-first : (a b : Map) (first count : ℕ) → 0 < count → AgreesOff a b first 1 → AgreesOff a b first count
AgreesOff-first a b first count some one =
    let wider : (page : ℕ) → IsOutside first count page → IsOutside first 1 page = λ page outside. elim outside [
      | inl low ↦ inl low
      | inr high ↦ inr (omega arith)
    ] in
    record {
      same = one.same;
      uses = λ page outside. one.uses page (wider page outside);
      marks = λ page cell outside small. one.marks page cell (wider page outside) small;
      plain = one.plain;
      rooms = λ class page known within outside. one.rooms class page known within (wider page outside);
    }
