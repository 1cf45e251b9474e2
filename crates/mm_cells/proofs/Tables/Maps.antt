-- The parts of a table after the words of its uses or of its marks were written.
use Rattle.std.proofs.Common.{◌≡◌, ◌≢◌, ℕ, ◌+◌, ◌*◌, ◌<◌, ◌≤◌, ◌-◌, ◌⊎◌, List, length, take, drop, slice_range}
use Rattle.std.proofs.Common.{inl, inr, sym, ap, subst, ◌∙◌, refl, arith}
use Rattle.std.proofs.lemmas.Bool.{cases_eq, cases_lt}
use Rattle.mm_words.specs.Piece.{Piece, with_words}
use Rattle.mm_words.specs.Writes.{written}
use Rattle.mm_words.proofs.Writes.{length-written, take-written, drop-written, drop-written_behind}
use Rattle.mm_sets.specs.Set.{IsSet}
use Rattle.mm_pages.proofs.Tables.{length-part}
use Rattle.mm_model.specs.declared.object.Colour.{Colour}
use Rattle.mm_cells.specs.declared.marks.CellBits.{CellBits}
use Rattle.mm_cells.specs.declared.marks.Mark.{Mark}
use Rattle.mm_cells.specs.declared.marks.Mark.TheVariants.{Free, Taken}
use Rattle.mm_cells.specs.declared.page_use.PageUse.{PageUse}
use Rattle.mm_cells.specs.Map.{Map, map_of, room_set, mark_at, code_at, HasPlainMarks, FitsTable, SetsUse, SetsMark}
use Rattle.mm_cells.specs.Map.{FreesPage, WhitensPage}
use Rattle.mm_cells.specs.Uses.{use_in, ChangesUses}
use Rattle.mm_cells.specs.Spans.{SetsUses}
use Rattle.mm_cells.specs.Marks.{code_of, mark_of, code_of_cell, mark_of_cell, page_marks, whitened_mark, IsPlain}

-- some words in a row, by where they begin and how many they are
pub part-lent : (p : Piece) (start len from n : ℕ) (part : List ℕ) → start ≡ from → len ≡ n →
    part ≡ slice_range p.words start (start + len) → part ≡ take n (drop from p.words)
part-lent p start len from n part begins sized lent =
    lent ∙ ap (λ k. take k (drop start p.words)) (omega arith) ∙ ap (λ k. take k (drop start p.words)) sized
    ∙ ap (λ k. take n (drop k p.words)) begins

-- the words of the uses, as the program lends them
pub record AreUses (p : Piece) (pages : ℕ) (uses : List ℕ) : Type 0 where
  pub is : uses ≡ (map_of p pages).uses
  pub sized : length uses ≡ pages

pub uses_lent : (p : Piece) (pages : ℕ) {start len : ℕ} (uses : List ℕ) → FitsTable p pages → start ≡ 0 → len ≡ pages →
    uses ≡ slice_range p.words start (start + len) → AreUses p pages uses
uses_lent p pages {start} {len} uses room begins sized lent = record {
  is = part-lent p start len 0 pages uses begins sized lent;
  sized = ap length lent ∙ length-part start len p.words (omega (arith, room.room)) ∙ sized;
}

-- the piece with other uses
abbrev pub with_uses : Piece → List ℕ → Piece
with_uses p ws = with_words p (written 0 ws p.words)

map_of-with_uses : (p : Piece) (pages : ℕ) (ws : List ℕ) → FitsTable p pages → length ws ≡ pages →
    map_of (with_uses p ws) pages ≡ record (map_of p pages) { uses = ws }
map_of-with_uses p pages ws room sized =
    let fits : 0 + length ws ≤ length p.words = omega (arith, room.room) in
    let size : length (written 0 ws p.words) ≡ length p.words = length-written 0 ws p.words in
    let uses : take pages (written 0 ws p.words) ≡ ws =
    ap (λ n. take n (written 0 ws p.words)) (sym sized) ∙ drop-written 0 ws p.words fits in
    let marks : drop pages (written 0 ws p.words) ≡ drop pages p.words =
    drop-written_behind 0 ws p.words fits pages (omega arith) in
    let rooms : drop (33 * pages) (written 0 ws p.words) ≡ drop (33 * pages) p.words =
    drop-written_behind 0 ws p.words fits (33 * pages) (omega arith) in
    cc

pub FitsTable-with_uses : (p : Piece) (pages : ℕ) (uses ws : List ℕ) → FitsTable p pages → AreUses p pages uses →
    length ws ≡ length uses → FitsTable (with_uses p ws) pages
FitsTable-with_uses p pages uses ws room lent size = record {
  two = room.two;
  most = room.most;
  room = omega (arith, length-written 0 ws p.words, room.room);
  sets = λ class small. subst (λ (m : Map). IsSet pages (room_set m class))
      (sym (map_of-with_uses p pages ws room (size ∙ lent.sized))) (room.sets class small);
}

-- the use of a page that stands by itself changes, and those of the pages of a cell
pub SetsUse-with_uses : (p : Piece) (pages page : ℕ) (page_use : PageUse) (uses ws : List ℕ) → FitsTable p pages →
    AreUses p pages uses → length ws ≡ length uses → use_in ws page ≡ page_use →
    ((other : ℕ) → other ≢ page → use_in ws other ≡ use_in uses other) →
    SetsUse (map_of p pages) (map_of (with_uses p ws) pages) page page_use
SetsUse-with_uses p pages page page_use uses ws room lent size here others =
    let after = map_of-with_uses p pages ws room (size ∙ lent.sized) in
    let now : (map_of (with_uses p ws) pages).uses ≡ ws = ap (λ (m : Map). m.uses) after in
    record {
      same = record { location = ap (λ (m : Map). m.location) after; pages = refl };
      here = ap (λ (s : List ℕ). use_in s page) now ∙ here;
      others = λ other apart. ap (λ (s : List ℕ). use_in s other) now ∙ others other apart
          ∙ ap (λ (s : List ℕ). use_in s other) lent.is;
      marks = ap (λ (m : Map). m.marks) after;
      rooms = ap (λ (m : Map). m.rooms) after;
    }

pub SetsUses-with_uses : (p : Piece) (pages first count : ℕ) (page_uses : ℕ → PageUse) (uses ws : List ℕ) →
    FitsTable p pages → AreUses p pages uses → length ws ≡ length uses →
    ChangesUses uses ws first count page_uses →
    SetsUses (map_of p pages) (map_of (with_uses p ws) pages) first count page_uses
SetsUses-with_uses p pages first count page_uses uses ws room lent size changes =
    let after = map_of-with_uses p pages ws room (size ∙ lent.sized) in
    let now : (map_of (with_uses p ws) pages).uses ≡ ws = ap (λ (m : Map). m.uses) after in
    record {
      same = record { location = ap (λ (m : Map). m.location) after; pages = refl };
      here = λ distance within.
          ap (λ (s : List ℕ). use_in s (first + distance)) now ∙ changes.here distance within;
      others = λ other outside. ap (λ (s : List ℕ). use_in s other) now ∙ changes.others other outside
          ∙ ap (λ (s : List ℕ). use_in s other) lent.is;
      marks = ap (λ (m : Map). m.marks) after;
      rooms = ap (λ (m : Map). m.rooms) after;
    }

-- the words of the marks, as the program lends them
pub record IsMarks (p : Piece) (pages : ℕ) (table : List ℕ) : Type 0 where
  pub is : table ≡ (map_of p pages).marks
  pub sized : length table ≡ 32 * pages

pub marks_lent : (p : Piece) (pages : ℕ) {start len : ℕ} (table : List ℕ) → FitsTable p pages → start ≡ pages →
    len ≡ 32 * pages → table ≡ slice_range p.words start (start + len) → IsMarks p pages table
marks_lent p pages {start} {len} table room begins sized lent = record {
  is = part-lent p start len pages (32 * pages) table begins sized lent;
  sized = ap length lent ∙ length-part start len p.words (omega (arith, room.room)) ∙ sized;
}

-- the piece with other marks
abbrev pub with_marks : Piece → ℕ → List ℕ → Piece
with_marks p pages ws = with_words p (written pages ws p.words)

map_of-with_marks : (p : Piece) (pages : ℕ) (ws : List ℕ) → FitsTable p pages → length ws ≡ 32 * pages →
    map_of (with_marks p pages ws) pages ≡ record (map_of p pages) { marks = ws }
map_of-with_marks p pages ws room sized =
    let fits : pages + length ws ≤ length p.words = omega (arith, room.room) in
    let size : length (written pages ws p.words) ≡ length p.words = length-written pages ws p.words in
    let uses : take pages (written pages ws p.words) ≡ take pages p.words =
    take-written pages ws p.words fits pages (omega arith) in
    let marks : take (32 * pages) (drop pages (written pages ws p.words)) ≡ ws =
    ap (λ n. take n (drop pages (written pages ws p.words))) (sym sized) ∙ drop-written pages ws p.words fits in
    let rooms : drop (33 * pages) (written pages ws p.words) ≡ drop (33 * pages) p.words =
    drop-written_behind pages ws p.words fits (33 * pages) (omega arith) in
    cc

-- the marks of a page begin at a word of their own
pub page_marks-map : (m : Map) (page : ℕ) → page_marks m.marks (32 * page) ≡ mark_at m page
page_marks-map m page =
    let start : 8 * (32 * page) ≡ 256 * page = omega arith in
    ap (λ first cell. mark_of_cell m.marks (first + cell)) start

-- a mark after others were written
pub mark_at-with_marks : (p : Piece) (pages page cell : ℕ) (table ws : List ℕ) → FitsTable p pages →
    IsMarks p pages table → length ws ≡ length table →
    mark_at (map_of (with_marks p pages ws) pages) page cell ≡ mark_of_cell ws (256 * page + cell)
mark_at-with_marks p pages page cell table ws room lent size =
    ap (λ (m : Map). mark_of_cell m.marks (256 * page + cell))
    (map_of-with_marks p pages ws room (size ∙ lent.sized))

-- a mark that says taken is no free cell's, and one that was written is the code of what it says
pub plain-taken : (code : ℕ) (colour : Colour) (flags : CellBits) → mark_of code ≡ Taken colour flags → IsPlain code
plain-taken code colour flags is = λ free. absurd (let both : Free ≡ Taken colour flags = sym free ∙ is in cc)

pub plain-code : (code : ℕ) (mark : Mark) → mark_of code ≡ mark → code ≡ code_of mark → IsPlain code
plain-code code mark means is = λ free. is ∙ ap code_of (sym means ∙ free)

pub code_at-with_marks : (p : Piece) (pages page cell : ℕ) (table ws : List ℕ) → FitsTable p pages →
    IsMarks p pages table → length ws ≡ length table →
    code_at (map_of (with_marks p pages ws) pages) page cell ≡ code_of_cell ws (256 * page + cell)
code_at-with_marks p pages page cell table ws room lent size =
    ap (λ (m : Map). code_of_cell m.marks (256 * page + cell))
    (map_of-with_marks p pages ws room (size ∙ lent.sized))

-- no free cell gets a flag where none does in the words that were written
plain-with_marks : (p : Piece) (pages : ℕ) (table ws : List ℕ) → FitsTable p pages →
    IsMarks p pages table → length ws ≡ length table →
    ((c : ℕ) → IsPlain (code_of_cell table c) → IsPlain (code_of_cell ws c)) →
    (any : ℕ) → HasPlainMarks (map_of p pages) any → HasPlainMarks (map_of (with_marks p pages ws) pages) any
plain-with_marks p pages table ws room lent size plain any before = λ cell low.
    subst IsPlain (sym (code_at-with_marks p pages any cell table ws room lent size))
    (plain (256 * any + cell)
    (subst (λ (s : List ℕ). IsPlain (code_of_cell s (256 * any + cell))) (sym lent.is) (before cell low)))

pub SetsMark-with_marks : (p : Piece) (pages page cell : ℕ) (mark : Mark) (table ws : List ℕ) → FitsTable p pages →
    IsMarks p pages table → length ws ≡ length table → cell < 256 → mark_of_cell ws (256 * page + cell) ≡ mark →
    IsPlain (code_of_cell ws (256 * page + cell)) →
    ((c : ℕ) → c ≢ 256 * page + cell → code_of_cell ws c ≡ code_of_cell table c) →
    SetsMark (map_of p pages) (map_of (with_marks p pages ws) pages) page cell mark
SetsMark-with_marks p pages page cell mark table ws room lent size small given plain others =
    let after = map_of-with_marks p pages ws room (size ∙ lent.sized) in
    let marks : (map_of (with_marks p pages ws) pages).marks ≡ ws = ap (λ (m : Map). m.marks) after in
    let same : (c : ℕ) → c ≢ 256 * page + cell →
    mark_of_cell (map_of (with_marks p pages ws) pages).marks c ≡ mark_of_cell (map_of p pages).marks c =
    λ c apart.
    ap (λ (s : List ℕ). mark_of_cell s c) marks ∙ ap mark_of (others c apart)
    ∙ ap (λ (s : List ℕ). mark_of_cell s c) lent.is in
    record {
      plain = plain-with_marks p pages table ws room lent size (λ c was. elim (cases_eq c (256 * page + cell)) [
        | inl here ↦ subst (λ (k : ℕ). IsPlain (code_of_cell ws k)) (sym here) plain
        | inr apart ↦ subst IsPlain (sym (others c apart)) was
      ]);
      same = record { location = ap (λ (m : Map). m.location) after; pages = refl };
      here = ap (λ (s : List ℕ). mark_of_cell s (256 * page + cell)) marks ∙ given;
      other_cells = λ other below apart. same (256 * page + other) (λ e. apart (omega arith));
      other_pages = λ other any apart below. same (256 * other + any) (λ e. apart (omega arith));
      uses = ap (λ (m : Map). m.uses) after;
      rooms = ap (λ (m : Map). m.rooms) after;
    }

-- another page's cells come before or behind
apart_pages : (page other any : ℕ) → other ≢ page → any < 256 →
    (256 * other + any < 8 * (32 * page)) ⊎ (8 * (32 * page) + 256 ≤ 256 * other + any)
apart_pages page other any apart below = elim (cases_lt other page) [
  | inl before ↦ inl (omega arith)
  | inr later ↦ inr (elim (cases_eq other page) [ inl same ↦ absurd (apart same) | inr not ↦ omega arith ])
]

pub FreesPage-with_marks : (p : Piece) (pages page : ℕ) (table ws : List ℕ) → FitsTable p pages →
    IsMarks p pages table → length ws ≡ length table →
    ((c : ℕ) → c < 256 → code_of_cell ws (8 * (32 * page) + c) ≡ code_of Free) →
    ((c : ℕ) → (c < 8 * (32 * page)) ⊎ (8 * (32 * page) + 256 ≤ c) → code_of_cell ws c ≡ code_of_cell table c) →
    FreesPage (map_of p pages) (map_of (with_marks p pages ws) pages) page
FreesPage-with_marks p pages page table ws room lent size freed others =
    let after = map_of-with_marks p pages ws room (size ∙ lent.sized) in
    let marks : (map_of (with_marks p pages ws) pages).marks ≡ ws = ap (λ (m : Map). m.marks) after in
    let start : 256 * page ≡ 8 * (32 * page) = omega arith in
    record {
      here_plain = λ cell low free.
          code_at-with_marks p pages page cell table ws room lent size
          ∙ ap (λ first. code_of_cell ws (first + cell)) start ∙ freed cell low;
      plain = plain-with_marks p pages table ws room lent size (λ c was. elim (cases_lt c (8 * (32 * page))) [
        | inl before ↦ subst IsPlain (sym (others c (inl before))) was
        | inr from ↦ elim (cases_lt c (8 * (32 * page) + 256)) [
          | inr behind ↦ subst IsPlain (sym (others c (inr behind))) was
          | inl below ↦
              let at : 8 * (32 * page) + (c - 8 * (32 * page)) ≡ c = omega arith in
              λ free. ap (λ (k : ℕ). code_of_cell ws k) (sym at) ∙ freed (c - 8 * (32 * page)) (omega arith)
        ]
      ]);
      same = record { location = ap (λ (m : Map). m.location) after; pages = refl };
      here = λ cell below.
          ap (λ (s : List ℕ). mark_of_cell s (256 * page + cell)) marks
          ∙ ap (λ first. mark_of_cell ws (first + cell)) start
          ∙ ap mark_of (freed cell below);
      other_pages = λ other any apart below.
          ap (λ (s : List ℕ). mark_of_cell s (256 * other + any)) marks
          ∙ ap mark_of (others (256 * other + any) (apart_pages page other any apart below))
          ∙ ap (λ (s : List ℕ). mark_of_cell s (256 * other + any)) lent.is;
      uses = ap (λ (m : Map). m.uses) after;
      rooms = ap (λ (m : Map). m.rooms) after;
    }

pub WhitensPage-with_marks : (p : Piece) (pages page words : ℕ) (table ws : List ℕ) → FitsTable p pages →
    IsMarks p pages table → length ws ≡ length table → words ≤ 32 →
    ((c : ℕ) → c < 8 * words → page_marks ws (32 * page) c ≡ whitened_mark (page_marks table (32 * page) c)) →
    ((c : ℕ) → c < 8 * words → IsPlain (code_of_cell table (8 * (32 * page) + c))
    → IsPlain (code_of_cell ws (8 * (32 * page) + c))) →
    ((c : ℕ) → (c < 8 * (32 * page)) ⊎ (8 * (32 * page) + 8 * words ≤ c) → code_of_cell ws c ≡ code_of_cell table c) →
    WhitensPage (map_of p pages) (map_of (with_marks p pages ws) pages) page words
WhitensPage-with_marks p pages page words table ws room lent size few white plain others =
    let after = map_of-with_marks p pages ws room (size ∙ lent.sized) in
    let marks : (map_of (with_marks p pages ws) pages).marks ≡ ws = ap (λ (m : Map). m.marks) after in
    let same : (c : ℕ) → (c < 8 * (32 * page)) ⊎ (8 * (32 * page) + 8 * words ≤ c) →
    mark_of_cell (map_of (with_marks p pages ws) pages).marks c ≡ mark_of_cell (map_of p pages).marks c =
    λ c apart.
    ap (λ (s : List ℕ). mark_of_cell s c) marks ∙ ap mark_of (others c apart)
    ∙ ap (λ (s : List ℕ). mark_of_cell s c) lent.is in
    let start : 256 * page ≡ 8 * (32 * page) = omega arith in
    record {
      plain = plain-with_marks p pages table ws room lent size (λ c was. elim (cases_lt c (8 * (32 * page))) [
        | inl before ↦ subst IsPlain (sym (others c (inl before))) was
        | inr from ↦ elim (cases_lt c (8 * (32 * page) + 8 * words)) [
          | inr behind ↦ subst IsPlain (sym (others c (inr behind))) was
          | inl below ↦
              let at : 8 * (32 * page) + (c - 8 * (32 * page)) ≡ c = omega arith in
              subst (λ (k : ℕ). IsPlain (code_of_cell ws k)) at (plain (c - 8 * (32 * page)) (omega arith)
              (subst (λ (k : ℕ). IsPlain (code_of_cell table k)) (sym at) was))
        ]
      ]);
      same = record { location = ap (λ (m : Map). m.location) after; pages = refl };
      here = λ cell below.
          ap (λ (s : List ℕ). mark_of_cell s (256 * page + cell)) marks
          ∙ ap (λ first. mark_of_cell ws (first + cell)) start
          ∙ white cell below
          ∙ ap (λ first. whitened_mark (mark_of_cell table (first + cell))) (sym start)
          ∙ ap (λ (s : List ℕ). whitened_mark (mark_of_cell s (256 * page + cell))) lent.is;
      behind = λ cell past below. same (256 * page + cell) (inr (omega arith));
      other_pages = λ other any apart below. elim (apart_pages page other any apart below) [
        | inl before ↦ same (256 * other + any) (inl before)
        | inr later ↦ same (256 * other + any) (inr (omega arith))
      ];
      uses = ap (λ (m : Map). m.uses) after;
      rooms = ap (λ (m : Map). m.rooms) after;
    }
