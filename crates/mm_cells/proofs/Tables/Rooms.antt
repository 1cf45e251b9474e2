-- The set of the pages of one class in a table, and the table after its words were written.
use Rattle.std.proofs.Common.{◌≡◌, ◌≢◌, ℕ, ◌+◌, ◌*◌, ◌<◌, ◌≤◌, Bool, List, length, take, drop, slice_range}
use Rattle.std.proofs.Common.{Option, Some, None, MatchOption, inl, inr, sym, ap, subst, ◌∙◌, refl, arith}
use Rattle.std.proofs.Math.Nat.{mul-le-mul_right, add-mul}
use Rattle.std.proofs.lemmas.Bool.{cases_eq, cases_lt}
use Rattle.std.proofs.lemmas.List.{drop-drop}
use Rattle.mm_words.specs.Piece.{Piece, with_words}
use Rattle.mm_words.specs.Writes.{written}
use Rattle.mm_sets.specs.Set.{set_size, members, IsSet, IsEmpty, IsLowest}
use Rattle.mm_words.proofs.Writes.{length-written, take-written, drop-written, drop-written_behind}
use Rattle.mm_words.proofs.Writes.{range-written_before}
use Rattle.mm_pages.proofs.Tables.{length-part}
use Rattle.mm_cells.proofs.Tables.Maps.{part-lent}
use Rattle.mm_cells.specs.Map.{Map, map_of, room_set, FitsTable, SetsRoom, NoPageWithRoom, IsLowestRoom}

-- where the words of the set of a class begin
abbrev pub set_start : ℕ → ℕ → ℕ
set_start pages class = 33 * pages + class * set_size pages

room_set-place : (p : Piece) (pages class : ℕ) →
    room_set (map_of p pages) class ≡ take (set_size pages) (drop (set_start pages class) p.words)
room_set-place p pages class =
    ap (λ (x : List ℕ). take (set_size pages) x) (drop-drop (class * set_size pages) (33 * pages) p.words)

-- a run of one size lies before each later one
before_later : (a b size : ℕ) → a < b → a * size + size ≤ b * size
before_later a b size less =
    let next : (a + 1) * size ≤ b * size = mul-le-mul_right size (omega arith) in
    omega (arith, add-mul a 1 size)

pub set_within : (pages class size : ℕ) → class < 19 → 33 * pages + class * size + size ≤ 33 * pages + 19 * size
set_within pages class size small = omega (arith, before_later class 19 size small)

-- those words, as the program lends them
pub record IsRoomSet (p : Piece) (pages class : ℕ) (set : List ℕ) : Type 0 where
  pub is : set ≡ room_set (map_of p pages) class
  pub sized : length set ≡ set_size pages

pub set_lent : (p : Piece) (pages class : ℕ) {start len : ℕ} (set : List ℕ) → FitsTable p pages → class < 19 →
    start ≡ set_start pages class → len ≡ set_size pages → set ≡ slice_range p.words start (start + len) →
    IsRoomSet p pages class set
set_lent p pages class {start} {len} set room small begins sized lent =
    let within = set_within pages class (set_size pages) small in
    record {
      is = part-lent p start len (set_start pages class) (set_size pages) set begins sized lent
          ∙ sym (room_set-place p pages class);
      sized = ap length lent ∙ length-part start len p.words (omega (arith, room.room)) ∙ sized;
    }

pub IsSet-lent : {p : Piece} {pages class : ℕ} {set : List ℕ} → FitsTable p pages → class < 19 →
    IsRoomSet p pages class set → IsSet pages set
IsSet-lent {p} {pages} {class} room small lent =
    subst (λ (s : List ℕ). IsSet pages s) (sym lent.is) (room.sets class small)

-- the lowest member of the set is the lowest page with room
pub lowest_room : (m : Map) (class : ℕ) (found : Option ℕ) →
    MatchOption found (IsEmpty m.pages (room_set m class)) (IsLowest m.pages (room_set m class)) →
    MatchOption found (NoPageWithRoom m class) (λ page. IsLowestRoom m class page)
lowest_room m class None none = none
lowest_room m class (Some page) low = record {
  within = low.below;
  has_room = λ none. cc (low.member, none);
  lowest = low.lowest;
}

-- the piece with another set of the class
abbrev pub with_set : Piece → ℕ → ℕ → List ℕ → Piece
with_set p pages class ws = with_words p (written (set_start pages class) ws p.words)

-- the sets are behind the marks
map_of-with_set : (p : Piece) (pages class : ℕ) (ws : List ℕ) → set_start pages class + length ws ≤ length p.words →
    map_of (with_set p pages class ws) pages
    ≡ record (map_of p pages) { rooms = drop (33 * pages) (written (set_start pages class) ws p.words) }
map_of-with_set p pages class ws fits =
    let from = set_start pages class in
    let behind : 33 * pages ≤ from = omega arith in
    let size : length (written from ws p.words) ≡ length p.words = length-written from ws p.words in
    let uses : take pages (written from ws p.words) ≡ take pages p.words =
    take-written from ws p.words fits pages (omega arith) in
    let marks : take (32 * pages) (drop pages (written from ws p.words)) ≡ take (32 * pages) (drop pages p.words) =
    range-written_before from ws p.words fits (32 * pages) pages (omega arith) in
    cc

room_set-same : (p : Piece) (pages class : ℕ) (ws : List ℕ) → set_start pages class + length ws ≤ length p.words →
    length ws ≡ set_size pages → room_set (map_of (with_set p pages class ws) pages) class ≡ ws
room_set-same p pages class ws fits sized =
    room_set-place (with_set p pages class ws) pages class
    ∙ ap (λ n. take n (drop (set_start pages class) (written (set_start pages class) ws p.words))) (sym sized)
    ∙ drop-written (set_start pages class) ws p.words fits

range-others : (p : Piece) (pages class other : ℕ) (ws : List ℕ) →
    set_start pages class + length ws ≤ length p.words → length ws ≡ set_size pages → other ≢ class →
    take (set_size pages) (drop (set_start pages other) (with_set p pages class ws).words)
    ≡ take (set_size pages) (drop (set_start pages other) p.words)
range-others p pages class other ws fits sized apart = elim (cases_lt other class) [
  | inl before ↦
      let less = before_later other class (set_size pages) before in
      range-written_before (set_start pages class) ws p.words fits (set_size pages) (set_start pages other)
      (omega arith)
  | inr later ↦
      let more = before_later class other (set_size pages) (omega arith) in
      ap (λ (x : List ℕ). take (set_size pages) x)
      (drop-written_behind (set_start pages class) ws p.words fits (set_start pages other) (omega arith))
]

room_set-others : (p : Piece) (pages class other : ℕ) (ws : List ℕ) →
    set_start pages class + length ws ≤ length p.words → length ws ≡ set_size pages → other ≢ class →
    room_set (map_of (with_set p pages class ws) pages) other ≡ room_set (map_of p pages) other
room_set-others p pages class other ws fits sized apart =
    room_set-place (with_set p pages class ws) pages other
    ∙ range-others p pages class other ws fits sized apart
    ∙ sym (room_set-place p pages other)

set_fits : (p : Piece) (pages class : ℕ) (ws : List ℕ) → FitsTable p pages → class < 19 →
    length ws ≡ set_size pages → set_start pages class + length ws ≤ length p.words
set_fits p pages class ws room small sized =
    let within = set_within pages class (set_size pages) small in omega (arith, room.room)

pub FitsTable-with_set : (p : Piece) (pages class : ℕ) (set ws : List ℕ) → FitsTable p pages → class < 19 →
    IsRoomSet p pages class set → length ws ≡ length set → IsSet pages ws → FitsTable (with_set p pages class ws) pages
FitsTable-with_set p pages class set ws room small lent size is_set =
    let sized = size ∙ lent.sized in
    let fits = set_fits p pages class ws room small sized in
    record {
      two = room.two;
      most = room.most;
      room = let whole = length-written (set_start pages class) ws p.words in omega (arith, room.room);
      sets = λ other below. elim (cases_eq other class) [
        | inl here ↦
            let same = ap (λ k. room_set (map_of (with_set p pages class ws) pages) k) here
            ∙ room_set-same p pages class ws fits sized in
            subst (λ (s : List ℕ). IsSet pages s) (sym same) is_set
        | inr there ↦
            subst (λ (s : List ℕ). IsSet pages s) (sym (room_set-others p pages class other ws fits sized there))
            (room.sets other below)
      ];
    }

pub SetsRoom-with_set : (p : Piece) (pages class page : ℕ) (has_room : Bool) (set ws : List ℕ) → FitsTable p pages →
    class < 19 → IsRoomSet p pages class set → length ws ≡ length set → members ws page ≡ has_room →
    ((other : ℕ) → other ≢ page → members ws other ≡ members set other) →
    SetsRoom (map_of p pages) (map_of (with_set p pages class ws) pages) class page has_room
SetsRoom-with_set p pages class page has_room set ws room small lent size here others =
    let sized = size ∙ lent.sized in
    let fits = set_fits p pages class ws room small sized in
    let after = map_of-with_set p pages class ws fits in
    let same = room_set-same p pages class ws fits sized in
    record {
      same = record { location = ap (λ (m : Map). m.location) after; pages = refl };
      here = rw same here;
      others = λ c n below within apart. elim (cases_eq c class) [
        | inl is ↦
            let other : n ≢ page = elim apart [ inl not ↦ absurd (not is) | inr not ↦ not ] in
            ap (λ k. members (room_set (map_of (with_set p pages class ws) pages) k) n) is
            ∙ ap (λ (s : List ℕ). members s n) same
            ∙ others n other
            ∙ ap (λ (s : List ℕ). members s n) lent.is
            ∙ ap (λ k. members (room_set (map_of p pages) k) n) (sym is)
        | inr there ↦ ap (λ (s : List ℕ). members s n) (room_set-others p pages class c ws fits sized there)
      ];
      uses = ap (λ (m : Map). m.uses) after;
      marks = ap (λ (m : Map). m.marks) after;
    }
