-- A table of areas once an area is entered or left.
use Rattle.std.proofs.Common.{◌≡◌, ◌≢◌, ℕ, ◌+◌, ◌<◌, ◌≤◌, Bool, true, false, List, length, take, drop, Option, Some}
use Rattle.std.proofs.Common.{None, MatchOption, get_or, set, replicate, sym, ap, ◌∙◌, subst, inl, inr, arith}
use Rattle.std.specs.Prelude.{slice_index}
use Rattle.std.proofs.lemmas.Bool.{cases_eq, cases_lt}
use Rattle.std.proofs.lemmas.List.{same_lists, get_or-replicate, length-replicate, get_or_past, length-set}
use Rattle.mm_sets.specs.Set.{members, IsSet, IsEmpty, IsLowest, IsEmptyFrom, IsLowestFrom}
use Rattle.mm_model.specs.Areas.{most_areas}
use Rattle.mm_model.specs.Places.SizeClass.{extent_of, area_bytes}
use Rattle.mm_words.specs.Piece.{Piece, with_words}
use Rattle.mm_words.specs.Location.{location_of}
use Rattle.mm_words.specs.Writes.{written}
use Rattle.mm_words.proofs.Writes.{length-written, drop-written, drop-written_behind}
use Rattle.mm_roots.specs.declared.area_shape.AreaShape.{AreaShape}
use Rattle.mm_roots.specs.Areas.{IsAreaShape}
use Rattle.mm_roots.specs.Kept.{set_part, is_free, is_scanned, base_in, counted_in, cells_in, shape_told}
use Rattle.mm_roots.specs.Kept.{areas_told, KeepsTable, WritesMember, IsLowestFree, AreAllTaken, NoneScannedFrom}
use Rattle.mm_roots.specs.Kept.{IsNextScanned}
use Rattle.mm_roots.proofs.Tables.{length-areas_told, get_or-areas_told, area_told-taken, area_told-free}
use Rattle.mm_roots.proofs.Tables.{taken-area_told, told-None, set_part-is, IsRowSet, IsRowSet-set, row_set}
use Rattle.mm_roots.proofs.Tables.{IsMemberSet, IsMemberSet-written, free-scanned_written, scanned-free_written}
use Rattle.mm_roots.proofs.Tables.{ChangesNumber, areas_told-changed}

-- the words of a number, and its places in the sets, are an area's
shape_told-is : (words : List ℕ) (number : ℕ) (area : AreaShape) → IsAreaShape area →
    is_scanned words number ≡ area.scanned → counted_in words number ≡ area.counted →
    cells_in words number ≡ area.cells → base_in words number ≡ area.base → shape_told words number ≡ area
shape_told-is words number area allowed scanned counted cells base =
    same scanned counted cells base
    (ap (λ n. extent_of (area_bytes n)) cells ∙ sym allowed.extent)
  where
    same : {s s' : Bool} {k k' n n' b b' e e' : ℕ} → s ≡ s' → k ≡ k' → n ≡ n' → b ≡ b' → e ≡ e' →
        ◌≡◌ {A = AreaShape} (record { scanned = s; counted = k; cells = n; base = b; extent = e })
        (record { scanned = s'; counted = k'; cells = n'; base = b'; extent = e' })
    same s k n b e = cc

-- the sets are sets still once a row is written, and once the other set is
pub IsSet-row : (p rows : Piece) (number : ℕ) (area : AreaShape) → number < most_areas → 4096 ≤ length p.words →
    rows.words ≡ row_set p.words number area → (from : ℕ) → from + 36 ≤ 72 → IsSet most_areas (set_part p.words from) →
    IsSet most_areas (set_part rows.words from)
IsSet-row p rows number area below room is from part set =
    let row = IsRowSet-set p.words number area room below in
    subst (λ (ws : List ℕ). IsSet most_areas ws)
    (sym (ap (λ (ws : List ℕ). set_part ws from) is ∙ row.parts from part)) set

pub length-row : (p rows : Piece) (number : ℕ) (area : AreaShape) → number < most_areas → 4096 ≤ length p.words →
    rows.words ≡ row_set p.words number area → length rows.words ≡ length p.words
length-row p rows number area below room is = ap length is ∙ (IsRowSet-set p.words number area room below).size

pub IsSet-scanned : (p q : Piece) (number : ℕ) (member : Bool) → 72 ≤ length p.words →
    WritesMember p q 36 number member → IsSet most_areas (set_part p.words 0) → IsSet most_areas (set_part q.words 0)
IsSet-scanned p q number member room writes set =
    subst (λ (ws : List ℕ). IsSet most_areas ws) (sym (free-scanned_written p q number member room writes)) set

pub location-set : (p : Piece) (i x : ℕ) → location_of (with_words p (set p.words i x)) ≡ location_of p
location-set p i x = ap (λ n. record (location_of p) { size = n }) (length-set p.words i x)

module _ (p rows scans ends : Piece) (number : ℕ) (below : number < most_areas) (keeps : KeepsTable p) where
  -- An area is entered: its words are written, and then it is put into the sets.
  module _ (area : AreaShape) (allowed : IsAreaShape area) (is : rows.words ≡ row_set p.words number area)
      (scan : WritesMember rows scans 36 number area.scanned) (end : WritesMember scans ends 0 number false) where
    row : IsRowSet p.words rows.words number area
    row = subst (λ (ws : List ℕ). IsRowSet p.words ws number area) (sym is)
        (IsRowSet-set p.words number area keeps.room below)

    scanned : IsMemberSet rows.words scans.words 36 number area.scanned
    scanned = IsMemberSet-written rows scans 36 number area.scanned (omega arith)
        (omega (arith, row.size, keeps.room)) scan

    taken : IsMemberSet scans.words ends.words 0 number false
    taken = IsMemberSet-written scans ends 0 number false (omega arith)
        (omega (arith, row.size, scanned.size, keeps.room)) end

    size : length ends.words ≡ length p.words
    size = taken.size ∙ scanned.size ∙ row.size

    free_set : set_part scans.words 0 ≡ set_part p.words 0
    free_set = free-scanned_written rows scans number area.scanned (omega (arith, row.size, keeps.room)) scan
        ∙ row.parts 0 (omega arith)

    scanned_set : set_part ends.words 36 ≡ set_part scans.words 36
    scanned_set = scanned-free_written scans ends number false (omega (arith, row.size, scanned.size, keeps.room)) end

    at : (i : ℕ) → 72 ≤ i → i < length p.words → slice_index ends.words i ≡ slice_index rows.words i
    at i behind within =
        taken.rows i behind (omega (arith, row.size, scanned.size))
        ∙ scanned.rows i behind (omega (arith, row.size))

    scanned_here : is_scanned ends.words number ≡ area.scanned
    scanned_here = ap (λ (ws : List ℕ). members ws number) scanned_set ∙ scanned.here

    scanned_others : (other : ℕ) → other ≢ number → is_scanned ends.words other ≡ is_scanned p.words other
    scanned_others other apart =
        ap (λ (ws : List ℕ). members ws other) scanned_set ∙ scanned.others other apart
        ∙ ap (λ (ws : List ℕ). members ws other) (row.parts 36 (omega arith))

    free_others : (other : ℕ) → other ≢ number → is_free ends.words other ≡ is_free p.words other
    free_others other apart = taken.others other apart ∙ ap (λ (ws : List ℕ). members ws other) free_set

    cells_here : cells_in ends.words number ≡ area.cells
    cells_here = at (2120 + number) (omega arith) (omega (arith, keeps.room)) ∙ row.cells

    entered-others : ChangesNumber p.words ends.words number
    entered-others = record {
      free = free_others;
      scanned = scanned_others;
      base = λ other within apart.
          at (72 + other) (omega arith) (omega (arith, keeps.room))
          ∙ row.others (72 + other) (omega arith) (λ e. apart (omega arith)) (λ e. absurd (omega arith))
          (λ e. absurd (omega arith));
      counted = λ other within apart.
          at (1096 + other) (omega arith) (omega (arith, keeps.room))
          ∙ row.others (1096 + other) (omega arith) (λ e. absurd (omega arith)) (λ e. apart (omega arith))
          (λ e. absurd (omega arith));
      cells = λ other within apart.
          at (2120 + other) (omega arith) (omega (arith, keeps.room))
          ∙ row.others (2120 + other) (omega arith) (λ e. absurd (omega arith)) (λ e. absurd (omega arith))
          (λ e. apart (omega arith));
    }

    pub entered-areas : areas_told ends.words ≡ set (areas_told p.words) number (Some area)
    entered-areas =
        areas_told-changed p.words ends.words number (Some area) below entered-others
        (area_told-taken ends.words number taken.here
        ∙ ap Some (shape_told-is ends.words number area allowed scanned_here
        (at (1096 + number) (omega arith) (omega (arith, keeps.room)) ∙ row.counted)
        cells_here
        (at (72 + number) (omega arith) (omega (arith, keeps.room)) ∙ row.base)))

    pub entered-keeps : KeepsTable ends
    entered-keeps = record {
      room = omega (arith, size, keeps.room);
      free = taken.set;
      scanned = subst (λ (ws : List ℕ). IsSet most_areas ws) (sym scanned_set) scanned.set;
      lives = λ other within member. elim (cases_eq other number) [
        | inl same ↦ ap (is_free ends.words) same ∙ taken.here
        | inr apart ↦
            free_others other apart ∙ keeps.lives other within (sym (scanned_others other apart) ∙ member)
      ];
      some = λ other within lives. elim (cases_eq other number) [
        | inl same ↦
            let is : cells_in ends.words other ≡ area.cells = ap (cells_in ends.words) same ∙ cells_here in
            omega (arith, is, allowed.some)
        | inr apart ↦
            let is = entered-others.cells other within apart in
            omega (arith, is, keeps.some other within (sym (free_others other apart) ∙ lives))
      ];
      most = λ other within lives. elim (cases_eq other number) [
        | inl same ↦
            let is : cells_in ends.words other ≡ area.cells = ap (cells_in ends.words) same ∙ cells_here in
            omega (arith, is, allowed.most)
        | inr apart ↦
            let is = entered-others.cells other within apart in
            omega (arith, is, keeps.most other within (sym (free_others other apart) ∙ lives))
      ];
    }

  -- A number is left: it is taken out of the set of scanned ones, and then put into the set of free ones.
  module _ (scan : WritesMember p scans 36 number false) (end : WritesMember scans ends 0 number true) where
    unscanned : IsMemberSet p.words scans.words 36 number false
    unscanned = IsMemberSet-written p scans 36 number false (omega arith) (omega (arith, keeps.room)) scan

    freed : IsMemberSet scans.words ends.words 0 number true
    freed = IsMemberSet-written scans ends 0 number true (omega arith)
        (omega (arith, unscanned.size, keeps.room)) end

    left_size : length ends.words ≡ length p.words
    left_size = freed.size ∙ unscanned.size

    left_free_set : set_part scans.words 0 ≡ set_part p.words 0
    left_free_set = free-scanned_written p scans number false (omega (arith, keeps.room)) scan

    left_scanned_set : set_part ends.words 36 ≡ set_part scans.words 36
    left_scanned_set = scanned-free_written scans ends number true (omega (arith, unscanned.size, keeps.room)) end

    left_at : (i : ℕ) → 72 ≤ i → i < length p.words → slice_index ends.words i ≡ slice_index p.words i
    left_at i behind within =
        freed.rows i behind (omega (arith, unscanned.size)) ∙ unscanned.rows i behind within

    left-others : ChangesNumber p.words ends.words number
    left-others = record {
      free = λ other apart. freed.others other apart ∙ ap (λ (ws : List ℕ). members ws other) left_free_set;
      scanned = λ other apart.
          ap (λ (ws : List ℕ). members ws other) left_scanned_set ∙ unscanned.others other apart;
      base = λ other within apart. left_at (72 + other) (omega arith) (omega (arith, keeps.room));
      counted = λ other within apart. left_at (1096 + other) (omega arith) (omega (arith, keeps.room));
      cells = λ other within apart. left_at (2120 + other) (omega arith) (omega (arith, keeps.room));
    }

    left_scanned : is_scanned ends.words number ≡ false
    left_scanned = ap (λ (ws : List ℕ). members ws number) left_scanned_set ∙ unscanned.here

    pub left-areas : areas_told ends.words ≡ set (areas_told p.words) number None
    left-areas =
        areas_told-changed p.words ends.words number None below left-others
        (area_told-free ends.words number freed.here)

    pub left-keeps : KeepsTable ends
    left-keeps = record {
      room = omega (arith, left_size, keeps.room);
      free = freed.set;
      scanned = subst (λ (ws : List ℕ). IsSet most_areas ws) (sym left_scanned_set) unscanned.set;
      lives = λ other within member. elim (cases_eq other number) [
        | inl same ↦ absurd (cc (ap (is_scanned ends.words) same, left_scanned, member))
        | inr apart ↦
            left-others.free other apart
            ∙ keeps.lives other within (sym (left-others.scanned other apart) ∙ member)
      ];
      some = λ other within lives. elim (cases_eq other number) [
        | inl same ↦ absurd (cc (freed.here, lives))
        | inr apart ↦
            let is = left-others.cells other within apart in
            omega (arith, is, keeps.some other within (sym (left-others.free other apart) ∙ lives))
      ];
      most = λ other within lives. elim (cases_eq other number) [
        | inl same ↦ absurd (cc (freed.here, lives))
        | inr apart ↦
            let is = left-others.cells other within apart in
            omega (arith, is, keeps.most other within (sym (left-others.free other apart) ∙ lives))
      ];
    }

-- the words of a new table
module _ (words none all : List ℕ) (room : 4096 ≤ length words) (none_sized : length none ≡ 36)
    (all_sized : length all ≡ 36) where
  abbrev pub made : List ℕ
  made = written 0 all (written 36 none words)

  made_size : length made ≡ length words
  made_size = length-written 0 all (written 36 none words) ∙ length-written 36 none words

  made_free : set_part made 0 ≡ all
  made_free =
      set_part-is made 0 ∙ ap (λ n. take n (drop 0 made)) (sym all_sized)
      ∙ drop-written 0 all (written 36 none words) (omega (arith, all_sized, length-written 36 none words))

  made_scanned : set_part made 36 ≡ none
  made_scanned =
      set_part-is made 36
      ∙ ap (λ (ws : List ℕ). take 36 ws)
      (drop-written_behind 0 all (written 36 none words) (omega (arith, all_sized, length-written 36 none words)) 36
      (omega (arith, all_sized)))
      ∙ ap (λ n. take n (drop 36 (written 36 none words))) (sym none_sized)
      ∙ drop-written 36 none words (omega (arith, none_sized))

  module _ (full : (number : ℕ) → number < most_areas → members all number ≡ true) where
    made_all : (number : ℕ) → number < most_areas → is_free made number ≡ true
    made_all number below = ap (λ (ws : List ℕ). members ws number) made_free ∙ full number below

    pub made-areas : areas_told made ≡ replicate most_areas None
    made-areas =
        let size = length-areas_told made in
        let no_area : Option AreaShape = None in
        let none_size = length-replicate most_areas no_area in
        same_lists (areas_told made) (replicate most_areas None) (size ∙ sym none_size) (λ k d within.
        get_or-areas_told made k d (omega (arith, size))
        ∙ area_told-free made k (made_all k (omega (arith, size)))
        ∙ sym (get_or-replicate most_areas k None d (omega (arith, size))))

    pub made-keeps : (p : Piece) → IsSet most_areas all → IsSet most_areas none → IsEmpty most_areas none →
        KeepsTable (with_words p made)
    made-keeps p all_set none_set empty = record {
      room = omega (arith, made_size);
      free = subst (λ (ws : List ℕ). IsSet most_areas ws) (sym made_free) all_set;
      scanned = subst (λ (ws : List ℕ). IsSet most_areas ws) (sym made_scanned) none_set;
      lives = λ number below member.
          absurd (cc (ap (λ (ws : List ℕ). members ws number) made_scanned, empty number below, member));
      some = λ number below lives. absurd (cc (made_all number below, lives));
      most = λ number below lives. absurd (cc (made_all number below, lives));
    }

-- the lowest free number is the lowest that no area has
pub lowest-areas : (words : List ℕ) (found : Option ℕ) →
    MatchOption found (IsEmpty most_areas (set_part words 0)) (IsLowest most_areas (set_part words 0)) →
    MatchOption found (AreAllTaken (areas_told words)) (IsLowestFree (areas_told words))
lowest-areas words None empty = λ number below none.
    let is = get_or-areas_told words number None below in
    absurd (cc (told-None words number (sym is ∙ none), empty number below))
lowest-areas words (Some number) lowest = record {
  below = lowest.below;
  free = get_or-areas_told words number None lowest.below ∙ area_told-free words number lowest.member;
  lowest = λ lower less none.
      let is = get_or-areas_told words lower None (omega (arith, lowest.below)) in
      absurd (cc (told-None words lower (sym is ∙ none), lowest.lowest lower less));
}

-- what the table tells is below the greatest number
told-below : (words : List ℕ) (number : ℕ) (area : AreaShape) → get_or (areas_told words) number None ≡ Some area →
    number < most_areas
told-below words number area is = elim (cases_lt number most_areas) [
  | inl below ↦ below
  | inr past ↦
      absurd (cc (is, get_or_past (areas_told words) number None (omega (arith, length-areas_told words))))
]

-- an area that a number below has
told-at : (words : List ℕ) (number : ℕ) (area : AreaShape) → get_or (areas_told words) number None ≡ Some area →
    (is_free words number ≡ false) × (shape_told words number ≡ area)
told-at words number area is =
    taken-area_told words number area
    (sym (get_or-areas_told words number None (told-below words number area is)) ∙ is)

unscanned-told : (words : List ℕ) (number : ℕ) (area : AreaShape) →
    get_or (areas_told words) number None ≡ Some area → is_scanned words number ≡ false → area.scanned ≡ false
unscanned-told words number area is none =
    ap (λ (a : AreaShape). a.scanned) (sym (told-at words number area is).1) ∙ none

-- the next scanned number is that of the next scanned area
pub next-areas : (p : Piece) (from : ℕ) (found : Option ℕ) → KeepsTable p →
    MatchOption found (IsEmptyFrom from most_areas (set_part p.words 36))
    (IsLowestFrom from most_areas (set_part p.words 36)) →
    MatchOption found (NoneScannedFrom (areas_told p.words) from) (IsNextScanned (areas_told p.words) from)
next-areas p from None keeps empty = λ number area reached is.
    unscanned-told p.words number area is (empty number reached (told-below p.words number area is))
next-areas p from (Some number) keeps lowest =
    let lives = keeps.lives number lowest.below lowest.member in
    record {
      reached = lowest.reached;
      below = lowest.below;
      area = shape_told p.words number;
      lives = get_or-areas_told p.words number None lowest.below ∙ area_told-taken p.words number lives;
      scanned = lowest.member;
      least = λ lower other reached less is.
          unscanned-told p.words lower other is (lowest.lowest lower reached less);
    }
