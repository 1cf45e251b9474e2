-- What a table of areas shows once its words are written.
use Rattle.std.proofs.Common.{◌≡◌, ◌≢◌, ℕ, ◌+◌, ◌-◌, ◌<◌, ◌≤◌, Bool, true, false, List, length, take, drop}
use Rattle.std.proofs.Common.{Option, Some, None, get_or, set, refl, sym, ap, ◌∙◌, subst, inl, inr, arith}
use Rattle.std.specs.Prelude.{slice_index, if◌then◌else◌}
use Rattle.std.proofs.lemmas.Bool.{cases_eq}
use Rattle.std.proofs.lemmas.List.{same_lists, length-set, get_or-set_same, get_or-set_other, take-set-le, drop-take}
use Rattle.std.proofs.lemmas.List.{length-take, length-drop}
use Rattle.std.proofs.lemmas.List.FromFn.{get_or-map-range_with_len, length-map-range_with_len}
use Rattle.mm_sets.specs.Set.{members, IsSet}
use Rattle.mm_model.specs.Areas.{most_areas}
use Rattle.mm_model.specs.Places.SizeClass.{extent_of, area_bytes}
use Rattle.mm_words.specs.Piece.{Piece}
use Rattle.mm_words.specs.Location.{location_of}
use Rattle.mm_words.specs.Writes.{written}
use Rattle.mm_words.proofs.Writes.{length-written, get_or-written-after, drop-written, drop-written_behind}
use Rattle.mm_words.proofs.Writes.{range-written_before}
use Rattle.mm_roots.specs.declared.area_shape.AreaShape.{AreaShape}
use Rattle.mm_roots.specs.Kept.{set_part, is_free, is_scanned, base_in, counted_in, cells_in, shape_told, area_told}
use Rattle.mm_roots.specs.Kept.{areas_told, WritesMember}

pub length-areas_told : (words : List ℕ) → length (areas_told words) ≡ most_areas
unfolding areas_told
length-areas_told words = length-map-range_with_len (area_told words) 0 most_areas

pub get_or-areas_told : (words : List ℕ) (number : ℕ) (d : Option AreaShape) → number < most_areas →
    get_or (areas_told words) number d ≡ area_told words number
unfolding areas_told
get_or-areas_told words number d below =
    get_or-map-range_with_len (area_told words) 0 most_areas number number d below (omega arith)

-- a number that isn't free has the area that the table tells
pub area_told-taken : (words : List ℕ) (number : ℕ) → is_free words number ≡ false →
    area_told words number ≡ Some (shape_told words number)
area_told-taken words number taken = ap (λ b. if b then None else Some (shape_told words number)) taken

pub area_told-free : (words : List ℕ) (number : ℕ) → is_free words number ≡ true → area_told words number ≡ None
area_told-free words number free = ap (λ b. if b then None else Some (shape_told words number)) free

-- a free number has none
pub taken-area_told : (words : List ℕ) (number : ℕ) (area : AreaShape) → area_told words number ≡ Some area →
    (is_free words number ≡ false) × (shape_told words number ≡ area)
taken-area_told words number area is = split (is_free words number) is
  where
    split : (b : Bool) → (if b then None else Some (shape_told words number)) ≡ Some area →
        (b ≡ false) × (shape_told words number ≡ area)
    split true e = absurd (cc)
    split false e = (refl, cc)

pub told-None : (words : List ℕ) (number : ℕ) → area_told words number ≡ None → is_free words number ≡ true
told-None words number is = split (is_free words number) is
  where
    split : (b : Bool) → (if b then None else Some (shape_told words number)) ≡ None → b ≡ true
    split true e = refl
    split false e = absurd (cc)

pub set_part-is : (words : List ℕ) (from : ℕ) → set_part words from ≡ take 36 (drop from words)
set_part-is words from =
    let size : from + 36 - from ≡ 36 = omega arith in ap (λ n. take n (drop from words)) size

pub length-set_part : (words : List ℕ) (from : ℕ) → from + 36 ≤ length words → length (set_part words from) ≡ 36
length-set_part words from fits =
    ap length (set_part-is words from)
    ∙ omega (
      arith,
      length-take 36 (drop from words),
      length-drop from words,
    )

-- a write behind the sets leaves them
set_part-set : (words : List ℕ) (from i x : ℕ) → from + 36 ≤ i → set_part (set words i x) from ≡ set_part words from
set_part-set words from i x behind =
    set_part-is (set words i x) from ∙ sym (drop-take from 36 (set words i x))
    ∙ ap (λ (ws : List ℕ). drop from ws) (take-set-le (from + 36) words i x behind)
    ∙ drop-take from 36 words ∙ sym (set_part-is words from)

-- the three words of a number are those of an area
pub record IsRowSet (words news : List ℕ) (number : ℕ) (area : AreaShape) : Type 0 where
  pub size : length news ≡ length words
  pub parts : (from : ℕ) → from + 36 ≤ 72 → set_part news from ≡ set_part words from
  pub base : base_in news number ≡ area.base
  pub counted : counted_in news number ≡ area.counted
  pub cells : cells_in news number ≡ area.cells
  pub others : (i : ℕ) → 72 ≤ i → i ≢ 72 + number → i ≢ 1096 + number → i ≢ 2120 + number
      → slice_index news i ≡ slice_index words i

-- the words of a row, as the program writes them
abbrev pub row_set : List ℕ → ℕ → AreaShape → List ℕ
row_set words number area =
    set (set (set words (72 + number) area.base) (1096 + number) area.counted) (2120 + number) area.cells

pub IsRowSet-set : (words : List ℕ) (number : ℕ) (area : AreaShape) → 4096 ≤ length words → number < most_areas →
    IsRowSet words (row_set words number area) number area
IsRowSet-set words number area room below =
    let one = set words (72 + number) area.base in
    let two = set one (1096 + number) area.counted in
    let size_one = length-set words (72 + number) area.base in
    let size_two = length-set one (1096 + number) area.counted in
    let size_three = length-set two (2120 + number) area.cells in
    record {
      size = omega (arith, size_one, size_two, size_three);
      parts = λ from fits.
          set_part-set two from (2120 + number) area.cells (omega arith)
          ∙ set_part-set one from (1096 + number) area.counted (omega arith)
          ∙ set_part-set words from (72 + number) area.base (omega arith);
      base =
          get_or-set_other two (2120 + number) (72 + number) area.cells 0 (λ e. absurd (omega arith))
          ∙ get_or-set_other one (1096 + number) (72 + number) area.counted 0 (λ e. absurd (omega arith))
          ∙ get_or-set_same words (72 + number) area.base 0 (omega arith);
      counted =
          get_or-set_other two (2120 + number) (1096 + number) area.cells 0 (λ e. absurd (omega arith))
          ∙ get_or-set_same one (1096 + number) area.counted 0 (omega (arith, size_one));
      cells = get_or-set_same two (2120 + number) area.cells 0 (omega (arith, size_one, size_two));
      others = λ i behind a b c.
          get_or-set_other two (2120 + number) i area.cells 0 c
          ∙ get_or-set_other one (1096 + number) i area.counted 0 b
          ∙ get_or-set_other words (72 + number) i area.base 0 a;
    }

-- A number is a member of one of the two sets from now on, or is none, and the rows are as they were.
pub record IsMemberSet (words news : List ℕ) (from number : ℕ) (member : Bool) : Type 0 where
  pub size : length news ≡ length words
  pub set : IsSet most_areas (set_part news from)
  pub here : members (set_part news from) number ≡ member
  pub others : (other : ℕ) → other ≢ number → members (set_part news from) other ≡ members (set_part words from) other
  pub rows : (i : ℕ) → 72 ≤ i → i < length words → slice_index news i ≡ slice_index words i

pub IsMemberSet-written : (p q : Piece) (from number : ℕ) (member : Bool) → from + 36 ≤ 72 →
    72 ≤ length p.words → WritesMember p q from number member → IsMemberSet p.words q.words from number member
IsMemberSet-written p q from number member part room writes =
    let fits : from + length writes.words ≤ length p.words = omega (arith, writes.sized) in
    let is : q.words ≡ written from writes.words p.words = ap (λ (r : Piece). r.words) writes.is in
    let lent : set_part q.words from ≡ writes.words =
    set_part-is q.words from
    ∙ ap (λ (ws : List ℕ). take 36 (drop from ws)) is
    ∙ ap (λ n. take n (drop from (written from writes.words p.words))) (sym writes.sized)
    ∙ drop-written from writes.words p.words fits in
    record {
      size = ap length is ∙ length-written from writes.words p.words;
      set = subst (λ (ws : List ℕ). IsSet most_areas ws) (sym lent) writes.set;
      here = ap (λ (ws : List ℕ). members ws number) lent ∙ writes.here;
      others = λ other apart. ap (λ (ws : List ℕ). members ws other) lent ∙ writes.others other apart;
      rows = λ i behind within.
          ap (λ (ws : List ℕ). slice_index ws i) is
          ∙ get_or-written-after from writes.words p.words fits i 0 (omega (arith, writes.sized)) within;
    }

-- the other set is as it was
pub free-scanned_written : (p q : Piece) (number : ℕ) (member : Bool) → 72 ≤ length p.words →
    WritesMember p q 36 number member → set_part q.words 0 ≡ set_part p.words 0
free-scanned_written p q number member room writes =
    let fits : 36 + length writes.words ≤ length p.words = omega (arith, writes.sized) in
    let is : q.words ≡ written 36 writes.words p.words = ap (λ (r : Piece). r.words) writes.is in
    set_part-is q.words 0 ∙ ap (λ (ws : List ℕ). take 36 (drop 0 ws)) is
    ∙ range-written_before 36 writes.words p.words fits 36 0 (omega arith) ∙ sym (set_part-is p.words 0)

pub scanned-free_written : (p q : Piece) (number : ℕ) (member : Bool) → 72 ≤ length p.words →
    WritesMember p q 0 number member → set_part q.words 36 ≡ set_part p.words 36
scanned-free_written p q number member room writes =
    let fits : 0 + length writes.words ≤ length p.words = omega (arith, writes.sized) in
    let is : q.words ≡ written 0 writes.words p.words = ap (λ (r : Piece). r.words) writes.is in
    set_part-is q.words 36 ∙ ap (λ (ws : List ℕ). take 36 (drop 36 ws)) is
    ∙ ap (λ (ws : List ℕ). take 36 ws)
    (drop-written_behind 0 writes.words p.words fits 36 (omega (arith, writes.sized)))
    ∙ sym (set_part-is p.words 36)

pub location-written : (p q : Piece) (from number : ℕ) (member : Bool) → WritesMember p q from number member →
    location_of q ≡ location_of p
location-written p q from number member writes =
    ap location_of writes.is
    ∙ ap (λ n. record (location_of p) { size = n }) (length-written from writes.words p.words)

-- a table that tells the same of all numbers but one
pub record ChangesNumber (words news : List ℕ) (number : ℕ) : Type 0 where
  pub free : (other : ℕ) → other ≢ number → is_free news other ≡ is_free words other
  pub scanned : (other : ℕ) → other ≢ number → is_scanned news other ≡ is_scanned words other
  pub base : (other : ℕ) → other < most_areas → other ≢ number → base_in news other ≡ base_in words other
  pub counted : (other : ℕ) → other < most_areas → other ≢ number → counted_in news other ≡ counted_in words other
  pub cells : (other : ℕ) → other < most_areas → other ≢ number → cells_in news other ≡ cells_in words other

area_told-other : (words news : List ℕ) (number other : ℕ) → ChangesNumber words news number → other < most_areas →
    other ≢ number → area_told news other ≡ area_told words other
area_told-other words news number other changes below apart =
    let free = changes.free other apart in
    let scanned = changes.scanned other apart in
    let base = changes.base other below apart in
    let counted = changes.counted other below apart in
    let cells = changes.cells other below apart in
    same free scanned base counted cells
  where
    told : Bool → Bool → ℕ → ℕ → ℕ → Option AreaShape
    told free scanned base counted cells =
        if free then None else Some (record {
          scanned = scanned;
          counted = counted;
          cells = cells;
          base = base;
          extent = extent_of (area_bytes cells);
        })

    same : {f f' s s' : Bool} {b b' k k' n n' : ℕ} → f ≡ f' → s ≡ s' → b ≡ b' → k ≡ k' → n ≡ n' →
        told f s b k n ≡ told f' s' b' k' n'
    same f s b k n = cc

pub areas_told-changed : (words news : List ℕ) (number : ℕ) (area : Option AreaShape) → number < most_areas →
    ChangesNumber words news number → area_told news number ≡ area →
    areas_told news ≡ set (areas_told words) number area
areas_told-changed words news number area below changes here =
    let size = length-areas_told words in
    let news_size = length-areas_told news in
    let set_size = length-set (areas_told words) number area in
    same_lists (areas_told news) (set (areas_told words) number area) (news_size ∙ sym (set_size ∙ size))
    (λ k d within.
    get_or-areas_told news k d (omega (arith, news_size))
    ∙ elim (cases_eq k number) [
      | inl same ↦
          ap (area_told news) same ∙ here
          ∙ sym (ap (λ i. get_or (set (areas_told words) number area) i d) same
          ∙ get_or-set_same (areas_told words) number area d (omega (arith, size)))
      | inr apart ↦
          area_told-other words news number k changes (omega (arith, news_size)) apart
          ∙ sym (get_or-set_other (areas_told words) number k area d apart
          ∙ get_or-areas_told words k d (omega (arith, news_size)))
    ])
