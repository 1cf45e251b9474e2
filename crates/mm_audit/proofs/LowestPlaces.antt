-- The lowest places, as marks tell them.
use Rattle.std.proofs.Common.{◌≡◌, ℕ, suc, ◌+◌, ◌-◌, ◌*◌, ◌/◌, ◌^◌, ◌<◌, ◌≤◌, Bool, true, false, not, List}
use Rattle.std.proofs.Common.{length, Option, Some, None, refl, sym, ap, ◌∙◌, ⊎_elim, arith}
use Rattle.std.specs.List.{Contains, list_any}
use Rattle.std.specs.Option.{option_map}
use Rattle.std.specs.Prelude.{is_some, slice_get, slice_index}
use Rattle.std.proofs.Math.ListN.{get_or}
use Rattle.std.proofs.Math.Nat.{mul-le-mul_right, mul_assoc, mul_comm, suc-mul, div-mul-le_self}
use Rattle.std.proofs.lemmas.Bool.{cases_lt}
use Rattle.std.proofs.lemmas.Bool.Decides.{nat_tests}
use Rattle.std.proofs.lemmas.List.Elements.{Contains-get_or}
use Rattle.std.proofs.lemmas.Option.{slice_get_within, slice_get-get_or}
use Rattle.mm_model.specs.Good.{IsInside, IsCell, IsPages}
use Rattle.mm_model.specs.Places.Place.{Family, Piece, overlaps, first_from, is_vacant, is_page_of, free_cell, has_room}
use Rattle.mm_model.specs.Places.SizeClass.{class_sizes}
use Rattle.mm_model.proofs.Good.Living.{each_get}
use Rattle.mm_model.proofs.Lists.Growing.{any_get, any_from_get}
use Rattle.mm_model.proofs.Lists.Tests.{IsFirst, first_from-Some, first_from-None}
use Rattle.mm_model.proofs.Lists.Truth.{no_other}
use Rattle.mm_model.proofs.Places.Placing.{both, mapped, reaches}
use Rattle.mm_model.proofs.Places.SizeClasses.{class_bounds}
use Rattle.mm_audit.specs.Bits.{IsMarked, IsNext, NoneFrom}
use Rattle.mm_audit.specs.Places.{PlaceMarks, Tell, IsCellAt, KeepsPlaces, IsVacantRun, NoVacantRun, IsLowestRun}
use Rattle.mm_audit.specs.Places.{IsRunEnd}

pub classes : length class_sizes ≡ 19
unfolding class_sizes
classes = refl

pub class_known : (class : ℕ) → class < length class_sizes → Contains class_sizes (slice_index class_sizes class)
class_known class below = Contains-get_or class_sizes class 0 below

-- a row of marks lies among all of them
pub row-inside : (pages row : ℕ) → row ≤ 37 → pages * row + pages ≤ 38 * pages
row-inside pages row few =
    let more : suc row ≤ 38 = omega arith in
    omega (arith, mul-le-mul_right pages more, suc-mul row pages, mul_comm pages row)

pub row-within : (marks : PlaceMarks) (occupied : List Bool) → KeepsPlaces marks occupied → (row : ℕ) → row ≤ 37
    → marks.pages * row + marks.pages ≤ length marks.roomy
row-within marks occupied keeps row few =
    let each = keeps.each_class in omega (arith, row-inside marks.pages row few)

pub row-small : (marks : PlaceMarks) (occupied : List Bool) → KeepsPlaces marks occupied → (row : ℕ) → row ≤ 37
    → marks.pages * row + marks.pages < 2 ^ 32
row-small marks occupied keeps row few = let most = keeps.most in omega (arith, row-inside marks.pages row few)

-- the first number that passes is one
pub first_is : (test : ℕ → Bool) (from count n : ℕ) → IsFirst test from count n → first_from test from count ≡ Some n
first_is test from count n first = split (first_from test from count) refl
  where
    split : (found : Option ℕ) → first_from test from count ≡ found → found ≡ Some n
    split None e = absurd (no_other (first_from-None test from count e n first.least first.below) first.passes)
    split (Some m) e =
        let other = first_from-Some test from count m e in
        ⊎_elim
        (λ (less : m < n). absurd (no_other (first.none_before m other.least less) other.passes))
        (λ (most : n ≤ m).
        ⊎_elim
        (λ (less : n < m). absurd (no_other (other.none_before n first.least less) first.passes))
        (λ (same : m ≤ n). let is : m ≡ n = omega arith in ap (λ (k : ℕ). Some k) is)
        (cases_lt n m))
        (cases_lt m n)

pub none_is : (test : ℕ → Bool) (from count : ℕ) → ((k : ℕ) → from ≤ k → k < from + count → test k ≡ false)
    → first_from test from count ≡ None
none_is test from count none = split (first_from test from count) refl
  where
    split : (found : Option ℕ) → first_from test from count ≡ found → found ≡ None
    split None e = refl
    split (Some m) e =
        let other = first_from-Some test from count m e in
        absurd (no_other (none m other.least other.below) other.passes)

is_false : (b : Bool) → (b ≡ true → ⊥) → b ≡ false
is_false true h = absurd (h refl)
is_false false h = refl

same_mark : (marks : List Bool) (n : ℕ) (b : Bool) → slice_get marks n ≡ Some b → IsMarked marks n → b ≡ true
same_mark marks n b is marked = inside (sym is ∙ marked)
  where
    inside : Some b ≡ Some true → b ≡ true
    inside e = cc

-- marks from a number on that tell of a test
module _ (marks : List Bool) (row limit : ℕ) (test : ℕ → Bool)
    (tell : (page : ℕ) → 1 ≤ page → page < limit → slice_get marks (row + page) ≡ Some (test page)) where
  marked : (page : ℕ) → 1 ≤ page → page < limit → test page ≡ true → IsMarked marks (row + page)
  marked page from below passes = tell page from below ∙ ap (λ (b : Bool). Some b) passes

  pub first-marked : (n : ℕ) → IsNext marks (row + 1) n → n < row + limit
      → Some (n - row) ≡ first_from test 1 (limit - 1)
  first-marked n next below =
      let reached = next.reached in
      let at : row + (n - row) ≡ n = omega arith in
      sym
      (first_is test 1 (limit - 1) (n - row)
      (record {
        least = omega arith;
        below = omega arith;
        passes = same_mark marks n (test (n - row))
            (ap (slice_get marks) (sym at) ∙ tell (n - row) (omega arith) (omega arith)) next.marked;
        none_before = λ k from less.
            is_false (test k)
            (λ passes.
            let least = next.least (row + k) (omega arith) (marked k from (omega arith) passes) in
            absurd (omega arith));
      }))

  pub none-marked : ((page : ℕ) → 1 ≤ page → page < limit → IsMarked marks (row + page) → ⊥)
      → None ≡ first_from test 1 (limit - 1)
  none-marked none =
      sym
      (none_is test 1 (limit - 1)
      (λ k from below. is_false (test k) (λ passes.
      none k from (omega arith) (marked k from (omega arith) passes))))

pub sixteens : (cell q extent : ℕ) → extent ≡ 16 * q → 16 * (cell * q) ≡ cell * extent
sixteens cell q extent is =
    sym (mul_assoc 16 cell q) ∙ ap (λ n. n * q) (mul_comm 16 cell) ∙ mul_assoc cell 16 q
    ∙ ap (λ n. cell * n) (sym is)

-- the cells of a page
module _ (extent page : ℕ) (known : Contains class_sizes extent) where
  pub cell-ends : (cell : ℕ) → cell < 4096 / extent → cell * extent + extent ≤ 4096
  cell-ends cell below =
      let more : suc cell ≤ 4096 / extent = omega arith in
      omega (arith, mul-le-mul_right extent more, suc-mul cell extent, div-mul-le_self 4096 extent)

  -- they begin at multiples of 16
  pub cell_grain : ℕ → ℕ
  cell_grain cell = 256 * page + cell * (extent / 16)

  pub cell_at : (cell : ℕ) → cell < 4096 / extent → IsCellAt extent page (cell_grain cell)
  unfolding cell_grain
  cell_at cell below =
      let bounds = class_bounds extent known in
      let even = bounds.even in
      let whole : extent ≡ 16 * (extent / 16) = omega arith in
      record {
        cell = cell;
        below = below;
        at = omega (arith, sixteens cell (extent / 16) extent whole);
      }

  pub cell-in_page : (grain : ℕ) → IsCellAt extent page grain → grain / 256 ≡ page
  cell-in_page grain at =
      let bounds = class_bounds extent known in
      let least = bounds.least in
      let ends = cell-ends at.cell at.below in
      let is = at.at in
      omega arith

-- the lowest free cell of a page
module _ (marks : PlaceMarks) (pieces : List Piece) (tell : Tell pieces marks) (family : Family) (extent page : ℕ)
    (known : Contains class_sizes extent) (has : has_room pieces family extent page ≡ true) where
  abbrev is_free_at : ℕ → Bool
  is_free_at m = is_vacant pieces (4096 * page + m * extent) extent

  -- it is marked
  record IsLowestCell : Type 0 where
    grain : ℕ
    at : IsCellAt extent page grain
    first : IsFirst is_free_at 0 (4096 / extent) at.cell
    is : free_cell pieces extent page ≡ Some (16 * grain)
    marked : IsMarked marks.free grain

  of_page : is_page_of pieces family extent page ≡ true
  of_page = (both (is_page_of pieces family extent page) (is_some (free_cell pieces extent page)) has).0

  lowest : IsLowestCell
  unfolding cell_at cell_grain
  lowest =
      split (free_cell pieces extent page) refl
      (both (is_page_of pieces family extent page) (is_some (free_cell pieces extent page)) has).1
    where
      split : (found : Option ℕ) → free_cell pieces extent page ≡ found → is_some found ≡ true → IsLowestCell
      split None e some = cc
      split (Some base) e some =
          let found = mapped (λ m. 4096 * page + m * extent) (first_from is_free_at 0 (4096 / extent)) base e in
          let first = first_from-Some is_free_at 0 (4096 / extent) found.from found.is in
          let below = first.below in
          let within : found.from < 4096 / extent = omega arith in
          let at = cell_at extent page known found.from within in
          let grain = cell_grain extent page known found.from in
          let base_is : base ≡ 16 * grain = sym found.to ∙ sym at.at in
          record {
            grain = grain;
            at = at;
            first = first;
            is = e ∙ ap (λ (b : ℕ). Some b) base_is;
            marked = tell.free family extent page grain known of_page at
                ∙ ap (λ (b : Bool). Some b)
                (ap (λ low. is_vacant pieces low extent) at.at ∙ first.passes);
          }

  pub next-cell : (grain : ℕ) → IsNext marks.free (256 * page) grain
      → Some (16 * grain) ≡ free_cell pieces extent page
  next-cell grain next =
      let here = cell-in_page extent page known lowest.grain lowest.at in
      let least = next.least lowest.grain (omega arith) lowest.marked in
      let reached = next.reached in
      let own = tell.only family extent page grain known of_page next.marked (omega arith) in
      let free = same_mark marks.free grain (is_vacant pieces (16 * grain) extent)
      (tell.free family extent page grain known of_page own) next.marked in
      let vacant : is_free_at own.cell ≡ true = ap (λ low. is_vacant pieces low extent) (sym own.at) ∙ free in
      ⊎_elim
      (λ (less : own.cell < lowest.at.cell).
      absurd (no_other (lowest.first.none_before own.cell (omega arith) less) vacant))
      (λ (most : lowest.at.cell ≤ own.cell).
      let past = mul-le-mul_right extent most in
      let lowest_at = lowest.at.at in
      let own_at = own.at in
      let same : grain ≡ lowest.grain = omega arith in
      ap (λ n. Some (16 * n)) same ∙ sym lowest.is)
      (cases_lt own.cell lowest.at.cell)

  pub no-cell : NoneFrom marks.free (256 * page) → None ≡ free_cell pieces extent page
  no-cell none =
      let here = cell-in_page extent page known lowest.grain lowest.at in
      absurd (none lowest.grain (omega arith) lowest.marked)

-- runs of vacant pages
module _ (vacant occupied : List Bool)
    (others : (k : ℕ) → slice_get occupied k ≡ option_map not (slice_get vacant k)) where
  occupied-not : (k : ℕ) → IsMarked occupied k → slice_get vacant k ≡ Some false
  occupied-not k marked =
      split (slice_get vacant k) (sym (others k) ∙ marked)
    where
      split : (told : Option Bool) → option_map not told ≡ Some true → told ≡ Some false
      split None e = cc
      split (Some true) e = cc
      split (Some false) e = refl

  vacant-not : (k : ℕ) → k < length vacant → (IsMarked occupied k → ⊥) → IsMarked vacant k
  vacant-not k below not_occupied =
      split (get_or vacant k false) (slice_get-get_or vacant k false below)
    where
      split : (b : Bool) → slice_get vacant k ≡ Some b → IsMarked vacant k
      split true e = e
      split false e =
          absurd (not_occupied (others k ∙ ap (option_map not) e))

  unlike : (k : ℕ) → slice_get vacant k ≡ Some false → IsMarked vacant k → ⊥
  unlike k e marked = clash (sym e ∙ marked)
    where
      clash : ◌≡◌ {A = Option Bool} (Some false) (Some true) → ⊥
      clash e = cc

  pub ends-behind : (page : ℕ) → page < length vacant → NoneFrom occupied page
      → IsRunEnd vacant page (length vacant)
  ends-behind page inside none =
      record {
        reached = omega arith;
        within = omega arith;
        each = λ k from below. vacant-not k below (none k from);
        past = λ marked. let below = slice_get_within vacant (length vacant) true marked in absurd (omega arith);
      }

  pub ends-before : (page end : ℕ) → IsNext occupied page end → IsRunEnd vacant page end
  ends-before page end next =
      let here = occupied-not end next.marked in
      let within = slice_get_within vacant end false here in
      record {
        reached = next.reached;
        within = omega arith;
        each = λ k from below.
            vacant-not k (omega arith)
            (λ marked. let least = next.least k from marked in absurd (omega arith));
        past = unlike end here;
      }

-- the search for one
module _ (vacant : List Bool) (limit count : ℕ) (some : 1 ≤ count) where
  abbrev IsRunHere : ℕ → Type 0
  IsRunHere page = IsVacantRun vacant limit count page

  begins-marked : (page : ℕ) → IsRunHere page → IsMarked vacant page
  begins-marked page run = run.each page (omega arith) (omega arith)

  pub none-behind : (first : ℕ) → ((page : ℕ) → page < first → IsRunHere page → ⊥)
      → ((page : ℕ) → first ≤ page → IsRunHere page → ⊥) → NoVacantRun vacant limit count
  none-behind first none more page run =
      ⊎_elim (λ (below : page < first). none page below run) (λ (from : first ≤ page). more page from run)
      (cases_lt page first)

  pub none-from : (first : ℕ) → NoneFrom vacant first → (page : ℕ) → first ≤ page → IsRunHere page → ⊥
  none-from first none page from run = none page from (begins-marked page run)

  pub too-late : (first next : ℕ) → IsNext vacant first next → limit < next + count → (page : ℕ) → first ≤ page
      → IsRunHere page → ⊥
  too-late first next is late page from run =
      let least = is.least page from (begins-marked page run) in
      let to = run.to in
      absurd (omega arith)

  pub run-found : (first next end : ℕ) → 1 ≤ first → ((page : ℕ) → page < first → IsRunHere page → ⊥)
      → IsNext vacant first next → IsRunEnd vacant next end → next + count ≤ limit → next + count ≤ end
      → IsLowestRun vacant limit count next
  run-found first next end from none is ends to within =
      let reached = is.reached in
      record {
        is = record { from = omega arith; to = to; each = λ k low high. ends.each k low (omega arith) };
        least = λ other run.
            ⊎_elim (λ (below : other < first). absurd (none other below run))
            (λ (behind : first ≤ other). is.least other behind (begins-marked other run)) (cases_lt other first);
      }

  pub run-passed : (first next end : ℕ) → ((page : ℕ) → page < first → IsRunHere page → ⊥) → IsNext vacant first next
      → IsRunEnd vacant next end → end < next + count → (page : ℕ) → page < end → IsRunHere page → ⊥
  run-passed first next end none is ends short page below run =
      ⊎_elim (λ (before : page < first). none page before run)
      (λ (behind : first ≤ page).
      let least = is.least page behind (begins-marked page run) in
      ends.past (run.each end (omega arith) (omega arith)))
      (cases_lt page first)

-- a piece has some bytes
pub piece-some : (limit : ℕ) (piece : Piece) → IsInside limit piece → 0 < piece.extent
piece-some limit piece is =
    ⊎_elim (λ (cell : IsCell piece). let bounds = class_bounds piece.extent cell.class in
    let least = bounds.least in omega arith) (λ (pages : IsPages piece). pages.some) is.placed

not_true : (b : Bool) → not b ≡ true → b ≡ false
not_true true e = cc
not_true false e = refl

-- what overlaps some bytes overlaps more of them
overlaps-more : (low bytes least all : ℕ) (piece : Piece) → least ≤ low → low + bytes ≤ least + all
    → overlaps low bytes piece ≡ true → overlaps least all piece ≡ true
overlaps-more low bytes least all piece from to is = grind (arith, nat_tests)

-- the page in which a piece that overlaps a run of pages lies
record HasPage (page count : ℕ) (piece : Piece) : Type 0 where
  here : ℕ
  from : page ≤ here
  to : here < page + count
  overlaps_it : overlaps (4096 * here) 4096 piece ≡ true

page-of : (page count : ℕ) (piece : Piece) → 1 ≤ count → 0 < piece.extent
    → overlaps (4096 * page) (4096 * count) piece ≡ true → HasPage page count piece
page-of page count piece one some is =
    let reach = reaches (4096 * page) (4096 * count) piece is in
    let before = reach.before_end in
    let past = reach.past_start in
    ⊎_elim
    (λ (below : piece.base < 4096 * page).
    record {
      here = page;
      from = omega arith;
      to = omega arith;
      overlaps_it = in_page (4096 * page) (omega arith) past;
    })
    (λ (behind : 4096 * page ≤ piece.base).
    record {
      here = piece.base / 4096;
      from = omega arith;
      to = omega arith;
      overlaps_it = in_page (4096 * (piece.base / 4096)) (omega arith) (omega arith);
    })
    (cases_lt piece.base (4096 * page))
  where
    in_page : (low : ℕ) → piece.base < low + 4096 → low < piece.base + piece.extent → overlaps low 4096 piece ≡ true
    in_page low first last = grind (arith, nat_tests)

module _ (marks : PlaceMarks) (pieces : List Piece) (tell : Tell pieces marks) (limit count : ℕ)
    (most : limit ≤ marks.pages) (some : 1 ≤ count) where
  abbrev is_free_run : ℕ → Bool
  is_free_run page = is_vacant pieces (4096 * page) (4096 * count)

  abbrev IsRunAt : ℕ → Type 0
  IsRunAt page = IsVacantRun marks.vacant limit count page

  run-free : (page : ℕ) → IsRunAt page → is_free_run page ≡ true
  run-free page run = ap not (is_false (list_any (overlaps (4096 * page) (4096 * count)) pieces) never)
    where
      never : list_any (overlaps (4096 * page) (4096 * count)) pieces ≡ true → ⊥
      never any =
          let one = any_get (overlaps (4096 * page) (4096 * count)) pieces any in
          let inside = each_get (IsInside marks.pages) pieces one.0 one.1 tell.placed.inside one.2 in
          let at = page-of page count one.1 some (piece-some marks.pages one.1 inside) one.3 in
          let from = run.from in
          let to = run.to in
          let low = at.from in
          let high = at.to in
          let vacant = same_mark marks.vacant at.here (is_vacant pieces (4096 * at.here) 4096)
          (tell.vacant at.here (omega arith) (omega arith)) (run.each at.here low high) in
          no_other (not_true (list_any (overlaps (4096 * at.here) 4096) pieces) vacant)
          (any_from_get (overlaps (4096 * at.here) 4096) pieces one.0 one.1 one.2 at.overlaps_it)

  free-run : (page : ℕ) → 1 ≤ page → page + count ≤ limit → is_free_run page ≡ true → IsRunAt page
  free-run page from to free =
      record {
        from = from;
        to = to;
        each = λ k low high.
            tell.vacant k (omega arith) (omega arith)
            ∙ ap (λ (b : Bool). Some b)
            (ap not (is_false (list_any (overlaps (4096 * k) 4096) pieces) (never k low high)));
      }
    where
      never : (k : ℕ) → page ≤ k → k < page + count → list_any (overlaps (4096 * k) 4096) pieces ≡ true → ⊥
      never k low high any =
          let one = any_get (overlaps (4096 * k) 4096) pieces any in
          no_other (not_true (list_any (overlaps (4096 * page) (4096 * count)) pieces) free)
          (any_from_get (overlaps (4096 * page) (4096 * count)) pieces one.0 one.1 one.2
          (overlaps-more (4096 * k) 4096 (4096 * page) (4096 * count) one.1 (omega arith) (omega arith) one.3))

  pub run-place : (page : ℕ) → IsLowestRun marks.vacant limit count page
      → Some (4096 * page) ≡ option_map (λ page. 4096 * page) (first_from is_free_run 1 (limit - count))
  run-place page lowest =
      let from = lowest.is.from in
      let to = lowest.is.to in
      ap (option_map (λ page. 4096 * page))
      (sym
      (first_is is_free_run 1 (limit - count) page
      (record {
        least = from;
        below = omega arith;
        passes = run-free page lowest.is;
        none_before = λ k low less.
            is_false (is_free_run k)
            (λ free. let least = lowest.least k (free-run k low (omega arith) free) in absurd (omega arith));
      })))

  pub no-run-place : NoVacantRun marks.vacant limit count
      → None ≡ option_map (λ page. 4096 * page) (first_from is_free_run 1 (limit - count))
  no-run-place none =
      ap (option_map (λ page. 4096 * page))
      (sym
      (none_is is_free_run 1 (limit - count)
      (λ k low below. is_false (is_free_run k) (λ free. none k (free-run k low (omega arith) free)))))
