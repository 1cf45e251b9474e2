-- A free cell of the layers is a free cell among the pieces.
use Rattle.std.proofs.Common.{◌≡◌, ℕ, suc, ◌+◌, ◌*◌, ◌/◌, ◌%◌, ◌<◌, ◌≤◌, inl, inr, true, List, slice_index}
use Rattle.std.proofs.Common.{refl, sym, ap, ◌∙◌, subst, arith}
use Rattle.std.proofs.lemmas.Bool.{cases_order, and_parts, and_from, eqb-true, eq-eqb, ltb-true, lt-ltb}
use Rattle.std.proofs.Math.Nat.{mul-le-mul_right, suc-mul}
use Rattle.std.proofs.lemmas.Nat.{div-add-mod'}
use Rattle.std.specs.Prelude.{IsTrue, nat_lt, ◌==◌, ◌&&◌}
use Rattle.std.specs.List.{Contains}
use Rattle.mm_model.specs.Places.SizeClass.{class_sizes}
use Rattle.mm_model.specs.Places.Place.{Family, Objects, Areas, same_family, Piece, overlaps, is_page_of}
use Rattle.mm_model.specs.Good.{IsPlaced}
use Rattle.mm_model.specs.Places.Lowest as lowest
use Rattle.mm_model.proofs.Places.SizeClasses.{class_bounds}
use Rattle.mm_pages.specs.Pages.{Pages, IsSoundHeap}
use Rattle.mm_pages.specs.Parked.{AreParked}
use Rattle.mm_cells.specs.Cells.{Taken, Cells, Begins, IsSoundCells}
use Rattle.mm_cells.specs.Placing.{IsFreeCell, IsPageOf}
use Rattle.mm_gc.specs.Pieces.{piece_in, ArePieces}
use Rattle.mm_gc.proofs.Placing.Contained.{IsOccupied, some_passes, any-contained, vacant-none, vacant-from}
use Rattle.mm_gc.proofs.Placing.Contained.{apart-contained, piece-inside, piece-some}

same_family-itself : (family : Family) → same_family family family ≡ true
same_family-itself Objects = refl
same_family-itself Areas = refl

same_family-true : (f g : Family) → same_family f g ≡ true → f ≡ g
same_family-true Objects Objects e = refl
same_family-true Objects Areas e = absurd (cc)
same_family-true Areas Objects e = absurd (cc)
same_family-true Areas Areas e = refl

-- cells of one size that share a byte are one
one-cell : (k n extent : ℕ) → k * extent < n * extent + extent → n * extent < k * extent + extent → k ≡ n
one-cell k n extent a b = elim (cases_order k n) [
  | inl e ↦ e
  | inr (inl l) ↦
      let more : suc k ≤ n = omega arith in
      absurd (omega (arith, mul-le-mul_right extent more, suc-mul k extent))
  | inr (inr l) ↦
      let more : suc n ≤ k = omega arith in
      absurd (omega (arith, mul-le-mul_right extent more, suc-mul n extent))
]

-- some bytes of a piece lie in a page
pub overlaps-page : (p : Piece) (page : ℕ) → p.base < 4096 * page + 4096 → 4096 * page < p.base + p.extent
    → IsTrue (overlaps (4096 * page) 4096 p)
overlaps-page p page a b =
    and_from (nat_lt p.base (4096 * page + 4096)) (nat_lt (4096 * page) (p.base + p.extent))
    (lt-ltb p.base (4096 * page + 4096) a) (lt-ltb (4096 * page) (p.base + p.extent) b)

-- a cell of a page of the family and class
pub record IsOfPage (pieces : List Piece) (family : Family) (extent page : ℕ) : Type 0 where
  pub piece : Piece
  pub within : Contains pieces piece
  pub family_is : piece.family ≡ family
  pub extent_is : piece.extent ≡ extent
  pub before_end : piece.base < 4096 * page + 4096
  pub past_start : 4096 * page < piece.base + piece.extent

pub page_of-any : (pieces : List Piece) (family : Family) (extent page : ℕ)
    → is_page_of pieces family extent page ≡ true → IsOfPage pieces family extent page
page_of-any pieces family extent page e =
    let some = some_passes
    (λ (piece : Piece). same_family piece.family family && piece.extent == extent && overlaps (4096 * page) 4096 piece)
    pieces e in
    let p : Piece = some.element in
    let outer = and_parts (same_family p.family family && p.extent == extent) (overlaps (4096 * page) 4096 p)
    some.passes in
    let inner = and_parts (same_family p.family family) (p.extent == extent) outer.0 in
    let ends = and_parts (nat_lt p.base (4096 * page + 4096)) (nat_lt (4096 * page) (p.base + p.extent)) outer.1 in
    record {
      piece = p;
      within = some.within;
      family_is = same_family-true p.family family inner.0;
      extent_is = eqb-true p.extent extent inner.1;
      before_end = ltb-true p.base (4096 * page + 4096) ends.0;
      past_start = ltb-true (4096 * page) (p.base + p.extent) ends.1;
    }

any-page_of : (pieces : List Piece) (family : Family) (extent page : ℕ) → IsOfPage pieces family extent page
    → is_page_of pieces family extent page ≡ true
any-page_of pieces family extent page o =
    let p : Piece = o.piece in
    any-contained
    (λ (piece : Piece). same_family piece.family family && piece.extent == extent && overlaps (4096 * page) 4096 piece)
    pieces p o.within
    (and_from (same_family p.family family && p.extent == extent) (overlaps (4096 * page) 4096 p)
    (and_from (same_family p.family family) (p.extent == extent)
    (ap (λ (f : Family). same_family f family) o.family_is ∙ same_family-itself family)
    (eq-eqb p.extent extent o.extent_is))
    (overlaps-page p page o.before_end o.past_start))

module _ (pages : Pages) (pieces : List Piece) (heap : IsSoundHeap pages) (placed : IsPlaced pages.pages pieces) where
  module _ (family : Family) (v : Cells) (sound : IsSoundCells v) (parked : AreParked v.runs pages)
      (are : ArePieces family v pieces) where
    -- the page of a cell is one of the region's
    page-below : (base : ℕ) (cell : Taken) → Begins v base cell → base / 4096 < pages.limit
    page-below base cell begins =
        let some = piece-some pages.pages pieces (piece_in family base cell) placed (are.own base cell begins) in
        let in_run = sound.in_run base cell begins in
        let run : 0 < slice_index v.runs (base / 4096) = omega arith in
        let there = parked.parked (base / 4096) run in
        omega (arith, heap.within (base / 4096) (omega (arith, there, run)), there, run)

    module _ (extent : ℕ) (known : Contains class_sizes extent) where
      -- what shares the page with a cell of the class is a cell of the class
      record IsLike (piece : Piece) : Type 0 where
        family_is : piece.family ≡ family
        extent_is : piece.extent ≡ extent

      like-page : (page : ℕ) (of : IsPageOf v extent page) (p : Piece) → Contains pieces p
          → p.base < 4096 * page + 4096 → 4096 * page < p.base + p.extent → IsLike p
      like-page page of p within before past =
          let own : Piece = piece_in family of.base of.cell in
          let there = are.own of.base of.cell of.begins in
          let some = piece-some pages.pages pieces own placed there in
          elim (apart-contained pieces p own placed.apart within there) [
            | inl e ↦ record {
              family_is = ap (λ (q : Piece). q.family) e;
              extent_is = ap (λ (q : Piece). q.extent) e ∙ of.same;
            }
            | inr apart ↦
                let alike = apart.alike page (overlaps-page p page before past)
                (overlaps-page own page (omega (arith, of.inside)) (omega (arith, of.inside, some))) in
                record { family_is = alike.1; extent_is = alike.0 ∙ of.same }
          ]

      -- where a cell of the class lies in its page
      record IsOnGrid (piece : Piece) : Type 0 where
        number : ℕ
        at : piece.base ≡ 4096 * (piece.base / 4096) + number * extent
        whole : number * extent + extent ≤ 4096

      on_grid : (p : Piece) → Contains pieces p → p.extent ≡ extent → IsOnGrid p
      on_grid p within same =
          let bounds = class_bounds extent known in
          let inside = piece-inside pages.pages pieces p placed within in
          elim inside.placed [
            | inl cell ↦
                let grid : p.base % 4096 % extent ≡ 0 = ap (λ (n : ℕ). p.base % 4096 % n) (sym same) ∙ cell.grid in
                let offset : p.base % 4096 ≡ p.base % 4096 / extent * extent =
                omega (arith, grid, div-add-mod' (p.base % 4096) extent) in
                record {
                  number = p.base % 4096 / extent;
                  at = omega (arith, offset);
                  whole = omega (arith, offset, cell.whole, same);
                }
            | inr whole ↦ absurd (omega (arith, whole.pages, whole.some, same, bounds.least, bounds.most))
          ]

      pub free_cell-among : (base : ℕ) → IsFreeCell v extent base
          → lowest.IsFreeCell pieces pages.limit family extent base
      free_cell-among base free =
          let of = free.of_page in
          let own : Piece = piece_in family of.base of.cell in
          let there = are.own of.base of.cell of.begins in
          let inside = piece-inside pages.pages pieces own placed there in
          let some = piece-some pages.pages pieces own placed there in
          record {
            page = free.page;
            cell = free.number;
            at = free.at;
            from = omega (arith, inside.from, of.inside);
            below = omega (arith, page-below of.base of.cell of.begins, of.inside);
            whole = free.whole;
            of_page = any-page_of pieces family extent free.page (record {
              piece = own;
              within = there;
              family_is = refl;
              extent_is = of.same;
              before_end = omega (arith, of.inside);
              past_start = omega (arith, of.inside, some);
            });
            vacant = vacant-from pieces base extent (none base free);
          }
        where
          none : (base : ℕ) (free : IsFreeCell v extent base) → IsOccupied pieces base extent → ⊥
          none base free o =
              let p : Piece = o.piece in
              let like = like-page free.page free.of_page p o.within
              (omega (arith, o.before_end, free.at, free.whole)) (omega (arith, o.past_start, free.at)) in
              let has = are.back p o.within like.family_is in
              let grid = on_grid p o.within like.extent_is in
              let page : p.base / 4096 ≡ free.page =
              omega (arith, grid.at, grid.whole, free.at, free.whole, o.before_end, o.past_start, like.extent_is) in
              let cell : grid.number ≡ free.number = one-cell grid.number free.number extent
              (omega (arith, grid.at, free.at, page, o.before_end))
              (omega (arith, grid.at, free.at, page, o.past_start, like.extent_is)) in
              let same : p.base ≡ base =
              grid.at ∙ ap (λ (n : ℕ). 4096 * n + grid.number * extent) page
              ∙ ap (λ (n : ℕ). 4096 * free.page + n * extent) cell ∙ free.at in
              free.free has.cell (subst (λ (b : ℕ). Begins v b has.cell) same has.begins)

      pub among-free_cell : (base : ℕ) → lowest.IsFreeCell pieces pages.limit family extent base
          → IsFreeCell v extent base
      among-free_cell base free =
          let bounds = class_bounds extent known in
          let o = page_of-any pieces family extent free.page free.of_page in
          let has = are.back o.piece o.within o.family_is in
          let grid = on_grid o.piece o.within o.extent_is in
          record {
            page = free.page;
            number = free.cell;
            at = free.at;
            whole = free.whole;
            of_page = record {
              base = o.piece.base;
              cell = has.cell;
              begins = has.begins;
              inside = omega (arith, grid.at, grid.whole, o.before_end, o.past_start, o.extent_is);
              same = has.same ∙ o.extent_is;
              small = omega (arith, bounds.most);
            };
            free = λ cell begins.
                let own : Piece = piece_in family base cell in
                let there = are.own base cell begins in
                let some = piece-some pages.pages pieces own placed there in
                vacant-none pieces base extent free.vacant (record {
                  piece = own;
                  within = there;
                  before_end = omega (arith, bounds.least);
                  past_start = omega (arith, some);
                });
          }
