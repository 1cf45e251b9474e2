-- Where the region ends: behind the last page in which a piece lies.
use Rattle.std.proofs.Common.{◌≡◌, ℕ, ◌+◌, ◌-◌, ◌*◌, ◌/◌, ◌<◌, ◌≤◌, inl, inr, max, true, nat_lt, List}
use Rattle.std.proofs.Common.{sym, ◌∙◌, arith}
use Rattle.std.proofs.lemmas.Bool.{cases_lt, or_cases, or_left, or_right, ltb-true, lt-ltb}
use Rattle.std.proofs.lemmas.Bool.Decides.{nat_tests}
use Rattle.std.specs.List.{list_any, fold, Contains}
use Rattle.mm_model.specs.Places.Place.{Family, Objects, Piece, page_end}
use Rattle.mm_model.proofs.Places.Ends.{ends, fold-ends}
use Rattle.mm_pages.specs.Pages.{Pages, IsHighestUsed, EndsBy}
use Rattle.mm_cells.specs.Cells.{Taken, Cells, Begins}
use Rattle.mm_object.specs.Heap as objects
use Rattle.mm_object.specs.Heap.{Heap, cell_of, cells_in}
use Rattle.mm_gc.specs.Pieces.{piece_in, ArePieces, IsRegion}
use Rattle.mm_gc.proofs.Placing.Contained.{some_passes, any-contained, piece-some}
use Rattle.mm_gc.proofs.Placing.Pieces.{object-cell}
use Rattle.mm_gc.proofs.Placing.Vacant.{covers-occupied, occupied-covers, none-covers}

-- the page behind the last one of a piece
abbrev end_of : Piece → ℕ
end_of piece = (piece.base + piece.extent + 4095) / 4096

module _ (least : ℕ) (pieces : List Piece) where
  abbrev end : ℕ
  end = fold page_end least pieces

  past-none : list_any (ends (fold page_end least pieces)) pieces ≡ true → ⊥
  past-none e =
      let past : nat_lt end end ≡ true =
      fold-ends least end pieces ∙ or_right (nat_lt end least) (list_any (ends end) pieces) e in
      omega (arith, ltb-true end end past)

  pub end-least : least ≤ fold page_end least pieces
  end-least = elim (cases_lt end least) [
    | inr fine ↦ fine
    | inl short ↦
        let past : nat_lt end end ≡ true =
        fold-ends least end pieces ∙ or_left (nat_lt end least) (list_any (ends end) pieces) (lt-ltb end least short) in
        absurd (omega (arith, ltb-true end end past))
  ]

  pub end-piece : (p : Piece) → Contains pieces p → end_of p ≤ fold page_end least pieces
  unfolding ends
  end-piece p within = elim (cases_lt end (end_of p)) [
    | inr fine ↦ fine
    | inl short ↦ absurd (past-none (any-contained (ends end) pieces p within (lt-ltb end (end_of p) short)))
  ]

  pub end-most : (bound : ℕ) → least ≤ bound → ((p : Piece) → Contains pieces p → end_of p ≤ bound)
      → fold page_end least pieces ≤ bound
  unfolding ends
  end-most bound low each = elim (cases_lt bound end) [
    | inr fine ↦ fine
    | inl past ↦
        let one = sym (fold-ends least bound pieces) ∙ lt-ltb bound end past in
        elim (or_cases (nat_lt bound least) (list_any (ends bound) pieces) one) [
          | inl a ↦ absurd (omega (arith, ltb-true bound least a))
          | inr b ↦
              let some = some_passes (ends bound) pieces b in
              absurd (omega (arith, each some.element some.within, ltb-true bound (end_of some.element) some.passes))
        ]
  ]

max-is : (m n k : ℕ) → m ≤ k → n ≤ k → k ≤ max m n → k ≡ max m n
max-is m n k a b c = grind (arith, nat_tests)

max-least : (m n : ℕ) → (m ≤ max m n) × (n ≤ max m n)
max-least m n = (grind (arith, nat_tests), grind (arith, nat_tests))

module _ (pages : Pages) (objects blocks : Cells) (pieces : List Piece)
    (region : IsRegion pages objects blocks pieces) where
  -- no piece ends past the highest page that is used
  piece-end : (t : ℕ) → IsHighestUsed pages (t - 1) → 0 < t → (p : Piece) → Contains pieces p → end_of p ≤ t
  piece-end t h from p within =
      let some = piece-some pages.pages pieces p region.placed within in
      let last = covers-occupied pages objects blocks pieces region (end_of p - 1) (record {
        piece = p;
        within = within;
        before_end = omega arith;
        past_start = omega arith;
      }) in
      omega (arith, h.highest (end_of p - 1) (inr (inr last)))

  -- and one reaches into it, or it is page 0
  end-used : (t least : ℕ) → IsHighestUsed pages (t - 1) → 1 ≤ least → t ≤ fold page_end least pieces
  end-used t least h some = elim h.used [
    | inl none ↦ omega (arith, end-least least pieces)
    | inr (inl out) ↦ absurd (none-covers pages objects blocks pieces region (t - 1) out)
    | inr (inr parked) ↦
        let o = occupied-covers pages objects blocks pieces region (t - 1) parked in
        omega (arith, end-piece least pieces o.piece o.within, o.past_start)
  ]

  pub region_end : (t : ℕ) → 0 < t → IsHighestUsed pages (t - 1) → (least : ℕ) → 1 ≤ least
      → fold page_end least pieces ≡ max least t
  region_end t from h least some =
      let bounds = max-least least t in
      max-is least t (fold page_end least pieces) (end-least least pieces) (end-used t least h some)
      (end-most least pieces (max least t) bounds.0
      (λ p within. omega (arith, piece-end t h from p within, bounds.1)))

  pub ends_by_end : (least : ℕ) → EndsBy pages (fold page_end least pieces)
  ends_by_end least = record {
    out = λ p c. absurd (none-covers pages objects blocks pieces region p c);
    parked = λ p c.
        let o = occupied-covers pages objects blocks pieces region p c in
        omega (arith, end-piece least pieces o.piece o.within, o.past_start);
  }

-- a cell of a family ends there
pub cell_ends : (family : Family) (v : Cells) (pieces : List Piece) (least base : ℕ) (cell : Taken)
    → ArePieces family v pieces → Begins v base cell → base + cell.extent ≤ 4096 * fold page_end least pieces
cell_ends family v pieces least base cell are begins =
    omega (arith, end-piece least pieces (piece_in family base cell) (are.own base cell begins))

-- so does each object of a heap
pub objects_end : (h : Heap) (pieces : List Piece) (least : ℕ) → ArePieces Objects (cells_in h) pieces
    → objects.EndsBy h (fold page_end least pieces)
objects_end h pieces least are base object begins =
    cell_ends Objects (cells_in h) pieces least base (cell_of object) are (object-cell h base object begins)
