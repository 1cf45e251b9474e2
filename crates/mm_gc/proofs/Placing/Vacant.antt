-- Pages that are free in the page heap are those in which no piece lies.
use Rattle.std.proofs.Common.{◌≡◌, ℕ, ◌+◌, ◌*◌, ◌/◌, ◌<◌, ◌≤◌, inl, inr, true, List, slice_index, refl, arith}
use Rattle.std.proofs.lemmas.Bool.{cases_lt, cases_eq}
use Rattle.std.specs.Prelude.{◌↔◌}
use Rattle.mm_model.specs.Places.Place.{Family, Objects, Areas, Piece, is_vacant}
use Rattle.mm_pages.specs.Pages as heaps
use Rattle.mm_pages.specs.Pages.{Pages, IsFreePage, IsFreeRun, TellsFreePages}
use Rattle.mm_pages.specs.Parked.{AreParked}
use Rattle.mm_cells.specs.Cells.{Cells, IsSoundCells}
use Rattle.mm_gc.specs.Pieces.{piece_in, ArePieces, IsRegion}
use Rattle.mm_gc.proofs.Placing.Contained.{IsOccupied, vacant-none, vacant-from, piece-some}

-- a page of a family's piece is parked
parked-occupied : (family : Family) (v : Cells) (pages : Pages) (pieces : List Piece) (p : ℕ)
    (o : IsOccupied pieces (4096 * p) 4096) → IsSoundCells v → AreParked v.runs pages → ArePieces family v pieces
    → o.piece.family ≡ family → heaps.Covers pages.parked p
parked-occupied family v pages pieces p o sound parked are same =
    let base : ℕ = o.piece.base in
    let has = are.back o.piece o.within same in
    let in_run = sound.in_run base has.cell has.begins in
    let run : ℕ = slice_index v.runs (base / 4096) in
    let some : 0 < run = omega (arith, in_run, has.same, o.before_end, o.past_start) in
    let there : slice_index pages.parked (base / 4096) ≡ run = parked.parked (base / 4096) some in
    record {
      first = base / 4096;
      begins = omega (arith, o.before_end);
      reaches = omega (arith, in_run, has.same, o.past_start, there);
    }

-- in each page of a family's run one of its pieces lies
occupied-run : (family : Family) (v : Cells) (pieces : List Piece) (first p : ℕ) → IsSoundCells v
    → ArePieces family v pieces → first ≤ p → p < first + slice_index v.runs first → IsOccupied pieces (4096 * p) 4096
occupied-run family v pieces first p sound are begins reaches =
    let run = sound.runs first (omega arith) in
    record {
      piece = piece_in family run.base run.cell;
      within = are.own run.base run.cell run.begins;
      before_end = omega (arith, run.inside);
      past_start = omega (arith, run.needed);
    }

module _ (pages : Pages) (objects blocks : Cells) (pieces : List Piece)
    (region : IsRegion pages objects blocks pieces) where
  -- the pages in which a piece lies are those of runs
  pub covers-occupied : (p : ℕ) → IsOccupied pieces (4096 * p) 4096 → heaps.Covers pages.parked p
  covers-occupied p o = split o.piece.family refl
    where
      split : (family : Family) → o.piece.family ≡ family → heaps.Covers pages.parked p
      split Objects e =
          parked-occupied Objects objects pages pieces p o region.objects_sound region.objects_parked
          region.objects_are e
      split Areas e =
          parked-occupied Areas blocks pages pieces p o region.blocks_sound region.blocks_parked region.areas_are e

  pub occupied-covers : (p : ℕ) → heaps.Covers pages.parked p → IsOccupied pieces (4096 * p) 4096
  occupied-covers p c =
      let all = region.all_parked c.first in
      elim (cases_eq (slice_index objects.runs c.first) 0) [
        | inr some ↦
            let own = region.objects_parked.parked c.first (omega arith) in
            occupied-run Objects objects pieces c.first p region.objects_sound region.objects_are c.begins
            (omega (arith, own, c.reaches))
        | inl none ↦
            occupied-run Areas blocks pieces c.first p region.blocks_sound region.areas_are c.begins
            (omega (arith, all, none, c.reaches))
      ]

  pub none-covers : (p : ℕ) → heaps.Covers pages.out p → ⊥
  none-covers p c = omega (arith, region.none_out c.first, c.begins, c.reaches)

  -- a page is free exactly where it is one of the region's from 1 on in which nothing lies
  pub free_is_vacant : (p : ℕ) → IsFreePage pages p
      ↔ ((0 < p) × (p < pages.limit) × (is_vacant pieces (4096 * p) 4096 ≡ true))
  free_is_vacant p = (
    λ free. (
      free.off_zero,
      free.below_limit,
      vacant-from pieces (4096 * p) 4096 (λ o. free.not_parked (covers-occupied p o)),
    ),
    λ h.
        record {
          off_zero = h.0;
          below_limit = h.1;
          not_out = none-covers p;
          not_parked = λ c. vacant-none pieces (4096 * p) 4096 h.2 (occupied-covers p c);
        },
  )

  pub vacant_tells : TellsFreePages pages (λ page. is_vacant pieces (4096 * page) 4096)
  vacant_tells p some below =
      let iff = free_is_vacant p in
      ((λ vacant. iff.1 (some, below, vacant)), (λ free. (iff.0 free).2))

  -- where a piece lies among whole pages, it lies in one of them
  page-occupied : (page count : ℕ) (o : IsOccupied pieces (4096 * page) (4096 * count)) → 0 < count
      → (q : ℕ) × (page ≤ q) × (q < page + count) × IsOccupied pieces (4096 * q) 4096
  page-occupied page count o more =
      let some = piece-some pages.pages pieces o.piece region.placed o.within in
      elim (cases_lt o.piece.base (4096 * page)) [
        | inl before ↦ (
          page,
          omega arith,
          omega (arith, o.before_end, o.past_start),
          record {
            piece = o.piece;
            within = o.within;
            before_end = omega arith;
            past_start = o.past_start;
          },
        )
        | inr past ↦ (
          o.piece.base / 4096,
          omega arith,
          omega (arith, o.before_end),
          record {
            piece = o.piece;
            within = o.within;
            before_end = omega arith;
            past_start = omega arith;
          },
        )
      ]

  -- so many free pages are a vacant range
  pub vacant-free_run : (page count : ℕ) → 0 < count → IsFreeRun pages page count
      → is_vacant pieces (4096 * page) (4096 * count) ≡ true
  vacant-free_run page count some free =
      vacant-from pieces (4096 * page) (4096 * count)
      (λ o.
      let in_page = page-occupied page count o some in
      (free in_page.0 in_page.1 in_page.2).not_parked (covers-occupied in_page.0 in_page.3))

  pub free_run-vacant : (page count : ℕ) → 1 ≤ page → page + count ≤ pages.limit
      → is_vacant pieces (4096 * page) (4096 * count) ≡ true → IsFreeRun pages page count
  free_run-vacant page count from to vacant q above below = record {
    off_zero = omega arith;
    below_limit = omega arith;
    not_out = none-covers q;
    not_parked = λ c.
        let o = occupied-covers q c in
        vacant-none pieces (4096 * page) (4096 * count) vacant (record {
          piece = o.piece;
          within = o.within;
          before_end = omega (arith, o.before_end);
          past_start = omega (arith, o.past_start);
        });
  }
