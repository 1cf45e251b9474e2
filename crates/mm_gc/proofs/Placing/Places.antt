-- The place that the layers give is the one that the model's function gives.
use Rattle.std.proofs.Common.{◌≡◌, ℕ, ◌+◌, ◌-◌, ◌*◌, ◌/◌, ◌<◌, ◌≤◌, inl, inr, true, List, slice_index, Option}
use Rattle.std.proofs.Common.{sym, subst, arith}
use Rattle.std.proofs.lemmas.Bool.{cases_lt}
use Rattle.mm_model.specs.declared.object.Size.{Size}
use Rattle.mm_model.specs.Places.SizeClass.{class_sizes, class_index, size_of}
use Rattle.mm_model.specs.Places.Place.{Family, Objects, Areas, Piece, is_vacant, place_among}
use Rattle.mm_model.specs.Places.Lowest.{IsRun}
use Rattle.mm_model.specs.Places.Lowest as lowest
use Rattle.mm_model.proofs.Places.Choosing.{size_of-small, size_of-large}
use Rattle.mm_model.proofs.Places.SizeClasses.{class_of_small}
use Rattle.mm_pages.specs.Pages.{Pages}
use Rattle.mm_pages.specs.Parked.{AreParked}
use Rattle.mm_cells.specs.Cells.{Cells, IsSoundCells}
use Rattle.mm_cells.specs.Placing.{IsFreeCell, IsFreePages, IsPlaceFor}
use Rattle.mm_gc.specs.Pieces.{ArePieces, IsRegion}
use Rattle.mm_gc.proofs.Placing.FreeCells.{free_cell-among, among-free_cell}
use Rattle.mm_gc.proofs.Placing.States.{lowest_of-like, preferred-like, cell_goes-among, pages_go-among}
use Rattle.mm_gc.proofs.Placing.Vacant.{vacant-free_run, free_run-vacant}

module _ (pages : Pages) (objects blocks : Cells) (pieces : List Piece)
    (region : IsRegion pages objects blocks pieces) where
  -- free pages are whole pages in which nothing lies
  pub run-free_pages : (count base : ℕ) → 0 < count → IsFreePages pages count base
      → IsRun pieces pages.limit (4096 * count) base
  run-free_pages count base some free =
      let first = free.free free.page (omega arith) (omega arith) in
      let last = free.free (free.page + count - 1) (omega arith) (omega arith) in
      record {
        page = omega (arith, free.at);
        from = omega (arith, free.at, first.off_zero);
        to = omega (arith, free.at, last.below_limit);
        vacant = subst (λ (b : ℕ). is_vacant pieces b (4096 * count) ≡ true) free.at
            (vacant-free_run pages objects blocks pieces region free.page count some free.free);
      }

  pub free_pages-run : (count base : ℕ) → IsRun pieces pages.limit (4096 * count) base → IsFreePages pages count base
  free_pages-run count base run =
      let at : 4096 * (base / 4096) ≡ base = omega (arith, run.page) in
      record {
        page = base / 4096;
        at = at;
        free = free_run-vacant pages objects blocks pieces region (base / 4096) count (omega (arith, run.from))
            (omega (arith, run.to, at))
            (subst (λ (b : ℕ). is_vacant pieces b (4096 * count) ≡ true) (sym at) run.vacant);
      }

  module _ (family : Family) (v : Cells) (sound : IsSoundCells v) (parked : AreParked v.runs pages)
      (are : ArePieces family v pieces) (bytes : ℕ) (found : Option ℕ) where
    cell_place : bytes ≤ 2048 → IsPlaceFor v pages (size_of bytes) found
        → place_among pieces pages.limit family (size_of bytes) ≡ found
    cell_place small place =
        let extent : ℕ = slice_index class_sizes (class_index bytes) in
        let known = class_of_small bytes small in
        cell_goes-among pieces pages.limit family bytes found small
        (preferred-like (IsFreeCell v extent) (lowest.IsFreeCell pieces pages.limit family extent)
        (IsFreePages pages 1) (IsRun pieces pages.limit 4096)
        (free_cell-among pages pieces region.sound region.placed family v sound parked are extent known)
        (among-free_cell pages pieces region.sound region.placed family v sound parked are extent known)
        (λ base. run-free_pages 1 base (omega arith)) (free_pages-run 1) found
        (subst (λ (size : Size). IsPlaceFor v pages size found) (size_of-small bytes small) place))

    pages_place : 2048 < bytes → IsPlaceFor v pages (size_of bytes) found
        → place_among pieces pages.limit family (size_of bytes) ≡ found
    pages_place large place =
        let count : ℕ = (bytes + 4095) / 4096 in
        pages_go-among pieces pages.limit family bytes found large
        (lowest_of-like (IsFreePages pages count) (IsRun pieces pages.limit (4096 * count))
        (λ base. run-free_pages count base (omega arith)) (free_pages-run count) found
        (subst (λ (size : Size). IsPlaceFor v pages size found) (size_of-large bytes large) place))

    pub family_place : IsPlaceFor v pages (size_of bytes) found
        → found ≡ place_among pieces pages.limit family (size_of bytes)
    family_place place = elim (cases_lt 2048 bytes) [
      | inl large ↦ sym (pages_place large place)
      | inr small ↦ sym (cell_place small place)
    ]

  pub object_place : (bytes : ℕ) (found : Option ℕ) → IsPlaceFor objects pages (size_of bytes) found
      → found ≡ place_among pieces pages.limit Objects (size_of bytes)
  object_place bytes found place =
      family_place Objects objects region.objects_sound region.objects_parked region.objects_are bytes found place

  pub block_place : (bytes : ℕ) (found : Option ℕ) → IsPlaceFor blocks pages (size_of bytes) found
      → found ≡ place_among pieces pages.limit Areas (size_of bytes)
  block_place bytes found place =
      family_place Areas blocks region.blocks_sound region.blocks_parked region.areas_are bytes found place
