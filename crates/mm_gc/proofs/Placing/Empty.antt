-- A region in which nothing lies yet.
use Rattle.std.proofs.Common.{◌≡◌, ℕ, zero, suc, ◌<◌, ◌≤◌, [], slice_index, refl, arith}
use Rattle.mm_model.specs.Places.Place.{Family}
use Rattle.mm_pages.specs.Pages.{Pages, IsSoundHeap, HasNoRun}
use Rattle.mm_pages.specs.Parked.{AreParked}
use Rattle.mm_cells.specs.Cells.{Cells, IsSoundCells, HasNoCell}
use Rattle.mm_gc.specs.Pieces.{ArePieces, IsRegion}

-- where no cell is taken there are no runs
pub no_run : (v : Cells) (page : ℕ) → IsSoundCells v → HasNoCell v → slice_index v.runs page ≡ 0
no_run v page sound none = zero_unless (slice_index v.runs page)
    (λ some. let run = sound.runs page some in none run.base run.cell run.begins)
  where
    zero_unless : (n : ℕ) → (0 < n → ⊥) → n ≡ 0
    zero_unless zero h = refl
    zero_unless (suc n) h = absurd (h (omega arith))

no_pieces : (family : Family) (v : Cells) → HasNoCell v → ArePieces family v []
no_pieces family v none = record {
  own = λ base cell begins. absurd (none base cell begins);
  back = λ piece within same. absurd (omega (arith, within.1));
}

none_parked : (v : Cells) (pages : Pages) → IsSoundCells v → HasNoCell v → pages.pages ≤ v.pages
    → AreParked v.runs pages
none_parked v pages sound none fits = record {
  pages = omega (arith, fits, sound.runs_size);
  parked = λ page some. absurd (omega (arith, no_run v page sound none));
}

pub empty_region : (pages : Pages) (objects blocks : Cells) → IsSoundHeap pages → HasNoRun pages
    → IsSoundCells objects → IsSoundCells blocks → HasNoCell objects → HasNoCell blocks → pages.pages ≤ objects.pages
    → pages.pages ≤ blocks.pages → IsRegion pages objects blocks []
empty_region pages objects blocks heap free sound blocks_sound none no_block fits blocks_fit = record {
  sound = heap;
  objects_sound = sound;
  blocks_sound = blocks_sound;
  objects_parked = none_parked objects pages sound none fits;
  blocks_parked = none_parked blocks pages blocks_sound no_block blocks_fit;
  all_parked = λ page.
      omega (arith, free.none_parked page, no_run objects page sound none, no_run blocks page blocks_sound no_block);
  none_out = free.none_out;
  objects_are = no_pieces _ objects none;
  areas_are = no_pieces _ blocks no_block;
  placed = record { inside = tt; apart = tt };
}
