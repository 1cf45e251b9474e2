-- Cells of which none is taken, and what a released cell leaves of the page heap.
use Rattle.std.proofs.Common.{◌≡◌, ℕ, ◌*◌, ◌<◌, ◌≤◌, replicate, refl, arith, sym, ◌∙◌}
use Rattle.std.specs.Prelude.{Option, Some, None}
use Rattle.std.proofs.lemmas.List.{length-replicate, get_or-replicate}
use Rattle.std.proofs.lemmas.Option.{slice_get_within, get_or_from_slice_get}
use Rattle.mm_words.specs.Location.{Location}
use Rattle.mm_sets.proofs.Zeros.{get_or-zeros}
use Rattle.mm_pages.specs.Pages.{Pages}
use Rattle.mm_pages.specs.Parked.{AreParked}
use Rattle.mm_cells.specs.Cells.{Taken, Cells, fresh, HasNoCell}
use Rattle.mm_cells.specs.Placing.{LeavesPage, Page_stays, Page_goes}

-- such cells have no run parked
pub AreParked-none : (pages : ℕ) (heap : Pages) → heap.pages ≤ pages → AreParked (replicate pages 0) heap
AreParked-none pages heap small = record {
  pages = omega (arith, length-replicate {A = ℕ} pages 0);
  parked = λ page some. absurd (omega (arith, get_or-zeros pages page));
}

-- all else of the page heap is as it was
pub rest-left : (before after : Cells) (heap : Pages) (page : ℕ) (left : Pages)
    → LeavesPage before after heap page left → left ≡ record heap { parked = left.parked }
rest-left before after heap page left (Page_stays base cell begins inside still) = refl
rest-left before after heap page left (Page_goes none gone) = refl

pub HasNoCell-fresh : (table : Location) (pages : ℕ) → HasNoCell (fresh table pages)
HasNoCell-fresh table pages base cell begins =
    let within : begins.grain < 256 * pages = omega (
      arith,
      slice_get_within (replicate (256 * pages) None) begins.grain (Some cell) begins.is,
      length-replicate {A = Option Taken} (256 * pages) None,
    ) in
    let there : Some cell ≡ None =
    sym (get_or_from_slice_get (replicate (256 * pages) None) begins.grain (Some cell) None begins.is)
    ∙ get_or-replicate (256 * pages) begins.grain None None within in
    absurd (cc)
