-- The runs of two families, and lists of zeros.
use Rattle.std.proofs.Common.{◌≡◌, ℕ, zero, suc, List, replicate, refl, arith}
use Rattle.std.specs.Prelude.{slice_index}
use Rattle.mm_pages.specs.Pages.{Pages}
use Rattle.mm_pages.specs.Parked.{AreAllParked}

pub AreAllParked-swap : (runs others : List ℕ) (heap : Pages) → AreAllParked runs others heap →
    AreAllParked others runs heap
AreAllParked-swap runs others heap all = λ page. omega (arith, all page)

pub index-zeros : (n i : ℕ) → slice_index (replicate n 0) i ≡ 0
index-zeros zero i = refl
index-zeros (suc n) zero = refl
index-zeros (suc n) (suc i) = index-zeros n i
