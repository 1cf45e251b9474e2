-- Where a weak object lies.
use Rattle.std.proofs.Common.{◌≡◌, ℕ, ◌+◌, ◌*◌, Option, Some, refl, sym, ap, ◌∙◌, arith}
use Rattle.mm_model.specs.Places.SizeClass.{class_sizes, size_of, extent_of, extent_of_size}
use Rattle.mm_model.specs.Places.Lowest.{Of_first, Of_second}
use Rattle.mm_pages.specs.Pages.{Pages}
use Rattle.mm_cells.specs.Cells.{Cells}
use Rattle.mm_cells.specs.Placing.{IsPlaceFor, IsFreeCell}

-- a weak object has sixteen bytes
pub extent-weak : extent_of 16 ≡ 16
unfolding class_sizes
extent-weak = refl

some_same : {m n : ℕ} → ◌≡◌ {A = Option ℕ} (Some m) (Some n) → n ≡ m
some_same e = cc

cell_grain : (v : Cells) (base : ℕ) → IsFreeCell v (extent_of_size (size_of 16)) base → (k : ℕ) × (base ≡ 16 * k)
cell_grain v base free =
    let at = free.at in
    let size = ap (λ (n : ℕ). 4096 * free.page + free.number * n) extent-weak in
    (256 * free.page + free.number, omega arith)

-- it begins at a multiple of sixteen
pub place-grain : (v : Cells) (heap : Pages) (base : ℕ) → IsPlaceFor v heap (size_of 16) (Some base)
    → (k : ℕ) × (base ≡ 16 * k)
place-grain v heap base (Of_first other e lowest) =
    let one = cell_grain v other lowest.is in
    let same = some_same e in
    (one.0, sym same ∙ one.1)
place-grain v heap base (Of_second none lowest) =
    let at = lowest.is.at in
    (256 * lowest.is.page, omega arith)
