-- The bytes of a cell of each class, tried at each class.
use Rattle.std.proofs.Common.{◌≡◌, ℕ, ◌*◌, ◌/◌, ◌<◌, ◌≤◌, true, refl, arith, ◌∙◌, ap}
use Rattle.std.proofs.Math.Nat.{div-mul-le_self}
use Rattle.std.proofs.lemmas.Bool.{agree_below_at}
use Rattle.std.proofs.lemmas.Bool.Decides.{nat_tests}
use Rattle.std.specs.Prelude.{nat_eq, nat_le}
use Rattle.mm_model.specs.Places.SizeClass.{class_sizes}
use Rattle.mm_cells.specs.Kept.{class_size, cells_in}

-- they are a multiple of 16
pub class_size-units : (class : ℕ) → class < 19 → class_size class ≡ 16 * (class_size class / 16)
unfolding class_sizes
class_size-units class within =
    let found : nat_eq (class_size class) (16 * (class_size class / 16)) ≡ true =
    agree_below_at (λ n. nat_eq (class_size n) (16 * (class_size n / 16))) (λ _. true) 19 class refl within in
    grind (arith, nat_tests)

pub class_size-least : (class : ℕ) → class < 19 → 16 ≤ class_size class
unfolding class_sizes
class_size-least class within =
    let found : nat_le 16 (class_size class) ≡ true =
    agree_below_at (λ n. nat_le 16 (class_size n)) (λ _. true) 19 class refl within in
    grind (arith, nat_tests)

pub class_size-most : (class : ℕ) → class < 19 → class_size class ≤ 2048
unfolding class_sizes
class_size-most class within =
    let found : nat_le (class_size class) 2048 ≡ true =
    agree_below_at (λ n. nat_le (class_size n) 2048) (λ _. true) 19 class refl within in
    grind (arith, nat_tests)

pub cells_in-most : (class : ℕ) → class < 19 → cells_in class ≤ 256
unfolding class_sizes
cells_in-most class within =
    let found : nat_le (cells_in class) 256 ≡ true =
    agree_below_at (λ n. nat_le (cells_in n) 256) (λ _. true) 19 class refl within in
    grind (arith, nat_tests)

-- the cells of a page fit into it
pub cells_in-fit : (class : ℕ) → cells_in class * class_size class ≤ 4096
cells_in-fit class = div-mul-le_self 4096 (class_size class)

-- a cell of a page of a class begins at a multiple of 16 bytes
pub cell-units : (class number : ℕ) → class < 19 →
    number * class_size class ≡ 16 * (number * (class_size class / 16))
cell-units class number known = ap (λ (x : ℕ). number * x) (class_size-units class known) ∙ omega arith
