-- Where a product with the reciprocal of a cell's size has the number of cells, tried at each class.
use Rattle.std.proofs.Common.{◌≡◌, ℕ, ◌+◌, ◌-◌, ◌*◌, ◌/◌, ◌%◌, ◌<◌, ◌≤◌, true, get_or, refl, arith, ◌∙◌, ap}
use Rattle.std.proofs.Math.Nat.{mul-le-mul_right, add-mul, mul_assoc, mul-add, div-mul-le_self}
use Rattle.std.proofs.lemmas.Bool.{agree_below_at}
use Rattle.std.proofs.lemmas.Bool.Decides.{nat_tests}
use Rattle.std.proofs.lemmas.Nat.{div-add-mod', div-mul-add, le-div, mod_below}
use Rattle.std.specs.Prelude.{nat_le}
use Rattle.mm_model.specs.Places.SizeClass.{class_sizes}
use Rattle.mm_cells.specs.declared.class.TheConstants.{RECIPROCALS}
use Rattle.mm_cells.specs.Kept.{class_size}
use Rattle.mm_cells.proofs.Sizes.ClassSizes.{class_size-least}

-- a number by its quotient and its rest, each multiplied
product-split : (quotient size rest r over whole : ℕ) → size * r ≡ whole + over →
    (quotient * size + rest) * r ≡ quotient * whole + (quotient * over + rest * r)
product-split quotient size rest r over whole is =
    rw (add-mul (quotient * size) rest r, mul_assoc quotient size r, is, mul-add quotient whole over) (omega arith)

-- r times the size is a little more than 2^24, so little that no quotient so far is reached too early
div-reciprocal : (n size r : ℕ) → 0 < size → 16777216 ≤ size * r →
    (n / size + 1) * (size * r - 16777216) < r → n * r / 16777216 ≡ n / size
div-reciprocal n size r some least close =
    let quotient = n / size in
    let rest = n % size in
    let over = size * r - 16777216 in
    let whole : n ≡ quotient * size + rest = omega (arith, div-add-mod' n size) in
    let fits : quotient * over + rest * r < 16777216 =
    omega (
      arith,
      add-mul quotient 1 over,
      add-mul rest 1 r,
      mul-le-mul_right r (let low = mod_below n size some in let next : rest + 1 ≤ size = omega arith in next),
    ) in
    ap (λ x. x * r / 16777216) whole
    ∙ ap (λ x. x / 16777216) (product-split quotient size rest r over 16777216 (omega arith))
    ∙ div-mul-add quotient 16777216 (quotient * over + rest * r) fits

reciprocal-least : (class : ℕ) → class < 19 → 16777216 ≤ class_size class * get_or RECIPROCALS class 0
unfolding class_sizes
reciprocal-least class within =
    let found : nat_le 16777216 (class_size class * get_or RECIPROCALS class 0) ≡ true =
    agree_below_at (λ n. nat_le 16777216 (class_size n * get_or RECIPROCALS n 0)) (λ _. true) 19 class refl within in
    grind (arith, nat_tests)

reciprocal-close : (class : ℕ) → class < 19 →
    (4095 / class_size class + 1) * (class_size class * get_or RECIPROCALS class 0 - 16777216) + 1
    ≤ get_or RECIPROCALS class 0
unfolding class_sizes
reciprocal-close class within =
    let found : nat_le ((4095 / class_size class + 1) * (class_size class * get_or RECIPROCALS class 0 - 16777216) + 1)
    (get_or RECIPROCALS class 0) ≡ true =
    agree_below_at
    (λ n. nat_le ((4095 / class_size n + 1) * (class_size n * get_or RECIPROCALS n 0 - 16777216) + 1)
    (get_or RECIPROCALS n 0)) (λ _. true) 19 class refl within in
    grind (arith, nat_tests)

-- the number of the cell that has a byte of a page
pub number-reciprocal : (class offset : ℕ) → class < 19 → offset < 4096 →
    offset * get_or RECIPROCALS class 0 / 16777216 ≡ offset / class_size class
number-reciprocal class offset within small =
    let size : ℕ = class_size class in
    let some : 16 ≤ size = class_size-least class within in
    let fewer : offset / size + 1 ≤ 4095 / size + 1 =
    let least : offset / size ≤ 4095 / size =
    le-div (offset / size) 4095 size (omega arith) (omega (arith, div-mul-le_self offset size)) in
    omega arith in
    let over = size * get_or RECIPROCALS class 0 - 16777216 in
    div-reciprocal offset size (get_or RECIPROCALS class 0) (omega arith) (reciprocal-least class within)
    (omega (arith, mul-le-mul_right over fewer, reciprocal-close class within))
