-- The classes by the units of 16 bytes, and the tables of them, tried at each index.
use Rattle.std.proofs.Common.{◌≡◌, ℕ, ◌+◌, ◌*◌, ◌/◌, ◌<◌, ◌≤◌, true, List, [], ◌∷◌, map, get_or, refl, arith}
use Rattle.std.proofs.lemmas.Bool.{agree_below_at}
use Rattle.std.proofs.lemmas.Bool.Decides.{nat_tests}
use Rattle.std.specs.List.{position_or_len}
use Rattle.std.specs.Prelude.{nat_eq, nat_le}
use Rattle.mm_model.specs.Places.SizeClass.{class_sizes, class_index}
use Rattle.mm_cells.specs.declared.class.TheConstants.{CLASS_BY_UNITS, CELLS_BY_CLASS}

-- so many bytes fit into 16 * m as they do once they are rounded up
le-units : (bytes units m : ℕ) → bytes ≤ 16 * units → 16 * units < bytes + 16 →
    nat_le bytes (16 * m) ≡ nat_le (16 * units) (16 * m)
le-units bytes units m most least = grind (arith, nat_tests)

position-units : (bytes units : ℕ) → bytes ≤ 16 * units → 16 * units < bytes + 16 → (ms : List ℕ) →
    position_or_len (λ size. nat_le bytes size) (map (λ m. 16 * m) ms)
    ≡ position_or_len (λ size. nat_le (16 * units) size) (map (λ m. 16 * m) ms)
position-units bytes units most least [] = refl
position-units bytes units most least (m ∷ ms) =
    rw (le-units bytes units m most least, position-units bytes units most least ms)

class_index-units : (bytes units : ℕ) → bytes ≤ 16 * units → 16 * units < bytes + 16 →
    class_index bytes ≡ class_index (16 * units)
unfolding class_sizes
class_index-units bytes units most least =
    position-units bytes units most least
    (1 ∷ 2 ∷ 3 ∷ 4 ∷ 5 ∷ 6 ∷ 7 ∷ 8 ∷ 10 ∷ 12 ∷ 16 ∷ 21 ∷ 28 ∷ 32 ∷ 42 ∷ 51 ∷ 64 ∷ 85 ∷ 128 ∷ [])

-- the table has the class of each number of units
pub class_by_units : (bytes units : ℕ) → bytes ≤ 16 * units → 16 * units < bytes + 16 → bytes ≤ 2048 →
    get_or CLASS_BY_UNITS units 0 ≡ class_index bytes
unfolding class_sizes
class_by_units bytes units most least small =
    let found : nat_eq (get_or CLASS_BY_UNITS units 0) (class_index (16 * units)) ≡ true =
    agree_below_at (λ n. nat_eq (get_or CLASS_BY_UNITS n 0) (class_index (16 * n))) (λ _. true) 129 units refl
    (omega arith) in
    let same = class_index-units bytes units most least in
    grind (arith, nat_tests)

-- the table has only classes
pub class_by_units-lt : (units : ℕ) → units < 129 → get_or CLASS_BY_UNITS units 0 < 19
class_by_units-lt units within =
    let found : nat_le (get_or CLASS_BY_UNITS units 0) 18 ≡ true =
    agree_below_at (λ n. nat_le (get_or CLASS_BY_UNITS n 0) 18) (λ _. true) 129 units refl within in
    grind (arith, nat_tests)

-- the table has how many cells of each class fit into 4,096 bytes
pub cells-class : (class : ℕ) → class < 19 → get_or CELLS_BY_CLASS class 0 ≡ 4096 / get_or class_sizes class 0
unfolding class_sizes
cells-class class within =
    let found : nat_eq (get_or CELLS_BY_CLASS class 0) (4096 / get_or class_sizes class 0) ≡ true =
    agree_below_at (λ n. nat_eq (get_or CELLS_BY_CLASS n 0) (4096 / get_or class_sizes n 0)) (λ _. true) 19 class refl
    within in
    grind (arith, nat_tests)
