-- How many bytes an object takes.
use Rattle.std.proofs.Common.{◌≡◌, ℕ, zero, suc, ◌+◌, ◌/◌, ◌<◌, ◌≤◌, Bool, true, false, cond, refl, arith}
use Rattle.std.proofs.lemmas.Bool.Decides.{nat_tests}
use Rattle.std.specs.Prelude.{nat_le}
use Rattle.mm_model.specs.declared.object.Size.TheVariants.{Small, Pages}
use Rattle.mm_model.specs.Places.SizeClass.{class_index, extent_of, extent_of_size, object_bytes}
use Rattle.mm_model.proofs.Places.SizeClasses.{class_bounds, class_of_small}
use Rattle.mm_sited.specs.Extents.{IsExtent}

pub extent-is : (slots : ℕ) → slots ≤ 1048575 → IsExtent (extent_of (object_bytes slots))
extent-is slots few = split (nat_le (object_bytes slots) 2048) refl
  where
    split : (b : Bool) → nat_le (object_bytes slots) 2048 ≡ b
        → IsExtent (extent_of_size (cond b (Small (class_index (object_bytes slots)))
        (Pages ((object_bytes slots + 4095) / 4096))))
    split true e =
        let small : object_bytes slots ≤ 2048 = grind (arith, nat_tests) in
        let size = class_bounds _ (class_of_small (object_bytes slots) small) in
        let most = size.most in
        record { least = size.least; most = omega arith; grained = size.even }
    split false e =
        let large : 2048 < object_bytes slots = grind (arith, nat_tests) in
        record { least = omega arith; most = omega arith; grained = omega arith }
