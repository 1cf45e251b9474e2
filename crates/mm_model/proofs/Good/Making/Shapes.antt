-- Shapes: what is made of an accepted shape has it, and what changes neither size nor kind keeps it.
use Rattle.std.proofs.Common.{◌≡◌, ℕ, ◌≤◌, Bool, true, false, length, refl, sym, ap, ◌∙◌, arith}
use Rattle.std.proofs.lemmas.Bool.Decides.{nat_tests}
use Rattle.std.proofs.lemmas.List.{length-replicate}
use Rattle.std.specs.Prelude.{nat_lt, ◌&&◌, ◌||◌, ◌==◌}
use Rattle.mm_model.specs.declared.object.Shape.{Shape}
use Rattle.mm_model.specs.Value.{integer}
use Rattle.mm_model.specs.Places.SizeClass.{extent_of, object_bytes, area_bytes}
use Rattle.mm_model.specs.Object.{Object, is_leaf, is_weak, newborn}
use Rattle.mm_model.specs.State.{Area}
use Rattle.mm_model.specs.Areas.{new_area}
use Rattle.mm_model.specs.Refusing.{most_slots, is_bad_shape, is_bad_area}
use Rattle.mm_model.specs.Effect.{weak_shape}
use Rattle.mm_model.specs.Good.{IsShaped, IsAreaShaped}

-- an object with as much room, of the same kind and with as many slots
pub record IsAlikeShaped (x y : Object) : Type 0 where
  pub extent : y.extent ≡ x.extent
  pub kind : y.kind ≡ x.kind
  pub finalize : y.finalize ≡ x.finalize
  pub counted : y.counted ≡ x.counted
  pub slots : length y.slots ≡ length x.slots

pub shaped-alike : (x y : Object) → IsAlikeShaped x y → IsShaped x → IsShaped y
shaped-alike x y alike h =
    let slots = alike.slots in
    let counted = alike.counted in
    let most = h.most in
    let few = h.counted in
    record {
      extent = alike.extent ∙ h.extent ∙ ap (λ n. extent_of (object_bytes n)) (sym slots);
      most = omega arith;
      counted = omega arith;
      leaf = λ leaf. counted ∙ h.leaf (ap is_leaf (sym alike.kind) ∙ leaf);
      no_slot = λ weak. slots ∙ h.no_slot (ap is_weak (sym alike.kind) ∙ weak);
      no_finalizer = λ weak. alike.finalize ∙ h.no_finalizer (ap is_weak (sym alike.kind) ∙ weak);
    }

neither : (p q : Bool) → (p || q) ≡ false → (p ≡ false) × (q ≡ false)
neither true q e = cc
neither false q e = (refl, e)

none_of : (leaf : Bool) (counted : ℕ) → (leaf && nat_lt 0 counted) ≡ false → leaf ≡ true → counted ≡ 0
none_of true counted e is = let none : nat_lt 0 counted ≡ false = e in grind (arith, nat_tests)
none_of false counted e is = cc

-- an object of a shape that `new` accepts
pub shaped-newborn : (shape : Shape) (base : ℕ) → is_bad_shape shape ≡ false → IsShaped (newborn shape base)
shaped-newborn shape base e =
    let last = neither _ (is_weak shape.kind) e in
    let third = neither _ (is_leaf shape.kind && nat_lt 0 shape.counted) last.0 in
    let first = neither (nat_lt shape.slots shape.counted) (nat_lt most_slots shape.slots) third.0 in
    let strong = last.1 in
    let within = first.0 in
    let few_slots = first.1 in
    let all = length-replicate shape.slots (integer 0) in
    let few : shape.counted ≤ shape.slots = grind (arith, nat_tests) in
    let most : shape.slots ≤ most_slots = grind (arith, nat_tests) in
    record {
      extent = ap (λ n. extent_of (object_bytes n)) (sym all);
      most = omega arith;
      counted = omega arith;
      leaf = none_of (is_leaf shape.kind) shape.counted third.1;
      no_slot = λ weak. cc;
      no_finalizer = λ weak. cc;
    }

pub shaped-weak : (base : ℕ) → IsShaped (newborn weak_shape base)
shaped-weak base =
    record {
      extent = refl;
      most = omega arith;
      counted = omega arith;
      leaf = λ leaf. refl;
      no_slot = λ weak. refl;
      no_finalizer = λ weak. refl;
    }

-- an area of a shape that `root` or `fixed` accepts
pub shaped-area : (number base : ℕ) (scanned : Bool) (counted cells : ℕ) → is_bad_area counted cells ≡ false
    → (scanned ≡ false → counted ≡ 0) → IsAreaShaped (new_area number base scanned counted cells)
shaped-area number base scanned counted cells e raw =
    let last = neither _ (cells == 0) e in
    let first = neither (nat_lt cells counted) (nat_lt most_slots cells) last.0 in
    let within = first.0 in
    let few_cells = first.1 in
    let no_zero = last.1 in
    let all = length-replicate cells (integer 0) in
    let few : counted ≤ cells = grind (arith, nat_tests) in
    let most : cells ≤ most_slots = grind (arith, nat_tests) in
    let some : 1 ≤ cells = grind (arith, nat_tests) in
    record {
      extent = ap (λ n. extent_of (area_bytes n)) (sym all);
      some = omega arith;
      most = omega arith;
      counted = omega arith;
      raw = raw;
    }

-- an area with other cells, as many as before
pub area_shaped-cells : (x y : Area) → y.extent ≡ x.extent → y.scanned ≡ x.scanned → y.counted ≡ x.counted
    → length y.cells ≡ length x.cells → IsAreaShaped x → IsAreaShaped y
area_shaped-cells x y extent scanned counted cells h =
    let some = h.some in
    let most = h.most in
    let few = h.counted in
    record {
      extent = extent ∙ h.extent ∙ ap (λ n. extent_of (area_bytes n)) (sym cells);
      some = omega arith;
      most = omega arith;
      counted = omega arith;
      raw = λ e. counted ∙ h.raw (sym scanned ∙ e);
    }
