-- What is wanted has a shape that the layers take.
use Rattle.std.proofs.Common.{◌≡◌, ◌≤◌, ℕ, Bool, true, false, ◌&&◌, ◌||◌, refl, sym, ap, ◌∙◌, arith}
use Rattle.std.proofs.lemmas.Bool.Decides.{nat_tests}
use Rattle.std.specs.Prelude.{nat_lt}
use Rattle.mm_model.specs.declared.object.Shape.{Shape}
use Rattle.mm_model.specs.Object.{is_leaf, is_weak}
use Rattle.mm_model.specs.Refusing.{is_bad_shape, most_slots}
use Rattle.mm_object.specs.Header.{IsShape}

neither : (a b : Bool) → (a || b) ≡ false → (a ≡ false) × (b ≡ false)
neither false b e = (refl, e)
neither true b e = cc

pub not_less : (a b : ℕ) → nat_lt a b ≡ false → b ≤ a
not_less a b e = grind (arith, nat_tests)

pub shape-fine : (shape : Shape) → is_bad_shape shape ≡ false → IsShape shape
shape-fine shape fine =
    let many = nat_lt shape.slots shape.counted in
    let past = nat_lt most_slots shape.slots in
    let leaf = is_leaf shape.kind && nat_lt 0 shape.counted in
    let d = neither (many || past || leaf) (is_weak shape.kind) fine in
    let b = neither (many || past) leaf d.0 in
    let a = neither many past b.0 in
    record {
      counted = not_less shape.slots shape.counted a.0;
      slots = not_less most_slots shape.slots a.1;
      leaf = λ kind.
          let none : nat_lt 0 shape.counted ≡ false = sym (ap (λ k. is_leaf k && nat_lt 0 shape.counted) kind) ∙ b.1 in
          let most = not_less 0 shape.counted none in
          omega (arith, most);
      weak = λ kind. let no : true ≡ false = sym (ap is_weak kind) ∙ d.1 in cc;
    }

-- what is told of an area that is allowed
pub record IsFineArea (inside cells : ℕ) : Type 0 where
  pub counted : inside ≤ cells
  pub some : 1 ≤ cells
  pub most : cells ≤ most_slots
