-- What the first two words of an object say of its shape.
use Rattle.std.specs.Prelude.{◌≡◌, ◌≤◌, ◌+◌, ◌*◌, ◌/◌, ◌%◌, ◌^◌, ℕ, ◌==◌, if◌then◌else◌, false}
use Rattle.mm_model.specs.declared.object.Kind.{Kind}
use Rattle.mm_model.specs.declared.object.Kind.TheVariants.{Traced, Leaf, Counted, Weak}
use Rattle.mm_model.specs.declared.object.Shape.{Shape}

-- the kind stands in bits 0 and 1 of the first word
abbrev pub kind_number : Kind → ℕ
kind_number Traced = 0
kind_number Leaf = 1
kind_number Counted = 2
kind_number Weak = 3

abbrev pub kind_numbered : ℕ → Kind
kind_numbered number =
    if number == 0 then Traced else (if number == 1 then Leaf else (if number == 2 then Counted else Weak))

-- bit 2 is set where there is a finalizer, and the number of counted slots stands in bits 8 to 27
abbrev pub first_word : Shape → ℕ
first_word shape = kind_number shape.kind + (if shape.finalize then 4 else 0) + 256 * shape.counted

-- the number of slots stands in bits 0 to 19 of the second
abbrev pub second_word : Shape → ℕ
second_word shape = shape.slots

-- the shape that two words say
abbrev pub shape_in : ℕ → ℕ → Shape
shape_in first second =
    record {
      kind = kind_numbered (first % 4);
      finalize = first / 4 % 2 == 1;
      counted = first / 256 % 2 ^ 20;
      slots = second % 2 ^ 20;
    }

-- a shape that an object can have
pub record IsShape (shape : Shape) : Type 0 where
  pub counted : shape.counted ≤ shape.slots
  pub slots : shape.slots ≤ 1048575
  pub leaf : shape.kind ≡ Leaf → shape.counted ≡ 0
  pub weak : shape.kind ≡ Weak → (shape.slots ≡ 0) × (shape.finalize ≡ false)
