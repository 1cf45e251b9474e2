-- Objects, as a list by birth that none ever leaves.
use Rattle.std.specs.Prelude.{ℕ, Bool, true, false, not, List, replicate, Option, None}
use Rattle.std.specs.List.{filter}
use Rattle.mm_model.specs.declared.object.Kind.{Kind}
use Rattle.mm_model.specs.declared.object.Kind.TheVariants.{Traced, Leaf, Counted, Weak}
use Rattle.mm_model.specs.declared.object.Shape.{Shape}
use Rattle.mm_model.specs.Value.{Value, integer}
use Rattle.mm_model.specs.Places.SizeClass.{extent_of, object_bytes}

abbrev pub is_leaf : Kind → Bool
is_leaf Traced = false
is_leaf Leaf = true
is_leaf Counted = false
is_leaf Weak = false

abbrev pub is_counted : Kind → Bool
is_counted Traced = false
is_counted Leaf = false
is_counted Counted = true
is_counted Weak = false

abbrev pub is_weak : Kind → Bool
is_weak Traced = false
is_weak Leaf = false
is_weak Counted = false
is_weak Weak = true

-- marking looks at the slots of a traced or counted object; those of a leaf are raw, and a weak reference has none
abbrev pub is_scanned : Kind → Bool
is_scanned Traced = true
is_scanned Leaf = false
is_scanned Counted = true
is_scanned Weak = false

pub record Object : Type 0 where
  pub base : ℕ
  pub extent : ℕ
  pub kind : Kind
  pub finalize : Bool
  -- how many of the slots, from the first on, are counted
  pub counted : ℕ
  pub slots : List Value
  -- its count reached 255 once, so counting alone no longer frees it
  pub sticky : Bool
  -- it was freed
  pub gone : Bool
  -- of a target its weak reference, of a weak reference its target, by birth number
  pub partner : Option ℕ

abbrev pub is_live : Object → Bool
is_live object = not object.gone

abbrev pub live_objects : List Object → List Object
live_objects objects = filter is_live objects

-- an object as it is born: each slot is 0, without origin
abbrev pub newborn : Shape → ℕ → Object
newborn shape base =
    record {
      base = base;
      extent = extent_of (object_bytes shape.slots);
      kind = shape.kind;
      finalize = shape.finalize;
      counted = shape.counted;
      slots = replicate shape.slots (integer 0);
      sticky = false;
      gone = false;
      partner = None;
    }
