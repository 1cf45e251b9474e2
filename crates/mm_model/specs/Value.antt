-- A word, and the object that it stands for where it was made as a reference. The code sees words alone.
use Rattle.std.specs.Prelude.{ℕ, List, map, Option, Some, None}

-- The origin is the birth number of an object. A value with an origin is a reference.
pub record Value : Type 0 where
  pub word : ℕ
  pub origin : Option ℕ

abbrev pub integer : ℕ → Value
integer word = record { word = word; origin = None }

abbrev pub reference : ℕ → ℕ → Value
reference word birth = record { word = word; origin = Some birth }

abbrev pub words_of : List Value → List ℕ
words_of values = map (λ value. value.word) values
