-- Which objects are unreachable throughout a cycle: `finish` frees them all.
use Rattle.std.specs.Prelude.{ℕ, List, [], ◌∷◌}
use Rattle.mm_model.specs.Object.{Object}
use Rattle.mm_model.specs.State.{State, Lives}
use Rattle.mm_model.specs.Sets.Reached.{IsUnreached}

-- it lives and isn't reached
pub record IsUnreachable (a : State) (birth : ℕ) : Type 0 where
  pub object : Object
  pub lives : Lives a birth object
  pub unreached : IsUnreached a birth

-- Unreachable in the state after `begin`, and in the one after each command since; the latest stands first.
abbrev pub IsThroughout : State → List State → ℕ → Type 0
IsThroughout begun [] birth = IsUnreachable begun birth
IsThroughout begun (a ∷ earlier) birth = IsThroughout begun earlier birth × IsUnreachable a birth
