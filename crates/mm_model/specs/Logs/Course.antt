-- The course of a cycle: the state after `begin`, and the one after each command since.
use Rattle.std.specs.Prelude.{◌≡◌, ℕ, true, IsTrue, List, [], ◌∷◌, Some, None, is_some, slice_get}
use Rattle.mm_model.specs.declared.command.Command.{Command}
use Rattle.mm_model.specs.declared.command.Command.TheVariants as commands
use Rattle.mm_model.specs.declared.line.Line.{Line}
use Rattle.mm_model.specs.Object.{Object}
use Rattle.mm_model.specs.State.{State}
use Rattle.mm_model.specs.Good.{IsGood}
use Rattle.mm_model.specs.Step.{IsStep}

-- A cycle began: the state is left by a `begin` that wasn't refused, from a good state.
pub record IsBegun (begun : State) : Type 0 where
  pub before : State
  pub good : IsGood before
  -- `begin` is refused in a cycle alone
  pub idle : before.cycle ≡ None
  pub group : List Line
  pub step : IsStep before commands.Begin group begun

-- the latest state of a course
abbrev pub latest : State → List State → State
latest begun [] = begun
latest begun (a ∷ earlier) = a

-- one step of any command, after which a cycle runs
pub record GoesOn (a b : State) : Type 0 where
  pub command : Command
  pub group : List Line
  pub step : IsStep a command group b
  pub runs : IsTrue (is_some b.cycle)

-- Each state is left by a command from the one before it, and the cycle that began runs in each. The latest stands
-- first.
abbrev pub IsCourse : State → List State → Type 0
IsCourse begun [] = IsBegun begun
IsCourse begun (a ∷ earlier) = IsCourse begun earlier × GoesOn (latest begun earlier) a

-- each state of a course is good
abbrev pub AreGood : State → List State → Type 0
AreGood begun [] = IsGood begun
AreGood begun (a ∷ earlier) = AreGood begun earlier × IsGood a

-- the object with a birth number was freed
pub record IsGone (a : State) (birth : ℕ) : Type 0 where
  pub object : Object
  pub is : slice_get a.objects birth ≡ Some object
  pub gone : object.gone ≡ true
