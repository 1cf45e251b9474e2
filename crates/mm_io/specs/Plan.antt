-- At which of its calls an object in memory fails, and how many bytes one of them moves.
use Rattle.std.specs.Prelude.{◌≡◌, ℕ, ◌+◌, ◌-◌, ◌^◌, ◌↔◌, min, List, Contains, Result, IsErr}

-- the most bytes of a call, the numbers of the calls that fail, and how many calls there were
pub record Plan : Type 0 where
  pub piece : ℕ
  pub fails : List ℕ
  pub calls : ℕ

-- calls are numbered from 1, and the number stays at the last value of a u32
abbrev pub next_call : Plan → ℕ
next_call plan = min (plan.calls + 1) (2 ^ 32 - 1)

-- a call counts as one, and fails exactly where its number is one of those that fail
pub record GoesByPlan {T E : Type 0} (before now : Plan) (result : Result T E) : Type 0 where
  pub fails : IsErr result ↔ Contains before.fails (next_call before)
  pub counted : now ≡ record before { calls = next_call before }
