-- The fault of a trace that stands behind another one.
use Rattle.std.specs.Prelude.{ℕ, ◌+◌}
use Rattle.mm_model.specs.Logs.Trace.{FaultAt}

-- the same fault, where so many lines come before it
abbrev pub raised_by : ℕ → FaultAt → FaultAt
raised_by lines fault = record { line = fault.line + lines; fault = fault.fault }
