-- When a count of faults rises in a call, and what an answer has to do with it.
use Rattle.std.specs.Prelude.{◌≡◌, ℕ, ◌+◌, ◌-◌, ◌^◌, ◌≤◌, min, Result, OnOk, OnErr, IsErrOf}
use Rattle.mm_io.specs.declared.fault.ChooseFault.{ChooseFault}
use Rattle.mm_io.specs.declared.fault.ChooseFault.TheVariants.{Failed, NoMemory}

-- the count rose, or it stands at the last value of a u64
abbrev pub Rose : ℕ → ℕ → Type 0
Rose before now = min (before + 1) (2 ^ 64 - 1) ≤ now

-- a count of faults over one call: it never falls, an error comes only where it rose, and it stays where none comes
pub record Counts {T E : Type 0} (before now : ℕ) (result : Result T E) : Type 0 where
  pub never_falls : before ≤ now
  pub cause : OnErr result (Rose before now)
  pub unraised : OnOk result (now ≡ before)

-- the same over a call of `choose`, where running out of memory needs no fault and counts as none
pub record CountsChoice {T : Type 0} (before now : ℕ) (result : Result T ChooseFault) : Type 0 where
  pub never_falls : before ≤ now
  pub cause : IsErrOf result Failed → Rose before now
  pub unraised : OnOk result (now ≡ before)
  pub uncounted : IsErrOf result NoMemory → now ≡ before
