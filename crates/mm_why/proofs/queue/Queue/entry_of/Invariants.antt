use Rattle.std.proofs.Common.{◌≡◌, ℕ, ◌+◌, ◌<◌, Some}
use Rattle.std.specs.Prelude.{slice_get}
use Rattle.mm_why.specs.declared.found.Found.{Found}
use Rattle.mm_why.proofs.queue.Queue.entry_of.Given as goal

abbrev pub invariant-loop-place : goal.invariant-loop-place
invariant-loop-place g l = record {
  none : (i : ℕ) (entry : Found) → i < l.place → slice_get l.self.found i ≡ Some entry → entry.base ≡ l.base → ⊥;
  ticked : l.steps ≡ l.fn.steps + l.place;
}
