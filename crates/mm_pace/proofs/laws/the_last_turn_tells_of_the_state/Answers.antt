-- The lemmas say it.
use Rattle.mm_pace.proofs.Joined.{runs_after-steps, work_after-steps}
use Rattle.mm_pace.proofs.laws.the_last_turn_tells_of_the_state.Goals as goal

pub returns : goal.returns
returns c = record { runs = runs_after-steps; work = work_after-steps }
