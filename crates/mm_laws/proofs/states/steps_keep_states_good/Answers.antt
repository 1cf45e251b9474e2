use Rattle.mm_model.proofs.Good.Steps.{step_is_good}
use Rattle.mm_laws.proofs.states.steps_keep_states_good.Goals as goal

pub returns : goal.returns
returns c = step_is_good
