use Rattle.mm_model.proofs.Cycle.ContinuedSteps.{step_continues}
use Rattle.mm_laws.proofs.cycles.marking_gains_only_what_is_reached.Goals as goal

pub returns : goal.returns
returns c = step_continues
