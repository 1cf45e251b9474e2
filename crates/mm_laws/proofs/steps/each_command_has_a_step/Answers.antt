use Rattle.mm_model.proofs.Steps.Exist.{steps_exist}
use Rattle.mm_laws.proofs.steps.each_command_has_a_step.Goals as goal

pub returns : goal.returns
returns c = steps_exist
