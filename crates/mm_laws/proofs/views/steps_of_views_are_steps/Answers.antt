use Rattle.mm_model.proofs.View.Commands.Steps.{step-shown}
use Rattle.mm_laws.proofs.views.steps_of_views_are_steps.Goals as goal

pub returns : goal.returns
returns c =
    record {
      step = λ view a command group left good shows m. (step-shown view a good shows command group left m).step;
      good = λ view a command group left good shows m. (step-shown view a good shows command group left m).good;
      shows = λ view a command group left good shows m. (step-shown view a good shows command group left m).shows;
    }
