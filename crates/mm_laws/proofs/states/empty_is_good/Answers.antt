use Rattle.mm_model.proofs.Good.Starting.{empty_is_good}
use Rattle.mm_laws.proofs.states.empty_is_good.Goals as goal

pub returns : goal.returns
returns c = empty_is_good
