-- The lemma says it.
use Rattle.mm_model.proofs.Faithful.Turns.{turns-same}
use Rattle.mm_laws.proofs.logs.a_log_has_one_list_of_turns.Goals as goal

pub returns : goal.returns
returns c = turns-same
