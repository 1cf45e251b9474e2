-- The lemma says it.
use Rattle.mm_laws.proofs.Turning.Nothing.{answered_or_refused}
use Rattle.mm_laws.proofs.logs.no_command_is_both_answered_and_refused_nothing.Goals as goal

pub returns : goal.returns
returns c = answered_or_refused
