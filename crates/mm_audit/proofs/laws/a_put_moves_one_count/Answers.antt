-- The lemmas say it.
use Rattle.mm_audit.proofs.Puts.{put-counted, put-other}
use Rattle.mm_audit.proofs.laws.a_put_moves_one_count.Goals as goal

pub returns-clause-counted : goal.returns-clause-counted
returns-clause-counted c view o slot word old good begins kind is = put-counted view o slot word begins good old kind is

pub returns-clause-other : goal.returns-clause-other
returns-clause-other c view o slot word begins other = put-other view o slot word begins other
