-- The lemmas say it.
use Rattle.mm_audit.proofs.Puts.{put-old, put-held, put-new}
use Rattle.mm_audit.proofs.laws.a_put_may_move_its_count.Goals as goal

pub returns-clause-old : goal.returns-clause-old
returns-clause-old c view o slot old good begins kind is = put-old view o slot 0 begins good old kind is

pub returns-clause-held : goal.returns-clause-held
returns-clause-held c view o slot old good begins kind is = put-held view o slot 0 begins good old kind is

pub returns-clause-new : goal.returns-clause-new
returns-clause-new c view o word begins taken = put-new view o 0 word begins taken
