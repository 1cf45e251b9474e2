-- The lemma says it.
use Rattle.mm_sites.proofs.Following.Room.{free-step}
use Rattle.mm_sites.proofs.laws.births_are_where_nothing_is_entered.Goals as goal

pub returns : goal.returns
returns c = free-step
