-- The lemmas say it.
use Rattle.mm_sites.proofs.Following.Steps.{entered-step, sites_with-step, length-with_births}
use Rattle.mm_sites.proofs.laws.entries_follow_a_command.Goals as goal

pub returns : goal.returns
returns c = record { entered = entered-step; births = sites_with-step; room = length-with_births }
