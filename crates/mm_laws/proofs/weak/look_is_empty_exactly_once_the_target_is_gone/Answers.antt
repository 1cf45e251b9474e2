-- The lemmas say it.
use Rattle.mm_laws.proofs.Targets.WeakReferences.{look-gone, gone-look, look-lives, gone_or_lives}
use Rattle.mm_laws.proofs.weak.look_is_empty_exactly_once_the_target_is_gone.Goals as goal

pub returns : goal.returns
returns c = record { empty = look-gone; gone = gone-look; based = look-lives; either = gone_or_lives }
