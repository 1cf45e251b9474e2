-- The lemma says it.
use Rattle.mm_laws.proofs.Targets.Looking.{look-tells}
use Rattle.mm_laws.proofs.weak.looks_tell_whether_the_target_is_gone.Goals as goal

pub returns : goal.returns
returns c = λ a i weak target object group b good made lives means room.
    look-tells a i weak target object good made lives means room group b
