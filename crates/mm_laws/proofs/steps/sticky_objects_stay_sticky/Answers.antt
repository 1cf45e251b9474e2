-- The lemma says it.
use Rattle.mm_laws.proofs.Turning.Cycles.{follows-step}
use Rattle.mm_laws.proofs.steps.sticky_objects_stay_sticky.Goals as goal

pub returns : goal.returns
returns c = λ a command group b step birth object is sticky.
    let later = (follows-step a command group b step).sticky birth
    (record { object = object; is = is; sticky = sticky }) in
    (later.object, later.is, later.sticky)
