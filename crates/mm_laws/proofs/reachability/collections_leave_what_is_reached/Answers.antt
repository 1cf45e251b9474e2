-- The lemmas say it.
use Rattle.std.proofs.Common.{refl}
use Rattle.mm_model.specs.Logs.Turns.{PhaseOf, Collecting}
use Rattle.mm_laws.proofs.Phases.Leaving.{lived-collected}
use Rattle.mm_laws.proofs.Turning.Promises.{left_is_reached}
use Rattle.mm_laws.proofs.reachability.collections_leave_what_is_reached.Goals as goal

pub returns : goal.returns
returns c = record {
  exactly = λ a bases birth good are.
      let phase : PhaseOf = record { way = Collecting; before = a; bases = bases } in
      let both = left_is_reached a phase (record { good = good; are = are; finishing = λ e. cc }) refl birth in (
        λ left. both.0 (record { object = left.0; lives = left.1 }),
        λ reached. let left = both.1 reached in (left.object, left.lives),
      );
  lived = lived-collected;
}
