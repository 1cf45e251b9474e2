-- The turns and the log are computed.
use Rattle.std.proofs.Common.{List, [], ◌∷◌, map, take, refl}
use Rattle.mm_model.specs.declared.command.Command.{Command}
use Rattle.mm_model.specs.declared.command.Command.TheVariants.{Begin, Step, Finish, Stat}
use Rattle.mm_model.specs.declared.line.Line.{Line}
use Rattle.mm_model.specs.declared.object.Kind.TheVariants.{Leaf, Traced}
use Rattle.mm_model.specs.Places.SizeClass.{class_sizes}
use Rattle.mm_model.specs.State.{empty_state}
use Rattle.mm_model.specs.Logs.Turns.{Turn}
use Rattle.mm_pace.specs.Paced.{Stretch}
use Rattle.mm_examples.specs.Examples.{usual, new, made, done, stat, scanned, collected}
use Rattle.mm_examples.proofs.Adding.{turns_from, turn_at, are_turns, stretches_of, none_added, begin_alone}
use Rattle.mm_examples.proofs.Adding.{step_and_finish}
use Rattle.mm_examples.proofs.Running.{groups_in, log_if}
use Rattle.mm_examples.proofs.pacing.driving.Goals as goal

abbrev carried : List Command
carried = new Leaf 0 16380 ∷ Begin ∷ new Traced 0 4 ∷ Step 2048 ∷ Finish ∷ Stat ∷ []

abbrev log : List Line
log = made 4096 ∷ done ∷ made 69632 ∷ scanned 4096 0 ∷ done ∷ collected 0 ∷ done ∷ stat 2 0 0 1006 ∷ []

abbrev turns : List Turn
turns = turns_from (empty_state usual) carried (groups_in log)

abbrev stretches : List Stretch
stretches = stretches_of (1 ∷ 2 ∷ 0 ∷ []) turns

pub returns-clause-paced : goal.returns-clause-paced
unfolding class_sizes
returns-clause-paced c = record {
  turns = turns;
  own = map (λ (s : Stretch). s.own) stretches;
  are = are_turns usual carried log (groups_in log) refl (refl, (refl, (refl, (refl, (refl, (refl, tt))))));
  paced = record {
    stretches = stretches;
    each_command = refl;
    own_are = refl;
    turns_are = refl;
    ruled = (
      begin_alone 1024 (take 1 turns) (turn_at usual turns 1) refl refl refl,
      (
        step_and_finish 1024 (take 3 turns) (turn_at usual turns 3) (turn_at usual turns 4) refl refl refl,
        (none_added 1024 turns refl refl refl, tt),
      ),
    );
  };
}

pub returns-clause-legal : goal.returns-clause-legal
unfolding class_sizes
returns-clause-legal c = log_if _ _ _ (search) (search)
