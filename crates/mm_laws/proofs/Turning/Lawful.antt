-- What one step keeps of the promises by itself.
use Rattle.std.proofs.Common.{◌≡◌, ℕ, true, List, [], Option, Some, None, refl, ap}
use Rattle.mm_model.specs.declared.command.Command.{Command}
use Rattle.mm_model.specs.declared.command.Command.TheVariants as commands
use Rattle.mm_model.specs.declared.refusal.Refusal.{Refusal}
use Rattle.mm_model.specs.declared.line.Line.{Line}
use Rattle.mm_model.specs.State.{State}
use Rattle.mm_model.specs.Sets.Reached.{IsReached}
use Rattle.mm_model.specs.Sets.Marking.{IsMarked}
use Rattle.mm_model.specs.Good.{IsGood}
use Rattle.mm_model.specs.Refusing.{refusal}
use Rattle.mm_model.specs.Step.{IsStepUnless, IsStep}
use Rattle.mm_model.specs.Logs.Turns.{begins, reply_in}
use Rattle.mm_model.specs.Logs.Faithful.{IsLawful}
use Rattle.mm_model.proofs.Cycle.ContinuedSteps.{step_continues}
use Rattle.mm_model.proofs.Cycle.Courses.{begin_marks_reached}
use Rattle.mm_model.proofs.Good.Steps.{step_is_good}
use Rattle.mm_model.proofs.Lists.Truth.{no_other}
use Rattle.mm_laws.proofs.Keeping.FollowingSteps.{made_for-step}
use Rattle.mm_laws.proofs.Turning.Knowing.{turn_of}
use Rattle.mm_laws.proofs.Turning.Looks.{look-step}
use Rattle.mm_laws.proofs.Turning.Promises.{protected-step, collections-step, finishes-step}
use Rattle.mm_laws.proofs.Turning.Remembering.{idle-begin, begins-refused, begins-other}

-- a `begin` that isn't refused marks what is reached
begun-marks : (a : State) (command : Command) (group : List Line) (b : State) → IsStep a command group b
    → begins (turn_of a command group b) ≡ true → (birth : ℕ) → IsMarked b birth → IsReached b birth
begun-marks a commands.Begin group b step e = split (refusal a commands.Begin) refl step
  where
    split : (because : Option Refusal) → refusal a commands.Begin ≡ because
        → IsStepUnless because a commands.Begin group b → (birth : ℕ) → IsMarked b birth → IsReached b birth
    split None allowed m = begin_marks_reached a group b step (idle-begin a allowed)
    split (Some because) refused m =
        absurd (no_other (begins-refused [] a commands.Begin group b step because (ap reply_in m.group_is)) e)
begun-marks a command group b step e = absurd (no_other (begins-other [] a command group b step refl) e)

-- it keeps them in every good state
pub lawful-step : (a : State) (command : Command) (group : List Line) (b : State) → IsGood a → IsStep a command group b
    → IsLawful (turn_of a command group b)
lawful-step a command group b good step =
    record {
      protected = protected-step a command group b good step;
      weak = λ weak target made.
          record {
            looks = look-step a command group b good step weak target made;
            stays = made_for-step a command group b weak target step made;
          };
      collections = collections-step a command group b good step;
      cycles = finishes-step a command group b good step;
      marking = record {
        begun = begun-marks a command group b step;
        gained = step_continues a command group b good step;
      };
      good = step_is_good a command group b good step;
    }
