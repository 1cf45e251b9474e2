-- The turns before the last are legal, and what the last one keeps and breaks is computed.
use Rattle.std.proofs.Common.{◌≡◌, ℕ, List, [], ◌∷◌, None, refl, arith}
use Rattle.mm_model.specs.declared.command.Command.{Command}
use Rattle.mm_model.specs.declared.line.Line.{Line}
use Rattle.mm_model.specs.Places.SizeClass.{class_sizes}
use Rattle.mm_model.specs.Object.{Object}
use Rattle.mm_model.specs.State.{State, Lives, empty_state}
use Rattle.mm_model.specs.Logs.Turns.{Turn}
use Rattle.mm_laws.proofs.Turning.Knowing.{turn_of}
use Rattle.mm_laws.proofs.Turning.Looks.{weak-idle}
use Rattle.mm_laws.proofs.Turning.Reading.{references-idle}
use Rattle.mm_laws.proofs.Turning.Remembering.{Knows}
use Rattle.mm_examples.specs.Broken.{Promise, References, Protected, WeakReferences, Collections, Cycles, Apart}
use Rattle.mm_examples.specs.Broken.{KeepsAt}
use Rattle.mm_examples.proofs.Breaking.{AreChecked, are_turns, front, before, front-known, breaks-last}
use Rattle.mm_model.specs.declared.command.Command.TheVariants.{Collect}
use Rattle.mm_model.specs.Sets.Reached.{IsReached, By_root, By_slot}
use Rattle.mm_model.specs.Logs.Faithful.{SparesProtected}
use Rattle.mm_examples.specs.Examples.{usual, done, collected, freed}
use Rattle.mm_examples.proofs.broken.a_free_line_tells_of_nothing.Goals as goal

abbrev first : List Command
first = []

abbrev groups : List (List Line)
groups = []

abbrev lines : List Line
lines = collected 1 ∷ freed 4096 ∷ done ∷ []

-- the states before and after the last turn
abbrev a : State
a =
    record {
      objects = [];
      stack = [];
      areas = [];
      cycle = None;
      threshold = 256;
      commands = 0;
      settings = usual;
    }

abbrev b : State
b =
    record {
      objects = [];
      stack = [];
      areas = [];
      cycle = None;
      threshold = 256;
      commands = 1;
      settings = usual;
    }

abbrev last : Turn
last = turn_of a (Collect) lines b

checked : AreChecked (empty_state usual) first groups
unfolding class_sizes
checked = tt

here : before usual first groups ≡ a
unfolding class_sizes
here = refl

known : Knows usual (front usual first groups) a
known = front-known usual first groups (omega arith) checked a here

-- no object was born
unborn : (birth : ℕ) (object : Object) → Lives a birth object → ⊥
unborn birth object lives = let is = lives.is in cc

unreached : (birth : ℕ) → IsReached a birth → ⊥
unreached birth (By_root _ object lives named) = unborn birth object lives
unreached birth (By_slot _ object by holder lives held named own) = unborn birth object lives

broken : SparesProtected last → ⊥
unfolding class_sizes
broken kept = let told = kept.live.0.live.0 in unborn told.0 told.1 told.2

others : (other : Promise) → (other ≡ Protected → ⊥) → KeepsAt other usual (front usual first groups) last
unfolding class_sizes
others References differs = references-idle usual (front usual first groups) a (Collect) lines b known refl
others Protected differs = absurd (differs refl)
others WeakReferences differs = weak-idle usual (front usual first groups) a (Collect) lines b known refl
others Collections differs =
    (λ e birth. (λ left. absurd (unborn birth left.object left.lives), λ own. absurd (unreached birth own)), tt)
others Cycles differs = (λ e. cc, tt)
others Apart differs = record { placed = known.good.placed; there = tt }

pub returns : goal.returns
unfolding class_sizes
returns c =
    breaks-last usual first groups (omega arith) checked last Protected _ _
    (are_turns usual first groups last tt refl here refl) broken others
