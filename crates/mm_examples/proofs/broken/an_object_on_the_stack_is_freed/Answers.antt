-- The turns before the last are legal, and what the last one keeps and breaks is computed.
use Rattle.std.proofs.Common.{◌≡◌, true, false, List, [], ◌∷◌, None, refl, arith}
use Rattle.mm_model.specs.declared.command.Command.{Command}
use Rattle.mm_model.specs.declared.line.Line.{Line}
use Rattle.mm_model.specs.Places.SizeClass.{class_sizes}
use Rattle.mm_model.specs.Value.{reference}
use Rattle.mm_model.specs.Object.{Object, newborn}
use Rattle.mm_model.specs.State.{State, Lives, empty_state}
use Rattle.mm_model.specs.Logs.Turns.{Turn}
use Rattle.mm_laws.proofs.Turning.Knowing.{turn_of}
use Rattle.mm_laws.proofs.Turning.Looks.{weak-idle}
use Rattle.mm_laws.proofs.Turning.Reading.{references-idle}
use Rattle.mm_laws.proofs.Turning.Remembering.{Knows}
use Rattle.mm_examples.specs.Broken.{Promise, References, Protected, WeakReferences, Collections, Cycles, Apart}
use Rattle.mm_examples.specs.Broken.{KeepsAt}
use Rattle.mm_examples.proofs.Breaking.{AreChecked, are_turns, front, before, front-known, breaks-last}
use Rattle.mm_model.specs.declared.command.Command.TheVariants.{Reap}
use Rattle.mm_model.specs.declared.object.Kind.TheVariants.{Counted}
use Rattle.mm_model.specs.Sets.Protected.{By_stack}
use Rattle.mm_model.specs.Logs.Faithful.{SparesProtected}
use Rattle.mm_examples.specs.Examples.{usual, new, made, done, reaped, freed}
use Rattle.mm_examples.proofs.broken.an_object_on_the_stack_is_freed.Goals as goal

abbrev first : List Command
first = new Counted 0 0 ∷ []

abbrev groups : List (List Line)
groups = (made 4096 ∷ []) ∷ []

abbrev lines : List Line
lines = reaped 1 ∷ freed 4096 ∷ done ∷ []

abbrev object : Object
object = newborn (record { kind = Counted; finalize = false; counted = 0; slots = 0 }) 4096

-- the states before and after the last turn
abbrev a : State
a =
    record {
      objects = object ∷ [];
      stack = reference 4096 0 ∷ [];
      areas = [];
      cycle = None;
      threshold = 256;
      commands = 1;
      settings = usual;
    }

abbrev b : State
b =
    record {
      objects = record object { gone = true } ∷ [];
      stack = reference 4096 0 ∷ [];
      areas = [];
      cycle = None;
      threshold = 256;
      commands = 2;
      settings = usual;
    }

abbrev last : Turn
last = turn_of a (Reap) lines b

checked : AreChecked (empty_state usual) first groups
unfolding class_sizes
checked = (refl, refl, tt)

here : before usual first groups ≡ a
unfolding class_sizes
here = refl

known : Knows usual (front usual first groups) a
known = front-known usual first groups (omega arith) checked a here

lives : Lives a 0 object
unfolding class_sizes
lives = record { is = refl; live = refl }

broken : SparesProtected last → ⊥
unfolding class_sizes
broken kept =
    kept.spared.0 0 (By_stack 0 object lives refl) (record { object = object; lives = lives; listed = refl })

others : (other : Promise) → (other ≡ Protected → ⊥) → KeepsAt other usual (front usual first groups) last
unfolding class_sizes
others References differs =
    references-idle usual (front usual first groups) a (Reap) lines b known refl
others Protected differs = absurd (differs refl)
others WeakReferences differs =
    weak-idle usual (front usual first groups) a (Reap) lines b known refl
others Collections differs = (λ e. cc, tt)
others Cycles differs = (λ e. cc, tt)
others Apart differs = record { placed = record { inside = tt; apart = tt }; there = tt }

pub returns : goal.returns
unfolding class_sizes
returns c =
    breaks-last usual first groups (omega arith) checked last Protected _ _
    (are_turns usual first groups last (refl, tt) refl here refl) broken others
