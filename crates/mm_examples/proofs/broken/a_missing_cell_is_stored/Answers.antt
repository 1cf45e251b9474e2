-- The turns before the last are legal, and what the last one keeps and breaks is computed.
use Rattle.std.proofs.Common.{◌≡◌, false, List, [], ◌∷◌, Some, None, refl, inl, arith}
use Rattle.mm_model.specs.declared.command.Command.{Command}
use Rattle.mm_model.specs.declared.line.Line.{Line}
use Rattle.mm_model.specs.Places.SizeClass.{class_sizes}
use Rattle.mm_model.specs.Value.{reference}
use Rattle.mm_model.specs.Object.{Object, newborn}
use Rattle.mm_model.specs.State.{State, empty_state}
use Rattle.mm_model.specs.Logs.Turns.{Turn}
use Rattle.mm_laws.proofs.Turning.Knowing.{turn_of}
use Rattle.mm_laws.proofs.Turning.Looks.{weak-idle}
use Rattle.mm_laws.proofs.Turning.Remembering.{Knows}
use Rattle.mm_examples.specs.Broken.{Promise, References, Protected, WeakReferences, Collections, Cycles, Apart}
use Rattle.mm_examples.specs.Broken.{KeepsAt}
use Rattle.mm_examples.proofs.Breaking.{AreChecked, are_turns, front, before, front-known, breaks-last}
use Rattle.mm_model.specs.declared.command.Command.TheVariants.{Put}
use Rattle.mm_model.specs.declared.object.Kind.TheVariants.{Traced}
use Rattle.mm_model.specs.declared.refusal.Refusal.TheVariants as refusals
use Rattle.mm_model.specs.declared.reply.Reply.TheVariants as replies
use Rattle.mm_model.specs.Logs.Faithful.{ReadsThroughReferences}
use Rattle.mm_examples.specs.Examples.{usual, new, made, done}
use Rattle.mm_examples.proofs.broken.a_missing_cell_is_stored.Goals as goal

abbrev first : List Command
first = new Traced 0 1 ∷ []

abbrev groups : List (List Line)
groups = (made 4096 ∷ []) ∷ []

abbrev lines : List Line
lines = done ∷ []

abbrev object : Object
object = newborn (record { kind = Traced; finalize = false; counted = 0; slots = 1 }) 4096

-- the states before and after the last turn
abbrev a : State
a =
    record {
      objects = object ∷ [];
      stack = reference 4096 0 ∷ [];
      areas = [];
      cycle = None;
      threshold = 256;
      commands = 1;
      settings = usual;
    }

abbrev b : State
b =
    record {
      objects = object ∷ [];
      stack = reference 4096 0 ∷ [];
      areas = [];
      cycle = None;
      threshold = 256;
      commands = 2;
      settings = usual;
    }

abbrev last : Turn
last = turn_of a (Put 0 0 5) lines b

checked : AreChecked (empty_state usual) first groups
unfolding class_sizes
checked = (refl, refl, tt)

here : before usual first groups ≡ a
unfolding class_sizes
here = refl

known : Knows usual (front usual first groups) a
known = front-known usual first groups (omega arith) checked a here

another : Some (replies.Done) ≡ Some (replies.Refused refusals.NoCell) → ⊥
another e = cc

broken : ReadsThroughReferences (front usual first groups) last → ⊥
unfolding class_sizes
broken kept =
    let acts = kept 0 0 (record { value = reference 4096 0; cell = refl; origin = refl }) in another (acts.put 0 5 refl)

others : (other : Promise) → (other ≡ References → ⊥) → KeepsAt other usual (front usual first groups) last
unfolding class_sizes
others References differs = absurd (differs refl)
others Protected differs =
    record {
      told = refl;
      live = tt;
      gone = λ birth h. inl (record { object = h.object; is = h.is; gone = h.gone });
      spared = tt;
    }
others WeakReferences differs = weak-idle usual (front usual first groups) a (Put 0 0 5) lines b known refl
others Collections differs = tt
others Cycles differs = tt
others Apart differs = record { placed = known.good.placed; there = tt }

pub returns : goal.returns
unfolding class_sizes
returns c =
    breaks-last usual first groups (omega arith) checked last References _ _
    (are_turns usual first groups last (refl, tt) refl here refl) broken others
