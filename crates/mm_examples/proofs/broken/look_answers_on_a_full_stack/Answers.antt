-- The turns before the last are legal, and what the last one keeps and breaks is computed.
use Rattle.std.proofs.Common.{◌≡◌, false, List, [], ◌∷◌, Some, None, refl, inl, arith}
use Rattle.mm_model.specs.declared.command.Command.{Command}
use Rattle.mm_model.specs.declared.line.Line.{Line}
use Rattle.mm_model.specs.Places.SizeClass.{class_sizes}
use Rattle.mm_model.specs.Value.{reference}
use Rattle.mm_model.specs.Object.{Object, newborn}
use Rattle.mm_model.specs.State.{State, empty_state}
use Rattle.mm_model.specs.Logs.Turns.{Turn, Born}
use Rattle.mm_laws.proofs.Turning.Knowing.{turn_of}
use Rattle.mm_laws.proofs.Turning.Reading.{references-idle}
use Rattle.mm_laws.proofs.Turning.Remembering.{Knows}
use Rattle.mm_examples.specs.Broken.{Promise, References, Protected, WeakReferences, Collections, Cycles, Apart}
use Rattle.mm_examples.specs.Broken.{KeepsAt}
use Rattle.mm_examples.proofs.Breaking.{AreChecked, are_turns, front, before, front-known, breaks-last}
use Rattle.mm_model.specs.declared.command.Command.TheVariants.{Weak, Look}
use Rattle.mm_model.specs.declared.object.Kind.TheVariants.{Traced}
use Rattle.mm_model.specs.declared.refusal.Refusal.TheVariants as refusals
use Rattle.mm_model.specs.declared.reply.Reply.TheVariants as replies
use Rattle.mm_model.specs.Effect.{weak_shape}
use Rattle.mm_model.specs.Logs.Faithful.{FollowsTargets}
use Rattle.mm_examples.specs.Examples.{with_stack, new, made, word}
use Rattle.mm_examples.proofs.broken.look_answers_on_a_full_stack.Goals as goal

abbrev first : List Command
first = new Traced 0 0 ∷ Weak 0 ∷ []

abbrev groups : List (List Line)
groups = (made 4096 ∷ []) ∷ (made 4112 ∷ []) ∷ []

abbrev lines : List Line
lines = word 0 ∷ []

abbrev object : Object
object = record (newborn (record { kind = Traced; finalize = false; counted = 0; slots = 0 }) 4096) { partner = Some 1 }

abbrev weak : Object
weak = record (newborn weak_shape 4112) { partner = Some 0 }

abbrev born : Born
born = record { base = 4112; shape = weak_shape; target = Some 0 }

-- the states before and after the last turn
abbrev a : State
a =
    record {
      objects = object ∷ weak ∷ [];
      stack = reference 4112 1 ∷ reference 4096 0 ∷ [];
      areas = [];
      cycle = None;
      threshold = 256;
      commands = 2;
      settings = with_stack 2;
    }

abbrev b : State
b =
    record {
      objects = object ∷ weak ∷ [];
      stack = reference 4112 1 ∷ reference 4096 0 ∷ [];
      areas = [];
      cycle = None;
      threshold = 256;
      commands = 3;
      settings = with_stack 2;
    }

abbrev last : Turn
last = turn_of a (Look 0) lines b

checked : AreChecked (empty_state (with_stack 2)) first groups
unfolding class_sizes
checked = (refl, refl, (refl, refl, tt))

here : before (with_stack 2) first groups ≡ a
unfolding class_sizes
here = refl

known : Knows (with_stack 2) (front (with_stack 2) first groups) a
known = front-known (with_stack 2) first groups (omega arith) checked a here

another : Some (replies.Word 0) ≡ Some (replies.Refused refusals.StackFull) → ⊥
another e = cc

broken : FollowsTargets (front (with_stack 2) first groups) last → ⊥
unfolding class_sizes
broken kept =
    let follows = kept 1 born refl refl in
    another (follows.looks.full (record { i = 0; looks = refl; means = refl }) refl)

others : (other : Promise) → (other ≡ WeakReferences → ⊥) →
    KeepsAt other (with_stack 2) (front (with_stack 2) first groups) last
unfolding class_sizes
others References differs =
    references-idle (with_stack 2) (front (with_stack 2) first groups) a (Look 0) lines b known refl
others Protected differs =
    record {
      told = refl;
      live = tt;
      gone = λ birth h. inl (record { object = h.object; is = h.is; gone = h.gone });
      spared = tt;
    }
others WeakReferences differs = absurd (differs refl)
others Collections differs = tt
others Cycles differs = tt
others Apart differs = record { placed = known.good.placed; there = tt }

pub returns : goal.returns
unfolding class_sizes
returns c =
    breaks-last (with_stack 2) first groups (omega arith) checked last WeakReferences _ _
    (are_turns (with_stack 2) first groups last (refl, (refl, tt)) refl here refl) broken others
