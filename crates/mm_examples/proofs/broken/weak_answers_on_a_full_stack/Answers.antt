-- The turns before the last are legal, and what the last one keeps and breaks is computed.
use Rattle.std.proofs.Common.{◌≡◌, false, List, [], ◌∷◌, Some, None, refl, sym, ap, inl, arith}
use Rattle.mm_model.specs.declared.command.Command.{Command}
use Rattle.mm_model.specs.declared.line.Line.{Line}
use Rattle.mm_model.specs.Places.SizeClass.{class_sizes}
use Rattle.mm_model.specs.Value.{integer, reference}
use Rattle.mm_model.specs.Object.{Object, newborn, is_weak}
use Rattle.mm_model.specs.State.{State, empty_state}
use Rattle.mm_model.specs.Logs.Turns.{Turn, Born}
use Rattle.mm_laws.proofs.Turning.Knowing.{turn_of}
use Rattle.mm_laws.proofs.Turning.Looks.{weak-idle}
use Rattle.mm_laws.proofs.Turning.Remembering.{Knows}
use Rattle.mm_examples.specs.Broken.{Promise, References, Protected, WeakReferences, Collections, Cycles, Apart}
use Rattle.mm_examples.specs.Broken.{KeepsAt}
use Rattle.mm_examples.proofs.Breaking.{AreChecked, are_turns, front, before, front-known, breaks-last}
use Rattle.mm_model.specs.declared.command.Command.TheVariants.{Push, Weak}
use Rattle.mm_model.specs.declared.object.Kind.TheVariants.{Traced}
use Rattle.mm_model.specs.declared.refusal.Refusal.TheVariants as refusals
use Rattle.mm_model.specs.declared.reply.Reply.TheVariants as replies
use Rattle.mm_model.specs.Logs.Faithful.{ReadsThroughReferences}
use Rattle.mm_examples.specs.Examples.{with_stack, new, made, word, done}
use Rattle.mm_examples.proofs.broken.weak_answers_on_a_full_stack.Goals as goal

abbrev first : List Command
first = new Traced 0 0 ∷ Push 1 ∷ []

abbrev groups : List (List Line)
groups = (made 4096 ∷ []) ∷ (done ∷ []) ∷ []

abbrev lines : List Line
lines = word 4096 ∷ []

abbrev object : Object
object = newborn (record { kind = Traced; finalize = false; counted = 0; slots = 0 }) 4096

abbrev born : Born
born = record { base = 4096; shape = record { kind = Traced; finalize = false; counted = 0; slots = 0 }; target = None }

-- the states before and after the last turn
abbrev a : State
a =
    record {
      objects = object ∷ [];
      stack = integer 1 ∷ reference 4096 0 ∷ [];
      areas = [];
      cycle = None;
      threshold = 256;
      commands = 2;
      settings = with_stack 2;
    }

abbrev b : State
b =
    record {
      objects = object ∷ [];
      stack = integer 1 ∷ reference 4096 0 ∷ [];
      areas = [];
      cycle = None;
      threshold = 256;
      commands = 3;
      settings = with_stack 2;
    }

abbrev last : Turn
last = turn_of a (Weak 1) lines b

checked : AreChecked (empty_state (with_stack 2)) first groups
unfolding class_sizes
checked = (refl, refl, (refl, refl, tt))

here : before (with_stack 2) first groups ≡ a
unfolding class_sizes
here = refl

known : Knows (with_stack 2) (front (with_stack 2) first groups) a
known = front-known (with_stack 2) first groups (omega arith) checked a here

same_born : (other : Born) → Some born ≡ Some other → born ≡ other
same_born other e = cc

another : Some (replies.Word 4096) ≡ Some (replies.Refused refusals.StackFull) → ⊥
another e = cc

broken : ReadsThroughReferences (front (with_stack 2) first groups) last → ⊥
unfolding class_sizes
broken kept =
    let acts = kept 1 0 (record { value = reference 4096 0; cell = refl; origin = refl }) in
    let kind = ap (λ (x : Born). is_weak x.shape.kind) (sym (same_born acts.born acts.was_born)) in
    another ((acts.weak refl).full kind refl)

others : (other : Promise) → (other ≡ References → ⊥) →
    KeepsAt other (with_stack 2) (front (with_stack 2) first groups) last
unfolding class_sizes
others References differs = absurd (differs refl)
others Protected differs =
    record {
      told = refl;
      live = tt;
      gone = λ birth h. inl (record { object = h.object; is = h.is; gone = h.gone });
      spared = tt;
    }
others WeakReferences differs =
    weak-idle (with_stack 2) (front (with_stack 2) first groups) a (Weak 1) lines b known refl
others Collections differs = tt
others Cycles differs = tt
others Apart differs = record { placed = known.good.placed; there = tt }

pub returns : goal.returns
unfolding class_sizes
returns c =
    breaks-last (with_stack 2) first groups (omega arith) checked last References _ _
    (are_turns (with_stack 2) first groups last (refl, (refl, tt)) refl here refl) broken others
