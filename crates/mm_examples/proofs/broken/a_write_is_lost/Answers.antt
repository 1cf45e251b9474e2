-- The turns before the last are legal, and what the last one keeps and breaks is computed.
use Rattle.std.proofs.Common.{◌≡◌, false, List, [], ◌∷◌, Some, None, refl, sym, ap, ◌∙◌, inl, arith}
use Rattle.mm_model.specs.declared.command.Command.{Command}
use Rattle.mm_model.specs.declared.line.Line.{Line}
use Rattle.mm_model.specs.Places.SizeClass.{class_sizes}
use Rattle.mm_model.specs.Value.{integer, reference}
use Rattle.mm_model.specs.Object.{Object, newborn}
use Rattle.mm_model.specs.State.{State, empty_state}
use Rattle.mm_model.specs.Logs.Turns.{Turn, Born}
use Rattle.mm_laws.proofs.Turning.Knowing.{turn_of}
use Rattle.mm_laws.proofs.Turning.Looks.{weak-idle}
use Rattle.mm_laws.proofs.Turning.Remembering.{Knows}
use Rattle.mm_examples.specs.Broken.{Promise, References, Protected, WeakReferences, Collections, Cycles, Apart}
use Rattle.mm_examples.specs.Broken.{KeepsAt}
use Rattle.mm_examples.proofs.Breaking.{AreChecked, are_turns, front, before, front-known, breaks-last}
use Rattle.mm_model.specs.declared.command.Command.TheVariants.{Push, Get, Put}
use Rattle.mm_model.specs.declared.object.Kind.TheVariants.{Traced}
use Rattle.mm_model.specs.declared.reply.Reply.TheVariants as replies
use Rattle.mm_model.specs.Logs.Faithful.{get_answer, ReadsThroughReferences}
use Rattle.mm_examples.specs.Examples.{usual, new, made, word, done}
use Rattle.mm_examples.proofs.broken.a_write_is_lost.Goals as goal

abbrev first : List Command
first = new Traced 0 4 ∷ Push 7 ∷ Put 1 0 0 ∷ []

abbrev groups : List (List Line)
groups = (made 4096 ∷ []) ∷ (done ∷ []) ∷ (done ∷ []) ∷ []

abbrev lines : List Line
lines = word 0 ∷ []

abbrev object : Object
object = record (newborn (record { kind = Traced; finalize = false; counted = 0; slots = 4 }) 4096)
    { slots = integer 7 ∷ integer 0 ∷ integer 0 ∷ integer 0 ∷ [] }

abbrev born : Born
born = record { base = 4096; shape = record { kind = Traced; finalize = false; counted = 0; slots = 4 }; target = None }

-- the states before and after the last turn
abbrev a : State
a =
    record {
      objects = object ∷ [];
      stack = integer 7 ∷ reference 4096 0 ∷ [];
      areas = [];
      cycle = None;
      threshold = 256;
      commands = 3;
      settings = usual;
    }

abbrev b : State
b =
    record {
      objects = object ∷ [];
      stack = integer 7 ∷ integer 7 ∷ reference 4096 0 ∷ [];
      areas = [];
      cycle = None;
      threshold = 256;
      commands = 4;
      settings = usual;
    }

abbrev last : Turn
last = turn_of a (Get 1 0) lines b

checked : AreChecked (empty_state usual) first groups
unfolding class_sizes
checked = (refl, refl, (refl, refl, (refl, refl, tt)))

here : before usual first groups ≡ a
unfolding class_sizes
here = refl

known : Knows usual (front usual first groups) a
known = front-known usual first groups (omega arith) checked a here

-- what was born is what the promise speaks of
same_born : (other : Born) → Some born ≡ Some other → born ≡ other
same_born other e = cc

not_read : Some (replies.Word 0) ≡ Some (replies.Word 7) → ⊥
not_read e = cc

broken : ReadsThroughReferences (front usual first groups) last → ⊥
unfolding class_sizes
broken kept =
    let acts = kept 1 0 (record { value = reference 4096 0; cell = refl; origin = refl }) in
    not_read
    (acts.get 0 refl ∙ ap (λ (x : Born). Some (get_answer a x 0 7)) (sym (same_born acts.born acts.was_born)))

others : (other : Promise) → (other ≡ References → ⊥) → KeepsAt other usual (front usual first groups) last
unfolding class_sizes
others References differs = absurd (differs refl)
others Protected differs =
    record {
      told = refl;
      live = tt;
      gone = λ birth h. inl (record { object = h.object; is = h.is; gone = h.gone });
      spared = tt;
    }
others WeakReferences differs =
    weak-idle usual (front usual first groups) a (Get 1 0) lines b known refl
others Collections differs = tt
others Cycles differs = tt
others Apart differs = record { placed = known.good.placed; there = tt }

pub returns : goal.returns
unfolding class_sizes
returns c =
    breaks-last usual first groups (omega arith) checked last References _ _
    (are_turns usual first groups last (refl, (refl, (refl, tt))) refl here refl) broken others
