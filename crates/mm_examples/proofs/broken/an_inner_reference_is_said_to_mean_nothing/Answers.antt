-- The turns before the last are legal, and what the last one keeps and breaks is computed.
use Rattle.std.proofs.Common.{◌≡◌, ℕ, zero, suc, false, List, [], ◌∷◌, ◌⊎◌, Some, None, refl, sym, ap, inl, inr, arith}
use Rattle.mm_model.specs.declared.command.Command.{Command}
use Rattle.mm_model.specs.declared.line.Line.{Line}
use Rattle.mm_model.specs.Places.SizeClass.{class_sizes}
use Rattle.mm_model.specs.Value.{reference}
use Rattle.mm_model.specs.Object.{Object, newborn, is_weak}
use Rattle.mm_model.specs.State.{State, empty_state}
use Rattle.mm_model.specs.Logs.Turns.{Turn, Born, made_for}
use Rattle.mm_laws.proofs.Turning.Knowing.{turn_of}
use Rattle.mm_laws.proofs.Turning.Looks.{weak-idle}
use Rattle.mm_laws.proofs.Turning.Remembering.{Knows}
use Rattle.mm_examples.specs.Broken.{Promise, References, Protected, WeakReferences, Collections, Cycles, Apart}
use Rattle.mm_examples.specs.Broken.{KeepsAt}
use Rattle.mm_examples.proofs.Breaking.{AreChecked, are_turns, front, before, front-known, breaks-last, none-gone}
use Rattle.mm_model.specs.declared.command.Command.TheVariants.{Inner, Weak}
use Rattle.mm_model.specs.declared.object.Kind.TheVariants.{Traced}
use Rattle.mm_model.specs.declared.refusal.Refusal.TheVariants as refusals
use Rattle.mm_model.specs.declared.reply.Reply.TheVariants as replies
use Rattle.mm_model.specs.Effect.{weak_shape}
use Rattle.mm_model.specs.Places.Place.{live_pieces}
use Rattle.mm_model.specs.Good.{IsPlaced}
use Rattle.mm_model.specs.Logs.Faithful.{ReadsThroughReferences, FindsNoPlace}
use Rattle.mm_examples.specs.Examples.{usual, new, made, word, refused}
use Rattle.mm_examples.proofs.broken.an_inner_reference_is_said_to_mean_nothing.Goals as goal

abbrev first : List Command
first = new Traced 0 4 ∷ Inner 0 4 ∷ []

abbrev groups : List (List Line)
groups = (made 4096 ∷ []) ∷ (word 4100 ∷ []) ∷ []

abbrev lines : List Line
lines = refused refusals.Nothing ∷ []

abbrev object : Object
object = newborn (record { kind = Traced; finalize = false; counted = 0; slots = 4 }) 4096

abbrev weak : Object
weak = record (newborn weak_shape 8192) { partner = Some 0 }

abbrev born : Born
born = record { base = 4096; shape = record { kind = Traced; finalize = false; counted = 0; slots = 4 }; target = None }

-- the states before and after the last turn
abbrev a : State
a =
    record {
      objects = object ∷ [];
      stack = reference 4100 0 ∷ reference 4096 0 ∷ [];
      areas = [];
      cycle = None;
      threshold = 256;
      commands = 2;
      settings = usual;
    }

abbrev b : State
b =
    record {
      objects = record object { partner = Some 1 } ∷ weak ∷ [];
      stack = reference 8192 1 ∷ reference 4100 0 ∷ reference 4096 0 ∷ [];
      areas = [];
      cycle = None;
      threshold = 256;
      commands = 3;
      settings = usual;
    }

abbrev last : Turn
last = turn_of a (Weak 0) lines b

checked : AreChecked (empty_state usual) first groups
unfolding class_sizes
checked = (refl, refl, (refl, refl, tt))

here : before usual first groups ≡ a
unfolding class_sizes
here = refl

known : Knows usual (front usual first groups) a
known = front-known usual first groups (omega arith) checked a here

same_born : (other : Born) → Some born ≡ Some other → born ≡ other
same_born other e = cc

another : Some (replies.Refused refusals.Nothing) ≡ Some (replies.Refused refusals.Full) → ⊥
another e = cc

unmade : (base : ℕ) → Some (replies.Refused refusals.Nothing) ≡ Some (replies.New base) → ⊥
unmade base e = cc

-- it has no weak reference yet
none : (weak : ℕ) → made_for (front usual first groups) weak ≡ Some 0 → ⊥
unfolding class_sizes
none zero e = cc
none (suc n) e = cc

replied : ((base : ℕ) × (Some (replies.Refused refusals.Nothing) ≡ Some (replies.New base)))
    ⊎ FindsNoPlace last → ⊥
replied (inl made) = unmade made.0 made.1
replied (inr full) = another full.refused

broken : ReadsThroughReferences (front usual first groups) last → ⊥
unfolding class_sizes
broken kept =
    let acts = kept 0 0 (record { value = reference 4100 0; cell = refl; origin = refl }) in
    let kind = ap (λ (x : Born). is_weak x.shape.kind) (sym (same_born acts.born acts.was_born)) in
    replied ((acts.weak refl).made kind refl (λ base h. none h.weak h.made))

-- with the reply that is due, the same turns are legal
due : AreChecked (empty_state usual) (new Traced 0 4 ∷ Inner 0 4 ∷ Weak 0 ∷ [])
    ((made 4096 ∷ []) ∷ (word 4100 ∷ []) ∷ (made 8192 ∷ []) ∷ [])
unfolding class_sizes
due = (refl, refl, (refl, refl, (refl, refl, tt)))

then : before usual (new Traced 0 4 ∷ Inner 0 4 ∷ Weak 0 ∷ [])
    ((made 4096 ∷ []) ∷ (word 4100 ∷ []) ∷ (made 8192 ∷ []) ∷ []) ≡ b
unfolding class_sizes
then = refl

placed : IsPlaced 1024 (live_pieces b)
placed =
    (front-known usual (new Traced 0 4 ∷ Inner 0 4 ∷ Weak 0 ∷ [])
    ((made 4096 ∷ []) ∷ (word 4100 ∷ []) ∷ (made 8192 ∷ []) ∷ []) (omega arith) due b then).good.placed

others : (other : Promise) → (other ≡ References → ⊥) → KeepsAt other usual (front usual first groups) last
unfolding class_sizes
others References differs = absurd (differs refl)
others Protected differs =
    record { told = refl; live = tt; gone = λ birth h. absurd (none-gone b (refl, (refl, tt)) birth h); spared = tt }
others WeakReferences differs = weak-idle usual (front usual first groups) a (Weak 0) lines b known refl
others Collections differs = tt
others Cycles differs = tt
others Apart differs = record { placed = placed; there = tt }

pub returns : goal.returns
unfolding class_sizes
returns c =
    breaks-last usual first groups (omega arith) checked last References _ _
    (are_turns usual first groups last (refl, (refl, tt)) refl here refl) broken others
