-- The turns before the last are legal, and what the last one keeps and breaks is computed.
use Rattle.std.proofs.Common.{◌≡◌, ℕ, true, false, List, [], ◌∷◌, Some, None, refl, ap, ◌∙◌, subst, inl, arith}
use Rattle.mm_model.specs.declared.command.Command.{Command}
use Rattle.mm_model.specs.declared.line.Line.{Line}
use Rattle.mm_model.specs.Places.SizeClass.{class_sizes}
use Rattle.mm_model.specs.Value.{reference}
use Rattle.mm_model.specs.Object.{Object, newborn}
use Rattle.mm_model.specs.State.{State, empty_state}
use Rattle.mm_model.specs.Logs.Turns.{Turn, Born}
use Rattle.mm_laws.proofs.Turning.Knowing.{turn_of}
use Rattle.mm_laws.proofs.Turning.Reading.{references-idle}
use Rattle.mm_laws.proofs.Turning.Remembering.{Knows}
use Rattle.mm_examples.specs.Broken.{Promise, References, Protected, WeakReferences, Collections, Cycles, Apart}
use Rattle.mm_examples.specs.Broken.{KeepsAt}
use Rattle.mm_examples.proofs.Breaking.{AreChecked, are_turns, front, before, front-known, breaks-last}
use Rattle.mm_model.specs.declared.command.Command.TheVariants.{Weak, Look}
use Rattle.mm_model.specs.declared.object.Kind.TheVariants.{Traced}
use Rattle.mm_model.specs.Logs.Course.{IsGone}
use Rattle.mm_model.specs.Effect.{weak_shape}
use Rattle.mm_model.specs.Logs.Faithful.{FollowsTargets}
use Rattle.mm_examples.specs.Examples.{usual, new, made, word}
use Rattle.mm_examples.proofs.broken.a_weak_reference_is_emptied_too_early.Goals as goal

abbrev first : List Command
first = new Traced 0 0 ∷ Weak 0 ∷ []

abbrev groups : List (List Line)
groups = (made 4096 ∷ []) ∷ (made 4112 ∷ []) ∷ []

abbrev lines : List Line
lines = word 0 ∷ []

abbrev object : Object
object = record (newborn (record { kind = Traced; finalize = false; counted = 0; slots = 0 }) 4096) { partner = Some 1 }

abbrev weak : Object
weak = record (newborn weak_shape 4112) { partner = Some 0 }

abbrev born : Born
born = record { base = 4112; shape = weak_shape; target = Some 0 }

-- the states before and after the last turn
abbrev a : State
a =
    record {
      objects = object ∷ weak ∷ [];
      stack = reference 4112 1 ∷ reference 4096 0 ∷ [];
      areas = [];
      cycle = None;
      threshold = 256;
      commands = 2;
      settings = usual;
    }

abbrev b : State
b =
    record {
      objects = object ∷ weak ∷ [];
      stack = reference 4096 0 ∷ reference 4112 1 ∷ reference 4096 0 ∷ [];
      areas = [];
      cycle = None;
      threshold = 256;
      commands = 3;
      settings = usual;
    }

abbrev last : Turn
last = turn_of a (Look 0) lines b

checked : AreChecked (empty_state usual) first groups
unfolding class_sizes
checked = (refl, refl, (refl, refl, tt))

here : before usual first groups ≡ a
unfolding class_sizes
here = refl

known : Knows usual (front usual first groups) a
known = front-known usual first groups (omega arith) checked a here

-- the target lives
lives_on : (gone : IsGone a 0) → ⊥
unfolding class_sizes
lives_on gone = same gone.object gone.is gone.gone
  where
    same : (o : Object) → Some object ≡ Some o → o.gone ≡ true → ⊥
    same o e f = let own : object ≡ o = cc in marked (ap (λ (x : Object). x.gone) own ∙ f)
      where
        marked : false ≡ true → ⊥
        marked p = cc

same_target : (target : ℕ) → Some 0 ≡ Some target → target ≡ 0
same_target target e = cc

broken : FollowsTargets (front usual first groups) last → ⊥
unfolding class_sizes
broken kept =
    let follows = kept 1 born refl refl in
    let gone = (follows.looks.empty (record { i = 0; looks = refl; means = refl }) refl).0 refl in
    lives_on (subst (IsGone a) (same_target follows.target follows.made) gone)

others : (other : Promise) → (other ≡ WeakReferences → ⊥) → KeepsAt other usual (front usual first groups) last
unfolding class_sizes
others References differs =
    references-idle usual (front usual first groups) a (Look 0) lines b known refl
others Protected differs =
    record {
      told = refl;
      live = tt;
      gone = λ birth h. inl (record { object = h.object; is = h.is; gone = h.gone });
      spared = tt;
    }
others WeakReferences differs = absurd (differs refl)
others Collections differs = tt
others Cycles differs = tt
others Apart differs = record { placed = known.good.placed; there = tt }

pub returns : goal.returns
unfolding class_sizes
returns c =
    breaks-last usual first groups (omega arith) checked last WeakReferences _ _
    (are_turns usual first groups last (refl, (refl, tt)) refl here refl) broken others
