-- The turns before the last are legal, and what the last one keeps and breaks is computed.
use Rattle.std.proofs.Common.{◌≡◌, ℕ, zero, suc, true, false, List, [], ◌∷◌, Some, None, refl, ap, arith}
use Rattle.mm_model.specs.declared.command.Command.{Command}
use Rattle.mm_model.specs.declared.line.Line.{Line}
use Rattle.mm_model.specs.Places.SizeClass.{class_sizes}
use Rattle.std.specs.Prelude.{slice_get}
use Rattle.mm_model.specs.Object.{Object, newborn, is_live}
use Rattle.mm_model.proofs.Lists.Truth.{no_other}
use Rattle.mm_model.specs.State.{State, empty_state}
use Rattle.mm_model.specs.Logs.Turns.{Turn}
use Rattle.mm_laws.proofs.Turning.Knowing.{turn_of}
use Rattle.mm_laws.proofs.Turning.Looks.{weak-idle}
use Rattle.mm_laws.proofs.Turning.Reading.{references-idle}
use Rattle.mm_laws.proofs.Turning.Remembering.{Knows}
use Rattle.mm_examples.specs.Broken.{Promise, References, Protected, WeakReferences, Collections, Cycles, Apart}
use Rattle.mm_examples.specs.Broken.{KeepsAt}
use Rattle.mm_examples.proofs.Breaking.{AreChecked, are_turns, front, before, front-known, breaks-last}
use Rattle.mm_model.specs.declared.command.Command.TheVariants.{Pop, Collect}
use Rattle.mm_model.specs.declared.object.Kind.TheVariants.{Traced}
use Rattle.mm_model.specs.Sets.Reached.{IsReached, By_root, By_slot}
use Rattle.mm_model.specs.Logs.Faithful.{SparesProtected}
use Rattle.mm_examples.specs.Examples.{usual, new, made, done, collected, freed}
use Rattle.mm_examples.proofs.broken.an_object_is_freed_twice.Goals as goal

abbrev first : List Command
first = new Traced 0 0 ∷ Pop 1 ∷ []

abbrev groups : List (List Line)
groups = (made 4096 ∷ []) ∷ (done ∷ []) ∷ []

abbrev lines : List Line
lines = collected 2 ∷ freed 4096 ∷ freed 4096 ∷ done ∷ []

abbrev object : Object
object = newborn (record { kind = Traced; finalize = false; counted = 0; slots = 0 }) 4096

-- the states before and after the last turn
abbrev a : State
a =
    record {
      objects = object ∷ [];
      stack = [];
      areas = [];
      cycle = None;
      threshold = 256;
      commands = 2;
      settings = usual;
    }

abbrev b : State
b =
    record {
      objects = record object { gone = true } ∷ [];
      stack = [];
      areas = [];
      cycle = None;
      threshold = 256;
      commands = 3;
      settings = usual;
    }

abbrev last : Turn
last = turn_of a (Collect) lines b

checked : AreChecked (empty_state usual) first groups
unfolding class_sizes
checked = (refl, refl, (refl, refl, tt))

here : before usual first groups ≡ a
unfolding class_sizes
here = refl

known : Knows usual (front usual first groups) a
known = front-known usual first groups (omega arith) checked a here

-- nothing is reached, since there are no roots
unreached : (birth : ℕ) → IsReached a birth → ⊥
unreached birth (By_root _ object lives named) = no_root named
  where
    no_root : false ≡ true → ⊥
    no_root e = cc
unreached birth (By_slot _ object by holder lives held named own) = unreached by own

-- and nothing is left
left-none : (birth : ℕ) (left : Object) → slice_get (record object { gone = true } ∷ []) birth ≡ Some left
    → is_live left ≡ true → ⊥
left-none zero left is live =
    let same : left ≡ record object { gone = true } = cc in
    let gone : is_live left ≡ false = ap is_live same in
    no_other gone live
left-none (suc n) left is live = cc

broken : SparesProtected last → ⊥
unfolding class_sizes
broken kept = let twice = kept.live.0.ascending.0.0 in omega (arith, twice)

others : (other : Promise) → (other ≡ Protected → ⊥) → KeepsAt other usual (front usual first groups) last
unfolding class_sizes
others References differs = references-idle usual (front usual first groups) a (Collect) lines b known refl
others Protected differs = absurd (differs refl)
others WeakReferences differs = weak-idle usual (front usual first groups) a (Collect) lines b known refl
others Collections differs = (
  λ e birth. (
    λ left. absurd (left-none birth left.object left.lives.is left.lives.live),
    λ own. absurd (unreached birth own),
  ),
  tt,
)
others Cycles differs = (λ e. cc, tt)
others Apart differs = record { placed = record { inside = tt; apart = tt }; there = tt }

pub returns : goal.returns
unfolding class_sizes
returns c =
    breaks-last usual first groups (omega arith) checked last Protected _ _
    (are_turns usual first groups last (refl, (refl, tt)) refl here refl) broken others
