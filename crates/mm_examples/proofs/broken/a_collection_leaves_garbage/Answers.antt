-- The turns before the last are legal, and what the last one keeps and breaks is computed.
use Rattle.std.proofs.Common.{◌≡◌, ℕ, true, false, List, [], ◌∷◌, None, refl, inl, arith}
use Rattle.mm_model.specs.declared.command.Command.{Command}
use Rattle.mm_model.specs.declared.line.Line.{Line}
use Rattle.mm_model.specs.Places.SizeClass.{class_sizes}
use Rattle.mm_model.specs.Object.{Object, newborn}
use Rattle.mm_model.specs.State.{State, Lives, empty_state}
use Rattle.mm_model.specs.Logs.Turns.{Turn}
use Rattle.mm_laws.proofs.Turning.Knowing.{turn_of}
use Rattle.mm_laws.proofs.Turning.Looks.{weak-idle}
use Rattle.mm_laws.proofs.Turning.Reading.{references-idle}
use Rattle.mm_laws.proofs.Turning.Remembering.{Knows}
use Rattle.mm_examples.specs.Broken.{Promise, References, Protected, WeakReferences, Collections, Cycles, Apart}
use Rattle.mm_examples.specs.Broken.{KeepsAt}
use Rattle.mm_examples.proofs.Breaking.{AreChecked, are_turns, front, before, front-known, breaks-last}
use Rattle.mm_model.specs.declared.command.Command.TheVariants.{Pop, Collect}
use Rattle.mm_model.specs.declared.object.Kind.TheVariants.{Traced}
use Rattle.mm_model.specs.Sets.Reached.{IsReached, By_root, By_slot}
use Rattle.mm_model.specs.Logs.Faithful.{LeavesReached}
use Rattle.mm_examples.specs.Examples.{usual, new, made, done, collected}
use Rattle.mm_examples.proofs.broken.a_collection_leaves_garbage.Goals as goal

abbrev first : List Command
first = new Traced 0 0 ∷ Pop 1 ∷ []

abbrev groups : List (List Line)
groups = (made 4096 ∷ []) ∷ (done ∷ []) ∷ []

abbrev lines : List Line
lines = collected 0 ∷ done ∷ []

abbrev object : Object
object = newborn (record { kind = Traced; finalize = false; counted = 0; slots = 0 }) 4096

-- the states before and after the last turn
abbrev a : State
a =
    record {
      objects = object ∷ [];
      stack = [];
      areas = [];
      cycle = None;
      threshold = 256;
      commands = 2;
      settings = usual;
    }

abbrev b : State
b =
    record {
      objects = object ∷ [];
      stack = [];
      areas = [];
      cycle = None;
      threshold = 256;
      commands = 3;
      settings = usual;
    }

abbrev last : Turn
last = turn_of a (Collect) lines b

checked : AreChecked (empty_state usual) first groups
unfolding class_sizes
checked = (refl, refl, (refl, refl, tt))

here : before usual first groups ≡ a
unfolding class_sizes
here = refl

known : Knows usual (front usual first groups) a
known = front-known usual first groups (omega arith) checked a here

lives : Lives a 0 object
unfolding class_sizes
lives = record { is = refl; live = refl }

-- nothing is reached, since there are no roots
unreached : (birth : ℕ) → IsReached a birth → ⊥
unreached birth (By_root _ object lives named) = no_root named
  where
    no_root : false ≡ true → ⊥
    no_root e = cc
unreached birth (By_slot _ object by holder lives held named own) = unreached by own

unlisted : false ≡ true → ⊥
unlisted e = cc

broken : LeavesReached last → ⊥
unfolding class_sizes
broken kept = unreached 0 ((kept.0 refl 0).0 (record { object = object; lives = record { is = refl; live = refl } }))

others : (other : Promise) → (other ≡ Collections → ⊥) → KeepsAt other usual (front usual first groups) last
unfolding class_sizes
others References differs =
    references-idle usual (front usual first groups) a (Collect) lines b known refl
others Protected differs =
    record {
      told = refl;
      live = (record { ascending = tt; live = tt }, tt);
      gone = λ birth h. inl (record { object = h.object; is = h.is; gone = h.gone });
      spared = (λ birth own frees. unlisted frees.listed, tt);
    }
others WeakReferences differs =
    weak-idle usual (front usual first groups) a (Collect) lines b known refl
others Collections differs = absurd (differs refl)
others Cycles differs = (λ e. cc, tt)
others Apart differs = record { placed = known.good.placed; there = tt }

pub returns : goal.returns
unfolding class_sizes
returns c =
    breaks-last usual first groups (omega arith) checked last Collections _ _
    (are_turns usual first groups last (refl, (refl, tt)) refl here refl) broken others
