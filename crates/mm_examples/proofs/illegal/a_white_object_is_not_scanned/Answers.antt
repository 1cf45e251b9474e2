-- The only object is white, so no part of it may be scanned.
use Rattle.std.proofs.Common.{◌≡◌, ℕ, zero, suc, false, List, [], ◌∷◌, Some, None, refl, arith}
use Rattle.mm_model.specs.declared.command.Command.{Command}
use Rattle.mm_model.specs.declared.command.Command.TheVariants.{Pop, Begin, Step}
use Rattle.mm_model.specs.declared.line.Line.{Line}
use Rattle.mm_model.specs.declared.object.Colour.TheVariants.{White, Gray}
use Rattle.mm_model.specs.declared.object.Kind.TheVariants.{Traced}
use Rattle.mm_model.specs.Places.SizeClass.{class_sizes}
use Rattle.mm_model.specs.Object.{Object, newborn}
use Rattle.mm_model.specs.State.{State}
use Rattle.mm_model.specs.Sets.Marking.{MayScan}
use Rattle.mm_model.specs.After.{after}
use Rattle.mm_model.specs.Step.{IsStep}
use Rattle.mm_model.specs.Logs.Turns.{Turn}
use Rattle.mm_laws.proofs.Turning.Knowing.{turn_of}
use Rattle.mm_examples.specs.Examples.{usual, new, made, done, scanned}
use Rattle.mm_examples.proofs.Breaking.{before}
use Rattle.mm_examples.proofs.Refuting.{not_legal, scans_none}
use Rattle.mm_examples.proofs.illegal.a_white_object_is_not_scanned.Goals as goal

abbrev first : List Command
first = new Traced 0 4 ∷ Pop 1 ∷ Begin ∷ []

abbrev groups : List (List Line)
groups = (made 4096 ∷ []) ∷ (done ∷ []) ∷ (done ∷ []) ∷ []

abbrev lines : List Line
lines = scanned 4096 4 ∷ done ∷ []

abbrev object : Object
object = newborn (record { kind = Traced; finalize = false; counted = 0; slots = 4 }) 4096

-- the state before the last turn
abbrev a : State
a =
    record {
      objects = object ∷ [];
      stack = [];
      areas = [];
      cycle = Some (record { colours = White ∷ []; gone_before = 0; partly_scanned = None });
      threshold = 256;
      commands = 3;
      settings = usual;
    }

abbrev last : Turn
last = turn_of a (Step 1) lines (after a (Step 1) lines)

here : before usual first groups ≡ a
unfolding class_sizes
here = refl

white : White ≡ Gray → ⊥
white e = cc

-- no object is gray
none : (birth : ℕ) (x : Object) → MayScan a birth x → ⊥
none zero x may = white may.gray
none (suc n) x may = white may.gray

some : (base : ℕ) (bases : List ℕ) → base ∷ bases ≡ [] → ⊥
some base bases e = cc

no_step : IsStep a (Step 1) lines (after a (Step 1) lines) → ⊥
no_step step = some 4096 [] (scans_none a 1 lines (after a (Step 1) lines) none refl step)

pub returns : goal.returns
returns c = λ b legal. not_legal usual (omega arith) first groups last (refl, (refl, (refl, tt))) refl here refl no_step
    b legal
