-- One part costs 65 at most, and leaves the object gray.
use Rattle.std.proofs.Common.{◌≡◌, ℕ, zero, suc, false, List, length, drop, sum, ap, subst, [], ◌∷◌, Some, None, refl}
use Rattle.std.proofs.Common.{sym, ◌∙◌, arith}
use Rattle.std.proofs.lemmas.List.{length-take}
use Rattle.mm_model.specs.declared.command.Command.{Command}
use Rattle.mm_model.specs.declared.command.Command.TheVariants.{Begin, Step}
use Rattle.mm_model.specs.declared.line.Line.{Line}
use Rattle.mm_model.specs.declared.line.Line.TheVariants.{Scan}
use Rattle.mm_model.specs.declared.object.Colour.TheVariants.{Gray}
use Rattle.mm_model.specs.declared.object.Kind.TheVariants.{Traced}
use Rattle.mm_model.specs.Places.SizeClass.{class_sizes}
use Rattle.mm_model.specs.Object.{Object, newborn}
use Rattle.mm_model.specs.State.{State}
use Rattle.mm_model.specs.Value.{reference}
use Rattle.mm_model.specs.Sets.Marking.{part_slots, part_done, done_of}
use Rattle.mm_model.specs.Words.{scanned_slots}
use Rattle.mm_model.specs.Sets.Scan.{AreScanned, IsNothingGray, IsEnough, Nothing_asked, Cost_reached, Nothing_left}
use Rattle.mm_model.specs.Sets.Scan.{costs}
use Rattle.mm_model.specs.After.{after, scanned_bases}
use Rattle.mm_model.specs.Step.{IsStep}
use Rattle.mm_model.specs.Logs.Turns.{Turn}
use Rattle.mm_laws.proofs.Turning.Knowing.{turn_of}
use Rattle.mm_examples.specs.Examples.{usual, new, made, done, scanned}
use Rattle.mm_examples.proofs.Breaking.{before}
use Rattle.mm_examples.proofs.Refuting.{not_legal, scanning}
use Rattle.mm_examples.proofs.illegal.a_step_does_not_end_below_its_cost.Goals as goal

abbrev first : List Command
first = new Traced 0 100 ∷ Begin ∷ []

abbrev groups : List (List Line)
groups = (made 4096 ∷ []) ∷ (done ∷ []) ∷ []

abbrev lines : List Line
lines = scanned 4096 64 ∷ done ∷ []

abbrev object : Object
object = newborn (record { kind = Traced; finalize = false; counted = 0; slots = 100 }) 4096

-- the state before the last turn
abbrev a : State
a =
    record {
      objects = object ∷ [];
      stack = reference 4096 0 ∷ [];
      areas = [];
      cycle = Some (record { colours = Gray ∷ []; gone_before = 0; partly_scanned = None });
      threshold = 256;
      commands = 2;
      settings = usual;
    }

abbrev last : Turn
last = turn_of a (Step 66) lines (after a (Step 66) lines)

here : before usual first groups ≡ a
unfolding class_sizes
here = refl

-- the object is gray after its first part
still_gray : (x : Object) → Some object ≡ Some x → (b : State) → b ≡ part_done a 0 x → IsNothingGray b → ⊥
unfolding class_sizes
still_gray x e b is nothing =
    let same : x ≡ object = cc in
    subst (λ s. IsNothingGray s → ⊥) (sym (is ∙ ap (part_done a 0) same))
    (λ none. none 0 object (record { is = refl; live = refl }) refl) nothing

one_part : (x : Object) → Some object ≡ Some x → (log : List Line) (b : State)
    → log ≡ Scan x.base (length (part_slots a 0 x)) ∷ [] → b ≡ part_done a 0 x → IsEnough 66 log b → ⊥
one_part x e log b log_is b_is (Nothing_asked zero_asked none) = omega (arith, zero_asked)
one_part x e log b log_is b_is (Cost_reached reached before) =
    let few = length-take 64 (drop (done_of a.cycle 0) (scanned_slots x)) in
    let cost = ap (λ lines. sum (costs lines)) log_is in
    omega (arith, reached, few, cost)
one_part x e log b log_is b_is (Nothing_left below nothing) = still_gray x e b b_is nothing

two : (x y : ℕ) (rest : List ℕ) → x ∷ y ∷ rest ≡ 4096 ∷ [] → ⊥
two x y rest e = cc

none : ◌≡◌ {A = List ℕ} [] (4096 ∷ []) → ⊥
none e = cc

scans : (births : List ℕ) (log : List Line) (b : State) → AreScanned a births log b → IsEnough 66 log b
    → scanned_bases log ≡ 4096 ∷ [] → ⊥
scans [] log b scanned enough bases = none (sym (ap scanned_bases scanned.0) ∙ bases)
scans (zero ∷ []) log b scanned enough bases =
    one_part scanned.0 scanned.2.lives.is log b
    (scanned.3 ∙ ap (λ (rest : List Line). Scan scanned.0.base (length (part_slots a 0 scanned.0)) ∷ rest) scanned.4.0)
    scanned.4.1 enough
scans (suc n ∷ []) log b scanned enough bases = let is = scanned.2.lives.is in cc
scans (x ∷ y ∷ births) log b scanned enough bases =
    two scanned.0.base scanned.4.0.base (scanned_bases scanned.4.1)
    (sym (ap scanned_bases scanned.3
    ∙ ap (λ (rest : List ℕ). scanned.0.base ∷ rest) (ap scanned_bases scanned.4.3)) ∙ bases)

no_step : IsStep a (Step 66) lines (after a (Step 66) lines) → ⊥
no_step step =
    let own = scanning a 66 lines (after a (Step 66) lines) refl step in
    scans own.births own.log own.after own.scanned own.enough own.bases

pub returns : goal.returns
returns c = λ b legal. not_legal usual (omega arith) first groups last (refl, (refl, tt)) refl here refl no_step b legal
