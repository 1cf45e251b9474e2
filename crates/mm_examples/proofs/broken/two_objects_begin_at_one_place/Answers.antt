-- The turns before the last are legal, and what the last one keeps and breaks is computed.
use Rattle.std.proofs.Common.{◌≡◌, ℕ, zero, suc, true, false, List, [], ◌∷◌, Some, None, refl, sym, ap, ◌∙◌, arith}
use Rattle.mm_model.specs.declared.command.Command.{Command}
use Rattle.mm_model.specs.declared.line.Line.{Line}
use Rattle.mm_model.specs.Places.SizeClass.{class_sizes}
use Rattle.mm_model.specs.Value.{reference}
use Rattle.mm_model.specs.Object.{Object, newborn}
use Rattle.mm_model.specs.State.{State, empty_state}
use Rattle.mm_model.specs.Logs.Turns.{Turn}
use Rattle.mm_laws.proofs.Turning.Knowing.{turn_of}
use Rattle.mm_laws.proofs.Turning.Looks.{weak-idle}
use Rattle.mm_laws.proofs.Turning.Reading.{references-idle}
use Rattle.mm_laws.proofs.Turning.Remembering.{Knows}
use Rattle.mm_examples.specs.Broken.{Promise, References, Protected, WeakReferences, Collections, Cycles, Apart}
use Rattle.mm_examples.specs.Broken.{KeepsAt}
use Rattle.mm_examples.proofs.Breaking.{AreChecked, are_turns, front, before, front-known, breaks-last}
use Rattle.mm_model.specs.declared.object.Kind.TheVariants.{Traced}
use Rattle.mm_model.specs.Logs.Course.{IsGone}
use Rattle.mm_model.specs.Logs.Faithful.{KeepsApart}
use Rattle.mm_examples.specs.Examples.{usual, new, made}
use Rattle.mm_examples.proofs.broken.two_objects_begin_at_one_place.Goals as goal

abbrev first : List Command
first = new Traced 0 0 ∷ []

abbrev groups : List (List Line)
groups = (made 4096 ∷ []) ∷ []

abbrev lines : List Line
lines = made 4096 ∷ []

abbrev object : Object
object = newborn (record { kind = Traced; finalize = false; counted = 0; slots = 0 }) 4096

abbrev other : Object
other = newborn (record { kind = Traced; finalize = false; counted = 0; slots = 0 }) 4112

-- the states before and after the last turn
abbrev a : State
a =
    record {
      objects = object ∷ [];
      stack = reference 4096 0 ∷ [];
      areas = [];
      cycle = None;
      threshold = 256;
      commands = 1;
      settings = usual;
    }

abbrev b : State
b =
    record {
      objects = object ∷ other ∷ [];
      stack = reference 4112 1 ∷ reference 4096 0 ∷ [];
      areas = [];
      cycle = None;
      threshold = 256;
      commands = 2;
      settings = usual;
    }

abbrev last : Turn
last = turn_of a (new Traced 0 0) lines b

checked : AreChecked (empty_state usual) first groups
unfolding class_sizes
checked = (refl, refl, tt)

here : before usual first groups ≡ a
unfolding class_sizes
here = refl

known : Knows usual (front usual first groups) a
known = front-known usual first groups (omega arith) checked a here

apart : (n : ℕ) → n ≡ 4112 → n ≡ 4096 → ⊥
apart n p q = omega (arith, p, q)

not_there : (o : Object) → Some other ≡ Some o → o.base ≡ 4096 → ⊥
not_there o e at =
    let same : other ≡ o = cc in apart o.base (sym (ap (λ (x : Object). x.base) same)) at

broken : KeepsApart usual last → ⊥
broken kept = not_there kept.there.object kept.there.lives.is kept.there.at

-- both objects live
none_gone : (birth : ℕ) → IsGone b birth → ⊥
none_gone zero gone = live object refl gone.object gone.is gone.gone
  where
    live : (x : Object) → x.gone ≡ false → (o : Object) → Some x ≡ Some o → o.gone ≡ true → ⊥
    live x e o f g = let same : x ≡ o = cc in marked (sym e ∙ ap (λ (y : Object). y.gone) same ∙ g)
      where
        marked : false ≡ true → ⊥
        marked p = cc
none_gone (suc zero) gone = live other refl gone.object gone.is gone.gone
  where
    live : (x : Object) → x.gone ≡ false → (o : Object) → Some x ≡ Some o → o.gone ≡ true → ⊥
    live x e o f g = let same : x ≡ o = cc in marked (sym e ∙ ap (λ (y : Object). y.gone) same ∙ g)
      where
        marked : false ≡ true → ⊥
        marked p = cc
none_gone (suc (suc n)) gone = let is = gone.is in cc

others : (other : Promise) → (other ≡ Apart → ⊥) → KeepsAt other usual (front usual first groups) last
unfolding class_sizes
others References differs =
    references-idle usual (front usual first groups) a (new Traced 0 0) lines b known refl
others Protected differs = record { told = refl; live = tt; gone = λ birth h. absurd (none_gone birth h); spared = tt }
others WeakReferences differs =
    weak-idle usual (front usual first groups) a (new Traced 0 0) lines b known refl
others Collections differs = tt
others Cycles differs = tt
others Apart differs = absurd (differs refl)

pub returns : goal.returns
unfolding class_sizes
returns c =
    breaks-last usual first groups (omega arith) checked last Apart _ _
    (are_turns usual first groups last (refl, tt) refl here refl) broken others
