-- What a journal heard of the lines of a call, joined to what it heard before, and told of other objects that hold the
-- same words.
use Rattle.std.proofs.Common.{ℕ, List, [], ◌∷◌, ◌++◌, map, refl, sym, ap, ◌∙◌, subst}
use Rattle.std.specs.Prelude.{⊤}
use Rattle.std.specs.List.{AllByRecursion}
use Rattle.std.proofs.lemmas.List.{map-append}
use Rattle.mm_model.specs.declared.line.Line.{Line}
use Rattle.mm_model.specs.declared.line.Line.TheVariants as lines
use Rattle.mm_model.specs.Views.ObjectView.{ObjectsByBase}
use Rattle.mm_model.specs.declared.line.Phase.{Phase}
use Rattle.mm_model.specs.Views.View.{View}
use Rattle.mm_model.specs.Views.ViewPhase.{view_phase_lines}
use Rattle.mm_sweep.specs.Told.{Told, Finalize, PhaseOf, Free, Scan, line_told, HasItsWords, IsToldOf}
use Rattle.mm_gc.proofs.Telling.Lasting.{HasTwin, HaveTwins}
use Rattle.mm_gc.proofs.Colours.Alike.{AreAlike, begins-alike, phase_lines-alike}

-- no line
pub heard-nothing : (heard : List Told → Type 0) (objects : ObjectsByBase) → heard [] → IsToldOf heard objects []
heard-nothing heard objects nothing = record { told = []; was = nothing; lines_are = refl; words_are = tt }

all-append : (P : Told → Type 0) (xs ys : List Told) → AllByRecursion P xs → AllByRecursion P ys
    → AllByRecursion P (xs ++ ys)
all-append P [] ys left right = right
all-append P (x ∷ xs) ys left right = (left.0, all-append P xs ys left.1 right)

-- some lines, and then others
pub heard-on : (first next both : List Told → Type 0)
    → ((earlier later : List Told) → first earlier → next later → both (earlier ++ later)) → (objects : ObjectsByBase)
    (earlier later : List Line) → IsToldOf first objects earlier → IsToldOf next objects later
    → IsToldOf both objects (earlier ++ later)
heard-on first next both on objects earlier later a b =
    record {
      told = a.told ++ b.told;
      was = on a.told b.told a.was b.was;
      lines_are = map-append line_told a.told b.told ∙ ap (λ (ls : List Line). ls ++ map line_told b.told) a.lines_are
          ∙ ap (λ (ls : List Line). earlier ++ ls) b.lines_are;
      words_are = all-append (HasItsWords objects) a.told b.told a.words_are b.words_are;
    }

-- of a finalizer's line
abbrev pub HasTwinIn : ObjectsByBase → ObjectsByBase → Line → Type 0
HasTwinIn now before (lines.Final base slots sum) = HasTwin now before base
HasTwinIn now before _ = ⊤

words-among : (now before : ObjectsByBase) (told : Told) → HasTwinIn now before (line_told told) → HasItsWords now told
    → HasItsWords before told
words-among now before (Finalize base words) twins its =
    let twin = twins its.0 its.1 in (twin.0, twin.1, its.2 ∙ twin.2)
words-among now before (PhaseOf what freed) twins its = tt
words-among now before (Free base) twins its = tt
words-among now before (Scan base slots) twins its = tt

all-among : (now before : ObjectsByBase) (told : List Told)
    → AllByRecursion (HasTwinIn now before) (map line_told told) → AllByRecursion (HasItsWords now) told
    → AllByRecursion (HasItsWords before) told
all-among now before [] twins its = tt
all-among now before (one ∷ told) twins its =
    (words-among now before one twins.0 its.0, all-among now before told twins.1 its.1)

-- the objects of these finalizers' lines held their words before
pub heard-among : (heard : List Told → Type 0) (now before : ObjectsByBase) (log : List Line)
    → AllByRecursion (HasTwinIn now before) log → IsToldOf heard now log → IsToldOf heard before log
heard-among heard now before log twins h =
    record {
      told = h.told;
      was = h.was;
      lines_are = h.lines_are;
      words_are = all-among now before h.told
          (subst (AllByRecursion (HasTwinIn now before)) (sym h.lines_are) twins) h.words_are;
    }

-- where all objects did
pub all-twins : (now before : ObjectsByBase) → HaveTwins now before → (log : List Line)
    → AllByRecursion (HasTwinIn now before) log
all-twins now before twins [] = tt
all-twins now before twins (line ∷ log) = (one line, all-twins now before twins log)
  where
    one : (line : Line) → HasTwinIn now before line
    one (lines.Final base slots sum) = twins base
    one (lines.Phase what freed) = tt
    one (lines.Free base) = tt
    one (lines.Scan base slots) = tt
    one (lines.Reply reply) = tt
    one (lines.Total totals) = tt

-- where they have other colours
pub heard-alike : (heard : List Told → Type 0) (what : Phase) (marked view : View)
    → AreAlike marked.objects view.objects → (bases : List ℕ)
    → IsToldOf heard marked.objects (view_phase_lines what marked bases)
    → IsToldOf heard view.objects (view_phase_lines what view bases)
heard-alike heard what marked view same bases h =
    subst (IsToldOf heard view.objects) (phase_lines-alike what marked view same bases)
    (heard-among heard marked.objects view.objects (view_phase_lines what marked bases)
    (all-twins marked.objects view.objects twins (view_phase_lines what marked bases)) h)
  where
    twins : HaveTwins marked.objects view.objects
    twins base object begins =
        let alike = begins-alike view.objects marked.objects (sym same) base object begins in
        (record object { colour = alike.0 }, alike.1, refl, refl)
