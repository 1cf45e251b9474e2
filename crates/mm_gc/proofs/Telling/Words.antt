-- The words of what a phase frees were its words when the command began.
use Rattle.std.proofs.Common.{◌≡◌, ℕ, ◌%◌, ◌^◌, Bool, true, false, List, [], ◌∷◌, ◌++◌, map, length, sum, Option, Some}
use Rattle.std.proofs.Common.{None, refl, sym, subst, eqb-true}
use Rattle.std.specs.Prelude.{◌==◌, if◌then◌else◌}
use Rattle.std.specs.List.{AllByRecursion, flat_map}
use Rattle.mm_model.specs.declared.command.Command.{Command}
use Rattle.mm_model.specs.declared.line.Line.{Line}
use Rattle.mm_model.specs.declared.line.Line.TheVariants as lines
use Rattle.mm_model.specs.declared.line.Phase.{Phase}
use Rattle.mm_model.specs.declared.line.Phase.TheVariants.{Reap}
use Rattle.mm_model.specs.declared.reply.Reply.{Reply}
use Rattle.mm_model.specs.Views.ByBase.{Based, Begins, based}
use Rattle.mm_model.specs.Views.ObjectView.{ObjectView, ObjectsByBase}
use Rattle.mm_model.specs.Views.SetsByBase.{IsReapableAt}
use Rattle.mm_model.specs.Views.View.{View}
use Rattle.mm_model.specs.Views.ViewPhase.{view_final_lines, view_phase_lines}
use Rattle.mm_model.specs.Views.ViewStep.{IsViewRow, ViewEnds}
use Rattle.mm_model.specs.Views.ViewWords.{object_at, outside_references}
use Rattle.mm_model.proofs.Lists.Growing.{find-Some}
use Rattle.mm_gc.specs.Ending.{EndsUnless}
use Rattle.mm_gc.proofs.Telling.Heard.{HasTwinIn}
use Rattle.mm_gc.proofs.Telling.Lasting.{HasTwin, row-lasts, reapable-unnamed}

-- each of these objects has a twin, so the finalizers' lines of their phase have
final-twins : (now before : ObjectsByBase) (base : ℕ) → HasTwin now before base
    → (o : Option (Based ObjectView)) → ((b : Based ObjectView) → o ≡ Some b → b.base ≡ base)
    → AllByRecursion (HasTwinIn now before) (view_final_lines o)
final-twins now before base twin None same = tt
final-twins now before base twin (Some o) same = either o.value.finalize
  where
    either : (b : Bool) → AllByRecursion (HasTwinIn now before)
        (if b then lines.Final o.base (length o.value.words) (sum o.value.words % 2 ^ 32) ∷ [] else [])
    either true = (subst (HasTwin now before) (sym (same o refl)) twin, tt)
    either false = tt

all-append : (P : Line → Type 0) (xs ys : List Line) → AllByRecursion P xs → AllByRecursion P ys
    → AllByRecursion P (xs ++ ys)
all-append P [] ys left right = right
all-append P (x ∷ xs) ys left right = (left.0, all-append P xs ys left.1 right)

finals-twins : (now before : ObjectsByBase) (bases : List ℕ) → AllByRecursion (HasTwin now before) bases
    → AllByRecursion (HasTwinIn now before) (flat_map (λ base. view_final_lines (object_at now base)) bases)
finals-twins now before [] twins = tt
finals-twins now before (base ∷ bases) twins =
    all-append (HasTwinIn now before) (view_final_lines (object_at now base))
    (flat_map (λ base. view_final_lines (object_at now base)) bases)
    (final-twins now before base twins.0 (object_at now base)
    (λ o found.
    eqb-true o.base base (find-Some (λ (b : Based ObjectView). b.base == base) (based now) o found).passes))
    (finals-twins now before bases twins.1)

frees-twins : (now before : ObjectsByBase) (bases : List ℕ)
    → AllByRecursion (HasTwinIn now before) (map lines.Free bases)
frees-twins now before [] = tt
frees-twins now before (base ∷ bases) = (tt, frees-twins now before bases)

phase-twins : (what : Phase) (view : View) (before : ObjectsByBase) (bases : List ℕ)
    → AllByRecursion (HasTwin view.objects before) bases
    → AllByRecursion (HasTwinIn view.objects before) (view_phase_lines what view bases)
phase-twins what view before bases twins =
    all-append (HasTwinIn view.objects before)
    (flat_map (λ base. view_final_lines (object_at view.objects base)) bases)
    (lines.Phase what (length bases) ∷ map lines.Free bases) (finals-twins view.objects before bases twins)
    (tt, frees-twins view.objects before bases)

-- What the reap at the end of a command frees isn't named by the stack. So it is neither born by the command nor
-- written to.
pub end-twins : (old middle ended : View) (command : Command) (log : List Line) (reply : Reply) (refused : Bool)
    (end_log : List Line) → IsViewRow old command log (record { view = middle; reply = reply })
    → EndsUnless refused end_log middle ended
    → AllByRecursion (HasTwinIn middle.objects old.objects) end_log
end-twins old middle ended command log reply true end_log row left =
    subst (AllByRecursion (HasTwinIn middle.objects old.objects)) (sym left.no_lines) tt
end-twins old middle ended command log reply false end_log row (ViewEnds.Refused_as_full full none same) =
    subst (AllByRecursion (HasTwinIn middle.objects old.objects)) (sym none) tt
end-twins old middle ended command log reply false end_log row (ViewEnds.Below_threshold full below none same) =
    subst (AllByRecursion (HasTwinIn middle.objects old.objects)) (sym none) tt
end-twins old middle ended command log reply false end_log row (ViewEnds.At_threshold full from once) =
    subst (AllByRecursion (HasTwinIn middle.objects old.objects)) (sym once.log_is)
    (phase-twins Reap middle old.objects once.dead (twins once.dead once.reapable.only))
  where
    twins : (dead : List ℕ)
        → AllByRecursion (λ base. (object : ObjectView) × Begins middle.objects base object
        × IsReapableAt middle.objects middle.stack (outside_references middle) base) dead
        → AllByRecursion (HasTwin middle.objects old.objects) dead
    twins [] all = tt
    twins (base ∷ dead) all = (
      λ object begins.
          row-lasts old command log (record { view = middle; reply = reply }) row base object begins
          (reapable-unnamed middle.objects middle.stack (outside_references middle) base all.0.2 object begins),
      twins dead all.1,
    )
