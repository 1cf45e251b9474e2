-- Where objects are freed, at most as many entries become stale.
use Rattle.std.proofs.Common.{◌≡◌, ℕ, ◌+◌, Bool, true, false, List, length, Some, None}
use Rattle.std.proofs.Common.{sym, ap, subst, ◌∙◌}
use Rattle.std.specs.Prelude.{if◌then◌else◌}
use Rattle.mm_model.specs.Phase.{lists}
use Rattle.mm_model.specs.Views.ByBase.{changed}
use Rattle.mm_model.specs.Views.ObjectView.{ObjectView, ObjectsByBase, holds_base}
use Rattle.mm_model.specs.Views.ViewPhase.{unless_listed, view_after_release}
use Rattle.mm_model.proofs.View.ByBase.ChangedEntries.{begins_changed, changed_begins}
use Rattle.mm_model.proofs.View.ByBase.Entries.{length-changed}
use Rattle.mm_mark.specs.Marker.{Marking}
use Rattle.mm_mark.specs.Colours.{IsGrayAt, IsWhiteAt}
use Rattle.mm_mark.specs.Stale.{HasFewStale}
use Rattle.mm_mark.proofs.Keeping.{few-freed}

-- an object that is left
abbrev left : List ℕ → ObjectView → ObjectView
left dead object = record object { partner = unless_listed dead object.partner }

-- where some were freed, what was white then was white before
white-before : (dead : List ℕ) (objects : ObjectsByBase) (base : ℕ)
    → IsWhiteAt (changed (view_after_release dead) objects) base → IsWhiteAt objects base
white-before dead objects base white =
    let one = changed_begins (view_after_release dead) objects base white.object white.begins in
    record { object = one.before; begins = one.begins; is = same one.before (lists dead base) one.is ∙ white.is }
  where
    same : (x : ObjectView) (b : Bool) → (if b then None else Some (left dead x)) ≡ Some white.object
        → x.colour ≡ white.object.colour
    same x true e = cc
    same x false e =
        let one : left dead x ≡ white.object = cc in ap (λ (o : ObjectView). o.colour) one

-- and what was gray and isn't listed is gray still
gray-after : (dead : List ℕ) (objects : ObjectsByBase) (base : ℕ) → IsGrayAt objects base
    → holds_base dead base ≡ false → IsGrayAt (changed (view_after_release dead) objects) base
gray-after dead objects base gray out = record {
  object = left dead gray.object;
  begins =
      begins_changed (view_after_release dead) objects base gray.object (left dead gray.object) gray.begins
      (ap (λ (b : Bool). if b then None else Some (left dead gray.object)) out);
  is = gray.is;
}

-- At most as many entries become stale as objects are freed, even where a base is listed twice.
pub few-released : (now : Marking) (dead : List ℕ) (after : ObjectsByBase) (stale : ℕ)
    → after ≡ changed (view_after_release dead) now.objects → HasFewStale now stale
    → HasFewStale (record { marker = now.marker; objects = after }) (stale + length dead)
few-released now dead after stale is h =
    subst (λ (os : ObjectsByBase). HasFewStale (record { marker = now.marker; objects = os }) (stale + length dead))
    (sym is)
    (few-freed now.marker now.objects (changed (view_after_release dead) now.objects) dead stale
    (length-changed (view_after_release dead) now.objects) (white-before dead now.objects)
    (gray-after dead now.objects) h)
