-- What is left of a marker's knowledge once objects are freed.
use Rattle.std.proofs.Common.{◌≡◌, ℕ, Bool, true, false, Option, Some, None, sym, ap, subst, ◌∙◌}
use Rattle.std.specs.Prelude.{IfSome, MatchBool}
use Rattle.mm_model.specs.Views.ByBase.{Begins}
use Rattle.mm_model.specs.Views.ObjectView.{ObjectsByBase}
use Rattle.mm_model.specs.Views.View.{PartlyScannedView}
use Rattle.mm_object.specs.Object.{view_of_stored, views_of}
use Rattle.mm_object.specs.Heap.{Heap, IsObject}
use Rattle.mm_mark.specs.Marker.{Marker, IsUnderScan, AreKnown}
use Rattle.mm_mark.specs.Parts.{IsKnown}
use Rattle.mm_mark.proofs.Known.{known-told, told-known}
use Rattle.mm_mark.specs.Colours.{BeginsNone}
use Rattle.mm_mark.specs.Parts.{IsUnderScanOrGone, IsFreed}
use Rattle.mm_mark.proofs.Told.{viewed-stored, stored-viewed}

-- whether the object that is scanned in part is there tells which of the two it is
pub freed-told : (h : Heap) (marker : Marker) (p : PartlyScannedView) (free : Bool) → marker.partly ≡ Some p
    → MatchBool free (BeginsNone h p.base) (IsObject h p.base)
    → IfSome marker.partly (IsUnderScanOrGone (views_of h.objects))
    → MatchBool free (IsFreed marker (views_of h.objects)) (IfSome marker.partly (IsUnderScan (views_of h.objects)))
freed-told h marker p true is none scan = record {
  partly = p;
  is = is;
  gone = λ object begins.
      let stored = viewed-stored h.objects p.base object begins in none stored.object stored.begins;
}
freed-told h marker p false is some scan =
    subst (λ (o : Option PartlyScannedView). IfSome o (IsUnderScan (views_of h.objects))) (sym is)
    (split (subst (λ (o : Option PartlyScannedView). IfSome o (IsUnderScanOrGone (views_of h.objects))) is scan))
  where
    split : IsUnderScanOrGone (views_of h.objects) p → IsUnderScan (views_of h.objects) p
    split (IsUnderScanOrGone.Is_there under) = under
    split (IsUnderScanOrGone.Is_gone none) =
        absurd (none (view_of_stored some.0) (stored-viewed h.objects p.base some.0 some.1))

-- what is gone isn't gray, so nothing that is gray is forgotten
pub forgotten-known : (old new : Marker) (objects : ObjectsByBase) → IsFreed old objects
    → new ≡ record old { partly = None } → AreKnown old objects → AreKnown new objects
forgotten-known old new objects freed is known base object begins gray =
    known-told new base
    (subst (λ (m : Marker). IsKnown m base) (sym is) (split (told-known old base (known base object begins gray))))
  where
    split : IsKnown old base → IsKnown (record old { partly = None }) base
    split (IsKnown.Is_queued q) = IsKnown.Is_queued q
    split (IsKnown.Is_left_out next left from) = IsKnown.Is_left_out next left from
    split (IsKnown.Is_partly_scanned p e at) =
        let both : ◌≡◌ {A = Option PartlyScannedView} (Some p) (Some freed.partly) = sym e ∙ freed.is in
        let same : p ≡ freed.partly = cc in
        absurd (freed.gone object (subst (λ (b : ℕ). Begins objects b object)
        (sym at ∙ ap (λ (x : PartlyScannedView). x.base) same) begins))
