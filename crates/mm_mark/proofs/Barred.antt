-- The write barrier: what it does to a marking it does to each view that shows it.
use Rattle.std.proofs.Common.{◌≡◌, ℕ, Bool, true, false, [], ◌∷◌, Option, sym, ap, subst, ◌∙◌}
use Rattle.std.specs.Prelude.{◌&&◌, ◌||◌, not, if◌then◌else◌}
use Rattle.mm_model.specs.Views.ByBase.{Begins, Based}
use Rattle.mm_model.specs.Views.ObjectView.{ObjectView, ObjectsByBase, slot_kind_of}
use Rattle.mm_model.specs.Views.SetsByBase.{with_grayed_objects}
use Rattle.mm_model.specs.Sets.Marking.{is_black, is_raw}
use Rattle.mm_model.specs.Views.View.{View, CycleView, PartlyScannedView}
use Rattle.mm_model.specs.Views.ViewStore.{is_slot_done, view_is_passed, view_with_grayed, view_barrier}
use Rattle.mm_object.specs.Object.{StoredObject, view_of_stored, views_of}
use Rattle.mm_object.specs.Heap.{Heap}
use Rattle.mm_mark.specs.Marker.{Marker, Marking, ShowsMarking, is_passed}
use Rattle.mm_mark.proofs.Told.{viewed-stored}

module _ (before : Marking) (view : View) (holder s word : ℕ) (object : ObjectView)
    (shows : ShowsMarking before view) where
  abbrev held : Based ObjectView
  held = record { base = holder; value = object }

  passed-shown : (not (is_raw (slot_kind_of object s)) && view_is_passed view.cycle held s)
      ≡ is_passed before.marker holder s object
  passed-shown =
      ap (λ (c : Option CycleView). not (is_raw (slot_kind_of object s)) && view_is_passed c held s) shows.runs
      ∙ ap (λ (p : Option PartlyScannedView).
      not (is_raw (slot_kind_of object s)) && (is_black object.colour || is_slot_done p holder s)) shows.partly

  pub barred-shown : (after : Marking) → is_passed before.marker holder s object ≡ true
      → after.objects ≡ with_grayed_objects (word ∷ []) before.objects → after.marker.partly ≡ before.marker.partly
      → ShowsMarking after (view_barrier held s word view)
  barred-shown after passed grayed same =
      subst (λ (b : Bool). ShowsMarking after (if b then view_with_grayed (word ∷ []) view else view))
      (sym (passed-shown ∙ passed))
      (record {
        shown = ap (with_grayed_objects (word ∷ [])) shows.shown ∙ sym grayed;
        cycle = shows.cycle;
        runs = shows.runs;
        partly = shows.partly ∙ sym same;
      })

  pub unbarred-shown : is_passed before.marker holder s object ≡ false
      → ShowsMarking before (view_barrier held s word view)
  unbarred-shown passed =
      subst (λ (b : Bool). ShowsMarking before (if b then view_with_grayed (word ∷ []) view else view))
      (sym (passed-shown ∙ passed)) shows

-- what is told of the stored object is told of what the view has there
pub passed-viewed : (h : Heap) (marker : Marker) (view : View) (holder s : ℕ) (told : Bool)
    → view.objects ≡ views_of h.objects
    → ((object : StoredObject) → Begins h.objects holder object
    → told ≡ is_passed marker holder s (view_of_stored object))
    → (object : ObjectView) → Begins view.objects holder object → is_passed marker holder s object ≡ told
passed-viewed h marker view holder s told shown tells object begins =
    let stored = viewed-stored h.objects holder object (subst (λ (os : ObjectsByBase). Begins os holder object) shown
    begins) in
    sym (tells stored.object stored.begins ∙ ap (is_passed marker holder s) stored.is)
