-- The queue stays tidy where a heap shades a word and the marker notes it.
use Rattle.std.proofs.Common.{◌≡◌, ℕ, ◌+◌, ◌≤◌, [], length, Option, Some, None, refl, sym, ap, subst, ◌∙◌, arith}
use Rattle.std.proofs.lemmas.List.{length-map}
use Rattle.std.specs.Prelude.{IfSome}
use Rattle.std.specs.Option.{option_map}
use Rattle.mm_model.specs.declared.object.Colour.TheVariants.{Gray}
use Rattle.mm_model.specs.Views.ByBase.{Begins, with_entry}
use Rattle.mm_model.specs.Views.ObjectView.{ObjectView, ObjectsByBase}
use Rattle.mm_model.specs.Views.View.{PartlyScannedView}
use Rattle.mm_object.specs.Object.{view_of_stored, views_of}
use Rattle.mm_object.specs.Heap.{Heap, IsSound}
use Rattle.mm_object.specs.Colours.{Shades}
use Rattle.mm_mark.specs.Marker.{Marker, marking, IsNoted, IsUnderScan}
use Rattle.mm_mark.specs.Parts.{NoneIsGray, IsEnded}
use Rattle.mm_mark.specs.Stale.{HasFewStale, KeepsFewStale}
use Rattle.mm_mark.proofs.Known.{told-under}
use Rattle.mm_mark.proofs.Told.{stored-viewed}
use Rattle.mm_mark.proofs.Shaded.{at_gray, gray}
use Rattle.mm_mark.proofs.Advancing.{recoloured-seen}
use Rattle.mm_mark.proofs.Potential.{slots_done}
use Rattle.mm_mark.proofs.Tidy.{noted-tidy, noted-stale, empty-tidy, blackened-tidy, blackened-stale, moved-tidy}

pub shaded-few : (before after : Heap) (word base : ℕ) → Shades before after word base → IsSound after
    → (old new : Marker) → IsNoted old new base → KeepsFewStale (marking old before) (marking new after)
shaded-few before after word base s sound old new noted stale h =
    subst (λ (os : ObjectsByBase). HasFewStale (record { marker = new; objects = os }) stale) (sym seen)
    (record {
      tidy = noted-tidy old new (views_of before.objects) base object begins s.white noted from h.tidy;
      few =
          let same = noted-stale old new (views_of before.objects) base object begins s.white noted from h.tidy in
          let few = h.few in
          omega arith;
    })
  where
    object : ObjectView
    object = view_of_stored s.object

    begins : Begins (views_of before.objects) base object
    begins = stored-viewed before.objects base s.object s.covers.begins

    from : 4096 ≤ base
    from = let inside = sound.inside base (gray before after word base s) (at_gray before after word base s) in
        let low = inside.from in omega arith

    seen : views_of after.objects ≡ with_entry base (Some (record object { colour = Gray })) (views_of before.objects)
    seen = ap (λ (h : Heap). views_of h.objects) s.now ∙ recoloured-seen before base s.object Gray s.covers.begins

-- a cycle begins with an empty queue
pub begun-few : (started : Marker) (h : Heap) → length h.objects ≤ started.room + 256 → started.left_out ≡ None
    → started.queue ≡ [] → started.partly ≡ None → HasFewStale (marking started h) 0
begun-few started h room whole empty none =
    let size : length (views_of h.objects) ≡ length h.objects = length-map h.objects (option_map view_of_stored) in
    empty-tidy started (views_of h.objects) (omega arith) whole empty none

-- an object becomes black, or another number of its slots is done
pub ended-few : (old new : Marker) (before after : ObjectsByBase) (base done slots count : ℕ)
    → old.partly ≡ Some (record { base = base; slots_done = done })
    → new ≡ record old { partly = new.partly }
    → IsEnded (record { marker = old; objects = before }) (record { base = base; slots_done = slots }) count
    (record { marker = new; objects = after })
    → KeepsFewStale (record { marker = old; objects = before }) (record { marker = new; objects = after })
ended-few old new before after base done slots count is same (IsEnded.Is_black object begins whole now none) stale h =
    let p : PartlyScannedView = record { base = base; slots_done = done } in
    let marker : new ≡ record old { partly = None } =
    same ∙ ap (λ (q : Option PartlyScannedView). record old { partly = q }) none in
    subst (λ (m : Marker). HasFewStale (record { marker = m; objects = after }) stale) (sym marker)
    (subst (λ (os : ObjectsByBase). HasFewStale (record { marker = record old { partly = None }; objects = os })
    stale) (sym now)
    (record {
      tidy = blackened-tidy old before p object begins is h.tidy;
      few = let kept = blackened-stale old before p object begins is h.tidy in let few = h.few in omega arith;
    }))
ended-few old new before after base done slots count is same (IsEnded.Is_under_scan some now partly) stale h =
    let marker : new ≡ record old { partly = Some (record { base = base; slots_done = slots }) } =
    same ∙ ap (λ (q : Option PartlyScannedView). record old { partly = q }) partly in
    subst (λ (m : Marker). HasFewStale (record { marker = m; objects = after }) stale) (sym marker)
    (subst (λ (os : ObjectsByBase).
    HasFewStale (record {
      marker = record old { partly = Some (record { base = base; slots_done = slots }) };
      objects = os;
    }) stale) (sym now)
    (record { tidy = moved-tidy old before base done slots is h.tidy; few = h.few }))

-- where nothing is gray nothing is scanned in part
pub none-under : (objects : ObjectsByBase) (p : Option PartlyScannedView) → IfSome p (IsUnderScan objects)
    → NoneIsGray objects → slots_done p ≡ 0
none-under objects None under none = refl
none-under objects (Some p) under none =
    let there = told-under objects p under in absurd (none p.base there.object there.begins there.gray)
