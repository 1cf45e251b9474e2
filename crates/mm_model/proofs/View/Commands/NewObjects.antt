-- What `new` does to a view, once a place was looked for, is what it does to the state.
use Rattle.std.proofs.Common.{◌≡◌, ℕ, ◌*◌, ◌≤◌, [], ◌∷◌, length, Option, Some, None, refl, sym, ap, ◌∙◌, ⊎_elim, arith}
use Rattle.std.proofs.lemmas.Option.{slice_get_within}
use Rattle.std.specs.Prelude.{IfSome, slice_get}
use Rattle.std.specs.Option.{option_map, option_and_then}
use Rattle.mm_model.specs.declared.object.Shape.{Shape}
use Rattle.mm_model.specs.Places.SizeClass.{object_bytes}
use Rattle.mm_model.specs.Object.{Object, newborn}
use Rattle.mm_model.specs.State.{State, Lives}
use Rattle.mm_model.specs.Places.Place.{Objects, object_piece, live_pieces, place_of}
use Rattle.mm_model.specs.Effect.{made_at, new_effect}
use Rattle.mm_model.specs.Good.{IsPaired, IsGood}
use Rattle.mm_model.specs.Views.ByBase.{with_entry}
use Rattle.mm_model.specs.Views.ObjectView.{ObjectView}
use Rattle.mm_model.specs.Views.View.{seen, seen_objects, seen_cycle, base_of, view_of}
use Rattle.mm_model.specs.Views.ViewEffect.{newborn_view, view_new_effect}
use Rattle.mm_model.proofs.Lists.Growing.{get-front, get-push}
use Rattle.mm_model.proofs.Good.Making.Births.{goes_at}
use Rattle.mm_model.proofs.Places.Placing.{Goes}
use Rattle.mm_model.proofs.View.Commands.Areas.{words_of-zeros}
use Rattle.mm_model.proofs.View.Commands.Births.{colour-old, colour-newborn, placed-born, lives-newborn, base_of-old}
use Rattle.mm_model.proofs.View.Commands.Births.{view_with_born-seen}
use Rattle.mm_model.proofs.View.ByBase.CommonBases.{seen_at-base, seen_at-alike}
use Rattle.mm_model.proofs.View.Commands.SameEffects.{SameEffect}
use Rattle.mm_model.proofs.View.ByBase.Seen.{piece_grain, seen_objects-with_entry}

module _ (a : State) (good : IsGood a) (shape : Shape) (base : ℕ)
    (goes : Goes a.settings.max (live_pieces a) (object_piece (newborn shape base))) where
  abbrev made : State
  made = made_at a shape base

  old-base : (j : ℕ) (o : Object) → Lives a j o → base_of made j ≡ base_of a j
  old-base = base_of-old a good a.objects (newborn shape base) refl refl (λ j. refl) refl goes

  lives-old : (j : ℕ) (o : Object) → Lives a j o → Lives made j o
  lives-old j o h = record { is = get-front a.objects (newborn shape base ∷ []) j o h.is; live = h.live }

  partner-old : (j : ℕ) (o : Object) (partner : Option ℕ) → IfSome partner (IsPaired a j o)
      → option_and_then (base_of made) partner ≡ option_and_then (base_of a) partner
  partner-old j o None h = refl
  partner-old j o (Some other) h = old-base other h.partner h.lives

  seen-old : (j : ℕ) (o : Object) → Lives a j o → seen made j o ≡ seen a j o
  seen-old j o h =
      let within = slice_get_within a.objects j o h.is in
      ap (λ partner. record (seen made j o) { partner = partner }) (partner-old j o o.partner (good.paired j o h))
      ∙ ap (λ colour. record (seen a j o) { colour = colour }) (colour-old a good a.cycle good.coloured j within)

  seen-new : seen made (length a.objects) (newborn shape base) ≡ newborn_view shape (option_map (seen_cycle a) a.cycle)
  seen-new =
      ap (λ words. record (seen made (length a.objects) (newborn shape base)) { words = words })
      (words_of-zeros shape.slots)
      ∙ ap (λ colour. record (newborn_view shape None) { colour = colour })
      (colour-newborn a good a.cycle good.coloured)

  objects-made : seen_objects made
      ≡ with_entry base (Some (newborn_view shape (option_map (seen_cycle a) a.cycle))) (seen_objects a)
  objects-made =
      let placed = placed-born a good a.objects (newborn shape base) refl refl (λ j. refl) refl goes in
      let new = lives-newborn a good a.objects (newborn shape base) refl refl (λ j. refl) refl goes in
      let inside = piece_grain a.settings.max (object_piece (newborn shape base)) goes.inside in
      let entry = Some (newborn_view shape (option_map (seen_cycle a) a.cycle)) in
      seen_objects-with_entry a made refl inside.0 entry inside.2
      (seen_at-base made placed (length a.objects) (newborn shape base) (16 * inside.0) new inside.1
      ∙ ap (λ (x : ObjectView). Some x) seen-new)
      (λ k below other.
      seen_at-alike a made (16 * k) good.placed placed
      (λ j o h at. record { birth = j; object = o; lives = lives-old j o h; at = at; is = seen-old j o h })
      (λ j o h at.
      ⊎_elim
      (λ (old : slice_get a.objects j ≡ Some o).
      record { birth = j; object = o; lives = record { is = old; live = h.live }; at = at })
      (λ (last : (j ≡ length a.objects) × (newborn shape base ≡ o)).
      let same : base ≡ o.base = ap (λ (x : Object). x.base) last.1 in
      let is = inside.1 in
      absurd (other (omega arith)))
      (get-push a.objects (newborn shape base) j o h.is)))
      ∙ ap (λ b. with_entry b entry (seen_objects a)) (sym inside.1)

  made-seen : SameEffect (view_new_effect (view_of a) shape (Some base)) (new_effect a shape (Some base))
  made-seen =
      record {
        view = view_with_born-seen a good a.objects (newborn shape base) refl refl (λ j. refl) refl goes
            (seen_objects a) (newborn_view shape (option_map (seen_cycle a) a.cycle)) (sym objects-made);
        reply = refl;
      }

pub new-seen : (a : State) (good : IsGood a) (shape : Shape) (found : Option ℕ)
    → IfSome found (λ base.
    (limit : ℕ) × (limit ≤ a.settings.max) × (place_of a limit Objects (object_bytes shape.slots) ≡ Some base))
    → SameEffect (view_new_effect (view_of a) shape found) (new_effect a shape found)
new-seen a good shape None place = record { view = refl; reply = refl }
new-seen a good shape (Some base) place =
    made-seen a good shape base (goes_at a shape place.0 base good place.1 place.2)
