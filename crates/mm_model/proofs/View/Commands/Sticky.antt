-- Making an object sticky does to a view what it does to its state.
use Rattle.std.proofs.Common.{◌≡◌, ℕ, ◌*◌, Bool, true, false, not, ◌||◌, eqb-true, Some, refl, sym, ap, ◌∙◌}
use Rattle.std.proofs.lemmas.List.{length-map}
use Rattle.std.proofs.lemmas.Option.{slice_get-map}
use Rattle.std.specs.Prelude.{nat_le, ◌&&◌, ◌==◌, if◌then◌else◌}
use Rattle.std.specs.Option.{option_map, option_and_then}
use Rattle.mm_model.specs.Object.{Object, is_live, is_counted}
use Rattle.mm_model.specs.State.{State, lives_at}
use Rattle.mm_model.specs.After.{birth_at}
use Rattle.mm_model.specs.Words.{SlotKind}
use Rattle.mm_model.specs.Count.{refs, begins_counted, made_sticky, with_sticky}
use Rattle.mm_model.specs.Store.{is_counted_slot, recounted}
use Rattle.mm_model.specs.Views.ByBase.{changed}
use Rattle.mm_model.specs.Views.SetsByBase.{count_at}
use Rattle.mm_model.specs.Views.View.{base_of, seen, seen_objects, view_of}
use Rattle.mm_model.specs.Views.ViewWords.{outside_references}
use Rattle.mm_model.specs.Views.ViewStore.{view_made_sticky, view_with_sticky, view_recounted}
use Rattle.mm_model.proofs.Places.Placing.{both}
use Rattle.mm_model.proofs.View.Alike.{cycle-alike, totals-alike, base_of-map, position_from-map, live_count-map}
use Rattle.mm_model.proofs.View.ByBase.Changes.{seen_at-changed}
use Rattle.mm_model.proofs.View.ByBase.Seen.{seen_objects-changed}

-- the view counts as the state does
abbrev pub CountsAlike : State → Type 0
CountsAlike a = (base : ℕ) → count_at (seen_objects a) (outside_references (view_of a)) base ≡ refs a base

module _ (a : State) (word : ℕ) where
  abbrev b : State
  b = with_sticky word a

  pub bases : base_of b ≡ base_of a
  bases = base_of-map a b (made_sticky a word) refl (λ o. refl)

  births : (base : ℕ) → birth_at b base ≡ birth_at a base
  births base = position_from-map (made_sticky a word) (lives_at base) (λ o. refl) 0 a.objects

  module _ (counts : CountsAlike a) where
    -- the object becomes sticky in the one where it does in the other
    becomes-alike : (object : Object) (base : ℕ) → is_live object ≡ true → object.base ≡ base
        → (begins_counted word object && nat_le 255 (refs a word))
        ≡ (is_counted object.kind && base == word
        && nat_le 255 (count_at (seen_objects a) (outside_references (view_of a)) base))
    becomes-alike object base live at =
        ap (λ b. (b && is_counted object.kind && object.base == word) && nat_le 255 (refs a word)) live
        ∙ ap (λ base. (true && is_counted object.kind && base == word) && nat_le 255 (refs a word)) at
        ∙ split (is_counted object.kind) (base == word) refl
        ∙ ap (λ count. is_counted object.kind && base == word && nat_le 255 count) (sym (counts base))
      where
        split : (counted here : Bool) → (base == word) ≡ here
            → ((true && counted && here) && nat_le 255 (refs a word)) ≡ (counted && here && nat_le 255 (refs a base))
        split true true e = ap (λ n. nat_le 255 (refs a n)) (sym (eqb-true _ _ e))
        split true false e = refl
        split false here e = refl

    object-alike : (birth : ℕ) (object : Object) (base : ℕ) → is_live object ≡ true → object.base ≡ base
        → Some (seen b birth (made_sticky a word object)) ≡ view_made_sticky (view_of a) word base (seen a birth object)
    object-alike birth object base live at =
        ap (λ bases. Some (record (seen a birth (made_sticky a word object)) {
          partner = option_and_then bases object.partner;
        })) bases
        ∙ ap (λ becomes. Some (record (seen a birth object) { sticky = object.sticky || becomes }))
        (becomes-alike object base live at)

    pub objects-made_sticky : seen_objects b ≡ changed (view_made_sticky (view_of a) word) (seen_objects a)
    objects-made_sticky =
        seen_objects-changed a b refl (view_made_sticky (view_of a) word)
        (λ k below. seen_at-changed a b (16 * k) (births (16 * k)) (view_made_sticky (view_of a) word (16 * k))
        (λ birth object is passes.
        let live = both _ _ passes in
        ap (option_map (seen b birth))
        (slice_get-map (made_sticky a word) a.objects birth ∙ ap (option_map (made_sticky a word)) is)
        ∙ object-alike birth object (16 * k) live.0 (eqb-true _ _ live.1)))

    pub view_with_sticky-seen : view_with_sticky word (view_of a) ≡ view_of b
    view_with_sticky-seen =
        let totals = totals-alike a b (length-map a.objects (made_sticky a word))
        (live_count-map (made_sticky a word) (λ o. refl) a.objects) refl in
        ap (λ objects. record (view_of a) { objects = objects }) (sym objects-made_sticky)
        ∙ ap (λ cycle. record (view_of a) { objects = seen_objects b; cycle = cycle })
        (sym (cycle-alike a b bases a.cycle))
        ∙ ap (λ totals. record (view_of b) { totals = totals }) (sym totals)

    -- where a counted place gets another word
    pub view_recounted-seen : (kind : SlotKind) (old : ℕ)
        → view_recounted kind old word (view_of a) ≡ view_of (recounted kind old word a)
    view_recounted-seen kind old = split (is_counted_slot kind && not (old == word))
      where
        split : (b : Bool) → (if b then view_with_sticky word (view_of a) else view_of a)
            ≡ view_of (if b then with_sticky word a else a)
        split true = view_with_sticky-seen
        split false = refl
