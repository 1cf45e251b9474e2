-- What a word or a stack cell means, in a state and in its view.
use Rattle.std.proofs.Common.{◌≡◌, ℕ, true, eqb-true, Option, Some, None, refl, sym, ap, ◌∙◌}
use Rattle.std.proofs.lemmas.Bool.{eq-eqb}
use Rattle.std.proofs.lemmas.Option.{slice_get-map}
use Rattle.std.specs.Prelude.{slice_get, ◌==◌}
use Rattle.std.specs.Option.{option_map, option_map_or, option_and_then}
use Rattle.mm_model.specs.Value.{Value}
use Rattle.mm_model.specs.Object.{Object}
use Rattle.mm_model.specs.State.{State, Lives, lives_at}
use Rattle.mm_model.specs.After.{birth_at}
use Rattle.mm_model.specs.Words.{falls}
use Rattle.mm_model.specs.Meaning.{falls_in, resolved, meant, meant_at, object_meant}
use Rattle.mm_model.specs.Places.Place.{live_pieces}
use Rattle.mm_model.specs.Good.{IsPlaced, IsGood}
use Rattle.mm_model.specs.Views.ByBase.{Based}
use Rattle.mm_model.specs.Views.ObjectView.{ObjectView}
use Rattle.mm_model.specs.Views.View.{seen_objects, view_of}
use Rattle.mm_model.specs.Views.ViewWords.{resolved_in, object_at, view_meant}
use Rattle.mm_model.proofs.Places.Falling.{falls_from}
use Rattle.mm_model.proofs.Places.Placing.{both}
use Rattle.mm_model.proofs.Lists.Growing.{position_from-Some}
use Rattle.mm_model.proofs.Good.Living.{lives_once, lives_where}
use Rattle.mm_model.proofs.Good.LiveLists.{one_birth, birth_at-lives}
use Rattle.mm_model.proofs.Good.Meanings.{resolved-lives, refers_at, meant-resolved}
use Rattle.mm_model.proofs.View.ByBase.Seen.{seen_based, find-seen, find-seen-none}

-- the object with a birth number, as it stands in the view if it lives
abbrev pub based_birth : State → ℕ → Option (Based ObjectView)
based_birth a birth = option_map (seen_based a birth) (slice_get a.objects birth)

module _ (a : State) (placed : IsPlaced a.settings.max (live_pieces a)) where
  resolved_in-lives : (birth : ℕ) (object : Object) (word : ℕ) → Lives a birth object
      → falls word object.base object.extent ≡ true
      → resolved_in (seen_objects a) word ≡ Some (seen_based a birth object)
  resolved_in-lives birth object word h f =
      find-seen a placed (λ o. falls word o.base o.value.extent) birth object h f
      (λ i other lives passes.
      let there = falls_from word other.base other.extent passes in
      let here = falls_from word object.base object.extent f in
      lives_once a placed i birth other object lives h word there.0 there.1 here.0 here.1)

  pub resolved_in-seen : (word : ℕ)
      → resolved_in (seen_objects a) word ≡ option_and_then (based_birth a) (resolved a word)
  resolved_in-seen word = split (resolved a word) refl
    where
      split : (found : Option ℕ) → resolved a word ≡ found
          → resolved_in (seen_objects a) word ≡ option_and_then (based_birth a) found
      split None e =
          find-seen-none a placed (λ o. falls word o.base o.value.extent)
          (λ birth object lives passes. let some = resolved-lives a placed birth object word lives passes in cc)
      split (Some birth) e =
          let place = position_from-Some (falls_in word) a.objects birth e in
          let lives = lives_where a birth place.0 _ place.1 place.2 in
          resolved_in-lives birth place.0 word lives (both _ _ place.2).1
          ∙ sym (ap (option_map (seen_based a birth)) place.1)

  -- what begins at a base
  pub object_at-lives : (birth : ℕ) (object : Object) → Lives a birth object
      → object_at (seen_objects a) object.base ≡ Some (seen_based a birth object)
  object_at-lives birth object h =
      find-seen a placed (λ o. o.base == object.base) birth object h (eq-eqb object.base object.base refl)
      (λ i other lives passes. one_birth a placed i birth other object lives h (eqb-true _ _ passes))

  pub object_at-seen : (base : ℕ)
      → object_at (seen_objects a) base ≡ option_and_then (based_birth a) (birth_at a base)
  object_at-seen base = split (birth_at a base) refl
    where
      split : (found : Option ℕ) → birth_at a base ≡ found
          → object_at (seen_objects a) base ≡ option_and_then (based_birth a) found
      split None e =
          find-seen-none a placed (λ o. o.base == base)
          (λ birth object lives passes.
          let own : object.base ≡ base = eqb-true _ _ passes in
          let some : birth_at a base ≡ Some birth =
          ap (birth_at a) (sym own) ∙ birth_at-lives a placed birth object lives in
          cc)
      split (Some birth) e =
          let place = position_from-Some (lives_at base) a.objects birth e in
          let lives = lives_where a birth place.0 _ place.1 place.2 in
          let own : place.0.base ≡ base = eqb-true _ _ (both _ _ place.2).1 in
          ap (object_at (seen_objects a)) (sym own) ∙ object_at-lives birth place.0 lives
          ∙ sym (ap (option_map (seen_based a birth)) place.1)

module _ (a : State) (good : IsGood a) where
  -- a stack cell means in the view what it means in the state
  pub view_meant-seen : (i : ℕ) → view_meant (view_of a) i ≡ option_and_then (based_birth a) (meant_at a i)
  view_meant-seen i =
      ap (option_and_then (resolved_in (seen_objects a))) (slice_get-map (λ (v : Value). v.word) a.stack i)
      ∙ split (slice_get a.stack i) refl
    where
      split : (cell : Option Value) → slice_get a.stack i ≡ cell
          → option_and_then (resolved_in (seen_objects a)) (option_map (λ (v : Value). v.word) cell)
          ≡ option_and_then (based_birth a) (option_and_then (meant a) cell)
      split None e = refl
      split (Some value) e =
          resolved_in-seen a good.placed value.word
          ∙ ap (option_and_then (based_birth a)) (sym (meant-resolved a good value (refers_at a good i value e)))

  -- what is asked of the object that a cell means
  pub asked_of-meant : {X : Type 0} (f : Based ObjectView → X) (own : Object → X) (none : X)
      → ((birth : ℕ) (object : Object) → f (seen_based a birth object) ≡ own object) → (i : ℕ)
      → option_map_or f (view_meant (view_of a) i) none ≡ option_map_or own (object_meant a i) none
  asked_of-meant {X} f own none same i =
      ap (λ found. option_map_or f found none) (view_meant-seen i) ∙ split (meant_at a i)
    where
      second : (birth : ℕ) (found : Option Object)
          → option_map_or f (option_map (seen_based a birth) found) none ≡ option_map_or own found none
      second birth None = refl
      second birth (Some object) = same birth object

      split : (found : Option ℕ)
          → option_map_or f (option_and_then (based_birth a) found) none
          ≡ option_map_or own (option_and_then (slice_get a.objects) found) none
      split None = refl
      split (Some birth) = second birth (slice_get a.objects birth)
