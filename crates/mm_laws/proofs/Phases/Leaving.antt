-- What a full collection leaves.
use Rattle.std.proofs.Common.{◌≡◌, ℕ, Bool, true, false, not, ◌&&◌, List, Option, Some, None, refl, sym, ap, ◌∙◌}
use Rattle.std.proofs.lemmas.Option.{slice_get-map}
use Rattle.std.specs.Prelude.{◌↔◌, if◌then◌else◌, slice_get}
use Rattle.std.specs.Option.{option_map}
use Rattle.mm_model.specs.Object.{Object}
use Rattle.mm_model.specs.State.{State, Lives}
use Rattle.mm_model.specs.Sets.Reached.{IsUnreached}
use Rattle.mm_model.specs.Phase.{lists, is_freed, unless_freed, after_release, collected, AreCollected}
use Rattle.mm_model.specs.Good.{IsGood}
use Rattle.mm_model.proofs.Good.Closing.{dead_listed}
use Rattle.mm_model.proofs.Lists.Truth.{not_true}
use Rattle.mm_laws.proofs.Keeping.Following.{get-released}

-- what a release makes of an object, by whether it is freed
abbrev released_as : State → List ℕ → Object → Bool → Object
released_as a bases object freed =
    if freed then record object { gone = true }
    else record object { partner = unless_freed a bases object.partner }

-- what is gone stays so
gone-released : (a : State) (bases : List ℕ) (object : Object) → object.gone ≡ true
    → (after_release a bases object).gone ≡ true
gone-released a bases object gone = split (is_freed bases object) refl
  where
    split : (freed : Bool) → is_freed bases object ≡ freed → (after_release a bases object).gone ≡ true
    split true e = ap (λ f. (released_as a bases object f).gone) e
    split false e = ap (λ f. (released_as a bases object f).gone) e ∙ gone

pub lived-collected : (a : State) (bases : List ℕ) (birth : ℕ) (left : Object) → Lives (collected bases a) birth left
    → (object : Object) × Lives a birth object
lived-collected a bases birth left lives = found (slice_get a.objects birth) refl
  where
    found : (before : Option Object) → slice_get a.objects birth ≡ before → (object : Object) × Lives a birth object
    found None e =
        let none = slice_get-map (after_release a bases) a.objects birth ∙ ap (option_map (after_release a bases)) e in
        let is = lives.is in
        cc
    found (Some object) e = split object.gone refl
      where
        split : (gone : Bool) → object.gone ≡ gone → (o : Object) × Lives a birth o
        split true g =
            let first = get-released a (collected bases a) bases refl birth object e in
            let second = lives.is in
            let same : after_release a bases object ≡ left = cc in
            absurd (not_true left.gone lives.live
            (ap (λ (o : Object). o.gone) (sym same) ∙ gone-released a bases object g))
        split false g = (object, record { is = e; live = ap not g })

module _ (a : State) (bases : List ℕ) (birth : ℕ) (object : Object) (good : IsGood a) (are : AreCollected a bases)
    (lives : Lives a birth object) where
  -- a live object is freed where its base is listed
  freed-live : is_freed bases object ≡ lists bases object.base
  freed-live = ap (λ c. c && lists bases object.base) lives.live

  pub left-collected : ((left : Object) × Lives (collected bases a) birth left) ↔ (IsUnreached a birth → ⊥)
  left-collected = (reached, stays)
    where
      reached : (left : Object) × Lives (collected bases a) birth left → IsUnreached a birth → ⊥
      reached (left, after) unreached =
          let freed = freed-live ∙ are.all birth object lives unreached in
          let first = get-released a (collected bases a) bases refl birth object lives.is in
          let second = after.is in
          let same : after_release a bases object ≡ left = cc in
          not_true left.gone after.live
          (ap (λ (o : Object). o.gone) (sym same) ∙ ap (λ f. (released_as a bases object f).gone) freed)

      stays : (IsUnreached a birth → ⊥) → (left : Object) × Lives (collected bases a) birth left
      stays kept = split (lists bases object.base) refl
        where
          split : (listed : Bool) → lists bases object.base ≡ listed
              → (left : Object) × Lives (collected bases a) birth left
          split true e = absurd (kept (dead_listed a (IsUnreached a) bases good.placed are birth object lives e))
          split false e = (
            released_as a bases object false,
            record {
              is = get-released a (collected bases a) bases refl birth object lives.is
                  ∙ ap (λ f. Some (released_as a bases object f)) (freed-live ∙ e);
              live = lives.live;
            },
          )
