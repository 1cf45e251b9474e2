-- Weak references: one that is made, and one that is kept, keep a state good.
use Rattle.std.proofs.Common.{◌≡◌, ℕ, ◌≤◌, false, List, [], ◌∷◌, ◌++◌, map, length, Some, None, refl, sym, ap, ◌∙◌}
use Rattle.std.proofs.Common.{subst, ⊎_elim}
use Rattle.std.proofs.lemmas.List.{map-append, length-set}
use Rattle.std.specs.Prelude.{IfSome, slice_get, slice_set}
use Rattle.mm_model.specs.Places.SizeClass.{object_bytes}
use Rattle.mm_model.specs.Value.{reference}
use Rattle.mm_model.specs.Object.{Object, newborn, is_weak}
use Rattle.mm_model.specs.State.{State, Lives, pushed}
use Rattle.mm_model.specs.Places.Place.{Objects, place_of}
use Rattle.mm_model.specs.Effect.{made_at, weak_shape, weak_made}
use Rattle.mm_model.specs.Good.{IsPaired, IsGood}
use Rattle.mm_model.proofs.Good.Around.{good-stack, if_some-weaker}
use Rattle.mm_model.proofs.Good.Making.Births.{made_is_good}
use Rattle.mm_model.proofs.Places.Falling.{falls_at_base}
use Rattle.mm_model.proofs.Lists.Growing.{get-front, get-push, get-last}
use Rattle.mm_model.proofs.Good.Living.{lives_same, lives_extent}
use Rattle.mm_model.proofs.Good.Making.Partners.{alone, partners_are_good}
use Rattle.mm_model.proofs.Good.Making.Shapes.{shaped-weak}
use Rattle.mm_model.proofs.Lists.Replaced.{get-set_same, get-set_other, get-set_cases, map-set_alike}

-- a reference to a live object keeps a state good
pub kept_weak_is_good : (a : State) (birth : ℕ) (object : Object) → IsGood a → Lives a birth object
    → IsGood (pushed (reference object.base birth) a)
kept_weak_is_good a birth object good lives =
    good-stack a (reference object.base birth ∷ a.stack) good (
      (object, lives, falls_at_base object.base object.extent (lives_extent a good.placed birth object lives)),
      good.referred.stack,
    )

module _ (a : State) (target : ℕ) (object : Object) (base : ℕ) (good : IsGood a) (lives : Lives a target object)
    (free : object.partner ≡ None) (not_weak : is_weak object.kind ≡ false) where
  -- the target and its weak reference, as partners
  abbrev targeted : Object
  targeted = record object { partner = Some (length a.objects) }

  abbrev weak : Object
  weak = record (newborn weak_shape base) { partner = Some target }

  abbrev objects : List Object
  objects = slice_set a.objects target targeted ++ weak ∷ []

  abbrev b : State
  b = weak_made a target object base

  alike : map alone objects ≡ map alone (made_at a weak_shape base).objects
  alike =
      map-append alone (slice_set a.objects target targeted) (weak ∷ [])
      ∙ ap (λ os. os ++ alone weak ∷ []) (map-set_alike alone a.objects target object targeted lives.is refl)
      ∙ sym (map-append alone a.objects (newborn weak_shape base ∷ []))

  target_lives : Lives b target targeted
  target_lives =
      record {
        is = get-front (slice_set a.objects target targeted) (weak ∷ []) target targeted
            (get-set_same a.objects target object targeted lives.is);
        live = lives.live;
      }

  same_length : length (slice_set a.objects target targeted) ≡ length a.objects
  same_length = length-set a.objects target targeted

  weak_lives : Lives b (length a.objects) weak
  weak_lives =
      record {
        is = subst (λ n. slice_get objects n ≡ Some weak) same_length
            (get-last (slice_set a.objects target targeted) weak);
        live = refl;
      }

  -- any other pair stays as it was
  paired-old : (birth : ℕ) (o : Object) → Lives a birth o → IfSome o.partner (IsPaired b birth o)
  paired-old birth o h =
      if_some-weaker (IsPaired a birth o) (IsPaired b birth o) again o.partner (good.paired birth o h)
    where
      none : Some birth ≡ None → ⊥
      none e = cc

      again : (other : ℕ) → IsPaired a birth o other → IsPaired b birth o other
      again other p =
          let apart : other ≡ target → ⊥ = λ e.
          let same = lives_same a target p.partner object (subst (λ n. Lives a n p.partner) e p.lives) lives in
          none (sym p.back ∙ ap (λ (x : Object). x.partner) same ∙ free) in
          record {
            partner = p.partner;
            lives = record {
              is = get-front (slice_set a.objects target targeted) (weak ∷ []) other p.partner
                  (get-set_other a.objects target other targeted apart ∙ p.lives.is);
              live = p.lives.live;
            };
            back = p.back;
            one_weak = p.one_weak;
          }

  paired-target : IsPaired b target targeted (length a.objects)
  paired-target =
      record { partner = weak; lives = weak_lives; back = refl; one_weak = λ e. let clash = e ∙ not_weak in cc }

  paired-weak : IsPaired b (length a.objects) weak target
  paired-weak =
      record {
        partner = targeted;
        lives = target_lives;
        back = refl;
        one_weak = λ e. let clash = sym e ∙ not_weak in cc;
      }

  paired : (birth : ℕ) (o : Object) → Lives b birth o → IfSome o.partner (IsPaired b birth o)
  paired birth o h =
      ⊎_elim
      (λ (front : slice_get (slice_set a.objects target targeted) birth ≡ Some o).
      ⊎_elim
      (λ (l : (birth ≡ target) × (targeted ≡ o)).
      subst (λ (x : Object). IfSome x.partner (IsPaired b birth x)) l.1
      (subst (λ n. IsPaired b n targeted (length a.objects)) (sym l.0) paired-target))
      (λ (r : slice_get a.objects birth ≡ Some o). paired-old birth o (record { is = r; live = h.live }))
      (get-set_cases a.objects target birth targeted o front))
      (λ (last : (birth ≡ length (slice_set a.objects target targeted)) × (weak ≡ o)).
      subst (λ (x : Object). IfSome x.partner (IsPaired b birth x)) last.1
      (subst (λ n. IsPaired b n weak target) (sym (last.0 ∙ same_length)) paired-weak))
      (get-push (slice_set a.objects target targeted) weak birth o h.is)

  paired_is_good : IsGood (made_at a weak_shape base) → IsGood b
  paired_is_good made = partners_are_good (made_at a weak_shape base) objects alike made paired

-- a weak reference that is made at a place that was found keeps a state good
pub weak_made_is_good : (a : State) (target : ℕ) (object : Object) (limit base : ℕ) → IsGood a → Lives a target object
    → object.partner ≡ None → is_weak object.kind ≡ false → limit ≤ a.settings.max
    → place_of a limit Objects (object_bytes 0) ≡ Some base → IsGood (weak_made a target object base)
weak_made_is_good a target object limit base good lives free not_weak within e =
    paired_is_good a target object base good lives free not_weak
    (made_is_good a weak_shape limit base good within e (shaped-weak base))
