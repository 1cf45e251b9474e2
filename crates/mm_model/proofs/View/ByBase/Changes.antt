-- What is seen at a base of a state where the same birth numbers live at it as in another, but are changed.
use Rattle.std.proofs.Common.{◌≡◌, ℕ, true, Option, Some, None, refl, sym, ap, ◌∙◌}
use Rattle.std.specs.Prelude.{slice_get}
use Rattle.std.specs.Option.{option_map, option_and_then}
use Rattle.mm_model.specs.Object.{Object}
use Rattle.mm_model.specs.State.{State, lives_at}
use Rattle.mm_model.specs.After.{birth_at}
use Rattle.mm_model.specs.Views.ObjectView.{ObjectView}
use Rattle.mm_model.specs.Views.View.{seen, seen_at}
use Rattle.mm_model.proofs.Lists.Growing.{position_from-Some}

module _ (a b : State) (base : ℕ) (births : birth_at b base ≡ birth_at a base) where
  pub seen_at-changed : (f : ObjectView → Option ObjectView)
      → ((birth : ℕ) (object : Object) → slice_get a.objects birth ≡ Some object → lives_at base object ≡ true
      → option_map (seen b birth) (slice_get b.objects birth) ≡ f (seen a birth object))
      → seen_at b base ≡ option_and_then f (seen_at a base)
  seen_at-changed f same =
      ap (option_and_then (λ birth. option_map (seen b birth) (slice_get b.objects birth))) births
      ∙ split (birth_at a base) refl
    where
      split : (found : Option ℕ) → birth_at a base ≡ found
          → option_and_then (λ birth. option_map (seen b birth) (slice_get b.objects birth)) found
          ≡ option_and_then f (option_and_then (λ birth. option_map (seen a birth) (slice_get a.objects birth)) found)
      split None e = refl
      split (Some birth) e =
          let one = position_from-Some (lives_at base) a.objects birth e in
          same birth one.0 one.1 one.2
          ∙ ap (λ found. option_and_then f (option_map (seen a birth) found)) (sym one.1)

  pub seen_at-same : ((birth : ℕ) (object : Object) → slice_get a.objects birth ≡ Some object
      → lives_at base object ≡ true
      → option_map (seen b birth) (slice_get b.objects birth) ≡ Some (seen a birth object))
      → seen_at b base ≡ seen_at a base
  seen_at-same same = seen_at-changed Some same ∙ itself (seen_at a base)
    where
      itself : (found : Option ObjectView) → option_and_then Some found ≡ found
      itself None = refl
      itself (Some object) = refl
