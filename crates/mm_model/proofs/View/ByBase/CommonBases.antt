-- What two states have in common at a base: where the same object begins there, the views have the same entry.
use Rattle.std.proofs.Common.{◌≡◌, ℕ, Option, Some, None, refl, sym, ap, ◌∙◌}
use Rattle.mm_model.specs.Object.{Object}
use Rattle.mm_model.specs.Views.ObjectView.{ObjectView}
use Rattle.mm_model.specs.Places.Place.{live_pieces}
use Rattle.mm_model.specs.State.{State, Lives}
use Rattle.mm_model.specs.Good.{IsPlaced}
use Rattle.mm_model.specs.Views.View.{seen, seen_at}
use Rattle.mm_model.proofs.View.ByBase.Seen.{seen_at-some, seen_at-lives}

-- the entry at a base where an object begins
pub seen_at-base : (a : State) → IsPlaced a.settings.max (live_pieces a) → (birth : ℕ) (object : Object) (base : ℕ)
    → Lives a birth object → object.base ≡ base → seen_at a base ≡ Some (seen a birth object)
seen_at-base a placed birth object base lives at = ap (seen_at a) (sym at) ∙ seen_at-lives a placed birth object lives

-- the object of another state that is seen as one is here
pub record IsSeenAs (a : State) (base : ℕ) (o : ObjectView) : Type 0 where
  pub birth : ℕ
  pub object : Object
  pub lives : Lives a birth object
  pub at : object.base ≡ base
  pub is : seen a birth object ≡ o

-- something begins at a base
pub record IsTaken (a : State) (base : ℕ) : Type 0 where
  pub birth : ℕ
  pub object : Object
  pub lives : Lives a birth object
  pub at : object.base ≡ base

pub seen_at-alike : (a b : State) (base : ℕ) → IsPlaced a.settings.max (live_pieces a)
    → IsPlaced b.settings.max (live_pieces b)
    → ((birth : ℕ) (object : Object) → Lives a birth object → object.base ≡ base
    → IsSeenAs b base (seen a birth object))
    → ((birth : ℕ) (object : Object) → Lives b birth object → object.base ≡ base → IsTaken a base)
    → seen_at b base ≡ seen_at a base
seen_at-alike a b base placed placed_after to back = split (seen_at a base) (seen_at b base) refl refl
  where
    clash : {o : ObjectView} → Some o ≡ None → ⊥
    clash e = cc

    split : (before after : Option ObjectView) → seen_at a base ≡ before → seen_at b base ≡ after → after ≡ before
    split None None p q = refl
    split None (Some o) p q =
        let h = seen_at-some b base o q in
        let taken = back h.birth h.object h.lives h.at in
        absurd (clash (sym (seen_at-base a placed taken.birth taken.object base taken.lives taken.at) ∙ p))
    split (Some o) after p q =
        let h = seen_at-some a base o p in
        let there = to h.birth h.object h.lives h.at in
        sym q ∙ seen_at-base b placed_after there.birth there.object base there.lives there.at
        ∙ ap (λ (x : ObjectView). Some x) (there.is ∙ sym h.is)
