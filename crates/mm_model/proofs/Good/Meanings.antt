-- What a word and a stack cell mean in a state: live objects in which the word falls.
use Rattle.std.proofs.Common.{◌≡◌, ℕ, true, Option, Some, None, refl, sym, subst}
use Rattle.std.specs.Prelude.{IsTrue, IfSome, slice_get}
use Rattle.std.specs.Option.{option_and_then, option_or}
use Rattle.mm_model.specs.Value.{Value}
use Rattle.mm_model.specs.Object.{Object}
use Rattle.mm_model.specs.State.{State, Lives}
use Rattle.mm_model.specs.Words.{falls}
use Rattle.mm_model.specs.Meaning.{falls_in, resolved, meant, meant_at, object_meant}
use Rattle.mm_model.specs.Places.Place.{live_pieces}
use Rattle.mm_model.specs.Good.{IsPlaced, IsReferring, IsGood}
use Rattle.mm_model.proofs.Lists.Growing.{position_from-get, position_from-Some}
use Rattle.mm_model.proofs.Lists.Truth.{together}
use Rattle.mm_model.proofs.Places.Falling.{falls_from}
use Rattle.mm_model.proofs.Places.Placing.{both}
use Rattle.mm_model.proofs.Good.Living.{each_get, lives_once, lives_where}

module _ (a : State) (placed : IsPlaced a.settings.max (live_pieces a)) where
  -- the live object in which a word falls
  pub resolved-lives : (birth : ℕ) (object : Object) (word : ℕ) → Lives a birth object
      → falls word object.base object.extent ≡ true → resolved a word ≡ Some birth
  resolved-lives birth object word h f =
      position_from-get (falls_in word) a.objects birth object h.is (together _ _ h.live f)
      (λ i other is passes.
      let lives = lives_where a i other _ is passes in
      let there = falls_from word other.base other.extent (both _ _ passes).1 in
      let here = falls_from word object.base object.extent f in
      lives_once a placed i birth other object lives h word there.0 there.1 here.0 here.1)

-- What a stack cell means lives, and its word falls in it.
pub record IsMeant (a : State) (i birth : ℕ) (object : Object) : Type 0 where
  pub value : Value
  pub cell : slice_get a.stack i ≡ Some value
  pub meant_is : meant_at a i ≡ Some birth
  pub lives : Lives a birth object
  pub falls_there : falls value.word object.base object.extent ≡ true

module _ (a : State) (good : IsGood a) where
  pub meant_lives : (value : Value) → IsReferring a value → (birth : ℕ) → meant a value ≡ Some birth
      → (object : Object) × Lives a birth object × (falls value.word object.base object.extent ≡ true)
  meant_lives value refers birth e = split value.origin refl refers e
    where
      split : (origin : Option ℕ) → value.origin ≡ origin
          → IfSome origin (λ birth. (o : Object) × Lives a birth o × IsTrue (falls value.word o.base o.extent))
          → option_or origin (resolved a value.word) ≡ Some birth
          → (object : Object) × Lives a birth object × (falls value.word object.base object.extent ≡ true)
      split None p h q =
          let place = position_from-Some (falls_in value.word) a.objects birth q in
          (place.0, lives_where a birth place.0 _ place.1 place.2, (both _ _ place.2).1)
      split (Some origin) p h q =
          let same : origin ≡ birth = cc in
          (h.0, subst (λ n. Lives a n h.0) same h.1, h.2)

  pub refers_at : (i : ℕ) (value : Value) → slice_get a.stack i ≡ Some value → IsReferring a value
  refers_at i value e = each_get (IsReferring a) a.stack i value good.referred.stack e

  pub is_meant_at : (i birth : ℕ) → meant_at a i ≡ Some birth → (object : Object) × IsMeant a i birth object
  is_meant_at i birth e = split (slice_get a.stack i) refl e
    where
      split : (cell : Option Value) → slice_get a.stack i ≡ cell → option_and_then (meant a) cell ≡ Some birth
          → (object : Object) × IsMeant a i birth object
      split None p q = cc
      split (Some value) p q =
          let one = meant_lives value (refers_at i value p) birth q in (
            one.0,
            record { value = value; cell = p; meant_is = e; lives = one.1; falls_there = one.2 },
          )

  pub is_meant : (i : ℕ) (object : Object) → object_meant a i ≡ Some object → (birth : ℕ) × IsMeant a i birth object
  is_meant i object e = split (meant_at a i) refl e
    where
      split : (found : Option ℕ) → meant_at a i ≡ found
          → option_and_then (slice_get a.objects) found ≡ Some object → (birth : ℕ) × IsMeant a i birth object
      split None p q = cc
      split (Some birth) p q =
          let one = is_meant_at i birth p in
          let is = one.1.lives.is in
          let same : one.0 ≡ object = cc in
          (birth, subst (λ o. IsMeant a i birth o) same one.1)

  -- the word alone resolves to what a reference means
  pub meant-resolved : (value : Value) → IsReferring a value → meant a value ≡ resolved a value.word
  meant-resolved value refers = split value.origin refers
    where
      split : (origin : Option ℕ)
          → IfSome origin (λ birth. (o : Object) × Lives a birth o × IsTrue (falls value.word o.base o.extent))
          → option_or origin (resolved a value.word) ≡ resolved a value.word
      split None h = refl
      split (Some birth) h = sym (resolved-lives a good.placed birth h.0 value.word h.1 h.2)
