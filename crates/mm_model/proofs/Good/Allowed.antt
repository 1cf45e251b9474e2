-- What a command that isn't refused tells of the state before it.
use Rattle.std.proofs.Common.{◌≡◌, ℕ, ◌+◌, Bool, true, false, not, List, [], ◌∷◌, Option, Some, None, refl, sym, ap}
use Rattle.std.proofs.Common.{◌∙◌, subst}
use Rattle.std.proofs.lemmas.Option.{slice_get-map, get_or_from_slice_get}
use Rattle.std.specs.Prelude.{IsTrue, IfSome, is_some, slice_get}
use Rattle.std.specs.Option.{option_map, option_map_or, option_and_then, option_or}
use Rattle.mm_model.specs.declared.command.Command.TheVariants as commands
use Rattle.mm_model.specs.declared.refusal.Refusal.{Refusal}
use Rattle.mm_model.specs.declared.refusal.Refusal.TheVariants as refusals
use Rattle.mm_model.specs.Value.{Value, words_of}
use Rattle.mm_model.specs.Object.{Object}
use Rattle.mm_model.specs.State.{State, Lives}
use Rattle.mm_model.specs.Words.{falls}
use Rattle.mm_model.specs.Meaning.{resolved, meant, meant_at, object_meant}
use Rattle.mm_model.specs.Refusing.{first_refusal, refusal, no_cell, is_outside, is_stack_full, means_nothing, word_at}
use Rattle.mm_model.specs.Good.{IsReferring, IsGood}
use Rattle.mm_model.proofs.Lists.Truth.{holds-not}
use Rattle.mm_model.proofs.Good.Meanings.{IsMeant, is_meant, refers_at}

pub first_refusal-None : (test : Bool) (because : Refusal) (rows : List (Bool × Refusal))
    → first_refusal ((test, because) ∷ rows) ≡ None → (test ≡ false) × (first_refusal rows ≡ None)
first_refusal-None true because rows e = cc
first_refusal-None false because rows e = (refl, e)

-- no refusal of a row of four holds where none was found
pub record AllAllowed (first second third fourth : Bool) : Type 0 where
  pub first_is : first ≡ false
  pub second_is : second ≡ false
  pub third_is : third ≡ false
  pub fourth_is : fourth ≡ false

pub all_allowed : (a b c d : Bool) (r s t u : Refusal)
    → first_refusal ((a, r) ∷ (b, s) ∷ (c, t) ∷ (d, u) ∷ []) ≡ None → AllAllowed a b c d
all_allowed a b c d r s t u e =
    let first = first_refusal-None a r ((b, s) ∷ (c, t) ∷ (d, u) ∷ []) e in
    let second = first_refusal-None b s ((c, t) ∷ (d, u) ∷ []) first.1 in
    let third = first_refusal-None c t ((d, u) ∷ []) second.1 in
    let fourth = first_refusal-None d u [] third.1 in
    record { first_is = first.0; second_is = second.0; third_is = third.0; fourth_is = fourth.0 }

pub found_some : {X : Type 0} (found : Option X) → not (is_some found) ≡ false → (x : X) × (found ≡ Some x)
found_some None e = cc
found_some (Some x) e = (x, refl)

pub word_at-value : (a : State) (i : ℕ) (value : Value) → slice_get a.stack i ≡ Some value → word_at a i ≡ value.word
word_at-value a i value e =
    get_or_from_slice_get (words_of a.stack) i value.word 0
    (slice_get-map (λ (v : Value). v.word) a.stack i ∙ ap (option_map (λ (v : Value). v.word)) e)

-- a cycle runs where it may be finished
pub cycle_runs : (a : State) → refusal a commands.Finish ≡ None → is_some a.cycle ≡ true
cycle_runs a allowed =
    holds-not (is_some a.cycle) (first_refusal-None (not (is_some a.cycle)) refusals.Idle [] allowed).0

module _ (a : State) (good : IsGood a) where
  -- the sum of a word and a number of bytes stays in the object that the cell means
  pub inner_refers : (i bytes : ℕ) → refusal a (commands.Inner i bytes) ≡ None → (value : Value)
      → slice_get a.stack i ≡ Some value → IsReferring a (record value { word = value.word + bytes })
  inner_refers i bytes allowed value e =
      let row = all_allowed (no_cell a i) (means_nothing a i) (is_outside a i bytes) (is_stack_full a)
      refusals.NoCell refusals.Nothing refusals.Outside refusals.StackFull allowed in
      let found = found_some (object_meant a i) row.second_is in
      let one = is_meant a good i found.0 found.1 in
      let word = word_at-value a i value e in
      let here : falls (value.word + bytes) found.0.base found.0.extent ≡ true =
      holds-not _ (ap (λ w. not (falls (w + bytes) found.0.base found.0.extent)) (sym word)
      ∙ sym (ap (λ o. option_map_or (λ (o : Object). not (falls (word_at a i + bytes) o.base o.extent)) o false)
      found.1)
      ∙ row.third_is) in
      split value.origin refl (refers_at a good i value e) found.0 here one
    where
      split : (origin : Option ℕ) → value.origin ≡ origin
          → IfSome origin (λ birth. (o : Object) × Lives a birth o × IsTrue (falls value.word o.base o.extent))
          → (object : Object) → falls (value.word + bytes) object.base object.extent ≡ true
          → (birth : ℕ) × IsMeant a i birth object
          → IfSome origin
          (λ birth. (o : Object) × Lives a birth o × IsTrue (falls (value.word + bytes) o.base o.extent))
      split None p h object here one = tt
      split (Some birth) p h object here one =
          let meant_is : meant_at a i ≡ Some birth =
          ap (option_and_then (meant a)) e ∙ ap (λ o. option_or o (resolved a value.word)) p in
          let first = one.1.meant_is in
          let same : one.0 ≡ birth = cc in
          (object, subst (λ n. Lives a n object) same one.1.lives, here)
