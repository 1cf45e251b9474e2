-- References stay good where live objects go on to live.
use Rattle.std.proofs.Common.{◌≡◌, ℕ, Bool, true, false, List, [], ◌∷◌, Option, Some, None, refl, sym, ap, ◌∙◌, subst}
use Rattle.std.specs.Prelude.{slice_get, IsTrue, IfSome, if◌then◌else◌}
use Rattle.std.specs.List.{AllByRecursion}
use Rattle.std.specs.Option.{option_and_then}
use Rattle.mm_model.specs.declared.object.Kind.{Kind}
use Rattle.mm_model.specs.Value.{Value}
use Rattle.mm_model.specs.Object.{Object}
use Rattle.mm_model.specs.State.{State, Lives}
use Rattle.mm_model.specs.Words.{SlotKind, falls}
use Rattle.mm_model.specs.Meaning.{keeps, kept_origin, stored}
use Rattle.mm_model.specs.Good.{IsReferring, IsStored}

-- the object goes on to live, with its base, extent and kind
pub record IsKept (b : State) (birth : ℕ) (object : Object) : Type 0 where
  pub after : Object
  pub lives : Lives b birth after
  pub base : after.base ≡ object.base
  pub extent : after.extent ≡ object.extent
  pub kind : after.kind ≡ object.kind

abbrev pub Keeps : State → State → Type 0
Keeps a b = (birth : ℕ) (object : Object) → Lives a birth object → IsKept b birth object

kept_origin_at : (a : State) (kind : SlotKind) (birth : ℕ) (object : Object) → slice_get a.objects birth ≡ Some object
    → kept_origin a kind birth ≡ (if keeps kind object.kind then Some birth else None)
kept_origin_at a kind birth object e =
    ap (option_and_then (λ o. if keeps kind o.kind then Some birth else None)) e

module _ (a b : State) (kept : Keeps a b) where
  pub referring-kept : (value : Value) → IsReferring a value → IsReferring b value
  referring-kept value h =
      let split : (origin : Option ℕ)
      → IfSome origin (λ birth. (o : Object) × Lives a birth o × IsTrue (falls value.word o.base o.extent))
      → IfSome origin (λ birth. (o : Object) × Lives b birth o × IsTrue (falls value.word o.base o.extent)) =
      elim [
        | None ↦ λ h. tt
        | Some birth ↦ λ h.
            let on = kept birth h.0 h.1 in
            let same : IsTrue (falls value.word on.after.base on.after.extent) =
            subst (λ n. IsTrue (falls value.word n on.after.extent)) (sym on.base)
            (subst (λ n. IsTrue (falls value.word h.0.base n)) (sym on.extent) h.2) in
            (on.after, on.lives, same)
      ] in
      split value.origin h

  kept_origin-kept : (kind : SlotKind) (birth : ℕ) (object : Object) → Lives a birth object
      → kept_origin b kind birth ≡ kept_origin a kind birth
  kept_origin-kept kind birth object h =
      let on = kept birth object h in
      kept_origin_at b kind birth on.after on.lives.is
      ∙ ap (λ (k : Kind). if keeps kind k then Some birth else None) on.kind
      ∙ sym (kept_origin_at a kind birth object h.is)

  -- storing a reference keeps or drops its origin as before
  pub stored-kept : (kind : SlotKind) (value : Value) → IsReferring a value → stored b kind value ≡ stored a kind value
  stored-kept kind value h =
      let split : (origin : Option ℕ)
      → IfSome origin (λ birth. (o : Object) × Lives a birth o × IsTrue (falls value.word o.base o.extent))
      → ◌≡◌ {A = Value} (record { word = value.word; origin = option_and_then (kept_origin b kind) origin })
      (record { word = value.word; origin = option_and_then (kept_origin a kind) origin }) =
      elim [
        | None ↦ λ h. refl
        | Some birth ↦ λ h.
            ap (λ o. record { word = value.word; origin = o }) (kept_origin-kept kind birth h.0 h.1)
      ] in
      split value.origin h

  pub is_stored-kept : (kind : SlotKind) (value : Value) → IsStored a kind value → IsStored b kind value
  is_stored-kept kind value h =
      record {
        refers = referring-kept value h.refers;
        kept = stored-kept kind value h.refers ∙ h.kept;
      }

  pub each_referring-kept : (values : List Value) → AllByRecursion (IsReferring a) values
      → AllByRecursion (IsReferring b) values
  each_referring-kept [] h = tt
  each_referring-kept (v ∷ vs) h = (referring-kept v h.0, each_referring-kept vs h.1)

-- storing a value once more changes nothing, and its word stays
pub stored-stored : (a : State) (kind : SlotKind) (value : Value)
    → stored a kind (stored a kind value) ≡ stored a kind value
stored-stored a kind value =
    let split : (origin : Option ℕ)
    → option_and_then (kept_origin a kind) (option_and_then (kept_origin a kind) origin)
    ≡ option_and_then (kept_origin a kind) origin =
    elim [
      | None ↦ refl
      | Some birth ↦ again birth (slice_get a.objects birth) refl
    ] in
    ap (λ o. record { word = value.word; origin = o }) (split value.origin)
  where
    again : (birth : ℕ) (found : Option Object) → slice_get a.objects birth ≡ found
        → option_and_then (kept_origin a kind) (kept_origin a kind birth) ≡ kept_origin a kind birth
    again birth found e =
        let by_kind : (o : Object) → slice_get a.objects birth ≡ Some o → (b : Bool) → keeps kind o.kind ≡ b
        → option_and_then (kept_origin a kind) (kept_origin a kind birth) ≡ kept_origin a kind birth =
        λ o p. elim [
          | true ↦ λ q.
              let is : kept_origin a kind birth ≡ Some birth =
              kept_origin_at a kind birth o p ∙ ap (λ (c : Bool). if c then Some birth else None) q in
              ap (option_and_then (kept_origin a kind)) is
          | false ↦ λ q.
              let is : kept_origin a kind birth ≡ None =
              kept_origin_at a kind birth o p ∙ ap (λ (c : Bool). if c then Some birth else None) q in
              ap (option_and_then (kept_origin a kind)) is ∙ sym is
        ] in
        let split : (f : Option Object) → slice_get a.objects birth ≡ f
        → option_and_then (kept_origin a kind) (kept_origin a kind birth) ≡ kept_origin a kind birth =
        elim [
          | None ↦ λ p.
              let is : kept_origin a kind birth ≡ None =
              ap (option_and_then (λ (o : Object). if keeps kind o.kind then Some birth else None)) p in
              ap (option_and_then (kept_origin a kind)) is ∙ sym is
          | Some o ↦ λ p. by_kind o p (keeps kind o.kind) refl
        ] in
        split found e

-- what is stored refers to what the value referred to
pub referring-stored : (a : State) (kind : SlotKind) (value : Value) → IsReferring a value
    → IsReferring a (stored a kind value)
referring-stored a kind value h =
    let Falls : ℕ → Type 0 = λ birth. (o : Object) × Lives a birth o × IsTrue (falls value.word o.base o.extent) in
    let split : (origin : Option ℕ) → IfSome origin Falls
    → IfSome (option_and_then (kept_origin a kind) origin) Falls =
    elim [
      | None ↦ λ h. tt
      | Some birth ↦ λ h.
          let by_kind : (b : Bool) → IfSome (if b then Some birth else None) Falls = elim [ true ↦ h | false ↦ tt ] in
          subst (λ o. IfSome o Falls) (sym (kept_origin_at a kind birth h.0 h.1.is)) (by_kind (keeps kind h.0.kind))
    ] in
    split value.origin h
