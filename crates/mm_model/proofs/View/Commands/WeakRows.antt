-- The row of `weak`: the weak reference that there is, or a new one.
use Rattle.std.proofs.Common.{◌≡◌, ℕ, true, List, Option, Some, None, refl, sym, ap, ◌∙◌, subst}
use Rattle.std.proofs.lemmas.Option.{slice_get-map}
use Rattle.std.specs.Prelude.{IfSome, slice_get}
use Rattle.std.specs.Option.{option_map, option_and_then}
use Rattle.mm_model.specs.declared.line.Line.{Line}
use Rattle.mm_model.specs.Places.SizeClass.{object_bytes}
use Rattle.mm_model.specs.Value.{Value, reference}
use Rattle.mm_model.specs.Object.{Object}
use Rattle.mm_model.specs.State.{State, Lives}
use Rattle.mm_model.specs.Words.{stack_words, names, falls}
use Rattle.mm_model.specs.Meaning.{meant_at}
use Rattle.mm_model.specs.Places.Place.{Objects}
use Rattle.mm_model.specs.Effect.{with_some, pushes, pushes_object, weak_effect}
use Rattle.mm_model.specs.Step.{MakesWeak, MakesWeakOf}
use Rattle.mm_model.specs.Good.{IsPaired, IsGood}
use Rattle.mm_model.specs.Views.ByBase.{Based}
use Rattle.mm_model.specs.Views.ObjectView.{ObjectView}
use Rattle.mm_model.specs.Views.View.{base_of, view_of}
use Rattle.mm_model.specs.Views.ViewEffect.{ViewEffect, view_pushes, view_weak_effect}
use Rattle.mm_model.specs.Views.ViewStep.{ViewIsPlain, ViewMakesWeak, ViewMakesWeakOf}
use Rattle.mm_model.proofs.Lists.Growing.{any_from_get}
use Rattle.mm_model.proofs.View.Commands.Makes.{RowShown, same-is, makes-shown}
use Rattle.mm_model.proofs.View.Meaning.{based_birth, view_meant-seen}
use Rattle.mm_model.proofs.Good.Meanings.{IsMeant, is_meant_at}
use Rattle.mm_model.proofs.View.Commands.SameEffects.{SameEffect}
use Rattle.mm_model.proofs.View.Marking.Scanning.{base_of-lives}
use Rattle.mm_model.proofs.View.ByBase.Seen.{seen_based}
use Rattle.mm_model.proofs.View.Commands.WeakBirths.{weak-seen}

module _ (a : State) (good : IsGood a) where
  -- the object that a stack cell means is named by the stack
  meant_named : (i birth : ℕ) (object : Object) → IsMeant a i birth object → names (stack_words a) object ≡ true
  meant_named i birth object one =
      any_from_get (λ word. falls word object.base object.extent) (stack_words a) i one.value.word
      (slice_get-map (λ (v : Value). v.word) a.stack i ∙ ap (option_map (λ (v : Value). v.word)) one.cell)
      one.falls_there

  pushes_object-same : (birth : ℕ) (object : Object) → Lives a birth object
      → SameEffect (view_pushes object.base (view_of a)) (pushes_object a birth)
  pushes_object-same birth object lives =
      subst
      (λ found. SameEffect (view_pushes object.base (view_of a))
      (with_some found a (λ o. pushes (reference o.base birth) a)))
      (sym lives.is) (record { view = refl; reply = refl })

  makes_weak-shown : (birth : ℕ) (object : Object) → Lives a birth object → names (stack_words a) object ≡ true
      → (log : List Line) (v : ViewEffect) (partner : Option ℕ) → IfSome partner (IsPaired a birth object)
      → ViewMakesWeak (view_of a) object.base (option_and_then (base_of a) partner) log v
      → RowShown (MakesWeak a birth partner log) v
  makes_weak-shown birth object lives named log v None paired m =
      makes-shown a good Objects (object_bytes 0) (λ left found. view_weak_effect left object.base found)
      (λ b found. weak_effect b birth found)
      (λ b found f.
      let one = f.spared birth object lives named in
      subst (λ base. SameEffect (view_weak_effect (view_of b) base found) (weak_effect b birth found)) one.base
      (weak-seen b f.good birth one.after one.lives found f.place)) log v m
  makes_weak-shown birth object lives named log v (Some weak) paired m =
      let plain : ViewIsPlain log v (view_pushes paired.partner.base (view_of a)) =
      subst (λ base. ViewMakesWeak (view_of a) object.base base log v)
      (base_of-lives a weak paired.partner paired.lives) m in
      record {
        effect = pushes_object a weak;
        row = record { no_lines = plain.no_lines; effect_is = refl };
        same = same-is v (view_pushes paired.partner.base (view_of a)) (pushes_object a weak) plain.effect_is
            (pushes_object-same weak paired.partner paired.lives);
      }

  makes_weak_of_meant : (i birth : ℕ) (object : Object) → IsMeant a i birth object → (log : List Line)
      (v : ViewEffect) → ViewMakesWeak (view_of a) object.base (option_and_then (base_of a) object.partner) log v
      → RowShown (MakesWeakOf a i log) v
  makes_weak_of_meant i birth object one log v m =
      let row = makes_weak-shown birth object one.lives (meant_named i birth object one) log v object.partner
      (good.paired birth object one.lives) m in
      record {
        effect = row.effect;
        row = record {
          target = birth;
          object = object;
          target_is = one.meant_is;
          object_is = ap (option_and_then (slice_get a.objects)) one.meant_is ∙ one.lives.is;
          makes = row.row;
        };
        same = row.same;
      }

  pub makes_weak_of-shown : (i : ℕ) (log : List Line) (v : ViewEffect) → ViewMakesWeakOf (view_of a) i log v
      → RowShown (MakesWeakOf a i log) v
  makes_weak_of-shown i log v m = split (meant_at a i) refl
    where
      found : option_and_then (based_birth a) (meant_at a i) ≡ Some m.target
      found = sym (view_meant-seen a good i) ∙ m.target_is

      split : (meant : Option ℕ) → meant_at a i ≡ meant → RowShown (MakesWeakOf a i log) v
      split None e = let none = ap (option_and_then (based_birth a)) (sym e) ∙ found in cc
      split (Some birth) e =
          let one = is_meant_at a good i birth e in
          let here : based_birth a birth ≡ Some (seen_based a birth one.0) =
          ap (option_map (seen_based a birth)) one.1.lives.is in
          let some = ap (option_and_then (based_birth a)) (sym e) ∙ found in
          let same : m.target ≡ seen_based a birth one.0 = cc in
          makes_weak_of_meant i birth one.0 one.1 log v
          (subst (λ (o : Based ObjectView). ViewMakesWeak (view_of a) o.base o.value.partner log v) same m.makes)
