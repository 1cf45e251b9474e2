-- Storing a word into a slot does to a view what storing the value does to its state.
use Rattle.std.proofs.Common.{◌≡◌, ℕ, ◌*◌, eqb-true, ◌++◌, map, length, Option, Some, refl, sym, ap, ◌∙◌, subst, arith}
use mathlib.Core.Path.{fun_ext}
use Rattle.std.proofs.lemmas.List.{length-set, length-map}
use Rattle.std.specs.Prelude.{slice_get, slice_set}
use Rattle.std.specs.Option.{option_map, option_and_then}
use Rattle.mm_model.specs.Value.{Value, words_of}
use Rattle.mm_model.specs.Object.{Object, live_objects}
use Rattle.mm_model.specs.State.{State, Lives, lives_at, live_count}
use Rattle.mm_model.specs.After.{birth_at}
use Rattle.mm_model.specs.Words.{slot_kind}
use Rattle.mm_model.specs.Meaning.{stored}
use Rattle.mm_model.specs.Places.Place.{object_piece, area_piece, live_pieces}
use Rattle.mm_model.specs.Store.{with_object, with_slot}
use Rattle.mm_model.specs.Good.{IsPlaced}
use Rattle.mm_model.specs.Views.ByBase.{with_entry}
use Rattle.mm_model.specs.Views.ObjectView.{ObjectView}
use Rattle.mm_model.specs.Views.View.{base_of, seen, seen_at, seen_objects, view_of}
use Rattle.mm_model.specs.Views.ViewStore.{view_with_word}
use Rattle.mm_model.proofs.Lists.Replaced.{get-set_same, get-set_other, map-set, map_live-set, position_from-set_alike}
use Rattle.mm_model.proofs.Lists.Replaced.{option_get-set_alike}
use Rattle.mm_model.proofs.Good.Living.{lives_inside}
use Rattle.mm_model.proofs.Places.Placing.{both}
use Rattle.mm_model.proofs.View.Alike.{cycle-alike, totals-alike}
use Rattle.mm_model.proofs.View.ByBase.Changes.{seen_at-same}
use Rattle.mm_model.proofs.Good.LiveLists.{birth_at-lives}
use Rattle.mm_model.proofs.View.ByBase.Seen.{seen_based, piece_grain, seen_objects-with_entry}

module _ (a : State) (placed : IsPlaced a.settings.max (live_pieces a)) (birth : ℕ) (object : Object)
    (lives : Lives a birth object) (s : ℕ) (value : Value) where
  abbrev changed : Object
  changed = with_slot a object s value

  abbrev pub store : State
  store = with_object birth changed a

  -- what the view has of the object then
  abbrev changed_view : ObjectView
  changed_view = record (seen a birth object) { words = slice_set (words_of object.slots) s value.word }

  pub placed-store : IsPlaced store.settings.max (live_pieces store)
  placed-store =
      subst (IsPlaced a.settings.max)
      (ap (λ ps. map area_piece a.areas ++ ps)
      (sym (map_live-set object_piece a.objects birth object changed lives.is refl refl))) placed

  pub bases-store : base_of store ≡ base_of a
  bases-store = fun_ext (λ other.
      option_get-set_alike (λ (o : Object). o.base) a.objects birth other object changed lives.is refl)

  births-store : (base : ℕ) → birth_at store base ≡ birth_at a base
  births-store base = position_from-set_alike (lives_at base) 0 a.objects birth object changed lives.is refl

  seen-store : (n : ℕ) (o : Object) → seen store n o ≡ seen a n o
  seen-store n o = ap (λ base. record (seen a n o) { partner = option_and_then base o.partner }) bases-store

  at_own : seen_at store object.base ≡ Some changed_view
  at_own =
      ap (option_and_then (λ n. option_map (seen store n) (slice_get store.objects n)))
      (births-store object.base ∙ birth_at-lives a placed birth object lives)
      ∙ ap (option_map (seen store birth)) (get-set_same a.objects birth object changed lives.is)
      ∙ ap (λ (o : ObjectView). Some o)
      (seen-store birth changed
      ∙ ap (λ words. record (seen a birth object) { words = words })
      (map-set (λ (v : Value). v.word) object.slots s (stored a (slot_kind object s) value)))

  at_other : (base : ℕ) → (base ≡ object.base → ⊥) → seen_at store base ≡ seen_at a base
  at_other base other =
      seen_at-same a store base (births-store base)
      (λ n o is passes.
      let apart : n ≡ birth → ⊥ = λ e.
      let same : o ≡ object = found (sym is ∙ ap (slice_get a.objects) e ∙ lives.is) in
      other (sym (eqb-true _ _ (both _ _ passes).1) ∙ ap (λ (x : Object). x.base) same) in
      ap (option_map (seen store n)) (get-set_other a.objects birth n changed apart ∙ is)
      ∙ ap (λ (x : ObjectView). Some x) (seen-store n o))
    where
      found : {x y : Object} → ◌≡◌ {A = Option Object} (Some x) (Some y) → x ≡ y
      found e = cc

  pub objects-store : seen_objects store ≡ with_entry object.base (Some changed_view) (seen_objects a)
  objects-store =
      let grain = piece_grain a.settings.max (object_piece object) (lives_inside a placed birth object lives) in
      let base : object.base ≡ 16 * grain.0 = grain.1 in
      seen_objects-with_entry a store refl grain.0 (Some changed_view) grain.2 (ap (seen_at store) (sym base) ∙ at_own)
      (λ k below other. at_other (16 * k) (λ e. other (omega arith)))
      ∙ ap (λ base. with_entry base (Some changed_view) (seen_objects a)) (sym base)

  live-store : live_count store ≡ live_count a
  live-store =
      sym (length-map (live_objects store.objects) (λ o. o.base))
      ∙ ap length (map_live-set (λ (o : Object). o.base) a.objects birth object changed lives.is refl refl)
      ∙ length-map (live_objects a.objects) (λ o. o.base)

  pub view_with_word-seen : view_with_word (seen_based a birth object) s value.word (view_of a) ≡ view_of store
  view_with_word-seen =
      ap (λ objects. record (view_of a) { objects = objects }) (sym objects-store)
      ∙ ap (λ cycle. record (view_of a) { objects = seen_objects store; cycle = cycle })
      (sym (cycle-alike a store bases-store a.cycle))
      ∙ ap (λ totals. record (view_of store) { totals = totals })
      (sym (totals-alike a store (length-set a.objects birth changed) live-store refl))
