-- The write barrier does to a view what it does to its state.
use Rattle.std.proofs.Common.{◌≡◌, ℕ, ◌<◌, Bool, true, false, not, ◌||◌, eqb-true, [], ◌∷◌, Option, Some, None, refl}
use Rattle.std.proofs.Common.{sym, ap, ◌∙◌, subst, arith}
use Rattle.std.proofs.lemmas.Bool.{eq-eqb}
use Rattle.std.proofs.lemmas.Bool.Decides.{nat_tests}
use Rattle.std.specs.Prelude.{IsTrue, IfSome, is_some, nat_lt, ◌&&◌, ◌==◌, if◌then◌else◌}
use Rattle.std.specs.Option.{option_map, option_and_then}
use Rattle.mm_model.specs.Object.{Object}
use Rattle.mm_model.specs.State.{State, Cycle, PartlyScanned, Lives}
use Rattle.mm_model.specs.Words.{slot_kind}
use Rattle.mm_model.specs.Sets.Marking.{is_black, is_raw, colour_of, colour_in, done_in, is_passed, with_grayed}
use Rattle.mm_model.specs.Sets.Marking.{barrier}
use Rattle.mm_model.specs.Places.Place.{live_pieces}
use Rattle.mm_model.specs.Good.{IsPlaced, IsPartlyScanned, IsColoured}
use Rattle.mm_model.specs.Views.View.{base_of, seen_partly, seen_cycle, view_of}
use Rattle.mm_model.specs.Views.ViewStore.{is_slot_done, view_is_passed, view_with_grayed, view_barrier}
use Rattle.mm_model.proofs.Good.Living.{lives_same, lives_once_at}
use Rattle.mm_model.proofs.Lists.Keyed.{refuted}
use Rattle.mm_model.proofs.Lists.Truth.{no_other}
use Rattle.mm_model.proofs.Places.Placing.{both}
use Rattle.mm_model.proofs.View.Alike.{cycle-alike}
use Rattle.mm_model.proofs.View.Marking.Graying.{HasColours, view_with_grayed-seen}
use Rattle.mm_model.proofs.View.ByBase.Seen.{seen_based}

none_less : (s : ℕ) → nat_lt s 0 ≡ false
none_less s = refuted (nat_lt s 0) (λ e. absurd (below e))
  where
    below : nat_lt s 0 ≡ true → ⊥
    below e = let less : s < 0 = grind (arith, nat_tests) in omega arith

module _ (a : State) (placed : IsPlaced a.settings.max (live_pieces a)) (birth : ℕ) (object : Object)
    (lives : Lives a birth object) (s : ℕ) where
  -- the partly scanned object is this one in the view where it is in the state
  done-seen : (partly : Option PartlyScanned)
      → IfSome partly (λ p. (other : Object) × Lives a p.object other)
      → is_slot_done (option_and_then (seen_partly a) partly) object.base s ≡ nat_lt s (done_in partly birth)
  done-seen None h = sym (none_less s)
  done-seen (Some p) h =
      ap (λ found. is_slot_done (option_map (λ base. record { base = base; slots_done = p.slots_done }) found)
      object.base s)
      (ap (option_map (λ (o : Object). o.base)) h.1.is)
      ∙ split (p.object == birth) refl
    where
      split : (b : Bool) → (p.object == birth) ≡ b
          → (h.0.base == object.base && nat_lt s p.slots_done) ≡ nat_lt s (if b then p.slots_done else 0)
      split true e =
          let same : h.0 ≡ object =
          lives_same a birth h.0 object (subst (λ n. Lives a n h.0) (eqb-true _ _ e) h.1) lives in
          ap (λ b. b && nat_lt s p.slots_done) (eq-eqb _ _ (ap (λ (o : Object). o.base) same))
      split false e =
          let other : (h.0.base == object.base) ≡ false =
          refuted _ (λ q. no_other e (eq-eqb _ _ (lives_once_at a placed p.object birth h.0 object h.1 lives
          (eqb-true _ _ q)))) in
          ap (λ b. b && nat_lt s p.slots_done) other ∙ sym (none_less s)

  partly_lives : (cycle : Cycle) → IsColoured a cycle
      → IfSome cycle.partly_scanned (λ p. (other : Object) × Lives a p.object other)
  partly_lives cycle h = split cycle.partly_scanned h.partly_scanned
    where
      split : (partly : Option PartlyScanned) → IfSome partly (IsPartlyScanned a cycle)
          → IfSome partly (λ p. (other : Object) × Lives a p.object other)
      split None p = tt
      split (Some partly) p = (p.object, p.lives)

  passed-seen : (cycle : Option Cycle) → a.cycle ≡ cycle → IfSome cycle (IsColoured a)
      → view_is_passed (option_map (seen_cycle a) cycle) (seen_based a birth object) s ≡ is_passed cycle birth s
  passed-seen None e h = refl
  passed-seen (Some cycle) e h =
      ap (λ c. is_black (colour_in c birth)
      || is_slot_done (option_and_then (seen_partly a) cycle.partly_scanned) object.base s) e
      ∙ ap (λ b. is_black (colour_of cycle birth) || b) (done-seen cycle.partly_scanned (partly_lives cycle h))

  -- The barrier comes after the store, when the objects have the same bases and the cycle is the same.
  pub view_barrier-seen : (b : State) → b.cycle ≡ a.cycle → base_of b ≡ base_of a → IfSome a.cycle (IsColoured a)
      → IfSome b.cycle (HasColours b) → (word : ℕ)
      → view_barrier (seen_based a birth object) s word (view_of b)
      ≡ view_of (barrier (slot_kind object s) birth s word b)
  view_barrier-seen b cycle bases coloured each word =
      let passed : view_is_passed (view_of b).cycle (seen_based a birth object) s ≡ is_passed b.cycle birth s =
      ap (λ c. view_is_passed c (seen_based a birth object) s)
      (cycle-alike a b bases b.cycle ∙ ap (option_map (seen_cycle a)) cycle)
      ∙ passed-seen a.cycle refl coloured ∙ ap (λ c. is_passed c birth s) (sym cycle) in
      ap (λ passed. if not (is_raw (slot_kind object s)) && passed
      then view_with_grayed (word ∷ []) (view_of b) else view_of b) passed
      ∙ split (not (is_raw (slot_kind object s)) && is_passed b.cycle birth s) refl
    where
      runs : (c : Option Cycle) → is_passed c birth s ≡ true → IsTrue (is_some c)
      runs None e = cc
      runs (Some cycle) e = refl

      split : (test : Bool) → (not (is_raw (slot_kind object s)) && is_passed b.cycle birth s) ≡ test
          → (if test then view_with_grayed (word ∷ []) (view_of b) else view_of b)
          ≡ view_of (if test then with_grayed (word ∷ []) b else b)
      split true e = view_with_grayed-seen b (word ∷ []) (runs b.cycle (both _ _ e).1) each
      split false e = refl
