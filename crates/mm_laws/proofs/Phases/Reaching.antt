-- Which objects are reapable, protected and reached.
use Rattle.std.proofs.Common.{◌≡◌, ℕ, Bool, true, false, not, eqb-true, List, subst, ◌<◌, arith}
use Rattle.std.proofs.lemmas.Bool.Decides.{nat_tests}
use Rattle.std.specs.Prelude.{IsTrue, ◌==◌}
use Rattle.mm_model.specs.Object.{Object, is_live, is_counted, is_scanned}
use Rattle.mm_model.specs.State.{State, Lives}
use Rattle.mm_model.specs.Words.{stack_words, area_words, root_words, counted_cell_words, counted_cells, scanned_cells}
use Rattle.mm_model.specs.Words.{counted_slots, word_slots, scanned_slots, counted_words, falls, names, holds}
use Rattle.mm_model.specs.Good.{IsGood}
use Rattle.mm_model.specs.Count.{is_zero_count}
use Rattle.mm_model.specs.Sets.Reapable.{IsReapable, Reapable, only_slots_hold}
use Rattle.mm_model.specs.Sets.Protected.{IsProtected, By_stack, By_area, By_counted_cell, By_slot, By_counted_slot}
use Rattle.mm_model.specs.Sets.Reached.{IsReached, By_root, By_slot as Reached_by_slot}
use Rattle.mm_model.proofs.Lists.Keyed.{refuted}
use Rattle.mm_model.proofs.Places.Placing.{both}
use Rattle.mm_model.proofs.Lists.Truth.{together, not_true, not-false, no_other}
use Rattle.mm_model.proofs.Lists.Passing.{any-front, any-back, any-flat_map, any-none_counted, any-weaker}
use Rattle.mm_model.proofs.Lists.Passing.{any-flat_map-weaker, any-words_take, any-words_drop}
use Rattle.mm_model.proofs.Good.Living.{lives_extent, lives_same}

-- what a zero-count object is
record IsUncounted (a : State) (object : Object) : Type 0 where
  counted : is_counted object.kind ≡ true
  loose : not object.sticky ≡ true
  unheld : holds (counted_words a) object ≡ false

uncounted : (a : State) (object : Object) → IsTrue (is_zero_count a object) → IsUncounted a object
uncounted a object e =
    let outer = both _ _ e in
    let inner = both _ _ outer.0 in
    let first = both _ _ inner.0 in
    record {
      counted = first.1;
      loose = inner.1;
      unheld = any-none_counted (λ word. word == object.base) (counted_words a) (eqb-true _ _ outer.1);
    }

flat_by_slot : (a : State) (object : Object) (by : ℕ) (holder : Object) → Lives a by holder
    → holds (counted_slots holder) object ≡ true → holds (counted_words a) object ≡ true
flat_by_slot a object by holder lives e =
    any-front (λ word. word == object.base) _ (counted_cell_words a)
    (any-flat_map counted_slots is_live (λ word. word == object.base) a.objects by holder lives.is lives.live e)

pub unheld_is_reapable : (a : State) (birth : ℕ) (object : Object) → Lives a birth object
    → IsTrue (is_zero_count a object) → IsTrue (not (names (stack_words a) object)) → IsReapable a birth
unheld_is_reapable a birth object lives zero unnamed =
    let own = uncounted a object zero in
    let cells : holds (counted_cell_words a) object ≡ false =
    refuted _ (λ h. no_other own.unheld (any-back (λ word. word == object.base) _ (counted_cell_words a) h)) in
    Reapable birth object lives
    (together _ _ (together _ _ (together _ _ own.counted own.loose) unnamed) (not-false _ cells))
    (λ by holder held h. absurd (no_other own.unheld (flat_by_slot a object by holder held h)))

-- what the first test on a reapable object says
record IsOnlyHeldBySlots (a : State) (object : Object) : Type 0 where
  counted : is_counted object.kind ≡ true
  unnamed : not (names (stack_words a) object) ≡ true
  unheld : not (holds (counted_cell_words a) object) ≡ true

only_held : (a : State) (object : Object) → IsTrue (only_slots_hold a object) → IsOnlyHeldBySlots a object
only_held a object e =
    let outer = both _ _ e in
    let inner = both _ _ outer.0 in
    let first = both _ _ inner.0 in
    record { counted = first.0; unnamed = inner.1; unheld = outer.1 }

pub reapable_is_not_protected : (a : State) (birth : ℕ) → IsReapable a birth → IsProtected a birth → ⊥
reapable_is_not_protected a birth (Reapable _ object lives only all) (By_stack _ other there named) =
    not_true _ (only_held a object only).unnamed
    (subst (λ o. IsTrue (names (stack_words a) o)) (lives_same a birth other object there lives) named)
reapable_is_not_protected a birth (Reapable _ object lives only all) (By_area _ other there plain named) =
    not_true _ (subst (λ o. IsTrue (not (is_counted o.kind))) (lives_same a birth other object there lives) plain)
    (only_held a object only).counted
reapable_is_not_protected a birth (Reapable _ object lives only all) (By_counted_cell _ other there counted held) =
    not_true _ (only_held a object only).unheld
    (subst (λ o. IsTrue (holds (counted_cell_words a) o)) (lives_same a birth other object there lives) held)
reapable_is_not_protected a birth (Reapable _ object lives only all) (By_slot _ other by holder there plain held
    named own) =
    not_true _ (subst (λ o. IsTrue (not (is_counted o.kind))) (lives_same a birth other object there lives) plain)
    (only_held a object only).counted
reapable_is_not_protected a birth (Reapable _ object lives only all) (By_counted_slot _ other by holder there counted
    held named own) =
    reapable_is_not_protected a by
    (all by holder held
    (subst (λ o. IsTrue (holds (counted_slots holder) o)) (lives_same a birth other object there lives) named))
    own

-- the base of an object that takes room falls in it
base_falls : (word : ℕ) (object : Object) → 0 < object.extent → (word == object.base) ≡ true
    → falls word object.base object.extent ≡ true
base_falls word object some e = let same : word ≡ object.base = eqb-true _ _ e in grind (arith, nat_tests)

names-holds : (words : List ℕ) (object : Object) → 0 < object.extent → IsTrue (holds words object)
    → IsTrue (names words object)
names-holds words object some h =
    any-weaker (λ word. word == object.base) (λ word. falls word object.base object.extent)
    (λ word e. base_falls word object some e) words h

names-counted_cells : (a : State) (object : Object) → IsTrue (names (counted_cell_words a) object)
    → IsTrue (names (area_words a) object)
names-counted_cells a object h =
    let test : ℕ → Bool = λ word. falls word object.base object.extent in
    any-flat_map-weaker counted_cells scanned_cells test
    (λ area. any-words_take test area.scanned area.counted area.cells) a.areas h

module _ (a : State) (object : Object) where
  root_by_stack : IsTrue (names (stack_words a) object) → IsTrue (names (root_words a) object)
  root_by_stack = any-front (λ word. falls word object.base object.extent) (stack_words a) (area_words a)

  root_by_area : IsTrue (names (area_words a) object) → IsTrue (names (root_words a) object)
  root_by_area = any-back (λ word. falls word object.base object.extent) (stack_words a) (area_words a)

  scanned_by_word : (holder : Object) → IsTrue (names (word_slots holder) object)
      → IsTrue (names (scanned_slots holder) object)
  scanned_by_word holder =
      any-words_drop (λ word. falls word object.base object.extent) (is_scanned holder.kind) holder.counted holder.slots

  scanned_by_counted : (holder : Object) → IsTrue (names (counted_slots holder) object)
      → IsTrue (names (scanned_slots holder) object)
  scanned_by_counted holder =
      any-words_take (λ word. falls word object.base object.extent) (is_scanned holder.kind) holder.counted holder.slots

-- where live objects take room, what is protected is reached
module _ (a : State) (room : (birth : ℕ) (object : Object) → Lives a birth object → 0 < object.extent) where
  reached : (birth : ℕ) → IsProtected a birth → IsReached a birth
  reached birth (By_stack _ object lives named) = By_root birth object lives (root_by_stack a object named)
  reached birth (By_area _ object lives plain named) = By_root birth object lives (root_by_area a object named)
  reached birth (By_counted_cell _ object lives counted held) =
      By_root birth object lives
      (root_by_area a object
      (names-counted_cells a object (names-holds (counted_cell_words a) object (room birth object lives) held)))
  reached birth (By_slot _ object by holder lives plain held named own) =
      Reached_by_slot birth object by holder lives held (scanned_by_word a object holder named) (reached by own)
  reached birth (By_counted_slot _ object by holder lives counted held named own) =
      Reached_by_slot birth object by holder lives held
      (scanned_by_counted a object holder (names-holds (counted_slots holder) object (room birth object lives) named))
      (reached by own)

pub protected_is_reached : (a : State) (birth : ℕ) → IsGood a → IsProtected a birth → IsReached a birth
protected_is_reached a birth good own = reached a (lives_extent a good.placed) birth own
