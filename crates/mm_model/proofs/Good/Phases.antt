-- A reap, a full collection and the end of a cycle keep a state good.
use Rattle.std.proofs.Common.{◌≡◌, ℕ, Bool, true, false, not, List, Option, Some, None, refl, sym, ap, ◌∙◌, subst}
use Rattle.std.specs.Prelude.{IsTrue, IfSome, is_some}
use Rattle.std.specs.Option.{option_map}
use Rattle.mm_model.specs.declared.object.Colour.{Colour}
use Rattle.mm_model.specs.declared.object.Colour.TheVariants.{White, Gray, Black}
use Rattle.mm_model.specs.Object.{Object, is_counted}
use Rattle.mm_model.specs.State.{State, Cycle, Lives}
use Rattle.mm_model.specs.Words.{stack_words, area_words, root_words, counted_cell_words, counted_slots, scanned_slots}
use Rattle.mm_model.specs.Words.{names, holds}
use Rattle.mm_model.specs.Sets.Reached.{By_root, By_slot, IsUnreached}
use Rattle.mm_model.specs.Sets.Reapable.{IsReapable, Reapable}
use Rattle.mm_model.specs.Sets.Marking.{colour_of, colour_in, grayed_cycle, with_grayed, IsKeptAtFinish, Already}
use Rattle.mm_model.specs.Sets.Marking.{By_slot as Marked_by_slot, IsFreedAtFinish}
use Rattle.mm_model.specs.Phase.{lists, released, reaped, collected, AreBasesOf, AreReaped, AreCollected, AreFinished}
use Rattle.mm_model.specs.Good.{IsColoured, IsGood}
use Rattle.mm_model.proofs.Good.Around.{good-around}
use Rattle.mm_model.proofs.Good.Closing.{Spares, closed_from, dead_listed}
use Rattle.mm_model.proofs.Lists.Keyed.{refuted}
use Rattle.mm_model.proofs.Good.Living.{lives_same}
use Rattle.mm_model.proofs.Lists.Passing.{any-front, any-back}
use Rattle.mm_model.proofs.Places.Placing.{both}
use Rattle.mm_model.proofs.Good.Releases.{released_is_good}
use Rattle.mm_model.proofs.Good.Writing.Shading.{colour-grayed, shade, shade-white, shade-black, shade-named}

-- what isn't in the set isn't listed
unlisted : (a : State) (good : IsGood a) (Dead : ℕ → Type 0) (bases : List ℕ) → AreBasesOf a Dead bases → (birth : ℕ)
    (object : Object) → Lives a birth object → (Dead birth → ⊥) → lists bases object.base ≡ false
unlisted a good Dead bases are birth object lives f =
    refuted (lists bases object.base) (λ h. f (dead_listed a Dead bases good.placed are birth object lives h))

-- and what isn't listed isn't in it
undead : (a : State) (Dead : ℕ → Type 0) (bases : List ℕ) → AreBasesOf a Dead bases → (birth : ℕ) (object : Object)
    → Lives a birth object → lists bases object.base ≡ false → Dead birth → ⊥
undead a Dead bases are birth object lives e dead = let listed = are.all birth object lives dead in clash e listed
  where
    clash : {b : Bool} → b ≡ false → b ≡ true → ⊥
    clash p q = cc

-- what a reapable object is
record IsOnlyHeldBySlots (a : State) (birth : ℕ) (object : Object) : Type 0 where
  counted : is_counted object.kind ≡ true
  unnamed : not (names (stack_words a) object) ≡ true
  unheld : not (holds (counted_cell_words a) object) ≡ true
  holders : (by : ℕ) (holder : Object) → Lives a by holder → IsTrue (holds (counted_slots holder) object)
      → IsReapable a by

only_held : (a : State) (birth : ℕ) (object : Object) → Lives a birth object → IsReapable a birth
    → IsOnlyHeldBySlots a birth object
only_held a birth object lives (Reapable own_birth own there test holders) =
    let same = lives_same a birth own object there lives in
    let last = both _ _ test in
    let third = both _ _ last.0 in
    let second = both _ _ third.0 in
    record {
      counted = ap (λ (o : Object). is_counted o.kind) (sym same) ∙ second.0;
      unnamed = ap (λ (o : Object). not (names (stack_words a) o)) (sym same) ∙ third.1;
      unheld = ap (λ (o : Object). not (holds (counted_cell_words a) o)) (sym same) ∙ last.1;
      holders = λ by holder held h.
          holders by holder held (ap (λ (o : Object). holds (counted_slots holder) o) same ∙ h);
    }

not_both : (b : Bool) → b ≡ true → not b ≡ true → ⊥
not_both true p q = cc
not_both false p q = cc

pub reap-spares : (a : State) (bases : List ℕ) → IsGood a → AreReaped a bases → Spares a bases
reap-spares a bases good are =
    record {
      stack = λ birth object lives named.
          unlisted a good (IsReapable a) bases are birth object lives
          (λ dead. not_both _ named (only_held a birth object lives dead).unnamed);
      slots = λ birth object by holder lives held stays named counted.
          unlisted a good (IsReapable a) bases are birth object lives
          (λ dead.
          let own = only_held a birth object lives dead in
          undead a (IsReapable a) bases are by holder held stays
          (own.holders by holder held (counted own.counted)));
      cells = λ birth object lives named counted.
          unlisted a good (IsReapable a) bases are birth object lives
          (λ dead.
          let own = only_held a birth object lives dead in
          not_both _ (counted own.counted) own.unheld);
    }

in_roots_from_stack : (a : State) (object : Object) → names (stack_words a) object ≡ true
    → names (root_words a) object ≡ true
in_roots_from_stack a object h = any-front _ (stack_words a) (area_words a) h

in_roots_from_areas : (a : State) (object : Object) → names (area_words a) object ≡ true
    → names (root_words a) object ≡ true
in_roots_from_areas a object h = any-back _ (stack_words a) (area_words a) h

pub collection-spares : (a : State) (bases : List ℕ) → IsGood a → AreCollected a bases → Spares a bases
collection-spares a bases good are =
    record {
      stack = λ birth object lives named.
          unlisted a good (IsUnreached a) bases are birth object lives
          (λ dead. dead (By_root birth object lives (in_roots_from_stack a object named)));
      slots = λ birth object by holder lives held stays named counted.
          unlisted a good (IsUnreached a) bases are birth object lives
          (λ dead.
          undead a (IsUnreached a) bases are by holder held stays
          (λ reached. dead (By_slot birth object by holder lives held named reached)));
      cells = λ birth object lives named counted.
          unlisted a good (IsUnreached a) bases are birth object lives
          (λ dead. dead (By_root birth object lives (in_roots_from_areas a object named)));
    }

module _ (a : State) (good : IsGood a) (cycle : Cycle) (runs : a.cycle ≡ Some cycle) where
  -- the state in which the roots are gray
  abbrev rooted : State
  rooted = with_grayed (root_words a) a

  coloured : IsColoured a cycle
  coloured = subst (λ c. IfSome c (IsColoured a)) runs good.coloured

  lives_on : (birth : ℕ) (object : Object) → Lives a birth object → Lives rooted birth object
  lives_on birth object h = record { is = h.is; live = h.live }

  rooted_colour : (birth : ℕ) (object : Object) → Lives a birth object
      → colour_in rooted.cycle birth ≡ shade (root_words a) object (colour_of cycle birth)
  rooted_colour birth object lives =
      ap (λ c. colour_in (option_map (grayed_cycle (root_words a) a) c) birth) runs
      ∙ colour-grayed (root_words a) a.objects cycle.colours birth object coloured.each lives.is

  -- a root names no object that is white afterwards
  rooted_unnamed : (birth : ℕ) (object : Object) → Lives a birth object → colour_in rooted.cycle birth ≡ White
      → names (root_words a) object ≡ true → ⊥
  rooted_unnamed birth object lives white named =
      shade-named (root_words a) object (colour_of cycle birth) lives.live named
      (sym (rooted_colour birth object lives) ∙ white)

  rooted_white : (birth : ℕ) (object : Object) → Lives a birth object → colour_in rooted.cycle birth ≡ White
      → colour_of cycle birth ≡ White
  rooted_white birth object lives white =
      shade-white (root_words a) object (colour_of cycle birth) (sym (rooted_colour birth object lives) ∙ white)

  -- an unmarked object is held by unmarked ones alone
  holder_unmarked : (birth : ℕ) (object : Object) (by : ℕ) (holder : Object) → Lives a birth object
      → Lives a by holder → names (scanned_slots holder) object ≡ true → IsFreedAtFinish a birth → IsFreedAtFinish a by
  holder_unmarked birth object by holder lives held named dead =
      by_colour (colour_in rooted.cycle by) refl
      (λ p. black_stays (shade-black (root_words a) holder (colour_of cycle by)
      (sym (rooted_colour by holder held) ∙ p)))
    where
      white : IsKeptAtFinish rooted by → ⊥
      white marked =
          dead.unmarked (Marked_by_slot birth object by holder (lives_on birth object lives) dead.white
          (lives_on by holder held) named marked)

      by_colour : (c : Colour) → colour_in rooted.cycle by ≡ c → (c ≡ Black → ⊥) → IsFreedAtFinish a by
      by_colour White e f = record { white = e; unmarked = white }
      by_colour Gray e f = absurd (white (Already by holder (lives_on by holder held) e))
      by_colour Black e f = absurd (f refl)

      black_stays : colour_of cycle by ≡ Black → ⊥
      black_stays e =
          coloured.black by holder held e birth object lives (rooted_white birth object lives dead.white) named

  finish-spares : (bases : List ℕ) → AreFinished a bases → Spares a bases
  finish-spares bases are =
      record {
        stack = λ birth object lives named.
            unlisted a good (IsFreedAtFinish a) bases are birth object lives
            (λ dead. rooted_unnamed birth object lives dead.white (in_roots_from_stack a object named));
        slots = λ birth object by holder lives held stays named counted.
            unlisted a good (IsFreedAtFinish a) bases are birth object lives
            (λ dead.
            undead a (IsFreedAtFinish a) bases are by holder held stays
            (holder_unmarked birth object by holder lives held named dead));
        cells = λ birth object lives named counted.
            unlisted a good (IsFreedAtFinish a) bases are birth object lives
            (λ dead. rooted_unnamed birth object lives dead.white (in_roots_from_areas a object named));
      }

-- what is left is good, with any threshold and with the cycle that is left or none
with_threshold_is_good : (a : State) (threshold : ℕ) → IsGood a → IsGood (record a { threshold = threshold })
with_threshold_is_good a threshold good =
    good-around a a.stack a.cycle threshold a.commands good good.referred.stack good.coloured

without_cycle_is_good : (a : State) → IsGood a → IsGood (record a { cycle = None })
without_cycle_is_good a good = good-around a a.stack None a.threshold a.commands good good.referred.stack tt

pub reaped_is_good : (a : State) (bases : List ℕ) → IsGood a → AreReaped a bases → IsGood (reaped bases a)
reaped_is_good a bases good are =
    with_threshold_is_good (released bases a) _
    (released_is_good a good bases (closed_from a good bases (reap-spares a bases good are)))

pub collected_is_good : (a : State) (bases : List ℕ) → IsGood a → AreCollected a bases → IsGood (collected bases a)
collected_is_good a bases good are =
    without_cycle_is_good (released bases a)
    (released_is_good a good bases (closed_from a good bases (collection-spares a bases good are)))

pub finished_is_good : (a : State) (bases : List ℕ) → IsGood a → IsTrue (is_some a.cycle) → AreFinished a bases
    → IsGood (collected bases a)
finished_is_good a bases good runs are = split a.cycle refl runs
  where
    split : (cycle : Option Cycle) → a.cycle ≡ cycle → is_some cycle ≡ true → IsGood (collected bases a)
    split None e r = cc
    split (Some cycle) e r =
        without_cycle_is_good (released bases a)
        (released_is_good a good bases (closed_from a good bases (finish-spares a good cycle e bases are)))
