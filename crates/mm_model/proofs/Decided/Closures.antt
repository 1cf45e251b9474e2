-- The sets that phases ask for, as they are computed: which objects join, and that those that joined are the set.
use Rattle.std.proofs.Common.{◌≡◌, refl, ap, ◌∙◌, ℕ, Bool, true, false, not, ◌&&◌, ◌||◌, List, ⊎_elim, subst}
use Rattle.std.specs.List.{list_any, list_all, AllByRecursion}
use Rattle.std.proofs.lemmas.Bool.{and_parts, and_from, or_cases, or_left, or_right, not_from_false, cases_Bool}
use Rattle.mm_model.specs.declared.object.Colour.{Colour}
use Rattle.mm_model.specs.declared.object.Colour.TheVariants.{White, Gray, Black}
use Rattle.mm_model.specs.Object.{Object, is_counted}
use Rattle.mm_model.specs.State.{State, Lives}
use Rattle.mm_model.specs.Words.{stack_words, area_words, root_words, counted_cell_words, scanned_slots, word_slots}
use Rattle.mm_model.specs.Words.{counted_slots, names, holds}
use Rattle.mm_model.specs.Sets.Reached.{IsReached}
use Rattle.mm_model.specs.Sets.Reached as reached
use Rattle.mm_model.specs.Sets.Reapable.{IsReapable, Reapable, only_slots_hold}
use Rattle.mm_model.specs.Sets.Protected.{IsProtected}
use Rattle.mm_model.specs.Sets.Protected as protected
use Rattle.mm_model.specs.Sets.Marking.{IsKeptAtFinish, IsMarked, is_white, is_gray, colour_in}
use Rattle.mm_model.specs.Sets.Marking as marking
use Rattle.mm_model.proofs.Decided.Members.{Numbered, numbered, living, has_birth, IsMember, each_implied, from_any}
use Rattle.mm_model.proofs.Decided.Members.{each_from_all, all_from_each, at_live, each_living, in_from_has_birth}
use Rattle.mm_model.proofs.Decided.Growth.{Joining, joined, is_closed, joined_each, has_birth_if_closed, any_with_birth}

-- a word of a scanned slot of a member falls in the object
abbrev pub is_named_by : List Numbered → Object → Bool
is_named_by members object = list_any (λ by. names (scanned_slots by.object) object) members

abbrev pub joins_reached : State → Joining
joins_reached a members m = names (root_words a) m.object || is_named_by members m.object

abbrev pub joins_kept : State → Joining
joins_kept a members m =
    is_gray (colour_in a.cycle m.birth) || (is_white (colour_in a.cycle m.birth) && is_named_by members m.object)

abbrev pub joins_marked : State → Joining
joins_marked a members m = not (is_white (colour_in a.cycle m.birth)) || is_named_by members m.object

-- the word of a word slot of a member falls in the object
abbrev pub is_word_named_by : List Numbered → Object → Bool
is_word_named_by members object = list_any (λ by. names (word_slots by.object) object) members

-- a counted slot of a member holds the object's base
abbrev pub is_held_by : List Numbered → Object → Bool
is_held_by members object = list_any (λ by. holds (counted_slots by.object) object) members

-- by its kind, what protects an object beside the stack
abbrev pub is_guarded : State → List Numbered → Object → Bool → Bool
is_guarded a members object true = holds (counted_cell_words a) object || is_held_by members object
is_guarded a members object false = names (area_words a) object || is_word_named_by members object

abbrev pub joins_protected : State → Joining
joins_protected a members m =
    names (stack_words a) m.object || is_guarded a members m.object (is_counted m.object.kind)

-- each live object with a counted slot that holds the base of the object is a member
abbrev holders_are_members : State → List Numbered → Object → Bool
holders_are_members a members object =
    list_all (λ by. has_birth members by.birth || not (holds (counted_slots by.object) object)) (living a)

abbrev pub joins_reapable : State → Joining
joins_reapable a members m = only_slots_hold a m.object && holders_are_members a members m.object

abbrev pub reached_members : State → List Numbered
reached_members a = joined (joins_reached a) a

abbrev pub kept_members : State → List Numbered
kept_members a = joined (joins_kept a) a

abbrev pub marked_members : State → List Numbered
marked_members a = joined (joins_marked a) a

abbrev pub protected_members : State → List Numbered
protected_members a = joined (joins_protected a) a

abbrev pub reapable_members : State → List Numbered
reapable_members a = joined (joins_reapable a) a

module _ (a : State) where
  reached_join : (members : List Numbered) (birth : ℕ) (object : Object)
      → AllByRecursion (IsMember a (IsReached a)) members → Lives a birth object
      → joins_reached a members (numbered birth object) ≡ true → IsReached a birth
  reached_join members birth object h lives e =
      ⊎_elim (λ (p : names (root_words a) object ≡ true). reached.By_root birth object lives p)
      (λ (p : is_named_by members object ≡ true).
      from_any (λ by. names (scanned_slots by.object) object) (IsReached a birth) members p
      (each_implied (IsMember a (IsReached a))
      (λ by. names (scanned_slots by.object) object ≡ true → IsReached a birth)
      (λ by is named. reached.By_slot birth object by.birth by.object lives is.lives named is.in_set)
      members h))
      (or_cases (names (root_words a) object) (is_named_by members object) e)

  reached_each : AllByRecursion (IsMember a (IsReached a)) (reached_members a)
  reached_each = joined_each (joins_reached a) a (IsReached a) reached_join

  pub reached_from_member : (birth : ℕ) → has_birth (reached_members a) birth ≡ true → IsReached a birth
  reached_from_member birth e = in_from_has_birth a (IsReached a) (reached_members a) birth reached_each e

  pub member_from_reached : is_closed (joins_reached a) a (reached_members a) ≡ true → (birth : ℕ)
      → IsReached a birth → has_birth (reached_members a) birth ≡ true
  member_from_reached closed n (reached.By_root birth object lives named) =
      has_birth_if_closed (joins_reached a) a (reached_members a) closed birth object lives
      (or_left (names (root_words a) object) (is_named_by (reached_members a) object) named)
  member_from_reached closed n (reached.By_slot birth object by holder lives lives_by named is) =
      let member = member_from_reached closed by is in
      has_birth_if_closed (joins_reached a) a (reached_members a) closed birth object lives
      (or_right (names (root_words a) object) (is_named_by (reached_members a) object)
      (any_with_birth a (IsReached a) (reached_members a) (λ o. names (scanned_slots o) object) by holder reached_each
      lives_by named member))

false_if : (b : Bool) → not b ≡ true → b ≡ false
false_if true e = cc
false_if false e = refl

pub gray_if : (colour : Colour) → is_gray colour ≡ true → colour ≡ Gray
gray_if White e = cc
gray_if Gray e = refl
gray_if Black e = cc

pub white_if : (colour : Colour) → is_white colour ≡ true → colour ≡ White
white_if White e = refl
white_if Gray e = cc
white_if Black e = cc

module _ (a : State) where
  kept_join : (members : List Numbered) (birth : ℕ) (object : Object)
      → AllByRecursion (IsMember a (IsKeptAtFinish a)) members → Lives a birth object
      → joins_kept a members (numbered birth object) ≡ true → IsKeptAtFinish a birth
  kept_join members birth object h lives e =
      let colour : Colour = colour_in a.cycle birth in
      ⊎_elim (λ (p : is_gray colour ≡ true). marking.Already birth object lives (gray_if colour p))
      (λ (p : (is_white colour && is_named_by members object) ≡ true).
      let parts = and_parts (is_white colour) (is_named_by members object) p in
      from_any (λ by. names (scanned_slots by.object) object) (IsKeptAtFinish a birth) members parts.1
      (each_implied (IsMember a (IsKeptAtFinish a))
      (λ by. names (scanned_slots by.object) object ≡ true → IsKeptAtFinish a birth)
      (λ by is named.
      marking.By_slot birth object by.birth by.object lives (white_if colour parts.0) is.lives named is.in_set)
      members h))
      (or_cases (is_gray colour) (is_white colour && is_named_by members object) e)

  kept_each : AllByRecursion (IsMember a (IsKeptAtFinish a)) (kept_members a)
  kept_each = joined_each (joins_kept a) a (IsKeptAtFinish a) kept_join

  pub kept_from_member : (birth : ℕ) → has_birth (kept_members a) birth ≡ true → IsKeptAtFinish a birth
  kept_from_member birth e = in_from_has_birth a (IsKeptAtFinish a) (kept_members a) birth kept_each e

  pub member_from_kept : is_closed (joins_kept a) a (kept_members a) ≡ true → (birth : ℕ)
      → IsKeptAtFinish a birth → has_birth (kept_members a) birth ≡ true
  member_from_kept closed n (marking.Already birth object lives gray) =
      has_birth_if_closed (joins_kept a) a (kept_members a) closed birth object lives
      (or_left (is_gray (colour_in a.cycle birth))
      (is_white (colour_in a.cycle birth) && is_named_by (kept_members a) object) (ap is_gray gray))
  member_from_kept closed n (marking.By_slot birth object by holder lives white lives_by named is) =
      let member = member_from_kept closed by is in
      has_birth_if_closed (joins_kept a) a (kept_members a) closed birth object lives
      (or_right (is_gray (colour_in a.cycle birth))
      (is_white (colour_in a.cycle birth) && is_named_by (kept_members a) object)
      (and_from (is_white (colour_in a.cycle birth)) (is_named_by (kept_members a) object) (ap is_white white)
      (any_with_birth a (IsKeptAtFinish a) (kept_members a) (λ o. names (scanned_slots o) object) by holder kept_each
      lives_by named member)))

module _ (a : State) where
  reapable_join : (members : List Numbered) (birth : ℕ) (object : Object)
      → AllByRecursion (IsMember a (IsReapable a)) members → Lives a birth object
      → joins_reapable a members (numbered birth object) ≡ true → IsReapable a birth
  reapable_join members birth object h lives e =
      let parts = and_parts (only_slots_hold a object) (holders_are_members a members object) e in
      Reapable birth object lives parts.0
      (λ by holder lives_by held.
      let here : (has_birth members by || not (holds (counted_slots holder) object)) ≡ true =
      at_live (λ by. (has_birth members by.birth || not (holds (counted_slots by.object) object)) ≡ true) a
      (each_from_all (λ by. has_birth members by.birth || not (holds (counted_slots by.object) object)) (living a)
      parts.1)
      by holder lives_by in
      ⊎_elim (λ (p : has_birth members by ≡ true). in_from_has_birth a (IsReapable a) members by h p)
      (λ (p : not (holds (counted_slots holder) object) ≡ true).
      let refuted : not true ≡ true = subst (λ b. not b ≡ true) held p in cc)
      (or_cases (has_birth members by) (not (holds (counted_slots holder) object)) here))

  reapable_each : AllByRecursion (IsMember a (IsReapable a)) (reapable_members a)
  reapable_each = joined_each (joins_reapable a) a (IsReapable a) reapable_join

  pub reapable_from_member : (birth : ℕ) → has_birth (reapable_members a) birth ≡ true → IsReapable a birth
  reapable_from_member birth e = in_from_has_birth a (IsReapable a) (reapable_members a) birth reapable_each e

  pub member_from_reapable : is_closed (joins_reapable a) a (reapable_members a) ≡ true → (birth : ℕ)
      → IsReapable a birth → has_birth (reapable_members a) birth ≡ true
  member_from_reapable closed n (Reapable birth object lives only by_holders) =
      let holder_tests : Numbered → Bool =
      λ by. has_birth (reapable_members a) by.birth || not (holds (counted_slots by.object) object) in
      let each_holder = each_living (λ by. holder_tests by ≡ true) a
      (λ by holder lives_by.
      ⊎_elim
      (λ (p : holds (counted_slots holder) object ≡ true).
      or_left (has_birth (reapable_members a) by) (not (holds (counted_slots holder) object))
      (member_from_reapable closed by (by_holders by holder lives_by p)))
      (λ (p : holds (counted_slots holder) object ≡ false).
      or_right (has_birth (reapable_members a) by) (not (holds (counted_slots holder) object))
      (not_from_false (holds (counted_slots holder) object) p))
      (cases_Bool (holds (counted_slots holder) object))) in
      has_birth_if_closed (joins_reapable a) a (reapable_members a) closed birth object lives
      (and_from (only_slots_hold a object) (holders_are_members a (reapable_members a) object) only
      (all_from_each holder_tests (living a) each_holder))

module _ (a : State) where
  marked_join : (members : List Numbered) (birth : ℕ) (object : Object)
      → AllByRecursion (IsMember a (IsMarked a)) members → Lives a birth object
      → joins_marked a members (numbered birth object) ≡ true → IsMarked a birth
  marked_join members birth object h lives e =
      ⊎_elim (λ (p : not (is_white (colour_in a.cycle birth)) ≡ true). marking.IsMarked.Already birth object lives p)
      (λ (p : is_named_by members object ≡ true).
      from_any (λ by. names (scanned_slots by.object) object) (IsMarked a birth) members p
      (each_implied (IsMember a (IsMarked a))
      (λ by. names (scanned_slots by.object) object ≡ true → IsMarked a birth)
      (λ by is named. marking.IsMarked.By_slot birth object by.birth by.object lives is.lives named is.in_set)
      members h))
      (or_cases (not (is_white (colour_in a.cycle birth))) (is_named_by members object) e)

  marked_each : AllByRecursion (IsMember a (IsMarked a)) (marked_members a)
  marked_each = joined_each (joins_marked a) a (IsMarked a) marked_join

  pub marked_from_member : (birth : ℕ) → has_birth (marked_members a) birth ≡ true → IsMarked a birth
  marked_from_member birth e = in_from_has_birth a (IsMarked a) (marked_members a) birth marked_each e

  pub member_from_marked : is_closed (joins_marked a) a (marked_members a) ≡ true → (birth : ℕ)
      → IsMarked a birth → has_birth (marked_members a) birth ≡ true
  member_from_marked closed n (marking.IsMarked.Already birth object lives dark) =
      has_birth_if_closed (joins_marked a) a (marked_members a) closed birth object lives
      (or_left (not (is_white (colour_in a.cycle birth))) (is_named_by (marked_members a) object) dark)
  member_from_marked closed n (marking.IsMarked.By_slot birth object by holder lives lives_by named is) =
      let member = member_from_marked closed by is in
      has_birth_if_closed (joins_marked a) a (marked_members a) closed birth object lives
      (or_right (not (is_white (colour_in a.cycle birth))) (is_named_by (marked_members a) object)
      (any_with_birth a (IsMarked a) (marked_members a) (λ o. names (scanned_slots o) object) by holder marked_each
      lives_by named member))

module _ (a : State) where
  protected_join : (members : List Numbered) (birth : ℕ) (object : Object)
      → AllByRecursion (IsMember a (IsProtected a)) members → Lives a birth object
      → joins_protected a members (numbered birth object) ≡ true → IsProtected a birth
  protected_join members birth object h lives e =
      ⊎_elim (λ (p : names (stack_words a) object ≡ true). protected.By_stack birth object lives p)
      (λ (p : is_guarded a members object (is_counted object.kind) ≡ true). guarded (is_counted object.kind) refl p)
      (or_cases (names (stack_words a) object) (is_guarded a members object (is_counted object.kind)) e)
    where
      guarded : (counted : Bool) → is_counted object.kind ≡ counted → is_guarded a members object counted ≡ true
          → IsProtected a birth
      guarded true kind p =
          ⊎_elim (λ (cell : holds (counted_cell_words a) object ≡ true).
          protected.By_counted_cell birth object lives kind cell)
          (λ (held : is_held_by members object ≡ true).
          from_any (λ by. holds (counted_slots by.object) object) (IsProtected a birth) members held
          (each_implied (IsMember a (IsProtected a))
          (λ by. holds (counted_slots by.object) object ≡ true → IsProtected a birth)
          (λ by is holds_it.
          protected.By_counted_slot birth object by.birth by.object lives kind is.lives holds_it is.in_set)
          members h))
          (or_cases (holds (counted_cell_words a) object) (is_held_by members object) p)
      guarded false kind p =
          ⊎_elim (λ (area : names (area_words a) object ≡ true).
          protected.By_area birth object lives (ap not kind) area)
          (λ (named : is_word_named_by members object ≡ true).
          from_any (λ by. names (word_slots by.object) object) (IsProtected a birth) members named
          (each_implied (IsMember a (IsProtected a))
          (λ by. names (word_slots by.object) object ≡ true → IsProtected a birth)
          (λ by is names_it.
          protected.By_slot birth object by.birth by.object lives (ap not kind) is.lives names_it is.in_set)
          members h))
          (or_cases (names (area_words a) object) (is_word_named_by members object) p)

  protected_each : AllByRecursion (IsMember a (IsProtected a)) (protected_members a)
  protected_each = joined_each (joins_protected a) a (IsProtected a) protected_join

  pub protected_from_member : (birth : ℕ) → has_birth (protected_members a) birth ≡ true → IsProtected a birth
  protected_from_member birth e = in_from_has_birth a (IsProtected a) (protected_members a) birth protected_each e

  module _ (closed : is_closed (joins_protected a) a (protected_members a) ≡ true) where
    -- an object that something beside the stack protects is a member
    guarded_member : (birth : ℕ) (object : Object) → Lives a birth object → (counted : Bool)
        → is_counted object.kind ≡ counted → is_guarded a (protected_members a) object counted ≡ true
        → has_birth (protected_members a) birth ≡ true
    guarded_member birth object lives counted kind e =
        has_birth_if_closed (joins_protected a) a (protected_members a) closed birth object lives
        (or_right (names (stack_words a) object)
        (is_guarded a (protected_members a) object (is_counted object.kind))
        (ap (is_guarded a (protected_members a) object) kind ∙ e))

    pub member_from_protected : (birth : ℕ) → IsProtected a birth → has_birth (protected_members a) birth ≡ true
    member_from_protected n (protected.By_stack birth object lives named) =
        has_birth_if_closed (joins_protected a) a (protected_members a) closed birth object lives
        (or_left (names (stack_words a) object)
        (is_guarded a (protected_members a) object (is_counted object.kind)) named)
    member_from_protected n (protected.By_area birth object lives kind named) =
        guarded_member birth object lives false (false_if (is_counted object.kind) kind)
        (or_left (names (area_words a) object) (is_word_named_by (protected_members a) object) named)
    member_from_protected n (protected.By_counted_cell birth object lives kind held) =
        guarded_member birth object lives true kind
        (or_left (holds (counted_cell_words a) object) (is_held_by (protected_members a) object) held)
    member_from_protected n (protected.By_slot birth object by holder lives kind lives_by named is) =
        let member = member_from_protected by is in
        guarded_member birth object lives false (false_if (is_counted object.kind) kind)
        (or_right (names (area_words a) object) (is_word_named_by (protected_members a) object)
        (any_with_birth a (IsProtected a) (protected_members a) (λ o. names (word_slots o) object) by holder
        protected_each lives_by named member))
    member_from_protected n (protected.By_counted_slot birth object by holder lives kind lives_by held is) =
        let member = member_from_protected by is in
        guarded_member birth object lives true kind
        (or_right (holds (counted_cell_words a) object) (is_held_by (protected_members a) object)
        (any_with_birth a (IsProtected a) (protected_members a) (λ o. holds (counted_slots o) object) by holder
        protected_each lives_by held member))
