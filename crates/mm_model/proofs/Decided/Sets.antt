-- Each set of objects is decided: an object is in it, or it isn't.
use Rattle.std.proofs.Common.{◌≡◌, ℕ, Bool, true, false, List, refl, ◌⊎◌, inl, inr}
use Rattle.mm_model.specs.declared.object.Colour.{Colour}
use Rattle.mm_model.specs.declared.object.Colour.TheVariants.{White, Gray, Black}
use Rattle.mm_model.specs.State.{State}
use Rattle.mm_model.specs.Words.{root_words}
use Rattle.mm_model.specs.Sets.Protected.{IsProtected}
use Rattle.mm_model.specs.Sets.Reached.{IsReached, IsUnreached}
use Rattle.mm_model.specs.Sets.Reapable.{IsReapable}
use Rattle.mm_model.specs.Sets.Marking.{colour_in, with_grayed, IsKeptAtFinish, IsFreedAtFinish, IsMarked}
use Rattle.mm_model.proofs.Decided.Members.{Numbered, has_birth}
use Rattle.mm_model.proofs.Decided.Growth.{joined_is_closed}
use Rattle.mm_model.proofs.Decided.Closures.{joins_reached, joins_kept, joins_marked, joins_protected, joins_reapable}
use Rattle.mm_model.proofs.Decided.Closures.{reached_members, kept_members, marked_members, protected_members}
use Rattle.mm_model.proofs.Decided.Closures.{reapable_members, reached_from_member, member_from_reached}
use Rattle.mm_model.proofs.Decided.Closures.{kept_from_member, member_from_kept, marked_from_member, member_from_marked}
use Rattle.mm_model.proofs.Decided.Closures.{protected_from_member, member_from_protected, reapable_from_member}
use Rattle.mm_model.proofs.Decided.Closures.{member_from_reapable}

-- a set that some objects are
by_members : (In : ℕ → Type 0) (members : List Numbered) (birth : ℕ) → (has_birth members birth ≡ true → In birth)
    → (In birth → has_birth members birth ≡ true) → In birth ⊎ (In birth → ⊥)
by_members In members birth is back = split (has_birth members birth) is back
  where
    split : (b : Bool) → (b ≡ true → In birth) → (In birth → b ≡ true) → In birth ⊎ (In birth → ⊥)
    split true f g = inl (f refl)
    split false f g = inr (λ h. let clash = g h in cc)

module _ (a : State) (birth : ℕ) where
  pub reached_or_not : IsReached a birth ⊎ (IsReached a birth → ⊥)
  reached_or_not =
      by_members (IsReached a) (reached_members a) birth (reached_from_member a birth)
      (member_from_reached a (joined_is_closed (joins_reached a) a) birth)

  pub reapable_or_not : IsReapable a birth ⊎ (IsReapable a birth → ⊥)
  reapable_or_not =
      by_members (IsReapable a) (reapable_members a) birth (reapable_from_member a birth)
      (member_from_reapable a (joined_is_closed (joins_reapable a) a) birth)

  pub marked_or_not : IsMarked a birth ⊎ (IsMarked a birth → ⊥)
  marked_or_not =
      by_members (IsMarked a) (marked_members a) birth (marked_from_member a birth)
      (member_from_marked a (joined_is_closed (joins_marked a) a) birth)

  pub protected_or_not : IsProtected a birth ⊎ (IsProtected a birth → ⊥)
  protected_or_not =
      by_members (IsProtected a) (protected_members a) birth (protected_from_member a birth)
      (member_from_protected a (joined_is_closed (joins_protected a) a) birth)

  pub kept_at_finish_or_not : IsKeptAtFinish a birth ⊎ (IsKeptAtFinish a birth → ⊥)
  kept_at_finish_or_not =
      by_members (IsKeptAtFinish a) (kept_members a) birth (kept_from_member a birth)
      (member_from_kept a (joined_is_closed (joins_kept a) a) birth)

-- what isn't unreached is reached
pub reached_unless_unreached : (a : State) (birth : ℕ) → (IsUnreached a birth → ⊥) → IsReached a birth
reached_unless_unreached a birth h = split (reached_or_not a birth)
  where
    split : IsReached a birth ⊎ (IsReached a birth → ⊥) → IsReached a birth
    split (inl is) = is
    split (inr none) = absurd (h none)

pub white_or_not : (colour : Colour) → (colour ≡ White) ⊎ (colour ≡ White → ⊥)
white_or_not White = inl refl
white_or_not Gray = inr (λ e. cc)
white_or_not Black = inr (λ e. cc)

pub freed_at_finish_or_not : (a : State) (birth : ℕ) → IsFreedAtFinish a birth ⊎ (IsFreedAtFinish a birth → ⊥)
freed_at_finish_or_not a birth =
    let now = with_grayed (root_words a) a in
    split (white_or_not (colour_in now.cycle birth)) (kept_at_finish_or_not now birth)
  where
    split : (colour_in (with_grayed (root_words a) a).cycle birth ≡ White)
        ⊎ (colour_in (with_grayed (root_words a) a).cycle birth ≡ White → ⊥)
        → IsKeptAtFinish (with_grayed (root_words a) a) birth
        ⊎ (IsKeptAtFinish (with_grayed (root_words a) a) birth → ⊥)
        → IsFreedAtFinish a birth ⊎ (IsFreedAtFinish a birth → ⊥)
    split (inl white) (inl kept) = inr (λ h. h.unmarked kept)
    split (inl white) (inr unkept) = inl (record { white = white; unmarked = unkept })
    split (inr dark) kept = inr (λ h. dark h.white)
