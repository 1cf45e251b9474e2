-- What is reached by base is so by birth.
use Rattle.std.proofs.Common.{◌≡◌, ℕ, List, refl, sym, ap, ◌∙◌, subst}
use Rattle.mm_model.specs.Object.{Object}
use Rattle.mm_model.specs.State.{State, Lives}
use Rattle.mm_model.specs.Words.{root_words, scanned_slots, names}
use Rattle.mm_model.specs.Places.Place.{live_pieces}
use Rattle.mm_model.specs.Good.{IsPlaced}
use Rattle.mm_model.specs.Sets.Reached.{IsReached, IsUnreached}
use Rattle.mm_model.specs.Views.ByBase.{Begins}
use Rattle.mm_model.specs.Views.ObjectView.{ObjectView, names_at, scanned_words_of}
use Rattle.mm_model.specs.Views.SetsByBase.{IsReachedAt, IsUnreachedAt}
use Rattle.mm_model.specs.Views.View.{seen, seen_objects}
use Rattle.mm_model.proofs.Good.Living.{lives_same}
use Rattle.mm_model.proofs.View.ByBase.Seen.{begins-seen, seen-begins}
use Rattle.mm_model.proofs.Good.LiveLists.{one_birth}

-- A live object's base is in the one set exactly where its birth number is in the other.
pub record IsSameSet (a : State) (ByBirth AtBase : ℕ → Type 0) : Type 0 where
  pub there : (birth : ℕ) (object : Object) → Lives a birth object → ByBirth birth → AtBase object.base
  pub back : (birth : ℕ) (object : Object) → Lives a birth object → AtBase object.base → ByBirth birth

-- so it is with what is outside of them
pub outside_same : (a : State) (ByBirth AtBase : ℕ → Type 0) → IsSameSet a ByBirth AtBase
    → IsSameSet a (λ birth. ByBirth birth → ⊥) (λ base. AtBase base → ⊥)
outside_same a ByBirth AtBase same =
    record {
      there = λ birth object lives out inside. out (same.back birth object lives inside);
      back = λ birth object lives out inside. out (same.there birth object lives inside);
    }

module _ (a : State) (placed : IsPlaced a.settings.max (live_pieces a)) where
  -- what begins at the base of a live object is that object
  pub own_view : (base : ℕ) (o : ObjectView) → Begins (seen_objects a) base o → (birth : ℕ) (object : Object)
      → Lives a birth object → object.base ≡ base → o ≡ seen a birth object
  own_view base o begins birth object lives at =
      let s = seen-begins a base o begins in
      let one : s.birth ≡ birth = one_birth a placed s.birth birth s.object object s.lives lives (s.at ∙ sym at) in
      let same : s.object ≡ object =
      lives_same a birth s.object object (subst (λ n. Lives a n s.object) one s.lives) lives in
      s.is ∙ ap (λ n. seen a n s.object) one ∙ ap (seen a birth) same

  pub names_at-own : (words : List ℕ) (base : ℕ) (o : ObjectView) → Begins (seen_objects a) base o → (birth : ℕ)
      (object : Object) → Lives a birth object → object.base ≡ base → names_at words base o ≡ names words object
  names_at-own words base o begins birth object lives at =
      ap (names_at words base) (own_view base o begins birth object lives at)
      ∙ ap (λ b. names_at words b (seen a birth object)) (sym at)

  reached_at : (birth : ℕ) → IsReached a birth → (object : Object) → Lives a birth object
      → IsReachedAt (seen_objects a) (root_words a) object.base
  reached_at birth (IsReached.By_root number own there named) object lives =
      let same = lives_same a birth own object there lives in
      IsReachedAt.By_root object.base (seen a birth object) (begins-seen a placed birth object lives)
      (ap (names (root_words a)) (sym same) ∙ named)
  reached_at birth (IsReached.By_slot number own by holder there held named reached) object lives =
      let same = lives_same a birth own object there lives in
      IsReachedAt.By_slot object.base (seen a birth object) holder.base (seen a by holder)
      (begins-seen a placed birth object lives)
      (begins-seen a placed by holder held) (ap (names (scanned_slots holder)) (sym same) ∙ named)
      (reached_at by reached holder held)

  reached_by : (base : ℕ) → IsReachedAt (seen_objects a) (root_words a) base → (birth : ℕ) (object : Object)
      → Lives a birth object → object.base ≡ base → IsReached a birth
  reached_by base (IsReachedAt.By_root at_base o begins named) birth object lives at =
      IsReached.By_root birth object lives
      (sym (names_at-own (root_words a) base o begins birth object lives at) ∙ named)
  reached_by base (IsReachedAt.By_slot at_base o by holder begins held named reached) birth object lives at =
      let s = seen-begins a by holder held in
      IsReached.By_slot birth object s.birth s.object lives s.lives
      (sym (names_at-own (scanned_slots s.object) base o begins birth object lives at)
      ∙ ap (λ h. names_at (scanned_words_of h) base o) (sym s.is) ∙ named)
      (reached_by by reached s.birth s.object s.lives s.at)

  pub reached_same : IsSameSet a (IsReached a) (IsReachedAt (seen_objects a) (root_words a))
  reached_same =
      record {
        there = λ birth object lives reached. reached_at birth reached object lives;
        back = λ birth object lives reached. reached_by object.base reached birth object lives refl;
      }

  pub unreached_same : IsSameSet a (IsUnreached a) (IsUnreachedAt (seen_objects a) (root_words a))
  unreached_same = outside_same a (IsReached a) (IsReachedAt (seen_objects a) (root_words a)) reached_same
