-- What counts that are right tell of a view, and how many objects the totals of a good one speak of.
use Rattle.std.proofs.Common.{◌≡◌, ℕ, suc, ◌+◌, ◌≤◌, Bool, true, false, cond, List, [], ◌∷◌, length, Some, refl, sym}
use Rattle.std.proofs.Common.{ap, ◌∙◌, subst, arith}
use Rattle.std.proofs.lemmas.List.Sums.{sum_by-cons}
use Rattle.std.specs.Prelude.{IsTrue, slice_get, not, ◌&&◌, ◌==◌}
use Rattle.std.specs.List.{sum_by, count_by}
use Rattle.mm_model.specs.Object.{Object, is_live, is_counted, live_objects}
use Rattle.mm_model.specs.State.{State}
use Rattle.mm_model.specs.Good.{IsGood}
use Rattle.mm_model.specs.Views.ByBase.{Begins, based}
use Rattle.mm_model.specs.Views.ObjectView.{ObjectView, ObjectsByBase}
use Rattle.mm_model.specs.Views.SetsByBase.{count_at, is_zero_count_at, zero_count_of}
use Rattle.mm_model.specs.Views.View.{View, Shows, seen_objects, view_of}
use Rattle.mm_model.specs.Views.ViewWords.{outside_references}
use Rattle.mm_model.specs.Views.GoodView.{AreCounts, IsGoodView}
use Rattle.mm_model.proofs.View.ByBase.Entries.{begins_at}
use Rattle.mm_model.proofs.View.ByBase.Seen.{sum-seen}
use Rattle.mm_model.proofs.View.Shown.{shown-is}

-- tests that agree on each element count alike
count-alike : {X : Type 0} (test other : X → Bool) (xs : List X)
    → ((n : ℕ) (x : X) → slice_get xs n ≡ Some x → test x ≡ other x) → count_by test xs ≡ count_by other xs
count-alike test other [] same = refl
count-alike test other (x ∷ xs) same =
    let first = sum_by-cons (λ y. cond (test y) 1 0) x xs in
    let second = sum_by-cons (λ y. cond (other y) 1 0) x xs in
    let rest = count-alike test other xs (λ n. same (suc n)) in
    first ∙ ap (λ b. cond b 1 0 + count_by test xs) (same 0 x refl) ∙ ap (λ n. cond (other x) 1 0 + n) rest ∙ sym second

module _ (objects : ObjectsByBase) (counts outside : ℕ → ℕ) (right : AreCounts objects counts outside) where
  -- a zero-count object is one whose count is 0
  pub is_zero_count-counts : (base : ℕ) (object : ObjectView) → Begins objects base object
      → is_zero_count_at objects outside base object
      ≡ (is_counted object.kind && not object.sticky && counts base == 0)
  is_zero_count-counts base object begins = split (is_counted object.kind) object.sticky refl refl
    where
      split : (counted sticky : Bool) → is_counted object.kind ≡ counted → object.sticky ≡ sticky
          → (counted && not sticky && count_at objects outside base == 0) ≡ (counted && not sticky && counts base == 0)
      split true true p q = refl
      split true false p q = ap (λ n. n == 0) (sym (right.exact base object begins p q))
      split false sticky p q = refl

  pub zero_count_of-counts : zero_count_of objects outside
      ≡ count_by (λ o. is_counted o.value.kind && not o.value.sticky && counts o.base == 0) (based objects)
  zero_count_of-counts =
      count-alike (λ o. is_zero_count_at objects outside o.base o.value)
      (λ o. is_counted o.value.kind && not o.value.sticky && counts o.base == 0) (based objects)
      (λ n o is. is_zero_count-counts o.base o.value (begins_at objects n o is))

-- in a good view counts that are exact never pass 254
pub right_counts : (view : View) → IsGoodView view → (counts : ℕ → ℕ)
    → ((base : ℕ) (object : ObjectView) → Begins view.objects base object → IsTrue (is_counted object.kind)
    → object.sticky ≡ false → counts base ≡ count_at view.objects (outside_references view) base)
    → AreCounts view.objects counts (outside_references view)
right_counts view good counts exact =
    record {
      exact = exact;
      few = λ base object begins counted free.
          subst (λ n. n ≤ 254) (sym (exact base object begins counted free))
          (good.counted base object begins counted free);
    }

sum-ones : {X : Type 0} (xs : List X) → sum_by (λ x. 1) xs ≡ length xs
sum-ones [] = refl
sum-ones (x ∷ xs) =
    let first = sum_by-cons (λ y. 1) x xs in
    let rest = sum-ones xs in
    omega (arith, first, rest)

few_live : (objects : List Object) → length (live_objects objects) ≤ length objects
few_live [] = omega arith
few_live (o ∷ os) =
    let rest = few_live os in
    let split : (b : Bool) → length (cond b (o ∷ live_objects os) (live_objects os)) ≤ suc (length os) =
    elim [ true ↦ omega arith | false ↦ omega arith ] in
    split (is_live o)

-- How many objects live, and how many were born.
pub record AreTotals (view : View) : Type 0 where
  pub live : view.totals.live ≡ length (based view.objects)
  pub born : view.totals.born ≡ view.totals.freed + view.totals.live

totals_seen : (a : State) → IsGood a → AreTotals (view_of a)
totals_seen a good =
    let few = few_live a.objects in
    record {
      live = sym (sum-ones (live_objects a.objects))
          ∙ sym (sum-seen a good.placed (λ o. 1) (λ o. 1) (λ birth object lives. refl))
          ∙ sum-ones (based (seen_objects a));
      born = omega arith;
    }

pub shown_totals : (view : View) (a : State) → IsGood a → Shows view a → AreTotals view
shown_totals view a good shows = subst AreTotals (sym (shown-is view a shows)) (totals_seen a good)
