-- A slide keeps a state good, and does to what is shown what it does to the state.
use Rattle.std.proofs.Common.{◌≡◌, ℕ, ◌<◌, List, [], ◌∷◌, length, refl, sym, ap, ◌∙◌, subst}
use Rattle.std.specs.List.{AllByRecursion, drop-map}
use Rattle.mm_model.specs.Value.{Value, words_of}
use Rattle.mm_model.specs.State.{State}
use Rattle.mm_model.specs.Good.{IsReferring, IsGood}
use Rattle.mm_model.specs.Views.View.{View, Shows, view_of}
use Rattle.mm_model.proofs.Good.Around.{good-stack}
use Rattle.mm_model.proofs.Lists.Parts.{each_drop}
use Rattle.mm_model.proofs.View.Shown.{shown-is, view_of-shows}
use Rattle.mm_gc.specs.Gc.{Gc, view_of_gc}
use Rattle.mm_gc.specs.Kept.{KeepsGc}
use Rattle.mm_gc.specs.Sliding.{without_below, slid, view_slid, cells_slid, IsSlidState}
use Rattle.mm_gc.specs.Sliding.{IsSlid}
use Rattle.mm_gc.proofs.Keeping.Keeps.{keeps-stack}

each_without : (P : Value → Type 0) (k : ℕ) (values : List Value) → AllByRecursion P values
    → AllByRecursion P (without_below k values)
each_without P k [] all = tt
each_without P k (top ∷ below) all = (all.0, each_drop P k below all.1)

words-without : (k : ℕ) (values : List Value)
    → without_below k (words_of values) ≡ words_of (without_below k values)
words-without k [] = refl
words-without k (top ∷ below) =
    ap (λ (words : List ℕ). top.word ∷ words) (drop-map (λ (v : Value). v.word) k below)

view_slid-seen : (a : State) (k : ℕ) → view_slid k (view_of a) ≡ view_of (slid k a)
view_slid-seen a k =
    ap (λ (words : List ℕ). record (view_of a) { stack = words }) (words-without k a.stack)

slid-state : (old : View) (k : ℕ) (a : State) → IsGood a → Shows old a → IsSlidState (view_slid k old) k a
slid-state old k a good shows =
    record {
      good = good-stack a (without_below k a.stack) good
          (each_without (IsReferring a) k a.stack good.referred.stack);
      shows = subst (λ (view : View). Shows view (slid k a))
          (sym (ap (view_slid k) (shown-is old a shows) ∙ view_slid-seen a k)) (view_of-shows (slid k a));
    }

module _ (gc : Gc) (k : ℕ) where
  abbrev after : Gc
  after = record gc { stack = cells_slid k gc.stack }

  pub slid-answer : k < length gc.stack.words → IsSlid (view_of_gc gc) (view_of_gc after) k
  slid-answer within = record { cells = within; view = refl; states = slid-state (view_of_gc gc) k }

  pub slid-keeps : KeepsGc gc → KeepsGc after
  slid-keeps keeps =
      let shown = keeps.shown in
      let state = slid-state (view_of_gc gc) k shown.state shown.good shown.shows in
      keeps-stack gc (cells_slid k gc.stack) keeps refl refl
      (record { state = slid k shown.state; good = state.good; shows = state.shows })
