-- The bases of what is in a set by base are those of what is in the set by birth.
use Rattle.std.proofs.Common.{◌≡◌, ℕ, List, Some, sym, subst}
use Rattle.mm_model.specs.Object.{Object}
use Rattle.mm_model.specs.State.{State, Cycle, Lives}
use Rattle.mm_model.specs.Words.{root_words}
use Rattle.mm_model.specs.Sets.Reapable.{IsReapable}
use Rattle.mm_model.specs.Sets.Reached.{IsUnreached}
use Rattle.mm_model.specs.Sets.Marking.{IsFreedAtFinish}
use Rattle.mm_model.specs.Places.Place.{live_pieces}
use Rattle.mm_model.specs.Good.{IsPlaced}
use Rattle.mm_model.specs.Phase.{AreBasesOf, AreReaped, AreCollected, AreFinished}
use Rattle.mm_model.specs.Views.ByBase.{Begins}
use Rattle.mm_model.specs.Views.ObjectView.{ObjectView}
use Rattle.mm_model.specs.Views.SetsByBase.{AreBasesAt, IsUnreachedAt, IsFreedAtFinishAt}
use Rattle.mm_model.specs.Views.View.{seen, seen_objects, view_of}
use Rattle.mm_model.specs.Views.ViewPhase.{ViewReaps, ViewCollects, ViewFinishes}
use Rattle.mm_model.proofs.Places.Placing.{each_weaker}
use Rattle.mm_model.proofs.View.ByBase.Seen.{begins-seen, seen-begins}
use Rattle.mm_model.proofs.View.Marking.Graying.{HasColours}
use Rattle.mm_model.proofs.View.Words.{marking_words-seen}
use Rattle.mm_model.proofs.View.Marking.Sets.{IsSameSet, unreached_same}
use Rattle.mm_model.proofs.View.Marking.Reapable.{reapable_same}
use Rattle.mm_model.proofs.View.Marking.MarkedSets.{freed_same}

module _ (a : State) (placed : IsPlaced a.settings.max (live_pieces a)) where
  pub bases_of : (ByBirth AtBase : ℕ → Type 0) → IsSameSet a ByBirth AtBase → (bases : List ℕ)
      → AreBasesAt (seen_objects a) AtBase bases → AreBasesOf a ByBirth bases
  bases_of ByBirth AtBase same bases are =
      record {
        ascending = are.ascending;
        only = each_weaker (λ base. (object : ObjectView) × Begins (seen_objects a) base object × AtBase base)
            (λ base. (birth : ℕ) × (object : Object) × Lives a birth object × (object.base ≡ base) × ByBirth birth)
            (λ base one.
            let s = seen-begins a base one.0 one.1 in (
              s.birth,
              s.object,
              s.lives,
              s.at,
              same.back s.birth s.object s.lives (subst AtBase (sym s.at) one.2),
            ))
            bases are.only;
        all = λ birth object lives dead.
            are.all object.base (seen a birth object) (begins-seen a placed birth object lives)
            (same.there birth object lives dead);
      }

  -- a view's reap frees what one of its state frees, and so do a full collection and the end of a cycle
  pub reaps-seen : (bases : List ℕ) → ViewReaps (view_of a) bases → AreReaped a bases
  reaps-seen bases are = bases_of (IsReapable a) _ (reapable_same a placed) bases are

  pub collects-seen : (bases : List ℕ) → ViewCollects (view_of a) bases → AreCollected a bases
  collects-seen bases are =
      bases_of (IsUnreached a) (IsUnreachedAt (seen_objects a) (root_words a)) (unreached_same a placed) bases
      (subst (λ words. AreBasesAt (seen_objects a) (IsUnreachedAt (seen_objects a) words) bases) (marking_words-seen a)
      are)

  pub finishes-seen : (cycle : Cycle) → a.cycle ≡ Some cycle → HasColours a cycle → (bases : List ℕ)
      → ViewFinishes (view_of a) bases → AreFinished a bases
  finishes-seen cycle runs each bases are =
      bases_of (IsFreedAtFinish a) (IsFreedAtFinishAt (seen_objects a) (root_words a))
      (freed_same a placed cycle runs each) bases
      (subst (λ words. AreBasesAt (seen_objects a) (IsFreedAtFinishAt (seen_objects a) words) bases)
      (marking_words-seen a) are)
