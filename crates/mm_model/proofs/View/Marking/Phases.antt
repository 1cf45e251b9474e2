-- A phase of a view is one of its state: the same lines, and what is left is the view of what the state leaves.
use Rattle.std.proofs.Common.{◌≡◌, ℕ, ◌*◌, max, List, [], ◌∷◌, ◌++◌, map, length, Option, Some, None, refl, sym, ap}
use Rattle.std.proofs.Common.{◌∙◌, subst}
use Rattle.std.proofs.lemmas.List.{length-map}
use Rattle.std.specs.Prelude.{◌%◌, ◌^◌, IsTrue, IfSome, is_some, sum, if◌then◌else◌}
use Rattle.std.specs.List.{find, flat_map, AllByRecursion}
use Rattle.std.specs.Option.{option_map}
use Rattle.mm_model.specs.declared.line.Line.{Line}
use Rattle.mm_model.specs.declared.line.Line.TheVariants as lines
use Rattle.mm_model.specs.declared.line.Phase.{Phase}
use Rattle.mm_model.specs.declared.line.Phase.TheVariants.{Reap, Collect}
use Rattle.mm_model.specs.declared.object.Colour.TheVariants.{White}
use Rattle.mm_model.specs.Value.{words_of}
use Rattle.mm_model.specs.Object.{Object}
use Rattle.mm_model.specs.State.{State, Cycle, Lives, lives_at, totals_of}
use Rattle.mm_model.specs.Places.Place.{live_pieces}
use Rattle.mm_model.specs.Good.{IsPlaced, IsColoured, IsGood}
use Rattle.mm_model.specs.Phase.{final_lines, phase_lines, released, reaped, collected, AreBasesOf, AreReaped}
use Rattle.mm_model.specs.Phase.{AreCollected, AreFinished}
use Rattle.mm_model.specs.Step.{Reaps, Collects, Finishes}
use Rattle.mm_model.specs.Views.ByBase.{changed}
use Rattle.mm_model.specs.Views.View.{View, CycleView, seen, seen_objects, view_of}
use Rattle.mm_model.specs.Views.ViewEffect.{with_colour, view_with_white}
use Rattle.mm_model.specs.Views.ViewWords.{object_at}
use Rattle.mm_model.specs.Views.ViewPhase.{view_final_lines, view_phase_lines, so_many_freed, view_released}
use Rattle.mm_model.specs.Views.ViewPhase.{view_with_threshold, view_reaped, view_collected}
use Rattle.mm_model.specs.Views.ViewStep.{ViewReapsOnce, ViewCollectsOnce, ViewFinishesOnce}
use Rattle.mm_model.proofs.Good.Phases.{reaped_is_good, collected_is_good, finished_is_good}
use Rattle.mm_model.proofs.View.ByBase.Bases.{reaps-seen, collects-seen, finishes-seen}
use Rattle.mm_model.proofs.View.ByBase.Changes.{seen_at-changed}
use Rattle.mm_model.proofs.View.Meaning.{object_at-lives}
use Rattle.mm_model.proofs.View.Marking.Releases.{objects-released, cycle-released}
use Rattle.mm_model.proofs.View.ByBase.Seen.{seen_objects-changed}
use Rattle.mm_model.proofs.Good.LiveLists.{find-lives_at}
use Rattle.mm_model.proofs.View.Totals.{totals-released}
use Rattle.mm_model.proofs.View.Words.{view_zero_count-seen}

module _ (a : State) (placed : IsPlaced a.settings.max (live_pieces a)) where
  -- the line of a finalizer
  final_lines-seen : (birth : ℕ) (object : Object) → Lives a birth object
      → view_final_lines (object_at (seen_objects a) object.base)
      ≡ final_lines (find (lives_at object.base) a.objects)
  final_lines-seen birth object lives =
      ap view_final_lines (object_at-lives a placed birth object lives)
      ∙ ap (λ n. if object.finalize then lines.Final object.base n (sum (words_of object.slots) % 2 ^ 32) ∷ [] else [])
      (length-map object.slots (λ value. value.word))
      ∙ ap final_lines (sym (find-lives_at a placed birth object lives))

  pub phase_lines-seen : (what : Phase) (Dead : ℕ → Type 0) (bases : List ℕ) → AreBasesOf a Dead bases
      → view_phase_lines what (view_of a) bases ≡ phase_lines what a bases
  phase_lines-seen what Dead bases are =
      ap (λ finals. finals ++ lines.Phase what (length bases) ∷ map lines.Free bases) (each bases are.only)
    where
      each : (bs : List ℕ)
          → AllByRecursion
          (λ base. (birth : ℕ) × (object : Object) × Lives a birth object × (object.base ≡ base) × Dead birth) bs
          → flat_map (λ base. view_final_lines (object_at (seen_objects a) base)) bs
          ≡ flat_map (λ base. final_lines (find (lives_at base) a.objects)) bs
      each [] h = refl
      each (base ∷ bs) h =
          let one = h.0 in
          let here : view_final_lines (object_at (seen_objects a) base) ≡ final_lines (find (lives_at base) a.objects) =
          ap (λ n. view_final_lines (object_at (seen_objects a) n)) (sym one.3)
          ∙ final_lines-seen one.0 one.1 one.2
          ∙ ap (λ n. final_lines (find (lives_at n) a.objects)) one.3 in
          ap (λ log. log ++ flat_map (λ b. view_final_lines (object_at (seen_objects a) b)) bs) here
          ∙ ap (λ log. final_lines (find (lives_at base) a.objects) ++ log) (each bs h.1)

-- outside a cycle every object is white
white-seen : (a : State) → changed (with_colour White) (seen_objects a) ≡ seen_objects (record a { cycle = None })
white-seen a =
    sym
    (seen_objects-changed a (record a { cycle = None }) refl (with_colour White)
    (λ k below. seen_at-changed a (record a { cycle = None }) (16 * k) refl (with_colour White (16 * k))
    (λ birth object is passes. ap (option_map (seen (record a { cycle = None }) birth)) is)))

module _ (a : State) (good : IsGood a) (Dead : ℕ → Type 0) (bases : List ℕ) (are : AreBasesOf a Dead bases)
    (after : IsPlaced (released bases a).settings.max (live_pieces (released bases a))) where
  abbrev b : State
  b = released bases a

  -- what a phase leaves without its objects
  view_released-seen : view_released bases (view_of a) ≡ view_of b
  view_released-seen =
      ap (λ objects. record (view_released bases (view_of a)) { objects = objects })
      (objects-released a good bases after)
      ∙ ap (λ (cycle : Option CycleView). record (view_of b) {
        cycle = cycle;
        totals = so_many_freed (length bases) (totals_of a);
      }) (cycle-released a good bases after)
      ∙ ap (λ totals. record (view_of b) { totals = totals }) (totals-released a good.placed Dead bases are)

  view_reaped-released : view_reaped bases (view_of a) ≡ view_of (reaped bases a)
  view_reaped-released =
      ap view_with_threshold view_released-seen
      ∙ ap (λ n. record (view_of b) { threshold = max a.settings.zct (2 * n) })
      (view_zero_count-seen b after)

  view_collected-released : view_collected bases (view_of a) ≡ view_of (collected bases a)
  view_collected-released =
      ap (λ v. record (view_with_white v) { cycle = None }) view_released-seen
      ∙ ap (λ objects. record (view_of (collected bases a)) { objects = objects }) (white-seen b)

module _ (a : State) (good : IsGood a) (bases : List ℕ) where
  pub view_reaped-seen : AreReaped a bases → view_reaped bases (view_of a) ≡ view_of (reaped bases a)
  view_reaped-seen are =
      let after = reaped_is_good a bases good are in
      view_reaped-released a good _ bases are after.placed

  pub view_collected-seen : AreCollected a bases → view_collected bases (view_of a) ≡ view_of (collected bases a)
  view_collected-seen are =
      let after = collected_is_good a bases good are in
      view_collected-released a good _ bases are after.placed

  pub view_finished-seen : IsTrue (is_some a.cycle) → AreFinished a bases
      → view_collected bases (view_of a) ≡ view_of (collected bases a)
  view_finished-seen runs are =
      let after = finished_is_good a bases good runs are in
      view_collected-released a good _ bases are after.placed

-- One phase of a view is one of its state.
pub record ReapsShown (a : State) (log : List Line) (left : View) : Type 0 where
  pub state : State
  pub reaps : Reaps a log state
  pub left_is : left ≡ view_of state

pub record CollectsShown (a : State) (log : List Line) (left : View) : Type 0 where
  pub state : State
  pub collects : Collects a log state
  pub left_is : left ≡ view_of state

pub record FinishesShown (a : State) (log : List Line) (left : View) : Type 0 where
  pub state : State
  pub finishes : Finishes a log state
  pub left_is : left ≡ view_of state

module _ (a : State) (good : IsGood a) (log : List Line) (left : View) where
  pub reap-shown : ViewReapsOnce (view_of a) log left → ReapsShown a log left
  reap-shown h =
      let are = reaps-seen a good.placed h.dead h.reapable in
      record {
        state = reaped h.dead a;
        reaps = record {
          dead = h.dead;
          reapable = are;
          log_is = h.log_is ∙ phase_lines-seen a good.placed Reap _ h.dead are;
          state = refl;
        };
        left_is = h.left_is ∙ view_reaped-seen a good h.dead are;
      }

  pub collection-shown : ViewCollectsOnce (view_of a) log left → CollectsShown a log left
  collection-shown h =
      let are = collects-seen a good.placed h.lost h.unreached in
      record {
        state = collected h.lost a;
        collects = record {
          lost = h.lost;
          unreached = are;
          log_is = h.log_is ∙ phase_lines-seen a good.placed Collect _ h.lost are;
          state = refl;
        };
        left_is = h.left_is ∙ view_collected-seen a good h.lost are;
      }

  pub finish-shown : IsTrue (is_some a.cycle) → ViewFinishesOnce (view_of a) log left → FinishesShown a log left
  finish-shown running h = split a.cycle refl running
    where
      split : (c : Option Cycle) → a.cycle ≡ c → IsTrue (is_some c) → FinishesShown a log left
      split None e r = cc
      split (Some cycle) e r =
          let coloured : IsColoured a cycle = subst (λ c. IfSome c (IsColoured a)) e good.coloured in
          let are = finishes-seen a good.placed cycle e coloured.each h.lost h.unmarked in
          record {
            state = collected h.lost a;
            finishes = record {
              lost = h.lost;
              unmarked = are;
              log_is = h.log_is ∙ phase_lines-seen a good.placed Collect _ h.lost are;
              state = refl;
            };
            left_is = h.left_is ∙ view_finished-seen a good h.lost running are;
          }
