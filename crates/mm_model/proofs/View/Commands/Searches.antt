-- A search for a place in a view is one in its state, and leaves the view of what the state's leaves.
use Rattle.std.proofs.Common.{◌≡◌, ℕ, List, ◌++◌, Option, None, refl, sym, ap, ◌∙◌, subst}
use Rattle.mm_model.specs.declared.line.Line.{Line}
use Rattle.mm_model.specs.declared.line.Phase.TheVariants.{Reap, Collect}
use Rattle.mm_model.specs.State.{State}
use Rattle.mm_model.specs.Places.Place.{Family}
use Rattle.mm_model.specs.Good.{IsGood}
use Rattle.mm_model.specs.Phase.{phase_lines, reaped, collected, AreReaped}
use Rattle.mm_model.specs.Places.Search.{place_now, place_grown, Searches}
use Rattle.mm_model.specs.Views.View.{View, view_of}
use Rattle.mm_model.specs.Views.ViewPhase.{view_phase_lines, view_reaped, view_collected, ViewCollects}
use Rattle.mm_model.specs.Views.ViewStep.{view_place_now, view_place_grown, ViewSearches}
use Rattle.mm_model.proofs.Good.Phases.{reaped_is_good, collected_is_good}
use Rattle.mm_model.proofs.View.ByBase.Bases.{reaps-seen, collects-seen}
use Rattle.mm_model.proofs.View.Marking.Phases.{phase_lines-seen, view_reaped-seen, view_collected-seen}
use Rattle.mm_model.proofs.View.Room.{view_place_now-seen, view_place_grown-seen}

pub record SearchShown (a : State) (family : Family) (bytes : ℕ) (log : List Line) (left : View)
    (found : Option ℕ) : Type 0 where
  pub state : State
  pub searches : Searches a family bytes log state found
  pub left_is : left ≡ view_of state

module _ (a : State) (good : IsGood a) (family : Family) (bytes : ℕ) where
  now_none : view_place_now (view_of a) family bytes ≡ None → place_now a family bytes ≡ None
  now_none none = sym (view_place_now-seen a good.placed family bytes) ∙ none

  -- the places that there are after a reap
  grown_reaped : (dead : List ℕ) → AreReaped a dead
      → view_place_grown (view_reaped dead (view_of a)) family bytes ≡ place_grown (reaped dead a) family bytes
  grown_reaped dead are =
      let after = reaped_is_good a dead good are in
      ap (λ view. view_place_grown view family bytes) (view_reaped-seen a good dead are)
      ∙ view_place_grown-seen (reaped dead a) after.placed family bytes

  pub search-shown : (log : List Line) (left : View) (found : Option ℕ)
      → ViewSearches (view_of a) family bytes log left found → SearchShown a family bytes log left found
  search-shown log left found (ViewSearches.At_once base place no_lines same is) =
      record {
        state = a;
        searches = Searches.At_once base (sym (view_place_now-seen a good.placed family bytes) ∙ place) no_lines
            refl is;
        left_is = same;
      }
  search-shown log left found (ViewSearches.After_reap base dead none reaps place lines same is) =
      let are = reaps-seen a good.placed dead reaps in
      record {
        state = reaped dead a;
        searches = Searches.After_reap base dead (now_none none) are (sym (grown_reaped dead are) ∙ place)
            (lines ∙ phase_lines-seen a good.placed Reap _ dead are) refl is;
        left_is = same ∙ view_reaped-seen a good dead are;
      }
  search-shown log left found (ViewSearches.After_collection dead lost none reaps no_place collects lines same is) =
      let are = reaps-seen a good.placed dead reaps in
      let middle = reaped dead a in
      let good_middle = reaped_is_good a dead good are in
      let seen = view_reaped-seen a good dead are in
      let unreached = collects-seen middle good_middle.placed lost
      (subst (λ view. ViewCollects view lost) seen collects) in
      let last = collected lost middle in
      let good_last = collected_is_good middle lost good_middle unreached in
      let left_seen : view_collected lost (view_reaped dead (view_of a)) ≡ view_of last =
      ap (view_collected lost) seen ∙ view_collected-seen middle good_middle lost unreached in
      record {
        state = last;
        searches = Searches.After_collection dead lost (now_none none) are (sym (grown_reaped dead are) ∙ no_place)
            unreached
            (lines
            ∙ ap (λ log. log ++ view_phase_lines Collect (view_reaped dead (view_of a)) lost)
            (phase_lines-seen a good.placed Reap _ dead are)
            ∙ ap (λ view. phase_lines Reap a dead ++ view_phase_lines Collect view lost) seen
            ∙ ap (λ log. phase_lines Reap a dead ++ log)
            (phase_lines-seen middle good_middle.placed Collect _ lost unreached)) refl
            (is ∙ ap (λ view. view_place_grown view family bytes) left_seen
            ∙ view_place_grown-seen last good_last.placed family bytes);
        left_is = same ∙ left_seen;
      }
