-- The end of a command does to a view what it does to its state.
use Rattle.std.proofs.Common.{◌≡◌, ◌<◌, ◌≤◌, Bool, List, refl, subst}
use Rattle.mm_model.specs.declared.line.Line.{Line}
use Rattle.mm_model.specs.State.{State}
use Rattle.mm_model.specs.Good.{IsGood}
use Rattle.mm_model.specs.Step.{Ends}
use Rattle.mm_model.specs.Views.View.{View, view_of}
use Rattle.mm_model.specs.Views.ViewStep.{ViewEnds}
use Rattle.mm_model.proofs.View.Marking.Phases.{reap-shown}
use Rattle.mm_model.proofs.View.Words.{view_zero_count-seen}

pub record EndShown (a : State) (full : Bool) (log : List Line) (left : View) : Type 0 where
  pub state : State
  pub ends : Ends a full log state
  pub left_is : left ≡ view_of state

pub end-shown : (a : State) → IsGood a → (full : Bool) (log : List Line) (left : View)
    → ViewEnds (view_of a) full log left → EndShown a full log left
end-shown a good full log left (ViewEnds.Refused_as_full is_full no_lines same) =
    record { state = a; ends = Ends.Refused_as_full is_full no_lines refl; left_is = same }
end-shown a good full log left (ViewEnds.Below_threshold not_full below no_lines same) =
    record {
      state = a;
      ends = Ends.Below_threshold not_full
          (subst (λ count. count < a.threshold) (view_zero_count-seen a good.placed) below) no_lines refl;
      left_is = same;
    }
end-shown a good full log left (ViewEnds.At_threshold not_full reached reaps) =
    let shown = reap-shown a good log left reaps in
    record {
      state = shown.state;
      ends = Ends.At_threshold not_full
          (subst (λ count. a.threshold ≤ count) (view_zero_count-seen a good.placed) reached) shown.reaps;
      left_is = shown.left_is;
    }
