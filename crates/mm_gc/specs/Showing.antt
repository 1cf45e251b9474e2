-- A view that shows a good state.
use Rattle.mm_model.specs.State.{State}
use Rattle.mm_model.specs.Good.{IsGood}
use Rattle.mm_model.specs.Views.View.{View, Shows}

pub record IsShowing (view : View) : Type 0 where
  pub state : State
  pub good : IsGood state
  pub shows : Shows view state
