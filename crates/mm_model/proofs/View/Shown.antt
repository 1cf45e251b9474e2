-- A view shows a state where it is the view of the state.
use Rattle.std.proofs.Common.{◌≡◌, refl}
use Rattle.mm_model.specs.State.{State}
use Rattle.mm_model.specs.Views.View.{View, Shows, view_of}

pub shown-is : (view : View) (a : State) → Shows view a → view ≡ view_of a
shown-is view a shows =
    λ t.
    record {
      objects = shows.objects t;
      stack = shows.stack t;
      areas = shows.areas t;
      cycle = shows.cycle t;
      threshold = shows.threshold t;
      totals = shows.totals t;
      settings = shows.settings t;
    }

pub view_of-shows : (a : State) → Shows (view_of a) a
view_of-shows a =
    record {
      objects = refl;
      stack = refl;
      areas = refl;
      cycle = refl;
      threshold = refl;
      totals = refl;
      settings = refl;
    }
