use Rattle.mm_model.proofs.View.GoodViews.{shown_is_good}
use Rattle.mm_laws.proofs.views.good_states_have_good_views.Goals as goal

pub returns : goal.returns
returns c = shown_is_good
