-- The lemmas say it.
use Rattle.mm_model.proofs.Steps.Determining.{lines_determine_the_state, one_group_leads_to_one_state}
use Rattle.mm_laws.proofs.steps.lines_determine_the_state.Goals as goal

pub returns : goal.returns
returns c = record { after = lines_determine_the_state; one_state = one_group_leads_to_one_state }
