use Rattle.mm_model.specs.State.{empty_state}
use Rattle.mm_model.proofs.Good.Starting.{empty_is_good}
use Rattle.mm_model.proofs.Good.Steps.{run_is_good}
use Rattle.mm_laws.proofs.states.legal_logs_lead_to_good_states.Goals as goal

pub returns : goal.returns
returns c = λ settings commands log b least legal.
    run_is_good (empty_state settings) commands log b (empty_is_good settings least) legal
