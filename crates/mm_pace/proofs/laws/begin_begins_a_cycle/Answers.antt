-- The lemma says it.
use Rattle.mm_pace.proofs.Beginning.{begin-step}
use Rattle.mm_pace.proofs.laws.begin_begins_a_cycle.Goals as goal

pub returns : goal.returns
returns c = record {
  runs = λ a group b idle step. (begin-step a group b idle step).runs;
  reply = λ a group b idle step. (begin-step a group b idle step).reply;
}
