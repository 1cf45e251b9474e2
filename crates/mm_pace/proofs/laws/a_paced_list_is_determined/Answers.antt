-- The lemma says it.
use Rattle.mm_pace.proofs.Determined.{paced-same}
use Rattle.mm_pace.proofs.laws.a_paced_list_is_determined.Goals as goal

pub returns : goal.returns
returns c = record {
  commands = λ rate settings trace log commands others p q.
      (paced-same rate settings trace log commands others p q).2;
  turns = λ rate settings trace log commands others p q. (paced-same rate settings trace log commands others p q).0;
  own = λ rate settings trace log commands others p q. (paced-same rate settings trace log commands others p q).1;
}
