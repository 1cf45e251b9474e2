use Rattle.mmgc.proofs.Ends.{ended-whole, ended-last_fault}
use Rattle.mmgc.proofs.replay.Replay.last_line.Goals as goal

pub returns-in-Ok-clause-ended : goal.returns-in-Ok-clause-ended
returns-in-Ok-clause-ended g c start bytes input fits none clean given p =
    ended-whole fits given none clean (c.in-Ok.ensures.stopped start bytes fits p)

pub returns-in-Err-clause-ended : goal.returns-in-Err-clause-ended
returns-in-Err-clause-ended g c start bytes input fits none clean given p =
    ended-last_fault fits given none clean _ (c.in-Err.ensures.stopped start bytes fits p)
