use Rattle.mmgc.proofs.exit_status.Goals as goal

pub returns-in-Some : goal.returns-in-Some
returns-in-Some g c = record { ran = (c.run-status.result.heap, c.run-status.ensures.ran) }

pub returns-in_default : goal.returns-in_default
returns-in_default g c = record { ran = (c.run-status.result.heap, c.run-status.ensures.ran) }
