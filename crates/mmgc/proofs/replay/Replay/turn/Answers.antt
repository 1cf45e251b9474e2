use Rattle.std.proofs.Common.{refl, arith}
use Rattle.mm_io.proofs.ToldLemmas.{Gives-nothing}
use Rattle.mmgc.specs.Keeping.{keeps-trans}
use Rattle.mmgc.proofs.Replays.{progress-written_out}
use Rattle.mmgc.proofs.Ends.{ended-write_fault}
use Rattle.mmgc.proofs.replay.Replay.turn.Goals as goal

pub returns-in-Ok-clause-turned : goal.returns-in-Ok-clause-turned
returns-in-Ok-clause-turned g c start bytes room p =
    c.read_on.ensures.turned start bytes room (progress-written_out p c.settle.ensures.written)

pub returns-in-Ok-clause-kept : goal.returns-in-Ok-clause-kept
returns-in-Ok-clause-kept g c = keeps-trans c.settle.ensures.kept c.read_on.ensures.kept

pub returns-in-Err-clause-turned : goal.returns-in-Err-clause-turned
returns-in-Err-clause-turned g c start bytes room p =
    ended-write_fault (omega (arith, room)) (Gives-nothing (g.S.Source.left c.args.source.now))
    (progress-written_out p c.settle.ensures.written) (c.in-Err.ensures.broken.0 refl)
