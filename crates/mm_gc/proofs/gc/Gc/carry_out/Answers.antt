use Rattle.mm_model.specs.declared.command.Command.TheVariants as commands
use Rattle.mm_gc.specs.Replies.{new_reply, weak_reply, put_reply, done_reply}
use Rattle.mm_gc.proofs.Keeping.Numbered.{answers-commands, tells-commands}
use Rattle.mm_gc.proofs.gc.Gc.carry_out.Goals as goal

pub returns-in-New-clause-commands : goal.returns-in-New-clause-commands
returns-in-New-clause-commands g c =
    tells-commands c.args.self.now c.create.new.self (commands.New c.in-New.shape) (new_reply c.create.result)
    (g.J.Finalizer.tells c.args.journal.now c.create.new.journal)
    c.create.ensures.row

pub returns-in-Put-clause-commands : goal.returns-in-Put-clause-commands
returns-in-Put-clause-commands g c =
    answers-commands c.args.self.now c.put.new.self (commands.Put c.in-Put.i c.in-Put.s c.in-Put.j)
    (put_reply c.put.result) c.put.ensures.row

pub returns-in-Weak-clause-commands : goal.returns-in-Weak-clause-commands
returns-in-Weak-clause-commands g c =
    tells-commands c.args.self.now c.weak.new.self (commands.Weak c.in-Weak.i) (weak_reply c.weak.result)
    (g.J.Finalizer.tells c.args.journal.now c.weak.new.journal)
    c.weak.ensures.row

pub returns-in-AreaPut-clause-commands : goal.returns-in-AreaPut-clause-commands
returns-in-AreaPut-clause-commands g c =
    answers-commands c.args.self.now c.area_put.new.self
    (commands.AreaPut c.in-AreaPut.number c.in-AreaPut.s c.in-AreaPut.j) (put_reply c.area_put.result)
    c.area_put.ensures.row

pub returns-in-Step-clause-commands : goal.returns-in-Step-clause-commands
returns-in-Step-clause-commands g c =
    tells-commands c.args.self.now c.step.new.self (commands.Step c.in-Step.k) (done_reply c.step.result)
    (g.J.Finalizer.tells c.args.journal.now c.step.new.journal)
    c.step.ensures.row
