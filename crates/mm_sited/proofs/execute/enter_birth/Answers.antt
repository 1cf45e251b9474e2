use Rattle.std.proofs.Common.{Some, None, ap, ◌∙◌}
use Rattle.mm_model.specs.declared.command.Command.{Command}
use Rattle.mm_model.specs.declared.command.Command.TheVariants as commands
use Rattle.mm_model.specs.declared.reply.Reply.{Reply}
use Rattle.mm_model.specs.Effect.{weak_shape}
use Rattle.mm_model.specs.Logs.Turns.{births_if}
use Rattle.mm_model.specs.Meaning.{meant_at}
use Rattle.mm_sited.proofs.execute.enter_birth.Goals as goal

pub enter-requires-clause-free : goal.enter-requires-clause-free
enter-requires-clause-free c =
    let a = c.requires.free.state in
    c.requires.free.free (record { base = c.in-New-New.base; shape = c.in-New-New.shape; target = None })
    (ap (λ (m : Command). births_if a m (Some c.args.reply)) c.in-New-New.is-0
    ∙ ap (λ (r : Reply). births_if a (commands.New c.in-New-New.shape) (Some r)) c.in-New-New.is-1)

pub enter-requires-in-Weak-New-clause-free : goal.enter-requires-in-Weak-New-clause-free
enter-requires-in-Weak-New-clause-free c =
    let a = c.requires.free.state in
    c.requires.free.free
    (record { base = c.in-Weak-New.base; shape = weak_shape; target = meant_at a c.in-Weak-New.field-0-0 })
    (ap (λ (m : Command). births_if a m (Some c.args.reply)) c.in-Weak-New.is-0
    ∙ ap (λ (r : Reply). births_if a (commands.Weak c.in-Weak-New.field-0-0) (Some r)) c.in-Weak-New.is-1)
