use Rattle.std.proofs.Common.{ap, refl, ◌∙◌}
use Rattle.mm_model.specs.declared.command.Command.TheVariants as commands
use Rattle.mm_pace.specs.Rules.{command_if}
use Rattle.mmgc.proofs.Pacing.Driven.{applies-none, applies-one, begin-due}
use Rattle.mmgc.proofs.pacer.begin_in_time.Goals as goal

pub returns-then-is_begin_due-clause-applied : goal.returns-then-is_begin_due-clause-applied
returns-then-is_begin_due-clause-applied g c settings turns d =
    let tells = c.the_last_turn_tells_of_the_state.ensures in
    applies-one
    (begin-due d c.is_begin_due.result tells.runs tells.work c.is_begin_due.ensures
    ∙ ap (λ b. command_if b commands.Begin) c.if-is_begin_due.true) (λ a base. refl)
    (c.carry_out.ensures.driven settings turns d)

pub returns-else-is_begin_due-clause-applied : goal.returns-else-is_begin_due-clause-applied
returns-else-is_begin_due-clause-applied g c settings turns d =
    let tells = c.the_last_turn_tells_of_the_state.ensures in
    applies-none
    (begin-due d c.is_begin_due.result tells.runs tells.work c.is_begin_due.ensures
    ∙ ap (λ b. command_if b commands.Begin) c.if-is_begin_due.false) d
