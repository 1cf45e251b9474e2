use Rattle.std.proofs.Common.{ap, refl, ◌∙◌}
use Rattle.mm_model.specs.declared.command.Command.TheVariants as commands
use Rattle.mm_pace.specs.Rules.{command_if}
use Rattle.mmgc.proofs.Pacing.Driven.{applies-none, applies-one, end-due}
use Rattle.mmgc.proofs.pacer.finish_in_time.Goals as goal

pub returns-then-is_end_due-clause-applied : goal.returns-then-is_end_due-clause-applied
returns-then-is_end_due-clause-applied g c settings turns d =
    applies-one
    (end-due d c.is_end_due.result c.the_last_turn_tells_of_the_state.ensures.runs c.is_end_due.ensures
    ∙ ap (λ b. command_if b commands.Finish) c.if-is_end_due.true) (λ a base. refl)
    (c.carry_out.ensures.driven settings turns d)

pub returns-else-is_end_due-clause-applied : goal.returns-else-is_end_due-clause-applied
returns-else-is_end_due-clause-applied g c settings turns d =
    applies-none
    (end-due d c.is_end_due.result c.the_last_turn_tells_of_the_state.ensures.runs c.is_end_due.ensures
    ∙ ap (λ b. command_if b commands.Finish) c.if-is_end_due.false) d
