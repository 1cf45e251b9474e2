use Rattle.mm_sited.proofs.Executing.{can-enter, executes-at}
use Rattle.mm_sited.proofs.execute.execute_at.Goals as goal

pub enter_birth-requires-clause-free : goal.enter_birth-requires-clause-free
enter_birth-requires-clause-free g c =
    can-enter c.args.gc.now c.execute_without-reply.new.gc c.args.command.now c.execute_without-reply.result
    (g.J.Finalizer.tells c.args.journal.now c.execute_without-reply.new.journal) c.args.sites.now
    c.execute_without-reply.new.sites c.execute_without-reply.ensures c.births_are_where_nothing_is_entered.ensures
    c.entries_follow_a_command.ensures.room c.requires.sites

pub returns : goal.returns
returns g c =
    executes-at c.args.gc.now c.execute_without-reply.new.gc c.args.command.now c.execute_without-reply.result
    (g.J.Finalizer.tells c.args.journal.now c.execute_without-reply.new.journal) c.args.sites.now
    c.execute_without-reply.new.sites c.execute_without-reply.ensures c.args.site c.enter_birth.new.sites
    c.entries_follow_a_command.ensures.entered c.entries_follow_a_command.ensures.births
    c.entries_follow_a_command.ensures.room c.enter_birth.ensures
