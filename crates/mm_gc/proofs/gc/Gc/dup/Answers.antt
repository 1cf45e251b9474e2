use Rattle.std.proofs.Common.{Ok}
use Rattle.std.proofs.lemmas.Result.{err_from_is_err_and}
use Rattle.mm_model.specs.declared.command.Command.TheVariants as commands
use Rattle.mm_gc.specs.Gc.{view_of_gc}
use Rattle.mm_gc.proofs.Pushing.{no_cell-answers, full-answers, done-answers}
use Rattle.mm_gc.proofs.Rows.Cells.{dup-no_cell, dup-full, dup-row}
use Rattle.mm_gc.proofs.gc.Gc.dup.Goals as goal

pub returns-in_err-word-clause-row : goal.returns-in_err-word-clause-row
returns-in_err-word-clause-row g c =
    let old = c.args.self.now in
    let p = err_from_is_err_and c.from_residual.result c.from_residual.ensures.1 in
    rw (p.1, p.2)
    (no_cell-answers old c.args.i (commands.Dup c.args.i) c.in_err-word.field-0.0 c.in_err-word.ensures.answer
    (dup-no_cell (view_of_gc old) c.args.i))

pub returns-in_err-push_word-clause-row : goal.returns-in_err-push_word-clause-row
returns-in_err-push_word-clause-row g c =
    let old = c.args.self.now in
    let p = err_from_is_err_and c.from_residual-in_err-push_word.result c.from_residual-in_err-push_word.ensures.1 in
    rw (p.1, p.2)
    (full-answers old c.push_word.new.self c.in_ok-word.word (commands.Dup c.args.i)
    (dup-full (view_of_gc old) c.args.i c.in_ok-word.word c.in_ok-word.ensures.answer) c.in_err-push_word.field-0.0
    c.in_err-push_word.ensures)

pub returns-clause-row : goal.returns-clause-row
returns-clause-row g c =
    let old = c.args.self.now in
    done-answers old c.push_word.new.self c.in_ok-word.word (commands.Dup c.args.i)
    (dup-full (view_of_gc old) c.args.i c.in_ok-word.word c.in_ok-word.ensures.answer)
    (Ok c.in_ok-push_word.field-0) c.in_ok-push_word.ensures
    (dup-row (view_of_gc old) c.args.i c.in_ok-word.word c.in_ok-word.ensures.answer)
