use Rattle.std.proofs.Common.{sym, ◌∙◌}
use Rattle.std.proofs.lemmas.Result.{err_from_is_err_and}
use Rattle.mm_model.specs.declared.command.Command.TheVariants as commands
use Rattle.mm_gc.specs.Gc.{view_of_gc}
use Rattle.mm_gc.specs.Inside.{gc_of}
use Rattle.mm_gc.proofs.Meaning.{unmeant-answers, begins-read, look-out, look-answers}
use Rattle.mm_gc.proofs.Rows.Reading.{look-no_cell, look-nothing}
use Rattle.mm_gc.proofs.gc.Gc.look.Goals as goal

pub returns-in_err-meant-clause-row : goal.returns-in_err-meant-clause-row
returns-in_err-meant-clause-row g c =
    let gc = c.args.self.now in
    let p = err_from_is_err_and c.from_residual.result c.from_residual.ensures.1 in
    rw (p.1, p.2)
    (unmeant-answers gc c.args.i (commands.Look c.args.i) c.in_err-meant.field-0.0
    c.in_err-meant.ensures.answer (look-no_cell (view_of_gc gc) c.args.i)
    (look-nothing (view_of_gc gc) c.args.i))

pub returns-then-not-is_weak-clause-row : goal.returns-then-not-is_weak-clause-row
returns-then-not-is_weak-clause-row g c =
    let m = c.in_ok-meant.meant in
    look-out c.args.self.now c.args.i m.word m.found c.in_ok-meant.ensures.answer
    (sym c.is_weak.ensures ∙ c.if-not-is_weak.true)

pub returns-clause-row : goal.returns-clause-row
returns-clause-row g c =
    let m = c.in_ok-meant.meant in
    let word = c.target-word.ensures.link c.in_ok-meant.ensures.answer.object
    (begins-read c.args.self.now (gc_of c.self.inside) c.args.i m.word m.found c.self.view_is
    c.in_ok-meant.ensures.answer) in
    look-answers c.args.self.now c.args.i m.word m.found c.in_ok-meant.ensures.answer c.target-word.result
    c.push_word.new.self c.push_word.result (sym c.is_weak.ensures ∙ c.if-not-is_weak.false) word
    c.push_word.ensures
