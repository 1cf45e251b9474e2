use Rattle.std.proofs.lemmas.Result.{err_from_is_err_and}
use Rattle.mm_model.specs.declared.command.Command.TheVariants as commands
use Rattle.mm_gc.specs.Gc.{view_of_gc}
use Rattle.mm_gc.specs.Inside.{gc_of}
use Rattle.mm_gc.proofs.Meaning.{unmeant-answers, begins-read, get-out, get-answers}
use Rattle.mm_gc.proofs.Rows.Reading.{get-no_cell, get-nothing}
use Rattle.mm_gc.proofs.gc.Gc.get.Goals as goal

pub returns-in_err-meant-clause-row : goal.returns-in_err-meant-clause-row
returns-in_err-meant-clause-row g c =
    let gc = c.args.self.now in
    let p = err_from_is_err_and c.from_residual.result c.from_residual.ensures.1 in
    rw (p.1, p.2)
    (unmeant-answers gc c.args.i (commands.Get c.args.i c.args.s) c.in_err-meant.field-0.0
    c.in_err-meant.ensures.answer (get-no_cell (view_of_gc gc) c.args.i c.args.s)
    (get-nothing (view_of_gc gc) c.args.i c.args.s))

pub returns-then-meant-s-clause-row : goal.returns-then-meant-s-clause-row
returns-then-meant-s-clause-row g c =
    get-out c.args.self.now c.args.i c.in_ok-meant.meant.word c.in_ok-meant.meant.found c.in_ok-meant.ensures.answer
    c.args.s c.if-meant-s.true

pub returns-clause-row : goal.returns-clause-row
returns-clause-row g c =
    let m = c.in_ok-meant.meant in
    let word = c.slot_word-word.ensures.word c.in_ok-meant.ensures.answer.object
    (begins-read c.args.self.now (gc_of c.self.inside) c.args.i m.word m.found c.self.view_is
    c.in_ok-meant.ensures.answer) in
    get-answers c.args.self.now c.args.i m.word m.found c.in_ok-meant.ensures.answer c.args.s c.slot_word-word.result
    c.push_word.new.self c.push_word.result c.if-meant-s.false word c.push_word.ensures
