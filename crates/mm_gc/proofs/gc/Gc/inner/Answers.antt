use Rattle.std.proofs.Common.{arith}
use Rattle.std.proofs.lemmas.Result.{err_from_is_err_and}
use Rattle.mm_model.specs.declared.command.Command.TheVariants as commands
use Rattle.mm_gc.specs.Gc.{view_of_gc}
use Rattle.mm_gc.specs.Inside.{gc_of}
use Rattle.mm_gc.proofs.Meaning.{unmeant-answers, begins-read, base_below, address_small}
use Rattle.mm_gc.proofs.Meaning.{offset_within, inner-out, inner-answers}
use Rattle.mm_gc.proofs.Rows.Reading.{inner-no_cell, inner-nothing}
use Rattle.mm_gc.proofs.gc.Gc.inner.Goals as goal

pub returns-in_err-meant-clause-row : goal.returns-in_err-meant-clause-row
returns-in_err-meant-clause-row g c =
    let gc = c.args.self.now in
    let p = err_from_is_err_and c.from_residual.result c.from_residual.ensures.1 in
    rw (p.1, p.2)
    (unmeant-answers gc c.args.i (commands.Inner c.args.i c.args.d) c.in_err-meant.field-0.0
    c.in_err-meant.ensures.answer (inner-no_cell (view_of_gc gc) c.args.i c.args.d)
    (inner-nothing (view_of_gc gc) c.args.i c.args.d))

pub overflow_sub-extent : goal.overflow_sub-extent
overflow_sub-extent g c =
    let m = c.in_ok-meant.meant in
    let extent = c.extent-extent.ensures.extent c.in_ok-meant.ensures.answer.object
    (begins-read c.args.self.now (gc_of c.self.inside) c.args.i m.word m.found c.self.view_is
    c.in_ok-meant.ensures.answer) in
    offset_within c.args.self.now c.args.i m.word m.found c.in_ok-meant.ensures.answer c.args.d c.extent-extent.result
    extent

pub returns-then-extent-offset-clause-row : goal.returns-then-extent-offset-clause-row
returns-then-extent-offset-clause-row g c =
    let m = c.in_ok-meant.meant in
    let extent = c.extent-extent.ensures.extent c.in_ok-meant.ensures.answer.object
    (begins-read c.args.self.now (gc_of c.self.inside) c.args.i m.word m.found c.self.view_is
    c.in_ok-meant.ensures.answer) in
    inner-out c.args.self.now c.args.i m.word m.found c.in_ok-meant.ensures.answer c.args.d c.extent-extent.result
    extent c.if-extent-offset.true

pub overflow_add-meant : goal.overflow_add-meant
overflow_add-meant g c =
    let m = c.in_ok-meant.meant in
    let begins =
    begins-read c.args.self.now (gc_of c.self.inside) c.args.i m.word m.found c.self.view_is
    c.in_ok-meant.ensures.answer in
    omega (
      arith,
      address_small c.self.inside.region.heap m.found.base m.word c.args.d c.extent-extent.result
          c.in_ok-meant.ensures.answer.object c.extent-extent.ensures.sound begins
          (c.extent-extent.ensures.extent c.in_ok-meant.ensures.answer.object begins)
          (base_below c.args.self.now c.args.i m.word m.found c.in_ok-meant.ensures.answer) c.if-extent-offset.false,
    )

pub returns-clause-row : goal.returns-clause-row
returns-clause-row g c =
    let m = c.in_ok-meant.meant in
    let extent = c.extent-extent.ensures.extent c.in_ok-meant.ensures.answer.object
    (begins-read c.args.self.now (gc_of c.self.inside) c.args.i m.word m.found c.self.view_is
    c.in_ok-meant.ensures.answer) in
    inner-answers c.args.self.now c.args.i m.word m.found c.in_ok-meant.ensures.answer c.args.d
    c.extent-extent.result extent c.push_word.new.self c.push_word.result c.if-extent-offset.false
    c.push_word.ensures
