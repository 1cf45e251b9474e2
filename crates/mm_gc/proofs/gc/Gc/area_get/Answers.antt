use Rattle.std.proofs.lemmas.Result.{err_from_is_err_and}
use Rattle.mm_model.specs.declared.command.Command.TheVariants as commands
use Rattle.mm_gc.specs.Gc.{view_of_gc}
use Rattle.mm_gc.proofs.AreaCells.AreaReads.{no_area_cell-answers, area_get-answers}
use Rattle.mm_gc.proofs.Rows.Areas.{area_get-no_area, area_get-no_slot}
use Rattle.mm_gc.proofs.gc.Gc.area_get.Goals as goal

pub returns-in_err-slot-clause-row : goal.returns-in_err-slot-clause-row
returns-in_err-slot-clause-row g c =
    let gc = c.args.self.now in
    let p = err_from_is_err_and c.from_residual.result c.from_residual.ensures.1 in
    rw (p.1, p.2)
    (no_area_cell-answers gc c.args.number c.args.s (commands.AreaGet c.args.number c.args.s)
    c.in_err-slot.field-0.0 c.in_err-slot.ensures.answer
    (area_get-no_area (view_of_gc gc) c.args.number c.args.s)
    (λ none. area_get-no_slot (view_of_gc gc) c.args.number c.args.s none.area none.lives none.past))

pub returns-clause-row : goal.returns-clause-row
returns-clause-row g c =
    area_get-answers c.args.self.now c.push_word.new.self c.args.number c.args.s c.word_in.result
    c.in_ok-slot.slot c.in_ok-slot.ensures.answer c.word_in.ensures c.push_word.result c.push_word.ensures
