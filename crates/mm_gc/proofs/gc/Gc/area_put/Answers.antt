use Rattle.std.proofs.Common.{◌≡◌, Some, sym, subst}
use Rattle.std.specs.Prelude.{slice_get}
use Rattle.std.proofs.lemmas.Result.{err_from_is_err_and}
use Rattle.mm_model.specs.declared.command.Command.TheVariants as commands
use Rattle.mm_gc.specs.AreaCells.{IsAreaCell}
use Rattle.mm_gc.specs.Gc.{Gc, view_of_gc}
use Rattle.mm_gc.specs.Inside.{gc_of}
use Rattle.mm_gc.specs.Replies.{put_reply}
use Rattle.mm_gc.specs.Rows.{Answers}
use Rattle.mm_gc.proofs.AreaCells.AreaPuts.{has-cell, store, slot-at, store-at, area_put-answers, area_put-keeps}
use Rattle.mm_gc.proofs.AreaCells.AreaPuts.{changed_region}
use Rattle.mm_gc.proofs.AreaCells.AreaReads.{no_area_cell-answers}
use Rattle.mm_gc.proofs.Keeping.KeptParts.{with_region}
use Rattle.mm_gc.proofs.Pushing.{no_cell-answers}
use Rattle.mm_gc.proofs.Rows.Areas.{area_put-no_cell, area_put-no_area, area_put-no_slot}
use Rattle.mm_gc.proofs.gc.Gc.area_put.Goals as goal

pub returns-in_err-word-clause-row : goal.returns-in_err-word-clause-row
returns-in_err-word-clause-row g c =
    let gc = c.args.self.now in
    let p = err_from_is_err_and c.from_residual.result c.from_residual.ensures.1 in
    rw (p.1, p.2)
    (no_cell-answers gc c.args.j (commands.AreaPut c.args.number c.args.s c.args.j) c.in_err-word.field-0.0
    c.in_err-word.ensures.answer (area_put-no_cell (view_of_gc gc) c.args.number c.args.s c.args.j))

pub returns-in_err-slot-clause-row : goal.returns-in_err-slot-clause-row
returns-in_err-slot-clause-row g c =
    let gc = c.args.self.now in
    let view = view_of_gc gc in
    let word = c.in_ok-word.word in
    let p = err_from_is_err_and c.from_residual-in_err-slot.result c.from_residual-in_err-slot.ensures.1 in
    rw (p.1, p.2)
    (no_area_cell-answers gc c.args.number c.args.s (commands.AreaPut c.args.number c.args.s c.args.j)
    c.in_err-slot.field-0.0 c.in_err-slot.ensures.answer
    (area_put-no_area view c.args.number c.args.s c.args.j word c.in_ok-word.ensures.answer)
    (λ none. area_put-no_slot view c.args.number c.args.s c.args.j word none.area c.in_ok-word.ensures.answer none.lives
    none.past))

pub write_cell-requires-clause-cell : goal.write_cell-requires-clause-cell
write_cell-requires-clause-cell g c =
    let cell = subst (λ (gc : Gc). IsAreaCell (view_of_gc gc) c.args.number c.args.s c.in_ok-slot.slot)
    (sym c.self.view_is) c.in_ok-slot.ensures.answer in
    has-cell (gc_of c.self.inside) c.args.number c.args.s c.in_ok-slot.slot cell

pub write_cell-requires-clause-store : goal.write_cell-requires-clause-store
write_cell-requires-clause-store g c =
    let cell = subst (λ (gc : Gc). IsAreaCell (view_of_gc gc) c.args.number c.args.s c.in_ok-slot.slot)
    (sym c.self.view_is) c.in_ok-slot.ensures.answer in
    let stack = subst (λ (gc : Gc). slice_get gc.stack.words c.args.j ≡ Some c.in_ok-word.word) (sym c.self.view_is)
    c.in_ok-word.ensures.answer in
    slot-at (gc_of c.self.inside) c.self.invariant c.args.number c.args.s c.args.j c.in_ok-word.word c.in_ok-slot.slot
    cell stack

pub invariant_of-self : goal.invariant_of-self
invariant_of-self g c =
    let gc = gc_of c.self.inside in
    let cell = subst (λ (gc : Gc). IsAreaCell (view_of_gc gc) c.args.number c.args.s c.in_ok-slot.slot)
    (sym c.self.view_is) c.in_ok-slot.ensures.answer in
    let stack = subst (λ (gc : Gc). slice_get gc.stack.words c.args.j ≡ Some c.in_ok-word.word) (sym c.self.view_is)
    c.in_ok-word.ensures.answer in
    area_put-keeps gc c.self.invariant c.args.number c.args.s c.args.j c.in_ok-word.word c.in_ok-slot.slot cell stack
    c.write_cell.new.heap c.write_cell.new.areas c.write_cell.new.count c.write_cell.ensures.areas
    c.write_cell.ensures.rest c.write_cell.ensures.table c.write_cell.ensures.sound c.write_cell.result
    (c.write_cell.ensures.answer
    (store gc c.self.invariant c.args.number c.args.s c.args.j c.in_ok-word.word c.in_ok-slot.slot cell stack)
    (store-at gc c.self.invariant c.args.number c.args.s c.args.j c.in_ok-word.word c.in_ok-slot.slot cell stack)
    cell.slot_is) c.write_cell.ensures.same_heap c.write_cell.ensures.same_table

pub returns-clause-row : goal.returns-clause-row
returns-clause-row g c =
    let gc = gc_of c.self.inside in
    let cell = subst (λ (gc : Gc). IsAreaCell (view_of_gc gc) c.args.number c.args.s c.in_ok-slot.slot)
    (sym c.self.view_is) c.in_ok-slot.ensures.answer in
    let stack = subst (λ (gc : Gc). slice_get gc.stack.words c.args.j ≡ Some c.in_ok-word.word) (sym c.self.view_is)
    c.in_ok-word.ensures.answer in
    subst (λ (old : Gc). Answers old
    (with_region gc (changed_region gc c.self.invariant c.args.number c.args.s c.args.j c.in_ok-word.word
    c.in_ok-slot.slot cell stack c.write_cell.new.heap c.write_cell.new.areas c.write_cell.new.count)
    c.write_cell.new.count)
    (commands.AreaPut c.args.number c.args.s c.args.j) (put_reply c.write_cell.result)) c.self.view_is
    (area_put-answers gc c.self.invariant c.args.number c.args.s c.args.j c.in_ok-word.word c.in_ok-slot.slot
    cell stack c.write_cell.new.heap c.write_cell.new.areas c.write_cell.new.count c.write_cell.ensures.areas
    c.write_cell.ensures.rest c.write_cell.ensures.table c.write_cell.ensures.sound c.write_cell.result
    (c.write_cell.ensures.answer
    (store gc c.self.invariant c.args.number c.args.s c.args.j c.in_ok-word.word c.in_ok-slot.slot cell stack)
    (store-at gc c.self.invariant c.args.number c.args.s c.args.j c.in_ok-word.word c.in_ok-slot.slot cell stack)
    cell.slot_is) c.write_cell.ensures.same_heap c.write_cell.ensures.same_table)
