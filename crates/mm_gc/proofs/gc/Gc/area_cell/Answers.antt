use Rattle.std.proofs.Common.{◌≡◌, None, subst}
use Rattle.mm_model.specs.Views.ViewWords.{area_in}
use Rattle.mm_roots.specs.declared.area_shape.AreaRefusal.TheVariants as why
use Rattle.mm_gc.specs.AreaCells.{IsAreaCell, HasNoAreaCell}
use Rattle.mm_gc.specs.Gc.{Gc, view_of_gc}
use Rattle.mm_gc.specs.Inside.{gc_of}
use Rattle.mm_gc.proofs.AreaCells.AreaReads.{cause-is, area_in-is, cell-read, no_cell-read}
use Rattle.mm_gc.proofs.gc.Gc.area_cell.Goals as goal

pub returns-in-Ok-clause-answer : goal.returns-in-Ok-clause-answer
returns-in-Ok-clause-answer g c =
    subst (λ (gc : Gc). IsAreaCell (view_of_gc gc) c.args.number c.args.s c.in-Ok.slot) c.self.view_is
    (cell-read (gc_of c.self.inside) c.args.number c.args.s c.in-Ok.slot c.in-Ok.ensures.cause c.in-Ok.ensures.slot)

pub returns-in-Err-NoArea-clause-answer : goal.returns-in-Err-NoArea-clause-answer
returns-in-Err-NoArea-clause-answer g c =
    subst (λ (gc : Gc). area_in (view_of_gc gc) c.args.number ≡ None) c.self.view_is
    (area_in-is (gc_of c.self.inside) c.args.number None
    (cause-is (gc_of c.self.inside).region.areas c.args.number c.args.s c.in-Err-NoArea.field-0 why.NoArea
    c.in-Err-NoArea.field-0-is c.in-Err-NoArea.ensures.cause))

pub returns-in-Err-NoSlot-clause-answer : goal.returns-in-Err-NoSlot-clause-answer
returns-in-Err-NoSlot-clause-answer g c =
    subst (λ (gc : Gc). HasNoAreaCell (view_of_gc gc) c.args.number c.args.s) c.self.view_is
    (no_cell-read (gc_of c.self.inside) c.args.number c.args.s
    (cause-is (gc_of c.self.inside).region.areas c.args.number c.args.s c.in-Err-NoSlot.field-0 why.NoSlot
    c.in-Err-NoSlot.field-0-is c.in-Err-NoSlot.ensures.cause))
