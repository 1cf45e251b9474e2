use Rattle.std.proofs.Common.{◌<◌, ◌≤◌, ◌+◌, ◌*◌, ℕ, Option, None, sym, ◌∙◌, subst, arith}
use Rattle.std.specs.Prelude.{◌^◌}
use Rattle.mm_model.specs.declared.command.Command.TheVariants as commands
use Rattle.mm_model.specs.declared.refusal.Refusal.TheVariants as refusals
use Rattle.mm_model.specs.declared.reply.Reply.TheVariants as replies
use Rattle.mm_roots.specs.declared.area_shape.AreaShape.{AreaShape}
use Rattle.mm_gc.specs.Gc.{Gc, view_of_gc}
use Rattle.mm_gc.specs.Inside.{gc_of}
use Rattle.mm_gc.specs.Rows.{Answers}
use Rattle.mm_gc.specs.Steps.{IsDropCost, counted_cells}
use Rattle.mm_gc.proofs.AreaCells.AreaDrops.{has-cells, can-lower_all, settled-lowered, drop-answers, drop-keeps}
use Rattle.mm_gc.proofs.AreaCells.AreaReads.{area_in-is}
use Rattle.mm_gc.proofs.Keeping.KeptParts.{with_region}
use Rattle.mm_gc.proofs.Pushing.{refused-answers}
use Rattle.mm_gc.proofs.Rows.Areas.{drop-no_area}
use Rattle.mm_gc.proofs.gc.Gc.drop_area.Goals as goal

pub returns-in_default-clause-row : goal.returns-in_default-clause-row
returns-in_default-clause-row g c =
    let gc = gc_of c.self.inside in
    subst (λ (gc : Gc). Answers gc gc (commands.DropArea c.args.number) (replies.Refused refusals.NoArea))
    c.self.view_is
    (refused-answers gc (commands.DropArea c.args.number) refusals.NoArea
    (drop-no_area (view_of_gc gc) c.args.number
    (area_in-is gc c.args.number None (sym c.shape.ensures.shape ∙ c.in_default.is))))

pub lower_cells-requires-clause-cells : goal.lower_cells-requires-clause-cells
lower_cells-requires-clause-cells g c =
    has-cells (gc_of c.self.inside) c.self.invariant c.args.number c.in-Some.area (sym c.in-Some.ensures.shape)

pub lower_cells-requires-clause-can : goal.lower_cells-requires-clause-can
lower_cells-requires-clause-can g c =
    can-lower_all (gc_of c.self.inside) c.self.invariant c.args.number c.in-Some.area (sym c.in-Some.ensures.shape)

pub remove_area-requires : goal.remove_area-requires
remove_area-requires g c =
    record {
      settled = settled-lowered (gc_of c.self.inside) c.self.invariant c.args.number c.in-Some.area
          (sym c.in-Some.ensures.shape) c.lower_cells.new.heap c.lower_cells.ensures.views c.lower_cells.ensures.rest
          c.lower_cells.ensures.sound;
    }

pub invariant_of-self : goal.invariant_of-self
invariant_of-self g c =
    drop-keeps (gc_of c.self.inside) c.self.invariant c.args.number c.in-Some.area (sym c.in-Some.ensures.shape)
    c.lower_cells.new.heap c.lower_cells.ensures.views c.lower_cells.ensures.rest c.lower_cells.ensures.sound
    c.lower_cells.new.count c.remove_area.new.self c.remove_area.ensures.areas c.remove_area.ensures.objects
    c.lower_cells.ensures.table c.lower_cells.ensures.counts c.remove_area.ensures.same c.remove_area.ensures.settled

pub returns-clause-row : goal.returns-clause-row
returns-clause-row g c =
    subst (λ (old : Gc). Answers old
    (with_region (gc_of c.self.inside) c.remove_area.new.self c.lower_cells.new.count)
    (commands.DropArea c.args.number) replies.Done) c.self.view_is
    (drop-answers (gc_of c.self.inside) c.self.invariant c.args.number c.in-Some.area
    (sym c.in-Some.ensures.shape) c.lower_cells.new.heap c.lower_cells.ensures.views c.lower_cells.ensures.rest
    c.lower_cells.ensures.sound c.lower_cells.new.count c.remove_area.new.self c.remove_area.ensures.areas
    c.remove_area.ensures.objects)

pub returns-clause-cost : goal.returns-clause-cost
returns-clause-cost g c =
    subst (λ (old : Gc). IsDropCost old c.args.number c.args.steps.now c.remove_area.new.steps) c.self.view_is
    (λ digits few.
    let same = c.self.invariant.settled.keeps.tables.pages ∙ c.self.invariant.rooms.most in
    let lowered = subst
    (λ (area : Option AreaShape). c.lower_cells.new.steps ≤ c.args.steps.now + 9 * counted_cells area)
    c.in-Some.ensures.shape c.lower_cells.ensures.cost in
    let removed = c.remove_area.ensures.cost digits (subst (λ (n : ℕ). n < 2 ^ digits) (sym same) few) in
    omega (arith, lowered, removed))
