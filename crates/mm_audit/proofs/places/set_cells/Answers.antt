-- At the end all cells of the page are set.
use Rattle.std.proofs.Common.{◌+◌, subst, sym, arith}
use Rattle.mm_model.proofs.Places.SizeClasses.{class_bounds}
use Rattle.mm_audit.proofs.CellMarks.{AreFirstSet, own-inside, one-more}
use Rattle.mm_audit.proofs.places.set_cells.Goals as goal

pub nonzero_div-cell-end : goal.nonzero_div-cell-end
nonzero_div-cell-end c =
    let bounds = class_bounds c.args.extent c.requires.class in let least = bounds.least in omega arith

pub set-requires : goal.set-requires
set-requires c =
    record {
      inside = own-inside c.args.free.now c.loop-cell.free c.args.extent c.args.page c.loop-cell.cell c.args.member
          c.requires.class c.loop-cell-test.true c.loop-cell.invariant c.requires.page;
    }

pub loop-cell-preserved : goal.loop-cell-preserved
loop-cell-preserved c =
    let before = c.args.free.now in
    let inside = own-inside before c.loop-cell.free c.args.extent c.args.page c.loop-cell.cell c.args.member
    c.requires.class c.loop-cell-test.true c.loop-cell.invariant c.requires.page in
    subst (λ free. AreFirstSet before free c.args.extent c.args.page (c.loop-cell.cell + 1) c.args.member)
    (sym c.set.ensures)
    (one-more before c.loop-cell.free c.args.extent c.args.page c.loop-cell.cell c.args.member c.requires.class
    c.loop-cell-test.true c.loop-cell.invariant inside)

pub returns : goal.returns
returns c =
    let set = c.loop-cell.invariant in
    let past = c.loop-cell-test.false in
    record {
      size = set.size;
      here = λ grain at. let below = at.below in set.here grain at (omega arith);
      others = set.others;
    }
