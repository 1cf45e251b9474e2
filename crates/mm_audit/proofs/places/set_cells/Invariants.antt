use Rattle.mm_audit.proofs.CellMarks.{AreFirstSet}
use Rattle.mm_audit.proofs.places.set_cells.Given as goal

abbrev pub invariant-loop-cell : goal.invariant-loop-cell
invariant-loop-cell l = AreFirstSet l.fn.free l.free l.extent l.page l.cell l.member
