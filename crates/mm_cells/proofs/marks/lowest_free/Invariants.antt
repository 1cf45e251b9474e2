-- No cell is free in the words that were passed.
use Rattle.std.proofs.Common.{◌*◌}
use Rattle.mm_cells.specs.Marks.{page_marks, NoneFree}
use Rattle.mm_cells.proofs.marks.lowest_free.Given as goal

abbrev pub invariant-loop-pair : goal.invariant-loop-pair
invariant-loop-pair l = NoneFree (page_marks l.table l.first_word) (16 * l.pair)
