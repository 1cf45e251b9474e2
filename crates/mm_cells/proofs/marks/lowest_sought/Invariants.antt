-- No cell is sought in the words that were passed, from `from` on.
use Rattle.std.proofs.Common.{◌*◌}
use Rattle.mm_cells.specs.Marks.{page_marks, NoneSought}
use Rattle.mm_cells.proofs.marks.lowest_sought.Given as goal

abbrev pub invariant-loop-word : goal.invariant-loop-word
invariant-loop-word l = NoneSought l.sought (page_marks l.table l.first_word) l.from (8 * l.word)
