use Rattle.std.proofs.Common.{◌≡◌, ◌+◌, ◌-◌, ◌/◌, ◌≤◌}
use Rattle.mm_cells.specs.declared.marks.Sought.TheVariants as sought
use Rattle.mm_cells.proofs.Region.Lowest.{NoneBefore}
use Rattle.mm_cells.proofs.cells.Cells.next_taken.Given as goal

abbrev pub invariant-loop-page : goal.invariant-loop-page
invariant-loop-page g l = record {
  passed : NoneBefore l.self l.page sought.Taken l.from;
  ticked : l.steps ≡ l.initial.steps + (l.page - l.from / 4096);
  few : l.page - l.from / 4096 ≤ l.self.pages - l.from / 4096;
}
