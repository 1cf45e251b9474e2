use Rattle.std.proofs.Common.{◌≡◌, ◌+◌, ◌*◌}
use Rattle.mm_cells.specs.Cells.{IsSoundCells}
use Rattle.mm_cells.specs.Looking.{Whitens}
use Rattle.mm_cells.proofs.cells.Cells.whiten.Given as goal

abbrev pub invariant-loop-page : goal.invariant-loop-page
invariant-loop-page g l = record {
  white : Whitens l.fn.self l.self 0 (4096 * l.page);
  sound : IsSoundCells l.self;
  ticked : l.steps ≡ l.initial.steps + l.page;
}
