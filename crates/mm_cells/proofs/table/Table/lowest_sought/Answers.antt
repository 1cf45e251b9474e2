-- The marks of the page are those that begin at its first word.
use Rattle.std.proofs.Common.{ℕ, MatchOption, subst, ap, ◌∙◌, ◌*◌}
use Rattle.mm_cells.specs.declared.marks.Mark.{Mark}
use Rattle.mm_cells.specs.Marks.{page_marks, NoneSought, IsLowestSought}
use Rattle.mm_cells.proofs.Tables.Maps.{page_marks-map}
use Rattle.mm_cells.proofs.table.Table.lowest_sought.Goals as goal

pub returns : goal.returns
returns c =
    let same = ap (λ s. page_marks s (32 * c.args.page)) c.marks-marks.ensures.part
    ∙ page_marks-map c.args.self.now c.args.page in
    subst (λ (marks : ℕ → Mark).
    MatchOption c.lowest_sought.result (NoneSought c.args.sought marks c.args.from c.args.cells)
    (λ cell. IsLowestSought c.args.sought marks c.args.from c.args.cells cell)) same c.lowest_sought.ensures
