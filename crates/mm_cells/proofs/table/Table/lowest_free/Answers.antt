-- The marks of the page are those that begin at its first word.
use Rattle.std.proofs.Common.{ℕ, MatchOption, subst, sym, ap, ◌∙◌, ◌*◌}
use Rattle.mm_cells.specs.declared.marks.Mark.{Mark}
use Rattle.mm_cells.specs.Marks.{page_marks, NoneFree, IsLowestFree}
use Rattle.mm_cells.proofs.Tables.Maps.{page_marks-map}
use Rattle.mm_cells.proofs.table.Table.lowest_free.Goals as goal

pub lowest_free-requires-clause-passed : goal.lowest_free-requires-clause-passed
lowest_free-requires-clause-passed c =
    let same = ap (λ s. page_marks s (32 * c.args.page)) c.marks-marks.ensures.part
    ∙ page_marks-map c.args.self.now c.args.page in
    subst (λ (marks : ℕ → Mark). NoneFree marks c.args.from) (sym same) c.requires.passed

pub returns : goal.returns
returns c =
    let same = ap (λ s. page_marks s (32 * c.args.page)) c.marks-marks.ensures.part
    ∙ page_marks-map c.args.self.now c.args.page in
    subst (λ (marks : ℕ → Mark).
    MatchOption c.lowest_free.result (NoneFree marks c.args.cells) (λ cell. IsLowestFree marks c.args.cells cell))
    same c.lowest_free.ensures
