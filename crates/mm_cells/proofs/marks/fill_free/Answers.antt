-- Each word of the page has eight free cells.
use Rattle.std.proofs.Common.{◌≡◌, ◌+◌, ◌*◌, ◌/◌, ◌%◌, get_or, inl, inr, sym, ap, ◌∙◌, arith}
use Rattle.mm_cells.specs.declared.marks.TheConstants.{ALL_FREE}
use Rattle.mm_cells.specs.Marks.{code_in, code_of_cell}
use Rattle.mm_cells.proofs.Bits.Free.{ALL_FREE-code}
use Rattle.mm_cells.proofs.Bits.Pages.{page_codes-word}
use Rattle.mm_cells.proofs.marks.fill_free.Goals as goal

pub returns-clause-page : goal.returns-clause-page
returns-clause-page c = λ cell within.
    let table = c.loop-word.table in
    let first = c.args.first_word in
    let whole : 8 * (cell / 8) + cell % 8 ≡ cell = omega arith in
    let filled : get_or table (first + cell / 8) 0 ≡ ALL_FREE =
    c.loop-word.invariant.filled (first + cell / 8) (omega arith) (omega arith) in
    ap (λ k. code_of_cell table (8 * first + k)) (sym whole)
    ∙ page_codes-word table first (cell / 8) (cell % 8) (omega arith)
    ∙ ap (λ w. code_in w (cell % 8)) filled
    ∙ ALL_FREE-code (cell % 8) (omega arith)

pub returns-clause-others : goal.returns-clause-others
returns-clause-others c = λ cell apart.
    ap (λ w. code_in w (cell % 8)) (elim apart [
      | inl before ↦ c.loop-word.invariant.below (cell / 8) (omega arith)
      | inr behind ↦ c.loop-word.invariant.above (cell / 8) (omega arith)
    ])
