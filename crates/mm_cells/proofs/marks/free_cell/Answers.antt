-- Another cell lies in another word, or at another place of the same word.
use Rattle.std.proofs.Common.{◌≡◌, ◌+◌, ◌*◌, ◌/◌, ◌%◌, ℕ, get_or, ap, sym, ◌∙◌, arith}
use Rattle.mm_cells.specs.Marks.{mark_in}
use Rattle.mm_cells.proofs.Bits.Pages.{code_of_cell-others, mark_of_cell-word, mark_of_cell-beside}
use Rattle.mm_cells.proofs.marks.free_cell.Goals as goal

pub returns-clause-others : goal.returns-clause-others
returns-clause-others c =
    code_of_cell-others c.args.table.now c.args.cell c.with_mark-freed.result c.requires
    c.with_mark-freed.ensures.others

pub returns-clause-had_free : goal.returns-clause-had_free
returns-clause-had_free c =
    let word : ℕ = get_or c.args.table.now (c.args.cell / 8) 0 in (
      (λ is.
          let has = c.has_free-had_free.ensures.0 is in
          let other : ℕ = c.args.cell / 8 * 8 + has.0 in
          let column : other % 8 ≡ has.0 = omega (arith, has.1) in
          let here : other / 8 ≡ c.args.cell / 8 = omega (arith, has.1) in (
            other,
            here,
            omega (arith, has.2, column),
            mark_of_cell-beside c.args.table.now c.args.cell other here ∙ ap (mark_in word) column ∙ has.3,
          )),
      (λ has.
          c.has_free-had_free.ensures.1 (
            has.0 % 8,
            omega arith,
            has.2,
            sym (mark_of_cell-beside c.args.table.now c.args.cell has.0 has.1) ∙ has.3,
          )),
    )

pub returns-clause-has_taken : goal.returns-clause-has_taken
returns-clause-has_taken c =
    let word = c.with_mark-freed.result in (
      (λ is.
          let has = c.has_taken-has_taken.ensures.0 is in
          let other : ℕ = c.args.cell / 8 * 8 + has.0 in
          let column : other % 8 ≡ has.0 = omega (arith, has.1) in
          let here : other / 8 ≡ c.args.cell / 8 = omega (arith, has.1) in
          let same = mark_of_cell-word c.args.table.now c.args.cell other word c.requires here in (
            other,
            here,
            omega (arith, has.2, column),
            λ free. has.3 (ap (mark_in word) (sym column) ∙ sym same ∙ free),
          )),
      (λ has.
          let same = mark_of_cell-word c.args.table.now c.args.cell has.0 word c.requires has.1 in
          c.has_taken-has_taken.ensures.1 (has.0 % 8, omega arith, has.2, λ free. has.3 (same ∙ free))),
    )
