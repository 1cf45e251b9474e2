-- The part that was written has the marks alone.
use Rattle.std.proofs.Common.{◌≡◌, ◌+◌, ◌-◌, ◌*◌, ℕ, List, ap, sym, ◌∙◌, arith}
use Rattle.mm_cells.specs.declared.marks.Mark.TheVariants.{Free}
use Rattle.mm_cells.specs.Marks.{code_of_cell, mark_of_cell}
use Rattle.mm_cells.proofs.Tables.Maps.{marks_lent, mark_at-with_marks, code_at-with_marks, SetsMark-with_marks}
use Rattle.mm_cells.proofs.Tables.Maps.{plain-code}
use Rattle.mm_cells.proofs.table.Table.free_cell.Goals as goal

pub returns-clause-free : goal.returns-clause-free
returns-clause-free c =
    let lent = marks_lent c.self.inside.words c.self.inside.pages c.part_mut.result.now c.self.invariant
    c.marks_part-part.ensures.start c.marks_part-part.ensures.len c.part_mut.ensures.value in
    rw (c.marks_part-part.ensures.start, ← c.self.view_is) (SetsMark-with_marks c.self.inside.words c.self.inside.pages
    c.args.page c.args.cell Free c.part_mut.result.now c.free_cell.new.table c.self.invariant lent
    c.free_cell.auto.table (omega (arith, c.requires.cell, c.requires.cells)) c.free_cell.ensures.given
    (plain-code (code_of_cell c.free_cell.new.table (256 * c.args.page + c.args.cell)) Free
    c.free_cell.ensures.given c.free_cell.ensures.code) c.free_cell.ensures.others)

pub returns-clause-code : goal.returns-clause-code
returns-clause-code c =
    let lent = marks_lent c.self.inside.words c.self.inside.pages c.part_mut.result.now c.self.invariant
    c.marks_part-part.ensures.start c.marks_part-part.ensures.len c.part_mut.ensures.value in
    rw c.marks_part-part.ensures.start (code_at-with_marks c.self.inside.words c.self.inside.pages c.args.page
    c.args.cell c.part_mut.result.now c.free_cell.new.table c.self.invariant lent c.free_cell.auto.table
    ∙ c.free_cell.ensures.code)

pub returns-clause-had_free : goal.returns-clause-had_free
returns-clause-had_free c =
    let page : ℕ = c.args.page in
    let lent = marks_lent c.self.inside.words c.self.inside.pages c.part_mut.result.now c.self.invariant
    c.marks_part-part.ensures.start c.marks_part-part.ensures.len c.part_mut.ensures.value in
    rw (← c.self.view_is) (
      (λ is.
          let has = c.free_cell.ensures.had_free.0 is in
          let other : ℕ = has.0 - 256 * page in
          let at : has.0 ≡ 256 * page + other = omega (arith, has.1) in (
            other,
            omega (arith, has.1),
            omega (arith, has.1, has.2, c.requires.cell),
            ap (λ (s : List ℕ). mark_of_cell s (256 * page + other)) (sym lent.is)
                ∙ ap (mark_of_cell c.part_mut.result.now) (sym at) ∙ has.3,
          )),
      (λ has.
          c.free_cell.ensures.had_free.1 (
            256 * page + has.0,
            omega (arith, has.1),
            omega (arith, has.1, has.2),
            ap (λ (s : List ℕ). mark_of_cell s (256 * page + has.0)) lent.is ∙ has.3,
          )),
    )

pub returns-clause-has_taken : goal.returns-clause-has_taken
returns-clause-has_taken c =
    let page : ℕ = c.args.page in
    let lent = marks_lent c.self.inside.words c.self.inside.pages c.part_mut.result.now c.self.invariant
    c.marks_part-part.ensures.start c.marks_part-part.ensures.len c.part_mut.ensures.value in
    rw c.marks_part-part.ensures.start (
      (λ is.
          let has = c.free_cell.ensures.has_taken.0 is in
          let other : ℕ = has.0 - 256 * page in
          let at : has.0 ≡ 256 * page + other = omega (arith, has.1) in
          let same = mark_at-with_marks c.self.inside.words c.self.inside.pages page other c.part_mut.result.now
          c.free_cell.new.table c.self.invariant lent c.free_cell.auto.table in (
            other,
            omega (arith, has.1),
            omega (arith, has.1, has.2, c.requires.cell),
            λ free. has.3 (ap (mark_of_cell c.free_cell.new.table) at ∙ sym same ∙ free),
          )),
      (λ has.
          let same = mark_at-with_marks c.self.inside.words c.self.inside.pages page has.0 c.part_mut.result.now
          c.free_cell.new.table c.self.invariant lent c.free_cell.auto.table in
          c.free_cell.ensures.has_taken.1 (
            256 * page + has.0,
            omega (arith, has.1),
            omega (arith, has.1, has.2),
            λ free. has.3 (same ∙ free),
          )),
    )
