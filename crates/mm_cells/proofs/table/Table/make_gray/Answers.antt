-- The part that was written has the marks alone.
use Rattle.std.proofs.Common.{ℕ, List, ◌+◌, ◌*◌, ap, ◌∙◌}
use Rattle.mm_model.specs.declared.object.Colour.TheVariants.{Gray}
use Rattle.mm_cells.specs.declared.marks.Mark.TheVariants.{Taken}
use Rattle.mm_cells.specs.Map.{Map}
use Rattle.mm_cells.specs.Marks.{code_of_cell, mark_of_cell}
use Rattle.mm_cells.proofs.Tables.Maps.{marks_lent, SetsMark-with_marks, plain-taken}
use Rattle.mm_cells.proofs.table.Table.make_gray.Goals as goal

pub make_gray-requires-clause-white : goal.make_gray-requires-clause-white
make_gray-requires-clause-white c =
    let lent = marks_lent c.self.inside.words c.self.inside.pages c.part_mut.result.now c.self.invariant
    c.marks_part-part.ensures.start c.marks_part-part.ensures.len c.part_mut.ensures.value in (
      c.requires.white.0,
      ap (λ (s : List ℕ). mark_of_cell s (256 * c.args.page + c.args.cell)) lent.is
          ∙ ap (λ (m : Map). mark_of_cell m.marks (256 * c.args.page + c.args.cell)) c.self.view_is
          ∙ c.requires.white.1,
    )

pub returns : goal.returns
returns c =
    let lent = marks_lent c.self.inside.words c.self.inside.pages c.part_mut.result.now c.self.invariant
    c.marks_part-part.ensures.start c.marks_part-part.ensures.len c.part_mut.ensures.value in
    rw (c.marks_part-part.ensures.start, ← c.self.view_is) (λ flags is.
    let given = c.make_gray.ensures.given flags
    (ap (λ (s : List ℕ). mark_of_cell s (256 * c.args.page + c.args.cell)) lent.is ∙ is) in
    SetsMark-with_marks c.self.inside.words c.self.inside.pages c.args.page c.args.cell (Taken Gray flags)
    c.part_mut.result.now c.make_gray.new.table c.self.invariant lent c.make_gray.auto.table c.requires.cell given
    (plain-taken (code_of_cell c.make_gray.new.table (256 * c.args.page + c.args.cell)) Gray flags given)
    c.make_gray.ensures.others)
