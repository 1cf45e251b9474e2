-- All marks of the page that are read become white, and no other page changes.
use Rattle.std.proofs.Common.{◌+◌, ◌*◌, sym, ◌∙◌, ap, subst, arith}
use Rattle.mm_cells.specs.Cells.{Cells}
use Rattle.mm_cells.specs.Kept.{cells_of, HaveMarks}
use Rattle.mm_cells.specs.Looking.{Whitens}
use Rattle.mm_cells.specs.declared.page_use.PageUse.{PageUse}
use Rattle.mm_cells.proofs.Region.Soundness.{IsSoundCells-kept}
use Rattle.mm_cells.proofs.Tables.Whitened.{KeepsCells-whitened, Whitens-whitened}
use Rattle.mm_cells.proofs.cells.Cells.whiten_page.Goals as goal

pub words_of_marks-words-requires : goal.words_of_marks-words-requires
words_of_marks-words-requires c = λ class used.
    (c.self.invariant.classes c.args.page class (sym c.use_at.ensures ∙ used)).0

pub invariant_of-self : goal.invariant_of-self
invariant_of-self c =
    KeepsCells-whitened c.self.inside.table c.whiten.new.self c.args.page c.words_of_marks-words.result c.self.invariant
    c.whiten.ensures

pub returns-clause-white : goal.returns-clause-white
returns-clause-white c =
    subst (λ (v : Cells). Whitens v (cells_of c.whiten.new.self) (4096 * c.args.page) (4096 * c.args.page + 4096))
    c.self.view_is
    (Whitens-whitened c.self.inside.table c.whiten.new.self c.args.page c.words_of_marks-words.result c.self.invariant
    (omega (arith, c.requires, ap (λ (v : Cells). v.pages) c.self.view_is))
    (subst (λ (u : PageUse). HaveMarks u c.words_of_marks-words.result) c.use_at.ensures
    c.words_of_marks-words.ensures.all)
    c.whiten.ensures)

pub returns-clause-sound : goal.returns-clause-sound
returns-clause-sound c = IsSoundCells-kept c.whiten.new.self (invariant_of-self c)
