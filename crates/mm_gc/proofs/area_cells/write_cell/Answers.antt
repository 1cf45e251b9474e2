use Rattle.std.proofs.Common.{⊎_elim, sym, ◌∙◌}
use Rattle.std.specs.Prelude.{slice_index}
use Rattle.mm_model.specs.Views.ViewWords.{cell_kind_of}
use Rattle.mm_gc.proofs.Writing.Written.{slot_word, slot_raw}
use Rattle.mm_gc.proofs.area_cells.write_cell.Goals as goal

pub returns-in-Word-clause-answer : goal.returns-in-Word-clause-answer
returns-in-Word-clause-answer g c = λ store at slot.
    let kind = cell_kind_of store.area store.cell in
    let found = slice_index store.area.words store.cell in
    c.write_uncounted_cell.ensures.answer c.args.count.now store at.shows at.cell_is at.word_is
    (⊎_elim (λ word. slot_word kind found word.0 (sym word.1 ∙ slot))
    (λ raw. slot_raw kind found raw.0 (sym raw.1 ∙ slot)) c.in-Word.is)
