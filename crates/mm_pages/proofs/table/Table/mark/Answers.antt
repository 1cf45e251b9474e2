use Rattle.std.proofs.Common.{◌≡◌, length, arith, ap, ◌∙◌}
use Rattle.mm_pages.proofs.Tables.{entries-tree, length-part}
use Rattle.mm_pages.proofs.table.Table.mark.Goals as goal

pub returns-clause-rest : goal.returns-clause-rest
returns-clause-rest g c =
    let part : length c.part_mut-words.result.now ≡ c.words_of.result = ap length c.part_mut-words.ensures.value
    ∙ length-part _ _ c.self.inside.words.words (omega (arith, c.self.invariant.room, c.words_of.ensures)) in
    rw (← c.self.view_is) (entries-tree c.self.inside.words c.self.inside.pages c.self.inside.height
    c.mark.new.words
    (omega (arith, c.self.invariant.room, c.words_of.ensures, c.mark.auto.words)))
