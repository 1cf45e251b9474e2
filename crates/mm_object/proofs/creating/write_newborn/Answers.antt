use Rattle.std.proofs.Common.{ℕ, ◌+◌, ◌≤◌, List, length, sym, ap, ◌∙◌, arith}
use Rattle.std.specs.Prelude.{set}
use Rattle.mm_words.specs.Piece.{Piece, with_words}
use Rattle.mm_object.specs.Header.{shape_in, second_word}
use Rattle.mm_object.proofs.Newborn.{newborn-filled}
use Rattle.mm_object.proofs.creating.write_newborn.Goals as goal

pub overflow_add-at : goal.overflow_add-at
overflow_add-at c = omega (arith, c.requires.small)

pub returns-clause-words : goal.returns-clause-words
returns-clause-words c =
    let fits : c.args.at + (4 + c.args.shape.slots) ≤ length c.args.memory.now.words =
    omega (arith, c.requires.within) in
    c.set-2.ensures
    ∙ ap (λ (p : Piece). with_words p (set p.words (c.args.at + 1) c.of-header.result.second))
    (c.set.ensures ∙ ap (λ (p : Piece). with_words p (set p.words c.args.at c.of-header.result.first)) c.fill.ensures)
    ∙ ap (λ (ws : List ℕ). with_words c.args.memory.now ws)
    (newborn-filled c.args.at c.of-header.result.first c.of-header.result.second c.args.shape c.args.memory.now.words
    fits c.of-header.ensures.first c.of-header.ensures.second)

pub returns-clause-means : goal.returns-clause-means
returns-clause-means c =
    ap (λ (n : ℕ). shape_in n (second_word c.args.shape)) (sym c.of-header.ensures.first)
    ∙ ap (λ (n : ℕ). shape_in c.of-header.result.first n) (sym c.of-header.ensures.second)
    ∙ c.of-header.ensures.means
