use Rattle.std.proofs.Common.{arith}
use Rattle.std.proofs.lemmas.Bool.Decides.{nat_tests}
use Rattle.mm_trace.proofs.Words.{take-drop_rest, words_of-none, words_of-first}
use Rattle.mm_trace.proofs.word.next_word.Goals as goal

pub returns-then-is_empty : goal.returns-then-is_empty
returns-then-is_empty c =
    words_of-none c.args.line.now _ c.spaces.result c.spaces.ensures.first
    (take-drop_rest c.args.line.now c.spaces.result) (grind (arith, nat_tests))

pub returns : goal.returns
returns c =
    words_of-first c.args.line.now _ _ _ c.spaces.result c.word_end.result c.spaces.ensures.first
    (take-drop_rest c.args.line.now c.spaces.result)
    (grind (arith, nat_tests)) c.word_end.ensures.first c.split_at.ensures.front c.split_at.ensures.back
