use Rattle.std.proofs.Common.{◌≡◌, take, append_assoc, arith}
use Rattle.std.proofs.lemmas.List.{take_all}
use Rattle.mm_trace.proofs.Sentences.{sentence-numbers}
use Rattle.mm_trace.proofs.put.put_sentence.Goals as goal

pub returns : goal.returns
returns c =
    let numbers = c.args.numbers.now in
    let all : take c.loop-number.number-index numbers ≡ numbers = take_all _ numbers (omega arith) in
    rw (
      c.push.ensures.items,
      c.loop-number.invariant.items,
      c.put_text.ensures.items,
      all,
      sentence-numbers c.args.name.now numbers,
    )
    (simp append_assoc)
