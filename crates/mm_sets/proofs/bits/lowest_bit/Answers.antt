use Rattle.std.proofs.Common.{◌/◌, arith}
use Rattle.mm_sets.proofs.LowestBits.{IsLowestBitOf-rest, IsLowestBitOf-word, NoBit-words}
use Rattle.mm_sets.proofs.LowestBits.{IsLowestInWord-trailing_zeros}
use Rattle.mm_sets.proofs.bits.lowest_bit.Goals as goal

pub returns-then-rest-ne0 : goal.returns-then-rest-ne0
returns-then-rest-ne0 c = IsLowestBitOf-rest c.args.words.now c.args.from c.args.end c.if-rest-ne0.true
    (omega (arith, c.type_inv.words (c.args.from / 32))) (omega arith)

pub returns-then-word-ne0 : goal.returns-then-word-ne0
returns-then-word-ne0 c = IsLowestBitOf-word c.args.words.now c.args.from c.args.end c.loop-i.i _
    (omega arith) c.loop-i-test.true
    (NoBit-words c.args.words.now c.args.from c.loop-i.i (omega arith) c.loop-i.invariant)
    (IsLowestInWord-trailing_zeros c.args.words.now c.loop-i.i (omega arith)
    (omega (arith, c.type_inv.words c.loop-i.i)))

pub returns : goal.returns
returns c = λ j ge lt. NoBit-words c.args.words.now c.args.from c.loop-i.i (omega arith)
    c.loop-i.invariant j ge (omega arith)
