use Rattle.std.proofs.Common.{sym, arith}
use Rattle.std.proofs.lemmas.Grind.{same_number_lists}
use Rattle.std.proofs.lemmas.Slice.Eq.{bytes_eq-Decides}
use Rattle.mm_trace.proofs.word.is.Goals as goal

pub returns : goal.returns
returns c =
    let name = c.args.name.now in
    let word = c.args.word.now in
    let same = same_number_lists name word (omega arith) (λ k below. c.loop-i.invariant k (omega arith)) in
    sym ((bytes_eq-Decides name word).1 same)
