use Rattle.std.proofs.Common.{◌==◌, ℕ, not, length, sym, arith}
use Rattle.std.proofs.lemmas.Bool.Decides.{nat_tests}
use Rattle.std.proofs.lemmas.List.Sums.{prefix_len_is}
use Rattle.mm_trace.proofs.word.word_end.Goals as goal

pub returns-then-byte-eq32-clause-first : goal.returns-then-byte-eq32-clause-first
returns-then-byte-eq32-clause-first c =
    sym (prefix_len_is (λ (b : ℕ). not (b == 32)) c.args.line.now c.loop-i.i 0 (omega arith)
    c.loop-i.invariant (λ _. grind (arith, nat_tests)))

pub returns-clause-first : goal.returns-clause-first
returns-clause-first c =
    sym (prefix_len_is (λ (b : ℕ). not (b == 32)) c.args.line.now (length c.args.line.now) 0 (omega arith)
    (λ k below. c.loop-i.invariant k (omega arith)) (λ past. absurd (omega arith)))
