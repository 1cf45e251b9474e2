-- The lowest bit in a word is the next mark.
use Rattle.std.proofs.Common.{◌≡◌, ◌+◌, ◌*◌, ◌/◌, length, subst, ap, arith, MatchOption}
use Rattle.mm_audit.specs.Bits.{NoneBetween, NoneBeside, IsLowestBeside, IsNextBeside, bits_of}
use Rattle.mm_audit.proofs.Marks.{length-bits, beside-next}
use Rattle.mm_audit.proofs.bits.Bits.next_beside.Goals as goal

pub lowest_beside-requires : goal.lowest_beside-requires
lowest_beside-requires c =
    let s = c.self.inside in
    let size : length (bits_of s.words.items s.limit) ≡ length c.args.self.now = ap length c.self.view_is in
    let count = c.self.invariant.size in
    let most = c.self.invariant.most in
    let len = ap length c.deref.ensures.value in
    record {
      within = omega (arith, length-bits s.words.items s.limit);
      small = omega (arith, length-bits s.words.items s.limit);
    }

pub returns : goal.returns
returns c =
    let s = c.self.inside in
    let from = c.args.from in
    let found = c.lowest_beside.result in
    subst (λ v. MatchOption found (NoneBetween v from (64 * (from / 64 + 1))) (IsNextBeside v from)) c.self.view_is
    (beside-next s.words.items s.limit from c.self.invariant found
    (subst (λ ws. MatchOption found (NoneBeside ws from) (IsLowestBeside ws from)) c.deref.ensures.value
    c.lowest_beside.ensures))
