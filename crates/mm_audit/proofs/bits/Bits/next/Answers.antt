-- Past the limit nothing is marked.
use Rattle.std.proofs.Common.{◌≡◌, length, true, ap, arith}
use Rattle.std.proofs.lemmas.Option.{slice_get_within}
use Rattle.mm_audit.specs.Bits.{bits_of}
use Rattle.mm_audit.proofs.Marks.{length-bits}
use Rattle.mm_audit.proofs.bits.Bits.next.Goals as goal

pub next_beside-requires : goal.next_beside-requires
next_beside-requires c =
    let s = c.self.inside in
    let size : length (bits_of s.words.items s.limit) ≡ length c.args.self.now = ap length c.self.view_is in
    record { inside = omega (arith, length-bits s.words.items s.limit) }

pub returns : goal.returns
returns c n from marked =
    let s = c.self.inside in
    let size : length (bits_of s.words.items s.limit) ≡ length c.args.self.now = ap length c.self.view_is in
    let below = slice_get_within c.args.self.now n true marked in
    c.loop-first.invariant.1 n from (omega (arith, length-bits s.words.items s.limit)) marked
