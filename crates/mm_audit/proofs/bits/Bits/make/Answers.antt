-- Words that are 0 mark nothing.
use Rattle.std.proofs.Common.{◌≡◌, ◌+◌, ◌-◌, ◌/◌, replicate, ap, ◌∙◌, rules}
use Rattle.mm_audit.specs.Bits.{bits_of}
use Rattle.mm_audit.proofs.Marks.{bits-zeros}
use Rattle.mm_audit.proofs.bits.Bits.make.Goals as goal

pub returns : goal.returns
returns c =
    let zeros : c.in_ok-words.words.items ≡ replicate ((c.args.limit + 64 - 1) / 64) 0 = search rules in
    ap (λ ws. bits_of ws c.args.limit) zeros ∙ bits-zeros ((c.args.limit + 64 - 1) / 64) c.args.limit
