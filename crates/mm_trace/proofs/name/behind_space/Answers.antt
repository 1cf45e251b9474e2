use Rattle.std.proofs.Common.{◌≡◌, get_or, arith}
use Rattle.mm_trace.proofs.WordEnds.{EndsWord-space}
use Rattle.mm_trace.proofs.name.behind_space.Goals as goal

pub returns-in-32 : goal.returns-in-32
returns-in-32 c =
    let first : get_or c.args.text.now 0 0 ≡ 32 = omega arith in
    EndsWord-space c.args.text.now c.in-32.len_at_least first
