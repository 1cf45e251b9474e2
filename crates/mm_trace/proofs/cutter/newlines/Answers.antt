use Rattle.std.proofs.Common.{eqb, take, drop, w8, arith}
use Rattle.std.proofs.lemmas.Simd.{length-chunk, bitmask_splat}
use Rattle.mm_trace.proofs.cutter.newlines.Goals as goal

pub returns : goal.returns
returns c =
    let long = length-chunk c.args.at 16 c.args.bytes.now c.requires in
    bitmask_splat w8 eqb (take 16 (drop c.args.at c.args.bytes.now)) 16 10 long (omega arith)
