use Rattle.std.proofs.Common.{arith}
use Rattle.mm_trace.proofs.Newlines.{front-all, line_end-first}
use Rattle.mm_trace.proofs.cutter.line_end.Goals as goal

pub loop-at-preserved : goal.loop-at-preserved
loop-at-preserved c =
    record {
      within = omega arith;
      front = front-all c.args.bytes.now c.loop-at.at c.newlines-found.result (omega arith) c.loop-at.invariant.front
          c.newlines-found.ensures c.if-found-ne0.false;
    }

pub returns-then-found-ne0 : goal.returns-then-found-ne0
returns-then-found-ne0 c =
    line_end-first c.args.bytes.now c.loop-at.at c.newlines-found.result (omega arith) c.loop-at.invariant.front
    c.newlines-found.ensures (omega arith)
