use Rattle.std.proofs.Common.{◌≡◌, true, false, arith}
use Rattle.std.proofs.lemmas.Grind.{common_steps}
use Rattle.mmgc.specs.Keeping.{keeps-same}
use Rattle.mmgc.proofs.WritingLemmas.{writes-sent, writes-cleared, keeps-sent}
use Rattle.mmgc.proofs.log.LogWriter.write_pending.Goals.{then-whole, else-whole}
use Rattle.mmgc.proofs.log.LogWriter.write_pending.Goals as goal

pub returns-clause-written : goal.returns-clause-written
returns-clause-written g c =
    let taken = g.K.Sink.taken c.args.self.now.sink.now in
    let pending = c.args.self.now.pending.items in
    elim c.if-whole.branch [
      | then-whole w ↦
          let whole : c.args.self.now.broken ≡ false =
          grind (arith, common_steps, c.whole.ensures, w.if-whole.true) in
          let ok = rw w.as_slice.ensures.value at w.write_all.ensures.ok in
          let err = rw w.as_slice.ensures.value at w.write_all.ensures.err in
          let sent = writes-sent taken (g.K.Sink.taken w.write_all.new.sink) pending w.write_all.result ok err in
          rw (w.self-is, c.clear.ensures, whole, w.is_err-self.ensures.value) sent
      | else-whole w ↦
          let broken : c.args.self.now.broken ≡ true =
          grind (arith, common_steps, c.whole.ensures, w.if-whole.false) in
          rw (w.self-is, c.clear.ensures, broken) (writes-cleared taken pending)
    ]

pub returns-clause-kept : goal.returns-clause-kept
returns-clause-kept g c =
    elim c.if-whole.branch [
      | then-whole w ↦
          let before = c.args.self.now in
          let sink = w.write_all.new.sink in
          let whole : before.broken ≡ false = grind (arith, common_steps, c.whole.ensures, w.if-whole.true) in
          let ok = rw w.as_slice.ensures.value at w.write_all.ensures.ok in
          let err = rw w.as_slice.ensures.value at w.write_all.ensures.err in
          let kept =
          keeps-sent before.sink.ghost_name (g.K.Sink.faults before.sink.now) (g.K.Sink.faults sink)
          (g.K.Sink.taken before.sink.now) (g.K.Sink.taken sink) before.pending.items w.write_all.result
          ok err w.write_all.ensures.faults in
          rw (w.self-is, whole, w.is_err-self.ensures.value) kept
      | else-whole w ↦ rw w.self-is keeps-same
    ]
