use Rattle.std.proofs.Common.{refl, arith}
use Rattle.mmgc.proofs.GeneratedTraces.{none_generated, one_generated, state_next, generated_counted}
use Rattle.mmgc.proofs.generating.execute_all.Goals as goal

pub loop-done-init : goal.loop-done-init
loop-done-init c = record { carried = λ settings new. none_generated settings c.args.heap.now new; state = refl }

pub execute_generated-state-requires-clause-commands : goal.execute_generated-state-requires-clause-commands
execute_generated-state-requires-clause-commands c =
    let h = c.loop-done.invariant.carried c.requires.heap.0 c.requires.heap.1 in
    let few = generated_counted c.requires.heap.0 c.args.trace.seed c.loop-done.done c.loop-done.heap h in
    omega (arith, few.commands, c.requires.count, c.loop-done-test.true)

pub execute_generated-state-requires-clause-births : goal.execute_generated-state-requires-clause-births
execute_generated-state-requires-clause-births c =
    let h = c.loop-done.invariant.carried c.requires.heap.0 c.requires.heap.1 in
    let few = generated_counted c.requires.heap.0 c.args.trace.seed c.loop-done.done c.loop-done.heap h in
    omega (arith, few.births, c.requires.count, c.loop-done-test.true)

pub loop-done-preserved : goal.loop-done-preserved
loop-done-preserved c =
    let seed = c.args.trace.seed in
    let done = c.loop-done.done in
    let now = c.execute_generated-state in
    let before = c.loop-done.invariant in
    record {
      carried = λ settings new.
          one_generated settings seed done c.loop-done.state c.loop-done.heap now.new.heap (before.carried settings new)
          before.state now.ensures.carried;
      state = state_next seed done c.loop-done.state now.result before.state now.ensures.next;
    }
