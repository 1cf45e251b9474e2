use Rattle.std.proofs.Common.{◌≡◌}
use Rattle.mm_model.specs.declared.settings.Settings.{Settings}
use Rattle.mmgc.specs.Generator.{generated_commands, state_after}
use Rattle.mmgc.specs.Generating.{HasCarriedOut}
use Rattle.mmgc.specs.Replaying.{IsNew}
use Rattle.mmgc.proofs.generating.execute_all.Given as goal

-- the commands so far were carried out, with whatever settings the heap was made
abbrev pub invariant-loop-done : goal.invariant-loop-done
invariant-loop-done l =
    record {
      carried : (settings : Settings) → IsNew settings l.fn.heap →
          HasCarriedOut settings (generated_commands l.trace.seed l.done) l.heap;
      state : l.state ≡ state_after l.trace.seed l.done;
    }
