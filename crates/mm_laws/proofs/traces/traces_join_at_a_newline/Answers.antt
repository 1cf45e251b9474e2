-- The whole is read as the lines of its two parts are, in turn.
use Rattle.std.proofs.Common.{ap}
use Rattle.mm_model.specs.Logs.Trace.{Reading}
use Rattle.mm_laws.proofs.Tracing.Cutting.{trace_reading-clean, trace_reading-fault}
use Rattle.mm_laws.proofs.traces.traces_join_at_a_newline.Goals as goal

pub returns-clause-commands : goal.returns-clause-commands
returns-clause-commands c front first rest ends clean =
    ap (λ (reading : Reading). reading.commands) (trace_reading-clean front first rest ends clean)

pub returns-clause-fault_before : goal.returns-clause-fault_before
returns-clause-fault_before c front first rest fault ends some = trace_reading-fault front first rest fault ends some

pub returns-clause-fault_after : goal.returns-clause-fault_after
returns-clause-fault_after c front first rest ends clean =
    ap (λ (reading : Reading). reading.fault) (trace_reading-clean front first rest ends clean)
