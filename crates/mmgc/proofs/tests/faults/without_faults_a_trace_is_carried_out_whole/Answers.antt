-- That a trace of bytes that are known has no fault is a matter of computing.
use Rattle.std.proofs.Common.{sym, subst, refl, codes, arith}
use Rattle.mm_model.specs.Logs.Trace.{line_reading, words_reading}
use Rattle.mmgc.specs.Completing.{IsTrace}
use Rattle.mmgc.proofs.tests.faults.without_faults_a_trace_is_carried_out_whole.Goals as goal

worked_trace : IsTrace (codes "new t 0 4\nnew t 0 0\nnew t 0 509\n")
unfolding line_reading words_reading
worked_trace = record { fits = omega arith; no_fault = refl }

pub status_without_faults-status-requires : goal.status_without_faults-status-requires
status_without_faults-status-requires g c =
    subst IsTrace (sym (c.in_ok-to_vec.ensures.items_if_clones_equal (λ x y same. same))) worked_trace
