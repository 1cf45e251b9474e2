use Rattle.std.proofs.Common.{codes, ◌++◌, ◌∙◌, subst}
use mathlib.Core.Path.{subst₂}
use Rattle.mm_model.specs.Logs.Spelling.{fault_text}
use Rattle.mmgc.specs.Telling.{Takes}
use Rattle.mmgc.proofs.Telling.{takes_first, takes_next}
use Rattle.mmgc.proofs.program.write_fault.Goals as goal

pub returns-in_err-write_both : goal.returns-in_err-write_both
returns-in_err-write_both g c =
    let taken = g.E.Sink.taken in
    let faults = g.E.Sink.faults in
    let before = c.args.err.now in
    let now = c.write_both.new.err in
    let rest = (codes ": " ++ fault_text c.args.fault) ++ codes "\n" in
    subst (λ digits. Takes (taken before) (taken now) (faults before) (faults now) c.from_residual.result
    ((codes "mmgc: line " ++ digits) ++ rest))
    (c.as_bytes.ensures.value ∙ c.format.ensures.text)
    (takes_first c.from_residual.result rest c.from_residual.ensures.0 c.in_err-write_both.ensures)

pub returns-in_err-write_both-2 : goal.returns-in_err-write_both-2
returns-in_err-write_both-2 g c =
    let taken = g.E.Sink.taken in
    let faults = g.E.Sink.faults in
    let before = c.args.err.now in
    let now = c.write_both-2.new.err in
    let result = c.from_residual-in_err-write_both-2.result in
    subst₂ (λ digits text. Takes (taken before) (taken now) (faults before) (faults now) result
    ((codes "mmgc: line " ++ digits) ++ ((codes ": " ++ text) ++ codes "\n")))
    (c.as_bytes.ensures.value ∙ c.format.ensures.text) (c.as_bytes-2.ensures.value ∙ c.fault_text.ensures)
    (takes_next result c.in_ok-write_both.ensures
    (takes_first result (codes "\n") c.from_residual-in_err-write_both-2.ensures.0
    c.in_err-write_both-2.ensures))

pub returns : goal.returns
returns g c =
    let taken = g.E.Sink.taken in
    let faults = g.E.Sink.faults in
    let before = c.args.err.now in
    let now = c.write_part.new.err in
    subst₂ (λ digits text. Takes (taken before) (taken now) (faults before) (faults now) c.write_part.result
    ((codes "mmgc: line " ++ digits) ++ ((codes ": " ++ text) ++ codes "\n")))
    (c.as_bytes.ensures.value ∙ c.format.ensures.text) (c.as_bytes-2.ensures.value ∙ c.fault_text.ensures)
    (takes_next c.write_part.result c.in_ok-write_both.ensures
    (takes_next c.write_part.result c.in_ok-write_both-2.ensures c.write_part.ensures))
