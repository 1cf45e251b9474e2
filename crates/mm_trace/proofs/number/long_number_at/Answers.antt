use Rattle.std.proofs.Common.{List, ℕ, subst, arith}
use Rattle.mm_trace.specs.Plain.{EndsWord}
use Rattle.mm_trace.proofs.Numbers.{BeginsWith-digits}
use Rattle.mm_trace.proofs.Words.{take-drop_rest}
use Rattle.mm_trace.proofs.number.long_number_at.Goals as goal

pub returns : goal.returns
returns c =
    let text = c.args.text.now in
    let count = c.digits_at-value.result.1 in
    let found = c.digits_at-value.ensures in
    let P : List ℕ → Type 0 = λ t. EndsWord t c.in_ok-rest.rest.now in
    BeginsWith-digits text c.in_ok-rest.rest.now count c.digits_at-value.result.0 found.within (omega arith)
    (omega arith) found.digits found.value (omega arith) (subst P (take-drop_rest text count) c.in_ok-rest.ensures)
