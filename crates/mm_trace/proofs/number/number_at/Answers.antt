use Rattle.std.proofs.Common.{◌≡◌, List, ℕ, Ok, subst, sym, arith}
use Rattle.mm_model.specs.Logs.Trace.{number_of}
use Rattle.mm_trace.specs.Plain.{BeginsWith}
use Rattle.mm_trace.proofs.Numbers.{BeginsWith-digit}
use Rattle.mm_trace.proofs.number.number_at.Goals as goal

pub returns-in-Some : goal.returns-in-Some
returns-in-Some c =
    let parts = c.in_ok-first.ensures.cases in
    let P : List ℕ → Type 0 = λ t. BeginsWith (λ (w : List ℕ). number_of w ≡ Ok c.from.result) t c.in-Some.rest.now in
    subst P (sym parts.0)
    (BeginsWith-digit c.in_ok-first.behind.now c.in-Some.rest.now c.in_ok-first.first.now c.from.result
    c.from.ensures (omega arith) (omega arith) c.in-Some.ensures)
