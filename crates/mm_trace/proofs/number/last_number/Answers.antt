use Rattle.std.proofs.Common.{◌≡◌, List, ℕ, [], Ok, eqb-true, subst, sym, ◌∙◌, arith}
use Rattle.std.proofs.lemmas.List.{nil_from_length}
use Rattle.mm_model.specs.Logs.Trace.{number_of}
use Rattle.mm_trace.specs.Plain.{BeginsWith}
use Rattle.mm_trace.proofs.Numbers.{BeginsWith-digit}
use Rattle.mm_trace.proofs.WordEnds.{EndsWord-end}
use Rattle.mm_trace.proofs.number.last_number.Goals as goal

pub returns-then-is_empty : goal.returns-then-is_empty
returns-then-is_empty c =
    let behind = c.in_ok-first.behind.now in
    let none : behind ≡ [] = nil_from_length behind (eqb-true _ _ (sym c.is_empty.ensures ∙ c.if-is_empty.true)) in
    let P : List ℕ → Type 0 = λ t. BeginsWith (λ (w : List ℕ). number_of w ≡ Ok c.from.result) t [] in
    subst P (sym c.in_ok-first.ensures.cases.0)
    (rw none (BeginsWith-digit [] [] c.in_ok-first.first.now c.from.result
    c.from.ensures (omega arith) (omega arith) (EndsWord-end [] (omega arith))))
