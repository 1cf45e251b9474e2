-- A fault in the complete lines of a front of an input is the first fault of the whole input.
use Rattle.std.proofs.Common.{◌≡◌, ◌≢◌, ℕ, ◌<◌, Bool, true, false, nat_lt, List, [], ◌∷◌, ◌++◌, length, Option, Some}
use Rattle.std.proofs.Common.{None, Result, Err, refl, sym, ap, ◌∙◌, subst, append-nil, append_assoc, ⊎_elim, arith}
use Rattle.std.proofs.lemmas.Bool.{cases_eq}
use Rattle.std.proofs.lemmas.Bool.Decides.{nat_tests}
use Rattle.mm_model.specs.declared.command.Command.{Command}
use Rattle.mm_model.specs.declared.refusal.LineFault.{LineFault}
use Rattle.mm_model.specs.declared.refusal.LineFault.TheVariants.{LineTooLong}
use Rattle.mm_model.specs.Logs.Trace.{line_reading, complete_lines, lines_of, line_if, FaultAt, Reading, reading_from}
use Rattle.mm_model.proofs.Text.Traces.{Cuts, Cuts-none, Cuts-byte, Cuts-newline, complete_lines-cuts, lines_of-more}
use Rattle.mm_model.proofs.Text.Traces.{line_reading-too_long, lines_of-too_long, reading_from-fault}
use Rattle.mm_model.proofs.Text.Traces.{reading_from-stops}
use Rattle.mmgc.specs.Replaying.{reading_of}

-- the lines of bytes, and what is held behind them
record Cutting (bytes : List ℕ) : Type 0 where
  done : List (List ℕ)
  held : List ℕ
  cuts : Cuts bytes done held

cutting-more : (bytes : List ℕ) → Cutting bytes → (more : List ℕ) → Cutting (bytes ++ more)
cutting-more bytes c [] = subst Cutting (sym (append-nil bytes)) c
cutting-more bytes c (b ∷ more) =
    subst Cutting (append_assoc bytes (b ∷ []) more)
    (cutting-more (bytes ++ b ∷ [])
    (⊎_elim (λ (same : b ≡ 10). subst (λ (x : ℕ). Cutting (bytes ++ x ∷ [])) (sym same) (record {
      done = c.done ++ c.held ∷ [];
      held = [];
      cuts = Cuts-newline bytes c.done c.held c.cuts;
    }))
    (λ (other : b ≢ 10). record {
      done = c.done;
      held = c.held ++ b ∷ [];
      cuts = Cuts-byte bytes c.done c.held b c.cuts other;
    })
    (cases_eq b 10)) more)

-- all bytes can be cut
cutting : (bytes : List ℕ) → Cutting bytes
cutting bytes = cutting-more [] (record { done = []; held = []; cuts = Cuts-none }) bytes

module _ (read : List ℕ → Result (Option Command) LineFault)
    (refuses : (line : List ℕ) → 1024 < length line → read line ≡ Err LineTooLong) where
  -- after these lines, two lines that are too long are the same fault
  fault-long : (fault : Option FaultAt) (done : List (List ℕ)) (line other : List ℕ) (lines others : List (List ℕ))
      → (reading_from read 1 done).fault ≡ fault → 1024 < length line → 1024 < length other
      → reading_from read 1 (done ++ line ∷ lines) ≡ reading_from read 1 (done ++ other ∷ others)
  fault-long None done line other lines others clean long longer =
      reading_from-stops read 1 done line lines LineTooLong clean (refuses line long)
      ∙ sym (reading_from-stops read 1 done other others LineTooLong clean (refuses other longer))
  fault-long (Some fault) done line other lines others found long longer =
      reading_from-fault read 1 done (line ∷ lines) fault found
      ∙ sym (reading_from-fault read 1 done (other ∷ others) fault found)

  -- by whether what is held is too long already
  fault-held : (too_long : Bool) (front rest : List ℕ) (done : List (List ℕ)) (held : List ℕ) (fault : FaultAt)
      → Cuts front done held → nat_lt 1024 (length held) ≡ too_long
      → (reading_from read 1 (complete_lines front)).fault ≡ Some fault
      → (reading_from read 1 (lines_of (front ++ rest))).fault ≡ Some fault
  fault-held false front rest done held fault cuts fits found =
      let more = lines_of-more front done held cuts rest in
      let complete : complete_lines front ≡ done =
      complete_lines-cuts front done held cuts ∙ ap (λ (b : Bool). done ++ line_if b held) fits ∙ append-nil done in
      let first : (reading_from read 1 done).fault ≡ Some fault =
      subst (λ (lines : List (List ℕ)). (reading_from read 1 lines).fault ≡ Some fault) complete found in
      ap (λ (lines : List (List ℕ)). (reading_from read 1 lines).fault) more.1
      ∙ ap (λ (r : Reading). r.fault) (reading_from-fault read 1 done more.0 fault first) ∙ first
  fault-held true front rest done held fault cuts over found =
      let long : 1024 < length held = grind (arith, nat_tests) in
      let next = lines_of-too_long front done held cuts long rest in
      let complete : complete_lines front ≡ done ++ held ∷ [] =
      complete_lines-cuts front done held cuts ∙ ap (λ (b : Bool). done ++ line_if b held) over in
      let first : (reading_from read 1 (done ++ held ∷ [])).fault ≡ Some fault =
      subst (λ (lines : List (List ℕ)). (reading_from read 1 lines).fault ≡ Some fault) complete found in
      ap (λ (lines : List (List ℕ)). (reading_from read 1 lines).fault) next.3
      ∙ ap (λ (r : Reading). r.fault)
      (fault-long (reading_from read 1 done).fault done next.0 held next.1 [] refl next.2 long)
      ∙ first

-- a fault among the complete lines of a front is one of the whole input
pub fault_of_front : (front rest : List ℕ) (fault : FaultAt)
    → (reading_of (complete_lines front)).fault ≡ Some fault
    → (reading_of (lines_of (front ++ rest))).fault ≡ Some fault
fault_of_front front rest fault found =
    let c = cutting front in
    fault-held line_reading line_reading-too_long (nat_lt 1024 (length c.held)) front rest c.done c.held fault c.cuts
    refl found
