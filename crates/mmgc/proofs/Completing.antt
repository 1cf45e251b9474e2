-- Nothing but running out of memory keeps a run from its end where its input has no fault and no call failed.
use Rattle.std.proofs.Common.{◌≡◌, ◌≢◌, ℕ, ◌≤◌, Bool, true, false, List, [], ◌∷◌, ◌++◌, codes, if◌then◌else◌, length}
use Rattle.std.proofs.Common.{length-append, Option, Some, None, IsSome, refl, sym, ap, ◌∙◌, subst, append-nil, inl}
use Rattle.std.proofs.Common.{inr, arith}
use Rattle.std.specs.Prelude.{IfSome, ◌⊎◌}
use Rattle.mm_model.specs.Logs.Trace.{lines_of, FaultAt}
use Rattle.mm_gc.specs.Gc.{Gc}
use Rattle.mmgc.specs.Added.{Task}
use Rattle.mm_io.specs.Faults.{Rose}
use Rattle.mm_io.specs.Told.{Gives}
use Rattle.mmgc.specs.Replaying.{reading_of, most_bytes}
use Rattle.mmgc.specs.Completing.{IsTrace, IsWholeInput, IsUnhindered, IsComplete}
use Rattle.mmgc.specs.Run.{Input, Output, NothingLeft, lines_seen, IsWritten, Replayed}
use Rattle.mmgc.specs.Program.{Traffic, Serves, Ran, status_of, task_of}
use Rattle.clap.specs.Words.{takes}
use Rattle.mmgc.specs.Words.{Choice, choice_of, choice_read, mmgc_app}
use Rattle.mmgc.specs.declared.program.Outcome.{Outcome}
use Rattle.mmgc.specs.declared.replay.End.{End}
use Rattle.mmgc.specs.declared.replay.End.TheVariants.{Whole, Fault, ReadFailed, WriteFailed, TooLong}
use Rattle.mmgc.proofs.FrontFaults.{fault_of_front}

-- a fault of the lines seen is one of the whole input
fault_seen : (at_end : Bool) (bytes rest : List ℕ) (fault : FaultAt) → (at_end ≡ true → rest ≡ [])
    → (reading_of (lines_seen at_end bytes)).fault ≡ Some fault
    → (reading_of (lines_of (bytes ++ rest))).fault ≡ Some fault
fault_seen false bytes rest fault nothing_left found = fault_of_front bytes rest fault found
fault_seen true bytes rest fault nothing_left found =
    subst (λ (more : List ℕ). (reading_of (lines_of (bytes ++ more))).fault ≡ Some fault) (sym (nothing_left refl))
    (subst (λ (all : List ℕ). (reading_of (lines_of all)).fault ≡ Some fault) (sym (append-nil bytes)) found)

-- no fault is met in a trace
no_fault_met : (left left_after : Option (List ℕ)) (bytes : List ℕ) (at_end : Bool) (fault : FaultAt)
    → IfSome left IsTrace → IsSome left_after → Gives left left_after bytes
    → (at_end ≡ true → NothingLeft left_after)
    → (reading_of (lines_seen at_end bytes)).fault ≢ Some fault
no_fault_met left None bytes at_end fault trace told given nothing_left found = cc told
no_fault_met None (Some rest) bytes at_end fault trace told given nothing_left found = absurd given
no_fault_met (Some all) (Some rest) bytes at_end fault trace told given nothing_left found =
    let met = fault_seen at_end bytes rest fault nothing_left found in
    let none = trace.no_fault in
    let whole : (reading_of (lines_of all)).fault ≡ Some fault =
    subst (λ (xs : List ℕ). (reading_of (lines_of xs)).fault ≡ Some fault) (sym given) met in
    cc (none, whole)

-- no more bytes are read than a trace has
fits_read : (left left_after : Option (List ℕ)) (bytes : List ℕ)
    → IfSome left IsTrace → IsSome left_after → Gives left left_after bytes → length bytes ≤ most_bytes
fits_read left None bytes trace told given = cc told
fits_read None (Some rest) bytes trace told given = absurd given
fits_read (Some all) (Some rest) bytes trace told given =
    omega (arith, trace.fits, ap length given, length-append bytes rest)

-- what can be read is what the values say
abbrev from_some : Choice → Option Choice → Choice
from_some other None = other
from_some other (Some choice) = choice

read_by_values : (taken : Bool) (values : Option Choice) (read choice : Choice)
    → (if taken then values else None) ≡ Some read → values ≡ Some choice → read ≡ choice
read_by_values false values read choice r of = cc r
read_by_values true values read choice r of = ap (λ o. from_some read o) (sym r ∙ of)

same_choice : (words : List (List ℕ)) (read choice : Choice) → choice_read words ≡ Some read
    → choice_of words ≡ Some choice → read ≡ choice
same_choice words read choice r of =
    read_by_values (takes mmgc_app (codes "mmgc" ∷ words)) (choice_of words) read choice r of

-- Each end but that of a whole input needs what an unhindered replay doesn't have.
module _ (task : Task) (input : Input) (output : Output) (heap : Gc)
    (trace : IfSome input.left IsTrace) (told : IsSome input.left_after) where
  ends_whole : (end : End) → Replayed end task input output heap
      → (Rose input.faults input.faults_after → ⊥) → (Rose output.faults output.faults_after → ⊥) → status_of end ≡ 0
  ends_whole Whole r reads writes = refl
  ends_whole (Fault line fault) r reads writes =
      absurd (no_fault_met input.left input.left_after r.reach.read r.reach.at_end
      (record { line = line; fault = fault }) trace told
      (subst (Gives input.left input.left_after) (ap (λ over. r.reach.read ++ over) r.cause.0
      ∙ append-nil r.reach.read) r.given)
      r.nothing_left r.fault_is)
  ends_whole ReadFailed r reads writes = absurd (reads r.cause.2)
  ends_whole WriteFailed r reads writes = absurd (writes r.written.0)
  ends_whole TooLong r reads writes =
      let fits = fits_read input.left input.left_after (r.reach.read ++ r.reach.over) trace told r.given in
      let over = r.cause.passes in
      absurd (omega (arith, fits, over))

-- a total line that no write kept from its end
generated_whole : (end : End) (output : Output) (text : List ℕ) → (Rose output.faults output.faults_after → ⊥)
    → (end ≡ Whole) ⊎ (end ≡ WriteFailed) → IsWritten end output text → status_of end ≡ 0
generated_whole end output text writes (inl whole) written = ap status_of whole
generated_whole end output text writes (inr failed) written =
    absurd (writes (subst (λ (e : End). IsWritten e output text) failed written).0)

module _ (words : List (List ℕ)) (traffic : Traffic) (outcome : Outcome) (says : List ℕ → Type 0) where
  -- what is known of the input that was asked for
  input_of : (u : IsUnhindered words traffic) (choice : Choice) → u.choice ≡ choice → choice.generated ≡ None
      → IsWholeInput choice.file traffic
  input_of u choice same replays =
      subst (λ (c : Choice). IsWholeInput c.file traffic) same
      (u.input (ap (λ (c : Choice). c.generated) same ∙ replays))

  serves_complete : (choice : Choice) → choice_of words ≡ Some choice → Serves choice traffic outcome says
      → IsUnhindered words traffic → (outcome.status ≡ 0) ⊎ (outcome.status ≡ 5)
  serves_complete choice of (inl lacks) u = inr lacks.status
  serves_complete choice of (inr (inl fails)) u =
      let input = input_of u choice (same_choice words u.choice choice u.readable of) fails.replays in
      absurd (input.reads fails.cause)
  serves_complete choice of (inr (inr (inl r))) u =
      let input = input_of u choice (same_choice words u.choice choice u.readable of) r.replays in
      inl (r.status ∙ ends_whole (task_of choice) (record traffic.input { left = r.bytes }) traffic.output r.heap
      (input.trace r.bytes r.input) input.told r.end r.replayed input.reads u.writes)
  serves_complete choice of (inr (inr (inr r))) u =
      inl (r.status ∙ generated_whole r.end traffic.output _ u.writes r.generated.ends.end_is r.generated.ends.written)

  -- nothing but running out of memory keeps such a run from its end
  pub complete : Ran words traffic outcome says → IsComplete words traffic outcome.status
  complete (inl refuses) u = let none = refuses.unreadable in let some = u.readable in cc (none, some)
  complete (inr (inl lacks)) u = inr lacks.status
  complete (inr (inr serves)) u = serves_complete serves.0 serves.1 serves.2 u
