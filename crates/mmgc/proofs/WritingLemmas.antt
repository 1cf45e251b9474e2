-- What the calls of a log writer come to, one after another and seen from its sink.
use Rattle.std.proofs.Common.{◌≡◌, ℕ, true, false, Option, None, Some, List, [], ◌++◌, length, take, drop}
use Rattle.std.proofs.Common.{Result, Ok, Err, is_err, OnOk, OnErr, inl, inr}
use Rattle.std.proofs.Common.{ap, refl, sym, ◌∙◌, append-nil, append_assoc}
use Rattle.std.proofs.lemmas.List.{append_cancel_left, take-append-drop}
use Rattle.std.proofs.Math.Seq.{take-append_seam}
use Rattle.mm_io.specs.Faults.{Counts}
use Rattle.mm_io.specs.Told.{Appends, AppendsFront}
use Rattle.mm_model.specs.Logs.Journal.{Writes}
use Rattle.mmgc.specs.Writing.{kept_bytes, Grows, Keeps}

-- what was pending has gone to the sink
writes-through : (t u : Option (List ℕ)) (pending : List ℕ) → Appends t u pending
    → Writes (kept_bytes t false pending) false (kept_bytes u false []) false []
writes-through t None pending appended =
    record { held = λ text h. tt; stays_broken = λ h. h; stays_silent = λ h. refl }
writes-through None (Some after) pending appended = absurd appended
writes-through (Some before) (Some after) pending appended =
    record {
      held = λ text h. append-nil after ∙ appended ∙ h ∙ sym (append-nil text);
      stays_broken = λ h. h;
      stays_silent = λ h. cc h;
    }

-- some front of what was pending has gone to the sink, and the rest is lost
writes-lost : (t u : Option (List ℕ)) (pending : List ℕ) → AppendsFront t u pending
    → Writes (kept_bytes t false pending) false (kept_bytes u true []) true []
writes-lost t None pending front =
    record { held = λ text h. tt; stays_broken = λ h. refl; stays_silent = λ h. refl }
writes-lost None (Some after) pending front = absurd front.1
writes-lost (Some before) (Some after) pending front =
    record {
      held = λ text h. (
        drop front.0 pending,
        ap (λ (bytes : List ℕ). bytes ++ drop front.0 pending) front.1
            ∙ append_assoc before (take front.0 pending) (drop front.0 pending)
            ∙ ap (λ (bytes : List ℕ). before ++ bytes) (take-append-drop front.0 pending)
            ∙ h
            ∙ sym (append-nil text),
      );
      stays_broken = λ h. refl;
      stays_silent = λ h. cc h;
    }

-- a call of the sink that was to take what is pending, by its result
pub writes-sent : {T E : Type 0} (t u : Option (List ℕ)) (pending : List ℕ) (result : Result T E)
    → OnOk result (Appends t u pending) → OnErr result (AppendsFront t u pending)
    → Writes (kept_bytes t false pending) false (kept_bytes u (is_err result) []) (is_err result) []
writes-sent t u pending (Ok x) ok err = writes-through t u pending ok
writes-sent t u pending (Err e) ok err = writes-lost t u pending err

-- what was lost before stays lost
pub writes-cleared : (t : Option (List ℕ)) (pending : List ℕ)
    → Writes (kept_bytes t true pending) true (kept_bytes t true []) true []
writes-cleared None pending = record { held = λ text h. tt; stays_broken = λ h. h; stays_silent = λ h. h }
writes-cleared (Some taken) pending =
    record { held = λ text h. (h.0, h.1 ∙ sym (append-nil text)); stays_broken = λ h. h; stays_silent = λ h. h }

-- such a call breaks the writer only where the sink counted a fault
pub keeps-sent : {T E : Type 0} (sink faults faults_after : ℕ) (t u : Option (List ℕ)) (pending : List ℕ)
    (result : Result T E)
    → OnOk result (Appends t u pending) → OnErr result (AppendsFront t u pending) →
    Counts faults faults_after result
    → Keeps sink sink faults faults_after t u false (is_err result)
keeps-sent sink faults faults_after t u pending (Ok x) ok err counts =
    record {
      same_sink = refl;
      never_falls = counts.never_falls;
      grows = (pending, ok);
      cause = λ broken. inl broken;
      stays_broken = λ broken. broken;
      clean = λ whole. counts.unraised;
    }
keeps-sent sink faults faults_after t u pending (Err e) ok err counts =
    record {
      same_sink = refl;
      never_falls = counts.never_falls;
      grows = (take err.0 pending, err.1);
      cause = λ broken. inr counts.cause;
      stays_broken = λ broken. refl;
      clean = λ whole. cc whole;
    }

-- Where the writer is whole and nothing is pending at both ends, the sink took what was written.
pub all_taken : (t u : Option (List ℕ)) (text : List ℕ)
    → Writes (kept_bytes t false []) false (kept_bytes u false []) false text → Appends t u text
all_taken t None text written = tt
all_taken None (Some after) text written = cc (written.stays_silent refl)
all_taken (Some before) (Some after) text written =
    sym (append-nil after) ∙ written.held (before ++ []) refl
    ∙ ap (λ (bytes : List ℕ). bytes ++ text) (append-nil before)

-- a front goes on with the rest of the text
front_of : (before front rest text : List ℕ) → (before ++ front) ++ rest ≡ before ++ text →
    front ≡ take (length front) text
front_of before front rest text whole =
    let same = append_cancel_left before (front ++ rest) text (sym (append_assoc before front rest) ∙ whole) in
    sym (take-append_seam front rest) ∙ ap (take (length front)) same

-- Where the writer broke, the sink took some front of what was written.
pub broken_front : (t u : Option (List ℕ)) (pending text : List ℕ)
    → Writes (kept_bytes t false []) false (kept_bytes u true pending) true text → Grows t u → AppendsFront t u text
broken_front t None pending text written grows = (0, tt)
broken_front None (Some after) pending text written grows = absurd grows.1
broken_front (Some before) (Some after) pending text written grows =
    let lost = written.held (before ++ []) refl in
    let from_start = ap (λ (bytes : List ℕ). bytes ++ lost.0) (sym grows.1) ∙ lost.1 in
    let same_start = ap (λ (bytes : List ℕ). bytes ++ text) (append-nil before) in
    let front = front_of before grows.0 lost.0 text (from_start ∙ same_start) in
    (length grows.0, grows.1 ∙ ap (λ (bytes : List ℕ). before ++ bytes) front)
