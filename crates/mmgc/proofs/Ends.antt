-- Ends of a replay, as a whole and by turns.
use Rattle.std.proofs.Common.{◌≡◌, ℕ, ◌+◌, ◌<◌, ◌≤◌, Bool, true, false, cond, List, [], ◌∷◌, ◌++◌, length}
use Rattle.std.proofs.Common.{length-append, refl, sym, ap, ◌∙◌, subst, append-nil, ◌⊎◌, inl, inr, IsTrue, Option, Some}
use Rattle.std.proofs.Common.{None, arith}
use mathlib.Core.Path.{subst₂}
use Rattle.mm_model.specs.declared.line.Line.{Line}
use Rattle.mm_model.specs.declared.line.Line.TheVariants as lines
use Rattle.mm_model.specs.declared.line.Totals.{Totals}
use Rattle.mm_model.specs.State.{State, totals_of}
use Rattle.mm_model.specs.Views.View.{Shows, view_of}
use Rattle.std.proofs.lemmas.List.{length_push}
use Rattle.mm_model.specs.Logs.Journal.{Writes}
use Rattle.mm_model.specs.Logs.Spelling.{spelling, spelling_of}
use Rattle.mm_model.specs.Logs.Trace.{lines_of, complete_lines, FaultAt}
use Rattle.mm_model.proofs.Text.Journals.{writes-append}
use Rattle.mm_io.specs.Faults.{Rose}
use Rattle.mm_io.specs.Told.{Appends, Gives}
use Rattle.mm_io.proofs.ToldLemmas.{Gives-append}
use Rattle.mm_gc.specs.Gc.{Gc, totals_in, view_of_gc}
use Rattle.mmgc.specs.Writing.{Kept}
use Rattle.mmgc.specs.declared.extras.Extras.{Extras}
use Rattle.mmgc.specs.Added.{IsAddedText, IsAnswer, IsFollowed, SitedState, site_lines, with_total}
use Rattle.mmgc.specs.Appending.{Appended, asked_of, word_of}
use Rattle.mmgc.specs.declared.appendix.Appendix.{Appendix}
use Rattle.mmgc.specs.declared.site_book.SiteBook.{SiteBook}
use Rattle.std.specs.Prelude.{is_some}
use Rattle.mmgc.specs.Writing.{kept_bytes, Grows}
use Rattle.mmgc.specs.Carrying.{Grew}
use Rattle.mmgc.specs.Replaying.{reading_of, most_bytes, GrewSince, Start, task_since, Moment, Stopped, Progress}
use Rattle.mmgc.specs.Run.{Input, Output, Reach, lines_in, NothingLeft, HasCause, IsFaultOf, IsLogOf, IsPassedOn}
use Rattle.mmgc.specs.Run.{IsWritten, sited_by}
use Rattle.mmgc.specs.Run.{IsWithinTrace, Replayed, Ended, Logged}
use Rattle.mmgc.specs.Generating.{EndsWritten}
use Rattle.mmgc.specs.declared.replay.End.{End}
use Rattle.mmgc.specs.declared.replay.End.TheVariants.{Whole, Fault, ReadFailed, WriteFailed, TooLong}
use Rattle.mm_pace.specs.Paced.{commands_in}
use Rattle.mm_why.specs.Path.{shown_in}
use Rattle.mmgc.specs.Booking.{booked_text}
use Rattle.mmgc.specs.Pacing.{Driver}
use Rattle.mmgc.proofs.Booking.{booked_text-is, state_after-steps, TotalsAreRight}
use Rattle.mmgc.proofs.Carrying.{spelling_of-append}
use Rattle.mmgc.proofs.Pacing.Carried.{has_commands, has_log}
use Rattle.mmgc.proofs.Replays.{progress-stopped}
use Rattle.mmgc.proofs.WritingLemmas.{all_taken, broken_front}

-- all that was read is carried out, and is no more than a trace has
all_within : (bytes : List ℕ) (at_end : Bool) → length bytes ≤ most_bytes →
    IsWithinTrace (record { read = bytes; over = []; at_end = at_end })
all_within bytes at_end fits = record { fits = fits; one_read = omega arith; none_over = λ e. refl }

-- The last line of an input is carried out, or has a fault.
module _ {start : Start} {bytes : List ℕ} {input : Input} {now : Moment} (fits : length bytes ≤ most_bytes)
    (given : Gives input.left input.left_after []) (nothing_left : NothingLeft input.left_after)
    (clean : input.faults_after ≡ input.faults) where
  pub ended-whole : Stopped start (lines_of bytes) None now.driver now.kept → Ended Whole start bytes input now
  ended-whole s =
      record {
        reach = record { read = bytes; over = []; at_end = true };
        within = all_within bytes true fits;
        piece = [];
        bytes_are = refl;
        given = given;
        nothing_left = λ e. nothing_left;
        cause = (refl, (refl, clean));
        fault = None;
        fault_is = refl;
        broken = λ e. cc e;
        stopped = s;
      }

  pub ended-last_fault : (fault : FaultAt) → Stopped start (lines_of bytes) (Some fault) now.driver now.kept →
      Ended (Fault fault.line fault.fault) start bytes input now
  ended-last_fault fault s =
      record {
        reach = record { read = bytes; over = []; at_end = true };
        within = all_within bytes true fits;
        piece = [];
        bytes_are = refl;
        given = given;
        nothing_left = λ e. nothing_left;
        cause = (refl, clean);
        fault = Some fault;
        fault_is = refl;
        broken = λ e. cc e;
        stopped = s;
      }

-- A piece of an input has a line with a fault, or is too much.
module _ {start : Start} {bytes : List ℕ} {input : Input} {now : Moment} (piece : List ℕ)
    (given : Gives input.left input.left_after piece) (clean : input.faults_after ≡ input.faults) where
  pub ended-fault : length (bytes ++ piece) ≤ most_bytes → (fault : FaultAt) →
      Stopped start (complete_lines (bytes ++ piece)) (Some fault) now.driver now.kept →
      Ended (Fault fault.line fault.fault) start bytes input now
  ended-fault fits fault s =
      record {
        reach = record { read = bytes ++ piece; over = []; at_end = false };
        within = all_within (bytes ++ piece) false fits;
        piece = piece;
        bytes_are = append-nil (bytes ++ piece);
        given = given;
        nothing_left = λ e. cc e;
        cause = (refl, clean);
        fault = Some fault;
        fault_is = refl;
        broken = λ e. cc e;
        stopped = s;
      }

  pub ended-too_long : Progress start bytes now → length bytes ≤ most_bytes →
      most_bytes < length bytes + length piece → length piece ≤ 4096 → Ended TooLong start bytes input now
  ended-too_long p fits passes one =
      let more = length-append bytes piece in
      record {
        reach = record { read = bytes; over = piece; at_end = false };
        within = record { fits = fits; one_read = one; none_over = λ e. cc e };
        piece = piece;
        bytes_are = refl;
        given = given;
        nothing_left = λ e. cc e;
        cause = record {
          more_follow = refl;
          passes = omega (arith, more, passes);
          clean = clean;
        };
        fault = None;
        fault_is = refl;
        broken = λ e. cc e;
        stopped = progress-stopped p;
      }

-- A read failed, or a write before it.
module _ {start : Start} {bytes : List ℕ} {input : Input} {now : Moment} (fits : length bytes ≤ most_bytes)
    (given : Gives input.left input.left_after []) (p : Progress start bytes now) where
  pub ended-read_fault : Rose input.faults input.faults_after → Ended ReadFailed start bytes input now
  ended-read_fault rose =
      record {
        reach = record { read = bytes; over = []; at_end = false };
        within = all_within bytes false fits;
        piece = [];
        bytes_are = refl;
        given = given;
        nothing_left = λ e. cc e;
        cause = (refl, refl, rose);
        fault = None;
        fault_is = refl;
        broken = λ e. cc e;
        stopped = progress-stopped p;
      }

  pub ended-write_fault : IsTrue now.kept.broken → Ended WriteFailed start bytes input now
  ended-write_fault broken =
      record {
        reach = record { read = bytes; over = []; at_end = false };
        within = all_within bytes false fits;
        piece = [];
        bytes_are = refl;
        given = given;
        nothing_left = λ e. cc e;
        cause = tt;
        fault = None;
        fault_is = tt;
        broken = λ e. broken;
        stopped = progress-stopped p;
      }

-- a cause over the last turn is one over all turns, since no fault was counted before
abbrev since : Input → Option (List ℕ) → ℕ → Input
since input left faults =
    record { left = left; left_after = input.left_after; faults = faults; faults_after = input.faults_after }

cause-since : (end : End) (reach : Reach) (input : Input) (left : Option (List ℕ)) (faults : ℕ) →
    input.faults ≡ faults → HasCause end reach input → HasCause end reach (since input left faults)
cause-since Whole reach input left faults e h = (h.0, (h.1.0, h.1.1 ∙ e))
cause-since (Fault line fault) reach input left faults e h = (h.0, h.1 ∙ e)
cause-since ReadFailed reach input left faults e h = (h.0, h.1, subst (λ f. Rose f input.faults_after) e h.2)
cause-since WriteFailed reach input left faults e h = tt
cause-since TooLong reach input left faults e h =
    record {
      more_follow = h.more_follow;
      passes = h.passes;
      clean = h.clean ∙ e;
    }

pub ended-since : {end : End} {start : Start} {bytes : List ℕ} {input : Input} {now : Moment}
    (left : Option (List ℕ)) (faults : ℕ) → Gives left input.left bytes → input.faults ≡ faults →
    Ended end start bytes input now → Ended end start [] (since input left faults) now
ended-since {end} {bytes = bytes} {input = input} left faults given e ended =
    record {
      reach = ended.reach;
      within = ended.within;
      piece = bytes ++ ended.piece;
      bytes_are = ended.bytes_are;
      given = Gives-append left input.left input.left_after bytes ended.piece given ended.given;
      nothing_left = ended.nothing_left;
      cause = cause-since end ended.reach input left faults e ended.cause;
      fault = ended.fault;
      fault_is = ended.fault_is;
      broken = ended.broken;
      stopped = ended.stopped;
    }

-- what was asked for is still asked for, where sites are kept as before
pub asked_on : (rate : Option ℕ) (found next : Option SiteBook) (appendix : Appendix) → is_some next ≡ is_some found
    → asked_of rate found appendix ≡ asked_of rate next appendix
asked_on rate found next appendix kept =
    ap (λ sites. record { why = word_of appendix; rate = rate; sites = sites }) (sym kept)

-- one line more makes another log
longer : (xs : List Line) (x : Line) → xs ++ x ∷ [] ≡ xs → ⊥
longer xs x e = let more = length_push xs x in let same = ap length e in omega (arith, more, same)

-- the added text stands behind the total line, and nothing behind any other log
followed-whole : (extras : Extras) (groups : List Line) (left : SitedState) (added : List ℕ) →
    IsAddedText extras left added → IsFollowed extras groups left (with_total groups left.state) added
followed-whole extras groups left added is =
    record {
      behind_total = λ e. is;
      else_none = λ e. absurd (longer groups (lines.Total (totals_of left.state)) e);
    }

followed-other : (extras : Extras) (groups : List Line) (left : SitedState) →
    IsFollowed extras groups left groups []
followed-other extras groups left =
    record {
      behind_total = λ e. absurd (longer groups (lines.Total (totals_of left.state)) (sym e));
      else_none = λ e. refl;
    }

-- the total line makes a legal log whole
pub logged-whole : TotalsAreRight → {start : Start} (reach : Reach) {driver : Driver} {kept between next after : Kept}
    (totals : Totals) →
    Stopped start (lines_in reach) None driver kept → totals ≡ totals_in driver.heap →
    Grew kept between (spelling (lines.Total totals)) → Grew between next (booked_text driver.book) →
    ((a : State) → Shows (view_of_gc driver.heap) a →
    Appended (IsAnswer start.extras.why (shown_in (view_of a))) next after) →
    Logged Whole start reach driver.heap after
logged-whole right {start} reach {driver} {between = between} {next = next} {after = after} totals s t w booked adds =
    let line = lines.Total totals in
    let c = s.carried in
    let out = has_log c in
    let are = has_commands c in
    let state = c.carried.state in
    let left = sited_by state c.own reach in
    let answer = adds state c.carried.shows in
    let sites : booked_text driver.book ≡ site_lines start.extras.sites left =
    booked_text-is right start.settings c.turns left s.site start.extras.sites driver.book c.carried.good
    (state_after-steps start.settings c.turns state c.steps) c.asked c.booked in
    let added = booked_text driver.book ++ answer.text in
    let is_added : IsAddedText start.extras left added =
    record {
      answer = answer.text;
      answers = answer.is;
      is = ap (λ text. text ++ answer.text) sites;
    } in
    let total : s.log ++ line ∷ [] ≡ with_total s.log state =
    ap (λ (x : Totals). s.log ++ lines.Total x ∷ []) (t ∙ c.carried.shows.totals) in
    let text : spelling_of s.log ++ spelling line ≡ spelling_of (s.log ++ line ∷ []) =
    ap (λ x. spelling_of s.log ++ x) (sym (append-nil (spelling line)))
    ∙ sym (spelling_of-append s.log (line ∷ [])) in
    record {
      commands = commands_in c.turns;
      groups = s.log;
      carried = are.are;
      own = c.own;
      own_are = are.own_are;
      state = state;
      legal = out.legal;
      good = c.carried.good;
      shows = c.carried.shows;
      log = s.log ++ line ∷ [];
      log_is = total;
      added = added;
      follows = subst (λ log. IsFollowed start.extras s.log left log added) (sym total)
          (followed-whole start.extras s.log left added is_added);
      written = writes-append (spelling_of (s.log ++ line ∷ [])) added
          (subst (GrewSince start between) text
          (writes-append (spelling_of s.log) (spelling line) s.written w))
          (writes-append (booked_text driver.book) answer.text booked answer.written);
    }

-- the lines of the commands are the log of every other end
log_is-other : (end : End) (reach : Reach) (groups : List Line) (state : State) → (end ≡ Whole → ⊥) →
    IsLogOf end reach groups state groups
log_is-other Whole reach groups state other = absurd (other refl)
log_is-other (Fault line fault) reach groups state other = refl
log_is-other ReadFailed reach groups state other = refl
log_is-other WriteFailed reach groups state other = inl refl
log_is-other TooLong reach groups state other = refl

pub logged-other : (end : End) {start : Start} (reach : Reach) {fault : Option FaultAt} {driver : Driver}
    {kept : Kept} →
    (end ≡ Whole → ⊥) → Stopped start (lines_in reach) fault driver kept →
    Logged end start reach driver.heap kept
logged-other end {start} reach {kept = kept} other s =
    let c = s.carried in
    let out = has_log c in
    let are = has_commands c in
    record {
      commands = commands_in c.turns;
      groups = s.log;
      carried = are.are;
      own = c.own;
      own_are = are.own_are;
      state = c.carried.state;
      legal = out.legal;
      good = c.carried.good;
      shows = c.carried.shows;
      log = s.log;
      log_is = log_is-other end reach s.log c.carried.state other;
      added = [];
      follows = followed-other start.extras s.log (sited_by c.carried.state c.own reach);
      written = subst (GrewSince start kept) (sym (append-nil (spelling_of s.log))) s.written;
    }

-- a journal that writes nothing more
pub logged-written_out : {end : End} {start : Start} {reach : Reach} {heap : Gc} {kept after : Kept} →
    Logged end start reach heap kept → Grew kept after [] → Logged end start reach heap after
logged-written_out {start = start} {after = after} l w =
    record {
      commands = l.commands;
      groups = l.groups;
      carried = l.carried;
      own = l.own;
      own_are = l.own_are;
      state = l.state;
      legal = l.legal;
      good = l.good;
      shows = l.shows;
      log = l.log;
      log_is = l.log_is;
      added = l.added;
      follows = l.follows;
      written = subst (GrewSince start after) (append-nil (spelling_of l.log ++ l.added))
          (writes-append (spelling_of l.log ++ l.added) [] l.written w);
    }

-- the log of any end is one that a failed write may have cut short
cut_short : (end : End) (reach : Reach) (input : Input) (groups : List Line) (state : State) (log : List Line) →
    HasCause end reach input → IsFaultOf end (reading_of (lines_in reach)).fault →
    IsLogOf end reach groups state log → IsLogOf WriteFailed reach groups state log
cut_short Whole reach input groups state log cause none l = inr (cause.0, none, l)
cut_short (Fault line fault) reach input groups state log cause found l = inl l
cut_short ReadFailed reach input groups state log cause none l = inl l
cut_short WriteFailed reach input groups state log cause any l = l
cut_short TooLong reach input groups state log cause none l = inl l

all_written : (end : End) (output : Output) (text : List ℕ) → (end ≡ WriteFailed → ⊥) →
    output.faults_after ≡ output.faults → Appends output.taken output.taken_after text → IsPassedOn output →
    IsWritten end output text
all_written Whole output text well clean appended passed = (clean, appended, passed)
all_written (Fault line fault) output text well clean appended passed = (clean, appended, passed)
all_written ReadFailed output text well clean appended passed = (clean, appended, passed)
all_written WriteFailed output text well clean appended passed = absurd (well refl)
all_written TooLong output text well clean appended passed = (clean, appended, passed)

-- what was whole didn't break before
pub was_whole : {A : Type 0} (broken : Bool) → broken ≡ false → IsTrue broken ⊎ A → A
was_whole broken whole (inl before) = cc (whole, before)
was_whole broken whole (inr other) = other

-- What a journal keeps, by its sink and by what is pending.
abbrev kept_at : Option (List ℕ) → Bool → List ℕ → Kept
kept_at taken broken pending = record { bytes = kept_bytes taken broken pending; broken = broken }

-- what is known of the journal and its sink, where the log was finished
pub record Finished (output : Output) (kept : Option (List ℕ)) (broken : Bool) (pending : List ℕ) : Type 0 where
  pub started : kept ≡ kept_bytes output.taken false []
  pub nothing_pending : broken ≡ false → pending ≡ []
  pub grows : Grows output.taken output.taken_after
  pub cause : IsTrue broken → Rose output.faults output.faults_after
  pub clean : broken ≡ false → output.faults_after ≡ output.faults
  pub passed : broken ≡ false → IsPassedOn output

module _ {end : End} {start : Start} {input : Input} {now : Moment} (output : Output) (heap : Gc)
    (ended : Ended end start [] input now) where
  given_all : Gives input.left input.left_after (ended.reach.read ++ ended.reach.over)
  given_all = subst (Gives input.left input.left_after) (sym ended.bytes_are) ended.given

  fault_is : IsFaultOf end (reading_of (lines_in ended.reach)).fault
  fault_is = subst (IsFaultOf end) (sym ended.stopped.fault_is) ended.fault_is

  -- by whether the journal is broken in the end
  pub replayed : (broken : Bool) (pending : List ℕ) (result : End) → result ≡ cond broken WriteFailed end →
      (end ≡ WriteFailed → IsTrue broken) → Finished output start.kept broken pending →
      Logged end start ended.reach heap (kept_at output.taken_after broken pending) →
      Replayed result (task_since start) input output heap
  replayed false pending result is still f l =
      subst (λ r. Replayed r (task_since start) input output heap) (sym is) (record {
        reach = ended.reach;
        within = ended.within;
        given = given_all;
        nothing_left = ended.nothing_left;
        cause = ended.cause;
        fault_is = fault_is;
        commands = l.commands;
        groups = l.groups;
        carried = l.carried;
        own = l.own;
        own_are = l.own_are;
        state = l.state;
        legal = l.legal;
        good = l.good;
        shows = l.shows;
        log = l.log;
        log_is = l.log_is;
        added = l.added;
        follows = l.follows;
        written = all_written end output (spelling_of l.log ++ l.added) (λ e. let lost = still e in cc lost)
            (f.clean refl) (all_taken output.taken output.taken_after (spelling_of l.log ++ l.added)
            (subst₂ (λ x y. Writes x false y false (spelling_of l.log ++ l.added)) f.started
            (ap (kept_bytes output.taken_after false) (f.nothing_pending refl)) l.written)) (f.passed refl);
      })
  replayed true pending result is still f l =
      subst (λ r. Replayed r (task_since start) input output heap) (sym is) (record {
        reach = ended.reach;
        within = ended.within;
        given = given_all;
        nothing_left = ended.nothing_left;
        cause = tt;
        fault_is = tt;
        commands = l.commands;
        groups = l.groups;
        carried = l.carried;
        own = l.own;
        own_are = l.own_are;
        state = l.state;
        legal = l.legal;
        good = l.good;
        shows = l.shows;
        log = l.log;
        log_is = cut_short end ended.reach input l.groups l.state l.log ended.cause fault_is l.log_is;
        added = l.added;
        follows = l.follows;
        written = (
          f.cause refl,
          broken_front output.taken output.taken_after pending (spelling_of l.log ++ l.added)
              (subst
              (λ x. Writes x false (kept_bytes output.taken_after true pending) true (spelling_of l.log ++ l.added))
              f.started l.written) f.grows,
        );
      })

-- A text that was written alone, by whether the journal is broken in the end.
pub text_written : (output : Output) (kept : Option (List ℕ)) (text : List ℕ) (broken : Bool) (pending : List ℕ)
    (end : End) → end ≡ cond broken WriteFailed Whole → Finished output kept broken pending →
    Writes kept false (kept_bytes output.taken_after broken pending) broken text → EndsWritten end output text
text_written output kept text false pending end is f w =
    subst (λ e. EndsWritten e output text) (sym is) (record {
      end_is = inl refl;
      written = (
        f.clean refl,
        all_taken output.taken output.taken_after text
            (subst₂ (λ x y. Writes x false y false text) f.started
            (ap (kept_bytes output.taken_after false) (f.nothing_pending refl)) w),
        f.passed refl,
      );
    })
text_written output kept text true pending end is f w =
    subst (λ e. EndsWritten e output text) (sym is) (record {
      end_is = inr refl;
      written = (
        f.cause refl,
        broken_front output.taken output.taken_after pending text
            (subst (λ x. Writes x false (kept_bytes output.taken_after true pending) true text) f.started w)
            f.grows,
      );
    })
