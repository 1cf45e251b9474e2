-- Bytes and lines that are carried out, one after another.
use Rattle.std.proofs.Common.{◌≡◌, ◌≢◌, ℕ, ◌+◌, ◌<◌, ◌≤◌, false, List, [], ◌∷◌, ◌++◌, length, take, drop}
use Rattle.std.proofs.Common.{length-append, lt-ltb, Option, Some, None, Result, Ok, Err, refl, sym, ap, ◌∙◌, subst}
use Rattle.std.proofs.Common.{append-nil, append_assoc, arith}
use mathlib.Core.Path.{subst₃}
use Rattle.std.proofs.lemmas.List.{length_push, length-take-le, take-append-drop, take_rest}
use Rattle.std.proofs.lemmas.List.Elements.{All-append}
use Rattle.std.specs.List.{flat_map}
use Rattle.std.specs.Prelude.{◌-◌, OnOk, IfErr, is_some, option_map, unwrap_or}
use Rattle.mm_model.specs.declared.command.Command.{Command}
use Rattle.mm_model.specs.declared.refusal.LineFault.{LineFault}
use Rattle.mm_model.specs.declared.refusal.LineFault.TheVariants.{LineTooLong}
use Rattle.mm_model.specs.After.{after}
use Rattle.mm_model.specs.Logs.Spelling.{spelling_of}
use Rattle.mm_model.specs.Logs.Trace.{line_reading, complete_lines, lines_of, line_if}
use Rattle.mm_model.specs.Logs.Trace.{reading_from, Reading, FaultAt}
use Rattle.mm_model.proofs.Text.Journals.{writes-none, writes-append}
use Rattle.mm_model.proofs.Text.Traces.{Cuts, Cuts-none, Cuts-newline, with_newline, complete_lines-cuts}
use Rattle.mm_model.proofs.Text.Traces.{lines_of-cuts}
use Rattle.mm_model.proofs.Text.Traces.{line_reading-too_long, reading_from-stops}
use Rattle.mm_model.proofs.Text.Faults.{complete_lines-after, complete_lines-held, complete_lines-newline}
use Rattle.mm_model.proofs.Text.Faults.{fault_at_end, fault_at_newline, reading-next-nothing}
use Rattle.mm_model.proofs.Text.Faults.{reading-next-command, lines-fewer, commands-fewer}
use Rattle.mm_trace.specs.Lines.{IsWithinLine}
use Rattle.mm_gc.specs.Gc.{Gc}
use Rattle.mmgc.specs.Writing.{Kept}
use Rattle.mm_model.specs.declared.settings.Settings.{Settings}
use Rattle.mmgc.specs.declared.extras.Extras.{Extras}
use Rattle.mm_sites.specs.Births.{birth_sites}
use Rattle.mm_sites.specs.Lines.{site_after, site_line, sites_of_lines}
use Rattle.mmgc.specs.Carrying.{Grew}
use Rattle.mmgc.specs.declared.executor.Executor.{Executor}
use Rattle.mmgc.specs.declared.executor.Bookkeeping.{Bookkeeping}
use Rattle.mmgc.specs.Logging.{driver_of, driver_with, noting_bookkeeping, noting_executor}
use Rattle.mmgc.specs.Pacing.{Advances, Carried, Driver, IsReady, SitedTrace}
use Rattle.mmgc.specs.Replaying.{reading_of, Stopped, Went, Progress, DoesLine, GoesOn, IsUnderWay}
use Rattle.mmgc.specs.Replaying.{most_bytes, noting, sited_of, GrewSince, Start, start_with, Moment, IsNewDriver}
use Rattle.mmgc.proofs.Booking.{asked-noted, booked-noted, NothingIsEntered}
use Rattle.mmgc.proofs.Carrying.{spelling_of-append}
use Rattle.mmgc.proofs.Pacing.Carried.{AreQuadrupled, carried-none, few_commands}

-- the bytes so far are cut into the lines that were carried out and what is held
pub cuts : {start : Start} {bytes : List ℕ} {now : Moment} (p : Progress start bytes now) →
    Cuts bytes p.done now.held
cuts p = record { whole = p.whole; lines_clean = p.done_clean; held_clean = p.held_clean }

-- the numbers that a replay counts have room for what may still come
pub record HasRoom (now : Moment) (more : ℕ) : Type 0 where
  pub ready : IsReady now.driver
  pub lines : now.lines + more ≤ most_bytes

-- a trace has too few lines to fill the counts, also where commands are added to it
room_of : AreQuadrupled → {start : Start} {bytes : List ℕ} {now : Moment} → Progress start bytes now →
    length bytes ≤ most_bytes → IsReady now.driver
room_of most {start} {bytes} {now} p fits =
    let few = lines-fewer bytes p.done now.held (cuts p) in
    let fewer = commands-fewer line_reading 1 p.done in
    let counted = few_commands most p.went.carried in
    record {
      extras = start.extras;
      settings = start.settings;
      trace = sited_of p.done;
      log = p.went.log;
      carried = p.went.carried;
      room = omega (arith, few, fewer, counted, fits);
    }

pub has_room : AreQuadrupled → {now : Moment} {more : ℕ} → IsUnderWay now more → HasRoom now more
has_room most {now} {more} way =
    let p = way.progress in
    let few = lines-fewer way.bytes p.done now.held (cuts p) in
    record {
      ready = room_of most p (omega (arith, way.room));
      lines = omega (arith, few, p.lines_are, way.room);
    }

-- how the sites of lines go on, and where they end
pub record SitesGoOn : Type 0 where
  pub command : (n : ℕ) (lines : List (List ℕ)) (line : List ℕ) (command : Command) →
      (reading_from line_reading n lines).fault ≡ None → line_reading line ≡ Ok (Some command) →
      sites_of_lines (lines ++ line ∷ []) ≡ sites_of_lines lines ++ site_after lines ∷ []
  pub passed_over : (lines : List (List ℕ)) (line : List ℕ) → line_reading line ≡ Ok None →
      sites_of_lines (lines ++ line ∷ []) ≡ sites_of_lines lines
  pub fault : (lines later : List (List ℕ)) (line : List ℕ) (fault : LineFault) → line_reading line ≡ Err fault →
      sites_of_lines (lines ++ line ∷ later) ≡ sites_of_lines lines
  pub site : (lines : List (List ℕ)) (line : List ℕ) →
      site_after (lines ++ line ∷ []) ≡ unwrap_or (site_line line) (site_after lines)
  -- a line that names a site is passed over
  pub named : (line : List ℕ) (site : ℕ) → site_line line ≡ Some site → line_reading line ≡ Ok None

-- the same log for the same reading
went-stopped : {start : Start} {lines more : List (List ℕ)} {fault : Option FaultAt} {driver : Driver}
    {kept : Kept} →
    Went start lines driver kept →
    reading_of more ≡ record { commands = (reading_of lines).commands; fault = fault } →
    sites_of_lines more ≡ sites_of_lines lines →
    Stopped start more fault driver kept
went-stopped {start} {lines} {driver = driver} w e same =
    record {
      fault_is = ap (λ (r : Reading). r.fault) e;
      log = w.log;
      site = site_after lines;
      carried = subst (λ (t : SitedTrace). Carried start.extras start.settings t w.log driver)
          (λ i. record {
            commands = (sym (ap (λ (r : Reading). r.commands) e)) i;
            sites = (sym same) i;
            site = site_after lines;
          }) w.carried;
      written = w.written;
    }

-- lines without a fault, at the end
went-whole : {start : Start} {lines : List (List ℕ)} {driver : Driver} {kept : Kept} → Went start lines driver kept →
    Stopped start lines None driver kept
went-whole {lines = lines} w =
    went-stopped w (ap (λ fault. record { commands = (reading_of lines).commands; fault = fault }) w.clean) refl

-- a line that is passed over
went-passed : SitesGoOn → {start : Start} {lines : List (List ℕ)} {driver : Driver} {kept : Kept} (line : List ℕ) →
    Went start lines driver kept → line_reading line ≡ Ok None →
    Went start (lines ++ line ∷ []) (noting line driver) kept
went-passed sites {start} {lines} {driver} line w says =
    let e = reading-next-nothing line_reading lines line w.clean says in
    let c = w.carried in
    let here : Carried start.extras start.settings
    (record (sited_of lines) { site = unwrap_or (site_line line) (site_after lines) }) w.log (noting line driver) =
    record {
      turns = c.turns;
      own = c.own;
      listed = c.listed;
      carried = c.carried;
      steps = c.steps;
      are = c.are;
      log_is = c.log_is;
      pacing = c.pacing;
      each_command = c.each_command;
      asked = asked-noted line driver.book ∙ c.asked;
      booked = booked-noted start.settings c.turns (birth_sites c.own (sites_of_lines lines)) (site_after lines) line
          driver.book c.booked;
    } in
    record {
      clean = ap (λ (r : Reading). r.fault) e;
      log = w.log;
      carried = subst (λ (t : SitedTrace). Carried start.extras start.settings t w.log (noting line driver))
          (λ i. record {
            commands = (sym (ap (λ (r : Reading). r.commands) e)) i;
            sites = (sym (sites.passed_over lines line says)) i;
            site = (sym (sites.site lines line)) i;
          }) here;
      written = w.written;
    }

-- the reading of lines that stops at a fault
abbrev faulty : List Command → ℕ → LineFault → Reading
faulty commands line fault = record { commands = commands; fault = Some (record { line = line; fault = fault }) }

-- a fault stands in the next line
fault_next : {start : Start} {bytes : List ℕ} {now : Moment} (fault : LineFault) (p : Progress start bytes now) →
    faulty (reading_of p.done).commands (length p.done + 1) fault
    ≡ faulty (reading_of p.done).commands (now.lines + 1) fault
fault_next fault p = ap (λ n. faulty (reading_of p.done).commands (n + 1) fault) (sym p.lines_are)

-- more bytes of the line that is held
Cuts-more : (bytes : List ℕ) (lines : List (List ℕ)) (held more : List ℕ) → Cuts bytes lines held →
    IsWithinLine more → Cuts (bytes ++ more) lines (held ++ more)
Cuts-more bytes lines held more c clean =
    record {
      whole = ap (λ xs. xs ++ more) c.whole ∙ append_assoc (flat_map with_newline lines) held more;
      lines_clean = c.lines_clean;
      held_clean = All-append (λ (byte : ℕ). byte ≢ 10) held more c.held_clean clean;
    }

progress-more : {start : Start} {bytes : List ℕ} {now : Moment} (more : List ℕ) →
    Progress start bytes now → IsWithinLine more → length now.held + length more ≤ 1024 →
    Progress start (bytes ++ more) (record now { held = now.held ++ more })
progress-more {bytes = bytes} {now = now} more p clean room =
    let longer = length-append now.held more in
    let cut = Cuts-more bytes p.done now.held more (cuts p) clean in
    record {
      done = p.done;
      whole = cut.whole;
      done_clean = cut.lines_clean;
      held_clean = cut.held_clean;
      fits = omega (arith, longer, room);
      lines_are = p.lines_are;
      went = p.went;
    }

-- nothing was done with a line that is too long
pub does-too_long : {Unchanged : Type 0} (Passed : Type 0) (carried : Command → Type 0) (line : List ℕ) → 1024 < length line →
    Unchanged → DoesLine (line_reading line) (Err LineTooLong) Unchanged Passed carried
does-too_long {Unchanged} Passed carried line long unchanged =
    subst (λ r. DoesLine r (Err LineTooLong) Unchanged Passed carried) (sym (line_reading-too_long line long))
    (refl, unchanged)

stopped-too_long : SitesGoOn → {start : Start} {bytes : List ℕ} {now : Moment} (more : List ℕ) →
    Progress start bytes now → IsWithinLine more → 1024 < length now.held + length more →
    Stopped start (complete_lines (bytes ++ more))
    (Some (record { line = now.lines + 1; fault = LineTooLong })) now.driver now.kept
stopped-too_long sites {bytes = bytes} {now = now} more p clean long =
    let line = now.held ++ more in
    let longer : 1024 < length line = omega (arith, length-append now.held more, long) in
    let turned : 1 + length p.done ≡ length p.done + 1 = omega arith in
    let cut : complete_lines (bytes ++ more) ≡ p.done ++ line ∷ [] =
    complete_lines-cuts (bytes ++ more) p.done line (Cuts-more bytes p.done now.held more (cuts p) clean)
    ∙ ap (λ b. p.done ++ line_if b line) (lt-ltb 1024 (length line) longer) in
    went-stopped p.went (ap reading_of cut
    ∙ reading_from-stops line_reading 1 p.done line [] LineTooLong p.went.clean
    (line_reading-too_long line longer)
    ∙ ap (λ n. faulty (reading_of p.done).commands n LineTooLong) turned
    ∙ fault_next LineTooLong p)
    (ap sites_of_lines cut ∙ sites.fault p.done [] line LineTooLong (line_reading-too_long line longer))

-- a whole line with a fault
stopped-line : SitesGoOn → {start : Start} {bytes : List ℕ} {now : Moment} (more : List ℕ) (fault : LineFault) (rest : List ℕ) →
    Progress start bytes now → IsWithinLine more → line_reading (now.held ++ more) ≡ Err fault →
    Stopped start (complete_lines ((bytes ++ more) ++ 10 ∷ rest))
    (Some (record { line = now.lines + 1; fault = fault })) now.driver now.kept
stopped-line sites {bytes = bytes} {now = now} more fault rest p clean e =
    let line = now.held ++ more in
    let cut = Cuts-more bytes p.done now.held more (cuts p) clean in
    went-stopped p.went (fault_at_newline line_reading (bytes ++ more) p.done line rest fault cut p.went.clean e
    ∙ fault_next fault p)
    (ap sites_of_lines (complete_lines-after (bytes ++ more) p.done line (10 ∷ rest) cut
    ∙ ap (λ ls. p.done ++ ls) (complete_lines-newline line rest cut.held_clean))
    ∙ sites.fault p.done (complete_lines rest) line fault e)

-- one more line that went well
next_line : {start : Start} {bytes : List ℕ} {now : Moment} {driver : Driver} {kept : Kept} (more : List ℕ)
    (p : Progress start bytes now) → IsWithinLine more →
    Went start (p.done ++ (now.held ++ more) ∷ []) driver kept →
    Progress start ((bytes ++ more) ++ 10 ∷ [])
    (record { driver = driver; held = []; lines = now.lines + 1; kept = kept })
next_line {bytes = bytes} {now = now} more p clean w =
    let line = now.held ++ more in
    let one_more = length_push p.done line in
    let cut = Cuts-newline (bytes ++ more) p.done line (Cuts-more bytes p.done now.held more (cuts p) clean) in
    record {
      done = p.done ++ line ∷ [];
      whole = cut.whole;
      done_clean = cut.lines_clean;
      held_clean = cut.held_clean;
      fits = omega arith;
      lines_are = omega (arith, one_more, p.lines_are);
      went = w;
    }

-- a line that says a command names no site
names_none : SitesGoOn → (line : List ℕ) (command : Command) → line_reading line ≡ Ok (Some command) →
    site_line line ≡ None
names_none sites line command says = split (site_line line) refl
  where
    split : (named : Option ℕ) → site_line line ≡ named → named ≡ None
    split None is = refl
    split (Some site) is = let passed = sites.named line site is in cc

-- a command was carried out after these lines
went-command : SitesGoOn → {start : Start} {lines : List (List ℕ)} {command : Command} {driver new : Driver}
    {kept after : Kept} (line : List ℕ) →
    Went start lines driver kept → Advances driver new command kept after →
    line_reading line ≡ Ok (Some command) →
    Went start (lines ++ line ∷ []) new after
went-command sites {start} {lines} {command} {new = new} {after = after} line w c says =
    let e = reading-next-command line_reading lines line command w.clean says in
    let one = c start.extras start.settings (sited_of lines) w.log w.carried in
    let site : site_after lines ≡ site_after (lines ++ line ∷ []) =
    sym (sites.site lines line ∙ ap (λ found. unwrap_or found (site_after lines)) (names_none sites line command says)) in
    record {
      clean = ap (λ (r : Reading). r.fault) e;
      log = w.log ++ one.0;
      carried = subst (λ (t : SitedTrace). Carried start.extras start.settings t (w.log ++ one.0) new)
          (λ i. record {
            commands = (sym (ap (λ (r : Reading). r.commands) e)) i;
            sites = (sym (sites.command 1 lines line command w.clean says)) i;
            site = site i;
          }) one.1;
      written = subst (GrewSince start after) (sym (spelling_of-append w.log one.0))
          (writes-append (spelling_of w.log) (spelling_of one.0) w.written one.2);
    }

-- what holds in any case holds at Ok
pub on_ok_always : {T E P : Type 0} (result : Result T E) → P → OnOk result P
on_ok_always (Ok x) p = p
on_ok_always (Err e) p = tt

-- heap and executor as they were, or as they are told to be
pub unmoved : {heap new : Gc} {executor next : Executor} → new ≡ heap → next ≡ executor →
    driver_of new next ≡ driver_of heap executor
unmoved {new = new} {executor = executor} same still =
    ap (driver_of new) still ∙ ap (λ (h : Gc). driver_of h executor) same

-- the same where the line was noted
pub noted_driver : {heap new : Gc} {next : Executor} (executor : Executor) (line : List ℕ) → new ≡ heap →
    next ≡ noting_executor line executor → driver_of new next ≡ noting line (driver_of heap executor)
noted_driver {heap} executor line same is = unmoved same is ∙ within executor.bookkeeping
  where
    within : (kept : Option Bookkeeping) →
        driver_with heap (option_map (noting_bookkeeping line) kept) ≡ noting line (driver_with heap kept)
    within None = refl
    within (Some kept) = refl

-- What a whole line, or the rest of the input as a line, came to.
module _ (sites : SitesGoOn) {start : Start} {bytes : List ℕ} {now : Moment} {driver : Driver} {kept : Kept}
    {Unchanged : Type 0} (same : Unchanged → (driver ≡ now.driver) × (kept ≡ now.kept))
    (p : Progress start bytes now) (result : Result (Unit {0}) LineFault) where
  -- where the line is passed over
  abbrev Passed : List ℕ → Type 0
  Passed line = (driver ≡ noting line now.driver) × (kept ≡ now.kept)

  abbrev Did : Type 0 → Result (Option Command) LineFault → Type 0
  Did Over reading =
      DoesLine reading result Unchanged Over (λ command. Advances now.driver driver command now.kept kept)

  -- where a fault leaves all as it was
  unchanged : {lines : List (List ℕ)} {fault : Option FaultAt} → Unchanged →
      Stopped start lines fault now.driver now.kept → Stopped start lines fault driver kept
  unchanged {lines} {fault} u s =
      let e = same u in
      subst (λ (v : Driver). Stopped start lines fault v kept) (sym e.0)
      (subst (Stopped start lines fault now.driver) (sym e.1) s)

  passed : {lines : List (List ℕ)} (line : List ℕ) → Passed line →
      Went start lines (noting line now.driver) now.kept → Went start lines driver kept
  passed {lines} line e w =
      subst (λ (v : Driver). Went start lines v kept) (sym e.0)
      (subst (Went start lines (noting line now.driver)) (sym e.1) w)

  abbrev More : List ℕ → List ℕ → ℕ → Type 0
  More line held lines = Progress start ((bytes ++ line) ++ 10 ∷ [])
      (record { driver = driver; held = held; lines = lines; kept = kept })

  abbrev Fault : List ℕ → ℕ → LineFault → Type 0
  Fault line lines fault = (rest : List ℕ) →
      Stopped start (complete_lines ((bytes ++ line) ++ 10 ∷ rest))
      (Some (record { line = lines; fault = fault })) driver kept

  went_well : (line held : List ℕ) → OnOk result (held ≡ []) → result ≡ Ok tt → More line [] (now.lines + 1) →
      GoesOn result (More line held (now.lines + 1)) (Fault line (now.lines + 1))
  went_well line held none ok more =
      let none : held ≡ [] = subst (λ r. OnOk r (held ≡ [])) ok none in
      subst (λ r. GoesOn r (More line held (now.lines + 1)) (Fault line (now.lines + 1))) (sym ok)
      (subst (λ h. More line h (now.lines + 1)) (sym none) more)

  line_read : {Over : Type 0} (line held : List ℕ) → (Over → Passed (now.held ++ line)) → IsWithinLine line →
      OnOk result (held ≡ []) →
      (reading : Result (Option Command) LineFault) → line_reading (now.held ++ line) ≡ reading → Did Over reading →
      GoesOn result (More line held (now.lines + 1)) (Fault line (now.lines + 1))
  line_read line held over clean none (Err fault) is d =
      subst (λ r. GoesOn r (More line held (now.lines + 1)) (Fault line (now.lines + 1))) (sym d.0)
      (λ rest. unchanged d.1 (stopped-line sites line fault rest p clean is))
  line_read line held over clean none (Ok None) is d =
      went_well line held none d.0 (next_line line p clean (passed (now.held ++ line) (over d.1)
      (went-passed sites (now.held ++ line) p.went is)))
  line_read line held over clean none (Ok (Some command)) is d =
      went_well line held none d.0 (next_line line p clean
      (went-command sites (now.held ++ line) p.went d.1 is))

  -- These bytes and a newline came, and nothing is held then.
  pub goes-on-line : {Over : Type 0} (line held : List ℕ) (lines : ℕ) → (Over → Passed (now.held ++ line)) →
      IsWithinLine line → OnOk result (held ≡ []) → lines ≡ now.lines + 1 →
      Did Over (line_reading (now.held ++ line)) →
      GoesOn result (More line held lines) (Fault line lines)
  goes-on-line line held lines over clean none l d =
      subst (λ n. GoesOn result (More line held n) (Fault line n)) (sym l)
      (line_read line held over clean none (line_reading (now.held ++ line)) refl d)

  abbrev AtEnd : Type 0
  AtEnd = Stopped start (lines_of bytes) None driver kept

  abbrev FaultAtEnd : ℕ → LineFault → Type 0
  FaultAtEnd lines fault =
      Stopped start (lines_of bytes) (Some (record { line = lines; fault = fault })) driver kept

  -- what is held is the last line
  last_line : 0 < length now.held → lines_of bytes ≡ p.done ++ now.held ∷ []
  last_line some =
      lines_of-cuts bytes p.done now.held (cuts p)
      ∙ ap (λ b. p.done ++ line_if b now.held) (lt-ltb 0 (length now.held) some)

  ends : 0 < length now.held → Went start (p.done ++ now.held ∷ []) driver kept → AtEnd
  ends some w = subst (λ lines. Stopped start lines None driver kept) (sym (last_line some)) (went-whole w)

  rest_read : {Over : Type 0} → (Over → Passed now.held) → 0 < length now.held →
      (reading : Result (Option Command) LineFault) →
      line_reading now.held ≡ reading → Did Over reading → GoesOn result AtEnd (FaultAtEnd (now.lines + 1))
  rest_read over some (Err fault) is d =
      subst (λ r. GoesOn r AtEnd (FaultAtEnd (now.lines + 1))) (sym d.0)
      (unchanged d.1 (went-stopped p.went (fault_at_end line_reading bytes p.done now.held fault (cuts p)
      p.went.clean some is
      ∙ fault_next fault p)
      (ap sites_of_lines (last_line some) ∙ sites.fault p.done [] now.held fault is)))
  rest_read over some (Ok None) is d =
      subst (λ r. GoesOn r AtEnd (FaultAtEnd (now.lines + 1))) (sym d.0)
      (ends some (passed now.held (over d.1) (went-passed sites now.held p.went is)))
  rest_read over some (Ok (Some command)) is d =
      subst (λ r. GoesOn r AtEnd (FaultAtEnd (now.lines + 1))) (sym d.0)
      (ends some (went-command sites now.held p.went d.1 is))

  pub goes-to-end : {Over : Type 0} → (Over → Passed now.held) → 0 < length now.held → (lines : ℕ) →
      lines ≡ now.lines + 1 →
      Did Over (line_reading now.held) → GoesOn result AtEnd (FaultAtEnd lines)
  goes-to-end over some lines l d = subst (λ n. GoesOn result AtEnd (FaultAtEnd n)) (sym l)
      (rest_read over some (line_reading now.held) refl d)

-- A piece of which a front was taken: its next line is what stands before the newline in the rest.
module _ (bytes front rest piece : List ℕ) (here : front ++ rest ≡ piece) where
  behind : (bytes ++ front) ++ rest ≡ bytes ++ piece
  behind = append_assoc bytes front rest ∙ ap (λ xs. bytes ++ xs) here

  whole_length : length (bytes ++ front) + length rest ≡ length bytes + length piece
  whole_length = sym (length-append (bytes ++ front) rest) ∙ ap length behind ∙ length-append bytes piece

  pub line_room : (n : ℕ) → n < length rest → length bytes + length piece ≤ most_bytes →
      length (bytes ++ front) + (length (take n rest) + 1) ≤ most_bytes
  line_room n below room =
      let line = length-take-le n rest (omega arith) in
      omega (arith, whole_length, line, room)

  pub held_room : {start : Start} {now : Moment} → Progress start (bytes ++ front) now →
      length bytes + length piece ≤ most_bytes → now.lines + (length now.held + length rest) ≤ most_bytes
  held_room {now = now} p room =
      let few = lines-fewer (bytes ++ front) p.done now.held (cuts p) in
      omega (arith, few, p.lines_are, whole_length, room)

  module _ (n : ℕ) (newline : drop n rest ≡ 10 ∷ drop (n + 1) rest) where
    line_cut : (xs : List ℕ) → (xs ++ take n rest) ++ 10 ∷ drop (n + 1) rest ≡ xs ++ rest
    line_cut xs =
        append_assoc xs (take n rest) (10 ∷ drop (n + 1) rest)
        ∙ ap (λ ys. xs ++ (take n rest ++ ys)) (sym newline)
        ∙ ap (λ ys. xs ++ ys) (take-append-drop n rest)

    pub piece_here : ((bytes ++ front) ++ take n rest) ++ 10 ∷ drop (n + 1) rest ≡ bytes ++ piece
    piece_here = line_cut (bytes ++ front) ∙ behind

    pub piece_next : ((front ++ take n rest) ++ 10 ∷ []) ++ take (length rest - (n + 1)) (drop (n + 1) rest) ≡ piece
    piece_next =
        ap (λ xs. ((front ++ take n rest) ++ 10 ∷ []) ++ xs) (take_rest rest (n + 1))
        ∙ append_assoc (front ++ take n rest) (10 ∷ []) (drop (n + 1) rest)
        ∙ line_cut front
        ∙ here

  pub front_next : (line : List ℕ) →
      ((bytes ++ front) ++ line) ++ 10 ∷ [] ≡ bytes ++ ((front ++ line) ++ 10 ∷ [])
  front_next line = simp append_assoc

  -- what the rest of the piece came to, where no newline is in it
  pub goes-on-held : SitesGoOn → {start : Start} {now : Moment} (held : List ℕ) (lines : ℕ) (driver : Driver)
      (result : Result (Unit {0}) LineFault) → Progress start (bytes ++ front) now → IsWithinLine rest →
      driver ≡ now.driver →
      OnOk result ((held ≡ now.held ++ rest) × (lines ≡ now.lines)) →
      OnOk result (length now.held + length rest ≤ 1024) →
      IfErr result (λ fault.
      (fault ≡ LineTooLong) × (1024 < length now.held + length rest) × (lines ≡ now.lines + 1)) →
      GoesOn result (Progress start (bytes ++ piece) (record now { driver = driver; held = held; lines = lines }))
      (λ fault. Stopped start (complete_lines (bytes ++ piece)) (Some (record { line = lines; fault = fault }))
      driver now.kept)
  goes-on-held sites {start} {now} held lines driver (Ok done) p clean same is fits long =
      subst (λ (d : Driver). Progress start (bytes ++ piece) (record now { driver = d; held = held; lines = lines }))
      (sym same)
      (subst (λ xs. Progress start xs (record now { held = held; lines = lines })) behind
      (subst (λ h. Progress start ((bytes ++ front) ++ rest) (record now { held = h; lines = lines })) (sym is.0)
      (subst (λ n. Progress start ((bytes ++ front) ++ rest) (record now { held = now.held ++ rest; lines = n }))
      (sym is.1) (progress-more rest p clean fits))))
  goes-on-held sites {start} {now} held lines driver (Err fault) p clean same is fits long =
      subst (λ (d : Driver). Stopped start (complete_lines (bytes ++ piece))
      (Some (record { line = lines; fault = fault })) d now.kept) (sym same)
      (subst
      (λ xs. Stopped start (complete_lines xs) (Some (record { line = lines; fault = fault })) now.driver now.kept)
      behind
      (subst (λ f. Stopped start (complete_lines ((bytes ++ front) ++ rest)) (Some (record { line = lines; fault = f }))
      now.driver now.kept) (sym long.0)
      (subst (λ n. Stopped start (complete_lines ((bytes ++ front) ++ rest))
      (Some (record { line = n; fault = LineTooLong })) now.driver now.kept) (sym long.2)
      (stopped-too_long sites rest p clean long.1))))

-- nothing is held at the end
pub stopped-none : {start : Start} {bytes : List ℕ} {now : Moment} →
    Progress start bytes now → now.held ≡ [] → Stopped start (lines_of bytes) None now.driver now.kept
stopped-none {start} {bytes} {now} p none =
    subst (λ lines. Stopped start lines None now.driver now.kept)
    (sym (lines_of-cuts bytes p.done [] (subst (Cuts bytes p.done) none (cuts p)) ∙ append-nil p.done))
    (went-whole p.went)

-- there is room for one more line where some of it is held
pub has_room-held : AreQuadrupled → {now : Moment} → IsUnderWay now 0 → 0 < length now.held → HasRoom now 1
has_room-held most {now} way some =
    let p = way.progress in
    let few = lines-fewer way.bytes p.done now.held (cuts p) in
    record {
      ready = room_of most p (omega (arith, way.room));
      lines = omega (arith, few, p.lines_are, way.room, some);
    }

-- where more may come, what was read stops at the last whole line
pub progress-stopped : {start : Start} {bytes : List ℕ} {now : Moment} →
    Progress start bytes now → Stopped start (complete_lines bytes) None now.driver now.kept
progress-stopped {start} {bytes} {now} p =
    subst (λ lines. Stopped start lines None now.driver now.kept)
    (sym (complete_lines-held bytes p.done now.held (cuts p) p.fits)) (went-whole p.went)

-- a journal that writes nothing more
went-written_out : {start : Start} {lines : List (List ℕ)} {driver : Driver} {kept after : Kept} →
    Went start lines driver kept → Grew kept after [] → Went start lines driver after
went-written_out {start} {after = after} s w =
    record {
      clean = s.clean;
      log = s.log;
      carried = s.carried;
      written = subst (GrewSince start after) (append-nil (spelling_of s.log))
          (writes-append (spelling_of s.log) [] s.written w);
    }

pub progress-written_out : {start : Start} {bytes : List ℕ} {now : Moment} {after : Kept} →
    Progress start bytes now → Grew now.kept after [] → Progress start bytes (record now { kept = after })
progress-written_out p w =
    record {
      done = p.done;
      whole = p.whole;
      done_clean = p.done_clean;
      held_clean = p.held_clean;
      fits = p.fits;
      lines_are = p.lines_are;
      went = went-written_out p.went w;
    }

-- nothing was read yet
pub progress-none : (settings : Settings) (extras : Extras) (driver : Driver) (kept : Option (List ℕ)) →
    IsNewDriver extras.rate settings driver → is_some driver.book ≡ extras.sites → NothingIsEntered settings →
    Progress (record { settings = settings; extras = extras; kept = kept }) []
    (record { driver = driver; held = []; lines = 0; kept = record { bytes = kept; broken = false } })
progress-none settings extras driver kept new asked nothing =
    record {
      done = [];
      whole = refl;
      done_clean = Cuts-none.lines_clean;
      held_clean = Cuts-none.held_clean;
      fits = omega arith;
      lines_are = refl;
      went = record {
        clean = refl;
        log = [];
        carried = carried-none extras settings driver new asked nothing;
        written = writes-none kept false;
      };
    }

-- the same, in the words of what was made
pub progress-began : (settings : Settings) (extras : Extras) (kept : Kept) {driver : Driver} {held : List ℕ}
    {lines : ℕ} → held ≡ [] → lines ≡ 0 → kept.broken ≡ false → IsNewDriver extras.rate settings driver →
    is_some driver.book ≡ extras.sites → NothingIsEntered settings →
    Progress (start_with settings extras kept) [] (record { driver = driver; held = held; lines = lines; kept = kept })
progress-began settings extras kept {driver} {held} {lines} h n whole new asked nothing =
    subst₃ (λ h n b. Progress (start_with settings extras kept) []
    (record { driver = driver; held = h; lines = n; kept = record { bytes = kept.bytes; broken = b } }))
    (sym h) (sym n) (sym whole) (progress-none settings extras driver kept.bytes new asked nothing)
