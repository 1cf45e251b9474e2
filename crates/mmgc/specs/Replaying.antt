-- How the bytes of a trace are carried out, line by line.
use Rattle.std.specs.Prelude.{◌≡◌, ℕ, ◌+◌, ◌-◌, ◌^◌, ◌≤◌, false, List, ◌++◌, ◌∷◌, [], length, flat_map, Option, Some}
use Rattle.std.specs.Prelude.{None, Result, Ok, Err, IfSome, option_map}
use Rattle.std.specs.List.{All}
use Rattle.mm_model.specs.Places.Limits.{IsWithinLimits}
use Rattle.mm_model.specs.declared.command.Command.{Command}
use Rattle.mm_model.specs.declared.refusal.LineFault.{LineFault}
use Rattle.mm_model.specs.declared.line.Line.{Line}
use Rattle.mm_model.specs.declared.settings.Settings.{Settings}
use Rattle.mm_model.specs.State.{empty_state}
use Rattle.mm_model.specs.Views.View.{Shows}
use Rattle.mm_model.specs.Logs.Journal.{Writes}
use Rattle.mm_model.specs.Logs.Spelling.{spelling_of}
use Rattle.mm_model.specs.Logs.Trace.{line_reading, reading_from, Reading, FaultAt}
use Rattle.mm_trace.specs.Lines.{IsWithinLine}
use Rattle.mm_gc.specs.Gc.{Gc, view_of_gc}
use Rattle.mmgc.specs.Writing.{Kept}
use Rattle.mm_sites.specs.Lines.{site_after, sites_of_lines}
use Rattle.mmgc.specs.declared.extras.Extras.{Extras}
use Rattle.mmgc.specs.Added.{Task}
use Rattle.mmgc.specs.Booking.{IsBlank, noted}
use Rattle.mmgc.specs.Pacing.{Carried, Driver, IsFresh, SitedTrace}

-- what these lines say, from line 1 on
abbrev pub reading_of : List (List ℕ) → Reading
reading_of lines = reading_from line_reading 1 lines

-- all bytes that may come and all commands that they hold can be counted
abbrev pub most_bytes : ℕ
most_bytes = 2 ^ 32 - 1

-- where a replay began: the settings of its heap, what is to stand behind its log and whether cycles are paced, and
-- what its journal kept, which was whole
pub record Start : Type 0 where
  pub settings : Settings
  pub extras : Extras
  pub kept : Option (List ℕ)

abbrev pub start_with : Settings → Extras → Kept → Start
start_with settings extras kept = record { settings = settings; extras = extras; kept = kept.bytes }

-- what was asked for as it began
abbrev pub task_since : Start → Task
task_since start = record { settings = start.settings; extras = start.extras }

-- the journal was given these bytes since the replay began
abbrev pub GrewSince : Start → Kept → List ℕ → Type 0
GrewSince start kept bytes = Writes start.kept false kept.bytes kept.broken bytes

-- a replay at one moment: its heap and what paces it, the piece of a line that it holds, the lines that it read, and
-- its journal
pub record Moment : Type 0 where
  pub driver : Driver
  pub held : List ℕ
  pub lines : ℕ
  pub kept : Kept

-- what lines say up to the first fault: the commands, the site of each, and this one for what comes next
abbrev pub sited_at : ℕ → List (List ℕ) → SitedTrace
sited_at site lines =
    record { commands = (reading_of lines).commands; sites = sites_of_lines lines; site = site }

-- the same, where the next site is the one that the lines name last
abbrev pub sited_of : List (List ℕ) → SitedTrace
sited_of lines = sited_at (site_after lines) lines

-- a heap to which nothing was done yet, made with settings within their limits
pub record IsNew (settings : Settings) (heap : Gc) : Type 0 where
  pub limits : IsWithinLimits settings
  pub shows : Shows (view_of_gc heap) (empty_state settings)

-- nothing was done yet with a heap nor with what drives it
pub record IsNewDriver (rate : Option ℕ) (settings : Settings) (driver : Driver) : Type 0 where
  pub heap : IsNew settings driver.heap
  pub pace : IsFresh rate driver.pace
  pub book : IfSome driver.book (IsBlank settings.max)

-- What these lines say was carried out up to the first fault, with what is added to it where cycles are paced, and the
-- log went to the journal.
pub record Stopped (start : Start) (lines : List (List ℕ)) (fault : Option FaultAt) (driver : Driver) (kept : Kept) :
    Type 0 where
  pub fault_is : (reading_of lines).fault ≡ fault
  pub log : List Line
  pub site : ℕ
  pub carried : Carried start.extras start.settings (sited_at site lines) log driver
  pub written : GrewSince start kept (spelling_of log)

-- Lines without a fault were carried out so, and the heap and what paces it can go on.
pub record Went (start : Start) (lines : List (List ℕ)) (driver : Driver) (kept : Kept) : Type 0 where
  pub clean : (reading_of lines).fault ≡ None
  pub log : List Line
  pub carried : Carried start.extras start.settings (sited_of lines) log driver
  pub written : GrewSince start kept (spelling_of log)

-- The bytes so far were cut into lines, which were carried out without a fault, and a piece of the next line is held.
pub record Progress (start : Start) (bytes : List ℕ) (now : Moment) : Type 0 where
  pub done : List (List ℕ)
  pub whole : bytes ≡ flat_map (λ line. line ++ 10 ∷ []) done ++ now.held
  pub done_clean : All IsWithinLine done
  pub held_clean : IsWithinLine now.held
  pub fits : length now.held ≤ 1024
  pub lines_are : now.lines ≡ length done
  pub went : Went start done now.driver now.kept

-- What a line says was done: it was passed over, or its command was carried out, or neither because of a fault.
abbrev pub DoesLine : Result (Option Command) LineFault → Result (Unit {0}) LineFault → Type 0 → Type 0 →
    (Command → Type 0) → Type 0
DoesLine (Err fault) result unchanged passed carried = (result ≡ Err fault) × unchanged
DoesLine (Ok None) result unchanged passed carried = (result ≡ Ok tt) × passed
DoesLine (Ok (Some command)) result unchanged passed carried = (result ≡ Ok tt) × carried command

-- a driver that goes on with the site that a line names, where sites are kept and it names one
abbrev pub noting : List ℕ → Driver → Driver
noting line driver = record driver { book = option_map (noted line) driver.book }

-- What more bytes made of the progress: more of it, or a fault at this line.
abbrev pub GoesOn : Result (Unit {0}) LineFault → Type 0 → (LineFault → Type 0) → Type 0
GoesOn (Ok done) more stopped = more
GoesOn (Err fault) more stopped = stopped fault

-- how far the replay has come, wherever it began, and that so many bytes may still come
pub record IsUnderWay (now : Moment) (more : ℕ) : Type 0 where
  pub start : Start
  pub bytes : List ℕ
  pub progress : Progress start bytes now
  pub room : length bytes + more ≤ most_bytes
