-- A log writer and a replay as contracts see them, by what the sink counts and has taken.
use Rattle.std.specs.Prelude.{ℕ, List, map, Option, None, Some, option_map}
use Rattle.mm_gc.specs.Gc.{Gc}
use Rattle.mmgc.specs.declared.log.LogWriter.{LogWriter}
use Rattle.mmgc.specs.declared.executor.Bookkeeping.{Bookkeeping}
use Rattle.mmgc.specs.declared.executor.Executor.{Executor}
use Rattle.mmgc.specs.declared.replay.Replay.{Replay}
use Rattle.mm_model.specs.Logs.Spelling.{spelling_of}
use Rattle.mm_sweep.specs.Told.{Told, line_told}
use Rattle.mmgc.specs.Booking.{noted}
use Rattle.mmgc.specs.Carrying.{Grew}
use Rattle.mmgc.specs.Writing.{Kept, kept_bytes, Keeps}
use Rattle.mm_pace.specs.declared.pace.Pace.{Pace}
use Rattle.mmgc.specs.declared.site_book.SiteBook.{SiteBook}
use Rattle.mmgc.specs.Pacing.{Driver, Left, Team}
use Rattle.mmgc.specs.Replaying.{Moment}

abbrev pub kept_by : {K : Type 0} → (K → Option (List ℕ)) → LogWriter K → Kept
kept_by taken log = record { bytes = kept_bytes (taken log.sink.now) log.broken log.pending.items; broken = log.broken }

-- what a call of a pacer left, with the sites before it, and the log before and after it
abbrev pub left_of : {K : Type 0} → (K → Option (List ℕ)) → Team → Option SiteBook → LogWriter K → LogWriter K → Left
left_of taken team book before after =
    record { team = team; book = book; before = kept_by taken before; after = kept_by taken after }

abbrev pub pace_in : Option Bookkeeping → Option Pace
pace_in None = None
pace_in (Some kept) = kept.pace

abbrev pub book_in : Option Bookkeeping → Option SiteBook
book_in None = None
book_in (Some kept) = kept.book

abbrev pub driver_with : Gc → Option Bookkeeping → Driver
driver_with heap kept = record { heap = heap; pace = pace_in kept; book = book_in kept }

abbrev pub driver_of : Gc → Executor → Driver
driver_of heap executor = driver_with heap executor.bookkeeping

abbrev pub pace_of : Executor → Option Pace
pace_of executor = pace_in executor.bookkeeping

abbrev pub book_of : Executor → Option SiteBook
book_of executor = book_in executor.bookkeeping

-- with the site that a line names, where sites are kept and it names one
abbrev pub noting_bookkeeping : List ℕ → Bookkeeping → Bookkeeping
noting_bookkeeping line kept = record kept { book = option_map (noted line) kept.book }

abbrev pub noting_executor : List ℕ → Executor → Executor
noting_executor line executor = record { bookkeeping = option_map (noting_bookkeeping line) executor.bookkeeping }

abbrev pub moment_of : {K : Type 0} → (K → Option (List ℕ)) → Gc → Replay → LogWriter K → Moment
moment_of taken heap replay log =
    record {
      driver = driver_of heap replay.executor;
      held = replay.cutter;
      lines = replay.lines;
      kept = kept_by taken log;
    }

-- what calls of a log writer never undo
abbrev pub KeepsOn : {K : Type 0} → (K → ℕ) → (K → Option (List ℕ)) → LogWriter K → LogWriter K → Type 0
KeepsOn faults taken v w =
    Keeps v.sink.ghost_name w.sink.ghost_name (faults v.sink.now) (faults w.sink.now)
    (taken v.sink.now) (taken w.sink.now) v.broken w.broken

-- what a log writer was told, it wrote, and it undid nothing
abbrev pub WasTold : {K : Type 0} → (K → ℕ) → (K → Option (List ℕ)) → LogWriter K → LogWriter K → List Told → Type 0
WasTold faults taken v w told =
    Grew (kept_by taken v) (kept_by taken w) (spelling_of (map line_told told)) × KeepsOn faults taken v w
