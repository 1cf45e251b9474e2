-- How the commands of a trace are carried out, with those among them that are added where cycles are paced.
use Rattle.std.specs.Prelude.{◌≡◌, ℕ, ◌+◌, ◌^◌, ◌≤◌, List, [], ◌∷◌, ◌++◌, length, Option, Some, None, is_some}
use Rattle.std.specs.List.{flat_map}
use Rattle.mm_model.specs.declared.command.Command.{Command}
use Rattle.mm_model.specs.declared.line.Line.{Line}
use Rattle.mm_model.specs.declared.settings.Settings.{Settings}
use Rattle.mm_model.specs.State.{State, empty_state}
use Rattle.mm_model.specs.Logs.Spelling.{spelling_of}
use Rattle.mm_model.specs.Logs.Turns.{Turn, AreSteps, AreTurns, births_of}
use Rattle.mm_gc.specs.Gc.{Gc, view_of_gc}
use Rattle.mmgc.specs.Writing.{Kept}
use Rattle.mm_pace.specs.declared.pace.Pace.{Pace}
use Rattle.mm_pace.specs.Rules.{Rule, rules_at}
use Rattle.mm_pace.specs.Paced.{AreAdded, IsPaced, commands_in, list_of}
use Rattle.mm_sites.specs.Births.{birth_sites}
use Rattle.mm_sites.specs.Following.{sites_with}
use Rattle.mmgc.specs.declared.extras.Extras.{Extras}
use Rattle.mmgc.specs.declared.site_book.SiteBook.{SiteBook}
use Rattle.mmgc.specs.Booking.{AreBooked}
use Rattle.mmgc.specs.Carrying.{CarriedOut, Grew}
use Rattle.mmgc.specs.Counting.{Counts, bytes_of}

-- what turns wrote
abbrev pub groups_of : List Turn → List Line
groups_of turns = flat_map (λ turn. turn.group) turns

-- These turns were carried out from the empty state on, and the pacer counts them. For so many bytes of the last one no
-- step was asked yet.
pub record IsDriven (settings : Settings) (turns : List Turn) (unpaid : ℕ) (pace : Pace) (heap : Gc) : Type 0 where
  pub carried : CarriedOut settings (commands_in turns) (groups_of turns) heap
  pub steps : AreSteps (empty_state settings) turns carried.state
  pub are : AreTurns settings (commands_in turns) (groups_of turns) turns
  pub counts : Counts turns carried.state unpaid pace

-- so many more commands can be counted, and the bytes that they bear
abbrev pub HasRoomFor : ℕ → Gc → Type 0
HasRoomFor more heap = (view_of_gc heap).totals.commands + more ≤ 2 ^ 35

-- a pacer, a heap, and the sites of its objects where they are kept
pub record Team : Type 0 where
  pub pace : Pace
  pub heap : Gc
  pub book : Option SiteBook

abbrev pub team_of : Pace → Gc → Option SiteBook → Team
team_of pace heap book = record { pace = pace; heap = heap; book = book }

-- wherever they come from, the pacer can count so many more commands, and the sites are those of the objects
pub record CanDrive (more : ℕ) (team : Team) : Type 0 where
  pub settings : Settings
  pub turns : List Turn
  pub unpaid : ℕ
  pub driven : IsDriven settings turns unpaid team.pace team.heap
  pub room : HasRoomFor more team.heap
  pub sites : List ℕ
  pub site : ℕ
  pub booked : AreBooked settings turns sites site team.book

-- a pacer and a heap after a call, and the sites and what the journal kept before and after it
pub record Left : Type 0 where
  pub team : Team
  pub book : Option SiteBook
  pub before : Kept
  pub after : Kept

-- From turns to later ones the objects keep their sites, and what was born in between has these.
abbrev pub BooksAll : Settings → List Turn → List Turn → (List ℕ → ℕ → List ℕ) → Left → Type 0
BooksAll settings turns later born left =
    (sites : List ℕ) (site : ℕ) → AreBooked settings turns sites site left.book
    → AreBooked settings later (born sites site) site left.team.book

-- what is born in a turn has the site that stands there
abbrev pub with_turn : Turn → List ℕ → ℕ → List ℕ
with_turn turn sites site = sites_with site sites (births_of turn)

-- nothing is born
abbrev pub with_none : List ℕ → ℕ → List ℕ
with_none sites site = sites

-- a command was carried out and counted
pub record Drives (settings : Settings) (turns : List Turn) (command : Command) (left : Left) : Type 0 where
  pub turn : Turn
  pub command_is : turn.command ≡ command
  pub driven : IsDriven settings (turns ++ turn ∷ []) (bytes_of turn) left.team.pace left.team.heap
  pub books : BooksAll settings turns (turns ++ turn ∷ []) (with_turn turn) left
  pub written : Grew left.before left.after (spelling_of turn.group)

-- a rule was applied to the turns so far, and what it added was carried out
pub record Applies (rule : Rule) (settings : Settings) (turns : List Turn) (left : Left) : Type 0 where
  pub added : List Turn
  pub commands_are : commands_in added ≡ list_of (rule turns)
  pub driven : IsDriven settings (turns ++ added) 0 left.team.pace left.team.heap
  pub books : BooksAll settings turns (turns ++ added) with_none left
  pub written : Grew left.before left.after (spelling_of (groups_of added))

-- the rules were applied
pub record AppliesAll (rules : List Rule) (settings : Settings) (turns : List Turn) (left : Left) : Type 0 where
  pub added : List Turn
  pub are : AreAdded rules turns added
  pub driven : IsDriven settings (turns ++ added) 0 left.team.pace left.team.heap
  pub books : BooksAll settings turns (turns ++ added) with_none left
  pub written : Grew left.before left.after (spelling_of (groups_of added))

-- a command of a trace was carried out, and the rules were applied after it
pub record Paces (rate : ℕ) (settings : Settings) (turns : List Turn) (command : Command) (left : Left) :
    Type 0 where
  pub turn : Turn
  pub command_is : turn.command ≡ command
  pub rules : List Turn
  pub are : AreAdded (rules_at rate) (turns ++ turn ∷ []) rules
  pub driven : IsDriven settings (turns ++ turn ∷ rules) 0 left.team.pace left.team.heap
  pub books : BooksAll settings turns (turns ++ turn ∷ rules) (with_turn turn) left
  pub written : Grew left.before left.after (spelling_of (groups_of (turn ∷ rules)))

-- a heap, what paces its cycles where they are paced, and the sites of its objects where they are kept
pub record Driver : Type 0 where
  pub heap : Gc
  pub pace : Option Pace
  pub book : Option SiteBook

-- the commands of lines, each with its site, and the site that the lines name last
pub record SitedTrace : Type 0 where
  pub commands : List Command
  pub sites : List ℕ
  pub site : ℕ

-- with one more command
abbrev pub with_command : SitedTrace → Command → SitedTrace
with_command trace command =
    record trace { commands = trace.commands ++ command ∷ []; sites = trace.sites ++ trace.site ∷ [] }

-- the turns that are carried out for a trace, and those of its own commands among them
abbrev pub AreListed : Option ℕ → List Command → List Turn → List Turn → Type 0
AreListed None trace turns own = (own ≡ turns) × (commands_in turns ≡ trace)
AreListed (Some rate) trace turns own = IsPaced rate trace turns own

-- what paces cycles at a rate counts the turns that lead to a state
abbrev pub IsPacing : Option ℕ → List Turn → State → Option Pace → Type 0
IsPacing None turns a found = found ≡ None
IsPacing (Some rate) turns a found =
    (pace : Pace) × (found ≡ Some pace) × (pace.rate ≡ rate) × Counts turns a 0 pace

-- A trace was carried out with this log: its commands, or at a rate the paced list. Where sites are asked for, the
-- objects have theirs.
pub record Carried (extras : Extras) (settings : Settings) (trace : SitedTrace) (log : List Line) (driver : Driver) :
    Type 0 where
  pub turns : List Turn
  pub own : List Turn
  pub listed : AreListed extras.rate trace.commands turns own
  pub carried : CarriedOut settings (commands_in turns) (groups_of turns) driver.heap
  pub steps : AreSteps (empty_state settings) turns carried.state
  pub are : AreTurns settings (commands_in turns) (groups_of turns) turns
  pub log_is : groups_of turns ≡ log
  pub pacing : IsPacing extras.rate turns carried.state driver.pace
  pub each_command : length trace.sites ≡ length own
  pub asked : is_some driver.book ≡ extras.sites
  pub booked : AreBooked settings turns (birth_sites own trace.sites) trace.site driver.book

-- what paces cycles at a rate, or doesn't, before the first command
abbrev pub IsFresh : Option ℕ → Option Pace → Type 0
IsFresh None found = found ≡ None
IsFresh (Some rate) found = (pace : Pace) × (found ≡ Some pace) × (pace.rate ≡ rate) × (pace.since ≡ 0)

-- one more command of the trace was carried out, with what is added after it, and their lines were written
abbrev pub Advances : Driver → Driver → Command → Kept → Kept → Type 0
Advances old new command before after =
    (extras : Extras) (settings : Settings) (trace : SitedTrace) (log : List Line)
    → Carried extras settings trace log old
    → (group : List Line) × Carried extras settings (with_command trace command) (log ++ group) new
    × Grew before after (spelling_of group)

-- wherever the trace comes from, one more of its commands and what is added after it can be counted
pub record IsReady (driver : Driver) : Type 0 where
  pub extras : Extras
  pub settings : Settings
  pub trace : SitedTrace
  pub log : List Line
  pub carried : Carried extras settings trace log driver
  pub room : HasRoomFor 4 driver.heap
