-- The sites of the objects of a replay, as they are kept while it runs.
use Rattle.std.specs.Prelude.{◌≡◌, ℕ, ◌*◌, ◌<◌, List, ◌∷◌, ◌++◌, [], replicate, unwrap_or, Option, Some, None, IfSome}
use Rattle.std.specs.List.{fold}
use Rattle.mm_model.specs.declared.command.Command.{Command}
use Rattle.mm_model.specs.declared.line.Line.{Line}
use Rattle.mm_model.specs.declared.settings.Settings.{Settings}
use Rattle.mm_model.specs.After.{after}
use Rattle.mm_model.specs.Good.{IsGood}
use Rattle.mm_model.specs.State.{State, empty_state}
use Rattle.mm_model.specs.Logs.Turns.{Turn, births_if, reply_in}
use Rattle.mm_model.specs.Views.View.{Shows}
use Rattle.mm_gc.specs.Gc.{Gc, view_of_gc}
use Rattle.mm_sites.specs.Entries.{total_of}
use Rattle.mm_sites.specs.Following.{sites_with}
use Rattle.mm_sites.specs.Lines.{site_line}
use Rattle.mm_sites.specs.Text.{sites_text}
use Rattle.mm_sited.specs.Executing.{HasSites}
use Rattle.mmgc.specs.declared.site_book.SiteBook.{SiteBook}

-- the state that turns leave
abbrev pub state_after : Settings → List Turn → State
state_after settings turns = fold (λ a turn. turn.after) (empty_state settings) turns

-- The objects that turns leave have these sites, by birth number, and what is born next has this one.
pub record IsBooked (settings : Settings) (turns : List Turn) (sites : List ℕ) (site : ℕ) (book : SiteBook) :
    Type 0 where
  pub has : HasSites (state_after settings turns) sites book.sites
  pub next : book.site ≡ site
  pub few : book.site < 4096

-- the same, where sites are kept
abbrev pub AreBooked : Settings → List Turn → List ℕ → ℕ → Option SiteBook → Type 0
AreBooked settings turns sites site found = IfSome found (IsBooked settings turns sites site)

-- nothing is booked, for a region of at most so many pages
pub record IsBlank (pages : ℕ) (book : SiteBook) : Type 0 where
  pub sites : book.sites ≡ replicate (256 * pages) None
  pub site : book.site ≡ 0

-- with the site that a line names, where it names one
abbrev pub noted : List ℕ → SiteBook → SiteBook
noted line book = record book { site = unwrap_or (site_line line) book.site }

-- A command was carried out with these lines. Where the objects of the heap had their sites, they have them, and what
-- was born has the site that stood there.
pub record BooksOn (old : Gc) (command : Command) (group : List Line) (before after_it : SiteBook) : Type 0 where
  pub site : after_it.site ≡ before.site
  pub has : (a : State) (sites : List ℕ) → IsGood a → Shows (view_of_gc old) a → HasSites a sites before.sites
      → HasSites (after a command group) (sites_with before.site sites (births_if a command (reply_in group)))
      after_it.sites

-- the same, where sites are kept
abbrev pub MayBookOn : Gc → Command → List Line → Option SiteBook → Option SiteBook → Type 0
MayBookOn old command group None found = found ≡ None
MayBookOn old command group (Some book) found =
    (next : SiteBook) × (found ≡ Some next) × BooksOn old command group book next

-- wherever the heap comes from, its objects have their sites
pub record IsInUse (gc : Gc) (book : SiteBook) : Type 0 where
  pub state : State
  pub good : IsGood state
  pub shows : Shows (view_of_gc gc) state
  pub sites : List ℕ
  pub has : HasSites state sites book.sites
  pub few : book.site < 4096

-- the lines of the sites of what is booked
abbrev pub booked_text : Option SiteBook → List ℕ
booked_text None = []
booked_text (Some book) = sites_text (total_of book.sites)
