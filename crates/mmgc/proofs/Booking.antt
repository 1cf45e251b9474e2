-- The sites of objects, command by command.
use Rattle.std.proofs.Common.{◌≡◌, ℕ, ◌*◌, ◌<◌, ◌≤◌, Bool, List, [], ◌∷◌, ◌++◌, length, Option, Some, None, refl, sym, ap}
use Rattle.std.proofs.Common.{◌∙◌, subst, arith, append-nil, replicate, Result, Ok, unwrap_or}
use Rattle.std.proofs.lemmas.Grind.{fold-append}
use Rattle.std.proofs.lemmas.List.{length-replicate}
use Rattle.std.specs.Prelude.{is_some, IfSome}
use Rattle.std.specs.List.{fold}
use Rattle.std.specs.Option.{option_map}
use Rattle.mm_model.specs.declared.command.Command.{Command}
use Rattle.mm_model.specs.declared.line.Line.{Line}
use Rattle.mm_model.specs.declared.settings.Settings.{Settings}
use Rattle.mm_model.specs.After.{after}
use Rattle.mm_model.specs.Good.{IsGood}
use Rattle.mm_model.specs.State.{State, empty_state}
use Rattle.mm_model.specs.Logs.Trace.{line_reading}
use Rattle.mm_model.specs.Logs.Turns.{Turn, AreSteps, births_of}
use Rattle.mm_model.specs.Views.View.{Shows}
use Rattle.mm_gc.specs.Gc.{Gc, view_of_gc}
use Rattle.mm_sites.specs.Entries.{EntriesByBase, total_of}
use Rattle.mm_sites.specs.Births.{total_in}
use Rattle.mm_sites.specs.Following.{sites_with}
use Rattle.mm_sites.specs.Lines.{site_line, site_number}
use Rattle.mm_sites.specs.Living.{AreEntered}
use Rattle.mm_sites.specs.Text.{sites_text, text_of_sites}
use Rattle.mm_sited.specs.Executing.{HasSites}
use Rattle.mmgc.specs.declared.site_book.SiteBook.{SiteBook}
use Rattle.mmgc.specs.Booking.{AreBooked, IsBlank, IsBooked, IsInUse, MayBookOn, booked_text, noted, state_after}
use Rattle.mmgc.specs.Added.{SitedState, site_lines}
use Rattle.mmgc.specs.Carrying.{CarriedOut}
use Rattle.mmgc.specs.Pacing.{with_turn}

-- the state after turns that are steps
pub state_after-steps : (settings : Settings) (turns : List Turn) (b : State)
    → AreSteps (empty_state settings) turns b → state_after settings turns ≡ b
state_after-steps settings turns b steps = along (empty_state settings) turns steps
  where
    along : (a : State) (turns : List Turn) → AreSteps a turns b → fold (λ (s : State) (t : Turn). t.after) a turns ≡ b
    along a [] steps = sym steps
    along a (turn ∷ turns) steps = along turn.after turns steps.2

state_after-more : (settings : Settings) (turns : List Turn) (turn : Turn)
    → state_after settings (turns ++ turn ∷ []) ≡ turn.after
state_after-more settings turns turn =
    fold-append (λ (s : State) (t : Turn). t.after) (empty_state settings) turns (turn ∷ [])

-- one more turn, of a command that was carried out so
pub booked-push : (settings : Settings) (turns : List Turn) (turn : Turn) (old : Gc) (found next : Option SiteBook)
    → state_after settings turns ≡ turn.before → IsGood turn.before → Shows (view_of_gc old) turn.before
    → turn.after ≡ after turn.before turn.command turn.group → MayBookOn old turn.command turn.group found next
    → (sites : List ℕ) (site : ℕ) → AreBooked settings turns sites site found
    → AreBooked settings (turns ++ turn ∷ []) (with_turn turn sites site) site next
booked-push settings turns turn old None next before good shows is on sites site booked =
    subst (AreBooked settings (turns ++ turn ∷ []) (with_turn turn sites site) site) (sym on) tt
booked-push settings turns turn old (Some book) next before good shows is on sites site booked =
    let books = on.2 in
    let has = books.has turn.before sites good shows
    (subst (λ (a : State). HasSites a sites book.sites) before booked.has) in
    subst (AreBooked settings (turns ++ turn ∷ []) (with_turn turn sites site) site) (sym on.1) (record {
      has = subst (λ (a : State). HasSites a (with_turn turn sites site) on.0.sites)
          (sym (state_after-more settings turns turn ∙ is))
          (subst (λ s. HasSites (after turn.before turn.command turn.group) (sites_with s sites (births_of turn))
          on.0.sites) booked.next has);
      next = books.site ∙ booked.next;
      few = subst (λ n. n < 4096) (sym books.site) booked.few;
    })

-- the sites are those of the objects of the heap
pub in_use : {settings : Settings} {commands : List Command} {log : List Line} {heap : Gc}
    (carried : CarriedOut settings commands log heap) (turns : List Turn)
    → AreSteps (empty_state settings) turns carried.state → (sites : List ℕ) (site : ℕ) (found : Option SiteBook)
    → AreBooked settings turns sites site found → IfSome found (IsInUse heap)
in_use carried turns steps sites site None booked = tt
in_use {settings} carried turns steps sites site (Some book) booked =
    record {
      state = carried.state;
      good = carried.good;
      shows = carried.shows;
      sites = sites;
      has = subst (λ (a : State). HasSites a sites book.sites) (state_after-steps settings turns carried.state steps)
          booked.has;
      few = booked.few;
    }

-- in a new region nothing is entered
abbrev pub NothingIsEntered : Settings → Type 0
NothingIsEntered settings = AreEntered (empty_state settings) [] (replicate (256 * settings.max) None)

-- before the first command
pub booked-none : (settings : Settings) (found : Option SiteBook) → IfSome found (IsBlank settings.max)
    → NothingIsEntered settings → AreBooked settings [] [] 0 found
booked-none settings None blank nothing = tt
booked-none settings (Some book) blank nothing =
    record {
      has = record {
        each_birth = refl;
        room = subst (λ n. 256 * settings.max ≤ n) (sym (ap length blank.sites ∙ length-replicate _ _)) (omega arith);
        entered = subst (AreEntered (empty_state settings) []) (sym blank.sites) nothing;
      };
      next = blank.site;
      few = omega (arith, blank.site);
    }

-- a site that a line names is one
site_line-few : (line : List ℕ) (site : ℕ) → site_line line ≡ Some site → site < 4096
site_line-few line site is = grind (is, arith)

-- a line that is passed over may name a site
pub booked-noted : (settings : Settings) (turns : List Turn) (sites : List ℕ) (site : ℕ) (line : List ℕ)
    (found : Option SiteBook) → AreBooked settings turns sites site found
    → AreBooked settings turns sites (unwrap_or (site_line line) site) (option_map (noted line) found)
booked-noted settings turns sites site line None booked = tt
booked-noted settings turns sites site line (Some book) booked =
    record {
      has = booked.has;
      next = ap (unwrap_or (site_line line)) booked.next;
      few = few (site_line line) refl;
    }
  where
    few : (named : Option ℕ) → site_line line ≡ named → unwrap_or named book.site < 4096
    few None is = booked.few
    few (Some s) is = site_line-few line s is

pub asked-noted : (line : List ℕ) (found : Option SiteBook) → is_some (option_map (noted line) found) ≡ is_some found
asked-noted line None = refl
asked-noted line (Some book) = refl

-- the totals of entries are those of a state
abbrev pub TotalsAreRight : Type 0
TotalsAreRight = (a : State) (sites : List ℕ) (entries : EntriesByBase) (site : ℕ) → IsGood a
    → length sites ≡ length a.objects → AreEntered a sites entries → total_of entries site ≡ total_in a sites site

-- the lines of the sites are those of the state that turns leave
pub booked_text-is : TotalsAreRight → (settings : Settings) (turns : List Turn) (left : SitedState) (site : ℕ)
    (asked : Bool) (found : Option SiteBook) → IsGood left.state → state_after settings turns ≡ left.state
    → is_some found ≡ asked → AreBooked settings turns left.sites site found
    → booked_text found ≡ site_lines asked left
booked_text-is right settings turns left site asked None good is kept booked = ap (λ b. site_lines b left) kept
booked_text-is right settings turns left site asked (Some book) good is kept booked =
    let has = subst (λ (a : State). HasSites a left.sites book.sites) is booked.has in
    (λ i. sites_text (λ n. (right left.state left.sites book.sites n good has.each_birth has.entered) i))
    ∙ ap (λ b. site_lines b left) kept
