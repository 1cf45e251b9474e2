-- How a command is carried out on a heap whose objects have sites.
use Rattle.std.specs.Prelude.{◌≡◌, ℕ, ◌*◌, ◌≤◌, List, [], ◌∷◌, ◌++◌, length, Some}
use Rattle.mm_model.specs.declared.command.Command.{Command}
use Rattle.mm_model.specs.declared.line.Line.TheVariants as lines
use Rattle.mm_model.specs.declared.reply.Reply.{Reply}
use Rattle.mm_model.specs.After.{after, freed_bases}
use Rattle.mm_model.specs.Good.{IsGood}
use Rattle.mm_model.specs.State.{State}
use Rattle.mm_model.specs.Logs.Turns.{Born, births_if}
use Rattle.mm_model.specs.Views.View.{Shows}
use Rattle.mm_sites.specs.Entries.{EntriesByBase, without}
use Rattle.mm_sites.specs.Following.{IsFreeAt, sites_with}
use Rattle.mm_sites.specs.Living.{AreEntered}
use Rattle.mm_sweep.specs.Told.{Told}
use Rattle.mm_gc.specs.Gc.{Gc, view_of_gc}
use Rattle.mm_gc.specs.Rows.{Executes}

-- The live objects of a state are entered with their sites, of which there is one for each birth, in entries that are
-- enough for the greatest region.
pub record HasSites (a : State) (sites : List ℕ) (entries : EntriesByBase) : Type 0 where
  pub each_birth : length sites ≡ length a.objects
  pub room : 256 * a.settings.max ≤ length entries
  pub entered : AreEntered a sites entries

-- wherever the heap comes from, its objects have sites
pub record HasSomeSites (gc : Gc) (entries : EntriesByBase) : Type 0 where
  pub state : State
  pub good : IsGood state
  pub shows : Shows (view_of_gc gc) state
  pub sites : List ℕ
  pub has : HasSites state sites entries

-- what a command bore, of which the reply tells, can be entered
pub record CanEnter (command : Command) (reply : Reply) (entries : EntriesByBase) : Type 0 where
  pub state : State
  pub free : (born : Born) → births_if state command (Some reply) ≡ born ∷ []
      → IsFreeAt (length entries) entries born.base

-- a command was carried out, and what it freed was taken away
pub record ExecutesWithout (old new : Gc) (command : Command) (reply : Reply) (heard : List Told → Type 0)
    (before after : EntriesByBase) : Type 0 where
  pub executes : Executes old new command reply heard
  pub left : after ≡ without before (freed_bases executes.before_reply)

-- A command was carried out, and its objects have their sites: what it bore has this one.
pub record ExecutesAt (site : ℕ) (old new : Gc) (command : Command) (reply : Reply) (heard : List Told → Type 0)
    (before now : EntriesByBase) : Type 0 where
  pub executes : Executes old new command reply heard
  pub sites_follow : (a : State) (sites : List ℕ) → IsGood a → Shows (view_of_gc old) a → HasSites a sites before
      → HasSites (after a command (executes.before_reply ++ lines.Reply reply ∷ []))
      (sites_with site sites (births_if a command (Some reply))) now
