-- A command with its end is a step, and it is counted.
use Rattle.std.proofs.Common.{◌≡◌, ℕ, ◌+◌, ◌<◌, ◌≤◌, Bool, true, false, List, [], ◌∷◌, ◌++◌, length, refl, sym, ap, ◌∙◌}
use Rattle.std.proofs.Common.{subst}
use Rattle.std.proofs.lemmas.List.{append-nil}
use Rattle.mm_model.specs.declared.command.Command.{Command}
use Rattle.mm_model.specs.declared.command.Command.TheVariants as commands
use Rattle.mm_model.specs.declared.line.Line.{Line}
use Rattle.mm_model.specs.declared.line.Line.TheVariants as lines
use Rattle.mm_model.specs.declared.reply.Reply.{Reply}
use Rattle.mm_model.specs.declared.reply.Reply.TheVariants as replies
use Rattle.mm_model.specs.State.{one_more_command}
use Rattle.mm_model.specs.Views.View.{View, Shows}
use Rattle.mm_model.specs.Views.ViewWords.{view_zero_count, outside_references}
use Rattle.mm_model.specs.Views.ViewStep.{IsViewStep, ViewEnds, one_more_counted}
use Rattle.mm_model.proofs.Good.Around.{carried_out_is_good}
use Rattle.mm_model.proofs.View.Shown.{shown-is, view_of-shows}
use Rattle.mm_sweep.specs.Told.{Told}
use Rattle.mm_gc.specs.Ending.{is_refused, EndsUnless, Ends}
use Rattle.mm_gc.specs.Gc.{Gc, view_of_gc}
use Rattle.mm_gc.specs.Kept.{KeepsGc}
use Rattle.mm_gc.specs.Rows.{Tells, Executes}
use Rattle.mm_gc.specs.Showing.{IsShowing}
use Rattle.mm_gc.proofs.Executed.{refused-step, done-step}
use Rattle.mm_gc.proofs.Makes.Searching.{told-reap}
use Rattle.mm_gc.proofs.Shown.{step-of}
use Rattle.mm_gc.proofs.Frees.ZeroCount.{entries_are_zero_count}
use Rattle.mm_gc.proofs.Telling.Heard.{heard-nothing, heard-on, heard-among}
use Rattle.mm_gc.proofs.Telling.Words.{end-twins}

-- one more command leaves a good state shown
counted-shows : (view : View) → IsShowing view → IsShowing (one_more_counted view)
counted-shows view shown =
    record {
      state = one_more_command shown.state;
      good = carried_out_is_good shown.state shown.good;
      shows = subst (λ v. Shows (one_more_counted v) (one_more_command shown.state))
          (sym (shown-is view shown.state shown.shows)) (view_of-shows (one_more_command shown.state));
    }

abbrev pub counted : Gc → Gc
counted gc = record gc { commands = gc.commands + 1 }

pub counted-keeps : (gc : Gc) → KeepsGc gc → KeepsGc (counted gc)
counted-keeps gc keeps =
    record {
      shown = counted-shows (view_of_gc gc) keeps.shown;
      settled = keeps.settled;
      counts = record {
        right = keeps.counts.right;
        counted = keeps.counts.counted;
        listed = keeps.counts.listed;
        unpinned = keeps.counts.unpinned;
      };
      linked = keeps.linked;
      marking = record {
        known = keeps.marking.known;
        idle = keeps.marking.idle;
        since = keeps.marking.since;
        few = keeps.marking.few;
      };
      rooms = record {
        within = keeps.rooms.within;
        least = keeps.rooms.least;
        most = keeps.rooms.most;
        stack = keeps.rooms.stack;
        queue = keeps.rooms.queue;
        table = keeps.rooms.table;
        dead = keeps.rooms.dead;
      };
      pieces = record {
        pages = keeps.pieces.pages;
        cells = keeps.pieces.cells;
        fixed = keeps.pieces.fixed;
        areas = keeps.pieces.areas;
        stack = keeps.pieces.stack;
        table = keeps.pieces.table;
        queue = keeps.pieces.queue;
        dead = keeps.pieces.dead;
        out = keeps.pieces.out;
      };
    }

-- the table has as many entries as there are zero-count objects
pub entries-zero : (gc : Gc) → KeepsGc gc → length gc.table.entries ≡ view_zero_count (view_of_gc gc)
entries-zero gc keeps =
    entries_are_zero_count gc.table gc.region.heap (outside_references (view_of_gc gc)) keeps.counts.right
    keeps.counts.listed keeps.counts.counted

pub ends-below : (gc : Gc) (refused : Bool) (heard : List Told → Type 0) → heard [] → refused ≡ false
    → view_zero_count (view_of_gc gc) < gc.threshold → Ends gc gc refused heard
ends-below gc refused heard nothing e below =
    record {
      log = [];
      ends = subst (λ b. EndsUnless b [] (view_of_gc gc) (view_of_gc gc)) (sym e)
          (ViewEnds.Below_threshold refl below refl refl);
      told = heard-nothing heard (view_of_gc gc).objects nothing;
    }

pub ends-reap : (old new : Gc) (refused : Bool) (heard : List Told → Type 0) → refused ≡ false
    → old.threshold ≤ view_zero_count (view_of_gc old) → Tells old new commands.Reap replies.Done heard
    → Ends old new refused heard
ends-reap old new refused heard e from reap =
    record {
      log = reap.log;
      ends = subst (λ b. EndsUnless b reap.log (view_of_gc old) (view_of_gc new)) (sym e)
          (ViewEnds.At_threshold refl from (told-reap old new heard reap));
      told = reap.told;
    }

-- the row, its end and the count are a step
pub executes : (old middle ended : Gc) (command : Command) (reply : Reply)
    (first end both : List Told → Type 0)
    → ((earlier later : List Told) → first earlier → end later → both (earlier ++ later))
    → Tells old middle command reply first → Ends middle ended (is_refused reply) end
    → Executes old (counted ended) command reply both
executes old middle ended command reply first end both on tells ends =
    let step = split (is_refused reply) refl ends.ends in
    record {
      before_reply = tells.log ++ ends.log;
      row = step;
      step = step-of (view_of_gc old) (view_of_gc (counted ended)) command
          ((tells.log ++ ends.log) ++ lines.Reply reply ∷ []) step;
      told = heard-on first end both on (view_of_gc old).objects tells.log ends.log tells.told
          (heard-among end (view_of_gc middle).objects (view_of_gc old).objects ends.log
          (end-twins (view_of_gc old) (view_of_gc middle) (view_of_gc ended) command tells.log reply
          (is_refused reply) ends.log tells.answers.row ends.ends)
          ends.told);
    }
  where
    split : (refused : Bool) → is_refused reply ≡ refused
        → EndsUnless refused ends.log (view_of_gc middle) (view_of_gc ended)
        → IsViewStep (view_of_gc old) command ((tells.log ++ ends.log) ++ lines.Reply reply ∷ [])
        (one_more_counted (view_of_gc ended))
    split true e left =
        subst
        (λ (log : List Line). IsViewStep (view_of_gc old) command (log ++ lines.Reply reply ∷ [])
        (one_more_counted (view_of_gc ended)))
        (sym (append-nil tells.log) ∙ ap (λ (log : List Line). tells.log ++ log) (sym left.no_lines))
        (subst (λ view. IsViewStep (view_of_gc old) command (tells.log ++ lines.Reply reply ∷ []) (one_more_counted
        view))
        (sym left.same)
        (refused-step (view_of_gc old) (view_of_gc middle) command tells.log reply tells.answers.row e))
    split false e done =
        done-step (view_of_gc old) (view_of_gc middle) (view_of_gc ended) command tells.log ends.log reply
        tells.answers.row e done

-- the test of the threshold, as a heap is told by its parts
module _ (gc parts : Gc) (e : parts ≡ gc) (keeps : KeepsGc parts) (len : ℕ) (is : len ≡ length parts.table.entries)
  where
    pub below-threshold : len < parts.threshold → view_zero_count (view_of_gc gc) < gc.threshold
    below-threshold below =
        subst (λ (gc : Gc). view_zero_count (view_of_gc gc) < gc.threshold) e
        (subst (λ n. n < parts.threshold) (is ∙ entries-zero parts keeps) below)

    pub at-threshold : parts.threshold ≤ len → gc.threshold ≤ view_zero_count (view_of_gc gc)
    at-threshold from =
        subst (λ (gc : Gc). gc.threshold ≤ view_zero_count (view_of_gc gc)) e
        (subst (λ n. parts.threshold ≤ n) (is ∙ entries-zero parts keeps) from)

-- the same of a heap that is told by its parts
pub executes-of : (old middle ended parts : Gc) (command : Command) (reply : Reply)
    (first end both : List Told → Type 0)
    → ((earlier later : List Told) → first earlier → end later → both (earlier ++ later))
    → parts ≡ ended → Tells old middle command reply first → Ends middle ended (is_refused reply) end
    → Executes old (counted parts) command reply both
executes-of old middle ended parts command reply first end both on e tells ends =
    subst (λ (gc : Gc). Executes old (counted gc) command reply both) (sym e)
    (executes old middle ended command reply first end both on tells ends)
