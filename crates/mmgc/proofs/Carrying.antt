-- Commands that are carried out, one after another.
use Rattle.std.proofs.Common.{◌≡◌, ◌≤◌, List, [], ◌∷◌, ◌++◌, map, length, refl, sym, ap, ◌∙◌, subst, append-nil}
use Rattle.std.proofs.Common.{append_assoc, arith}
use Rattle.std.proofs.lemmas.List.{length_push}
use Rattle.std.proofs.lemmas.List.Concat.{flat_map-append}
use Rattle.mm_model.specs.declared.command.Command.{Command}
use Rattle.mm_model.specs.declared.line.Line.{Line}
use Rattle.mm_model.specs.declared.line.Line.TheVariants as lines
use Rattle.mm_model.specs.declared.line.Totals.{Totals}
use Rattle.mm_model.specs.declared.reply.Reply.{Reply}
use Rattle.mm_model.specs.declared.settings.Settings.{Settings}
use Rattle.mm_model.specs.State.{State, empty_state}
use Rattle.mm_model.specs.Good.{IsGood}
use Rattle.mm_model.specs.Logs.Log.{Steps, IsRun}
use Rattle.mm_model.specs.Logs.Spelling.{spelling, spelling_of}
use Rattle.mm_model.specs.Step.{IsStep}
use Rattle.mm_model.specs.After.{after}
use Rattle.mm_model.specs.Views.View.{Shows}
use Rattle.mm_model.proofs.Text.Journals.{writes-append}
use Rattle.mm_gc.specs.Gc.{Gc, view_of_gc, totals_in}
use Rattle.mm_gc.specs.Rows.{IsStepOf, Executes}
use Rattle.mm_sweep.specs.Told.{Told, line_told}
use Rattle.mmgc.specs.Writing.{Kept}
use Rattle.mmgc.specs.Carrying.{CarriedOut, CarriesOut, Grew, group_of}
use Rattle.mmgc.proofs.StepNumbers.{step_counts_one}

-- one log after another
pub spelling_of-append : (xs ys : List Line) → spelling_of (xs ++ ys) ≡ spelling_of xs ++ spelling_of ys
spelling_of-append xs ys = flat_map-append spelling xs ys

-- a command was executed, and its reply was written behind its other lines
pub carries_out_lines : {old new : Gc} {command : Command} {reply : Reply} {before between after : Kept}
    {heard : List Told → Type 0} →
    (e : Executes old new command reply heard) →
    ((told : List Told) → heard told → Grew before between (spelling_of (map line_told told))) →
    Grew between after (spelling (lines.Reply reply)) →
    (done : CarriesOut old new command before after) × (done.reply ≡ reply)
    × (group_of done ≡ e.before_reply ++ lines.Reply reply ∷ [])
carries_out_lines {reply = reply} {before = before} {between = between} {after = after} e wrote w =
    let told = subst (λ (log : List Line). Grew before between (spelling_of log)) e.told.lines_are
    (wrote e.told.told e.told.was) in
    let text : spelling_of e.before_reply ++ spelling (lines.Reply reply) ≡ spelling_of
    (e.before_reply ++ lines.Reply reply ∷ []) =
    ap (λ t. spelling_of e.before_reply ++ t) (sym (append-nil (spelling (lines.Reply reply))))
    ∙ sym (spelling_of-append e.before_reply (lines.Reply reply ∷ [])) in (
      record {
        front = e.before_reply;
        reply = reply;
        step = e.step;
        written = subst (Grew before after) text (writes-append (spelling_of e.before_reply)
            (spelling (lines.Reply reply)) told w);
      },
      refl,
      refl,
    )

pub carries_out : {old new : Gc} {command : Command} {reply : Reply} {before between after : Kept}
    {heard : List Told → Type 0} →
    Executes old new command reply heard →
    ((told : List Told) → heard told → Grew before between (spelling_of (map line_told told))) →
    Grew between after (spelling (lines.Reply reply)) →
    (done : CarriesOut old new command before after) × (done.reply ≡ reply)
carries_out e wrote w = let done = carries_out_lines e wrote w in (done.0, done.1)

-- a run goes on by one step
run-push : (Step : Steps) (a : State) (commands : List Command) (log : List Line) (b : State) (command : Command)
    (group : List Line) (d : State) →
    IsRun Step a commands log b → Step b command group d → IsRun Step a (commands ++ command ∷ []) (log ++ group) d
run-push Step a [] log b command group d run step = (
  group,
  [],
  d,
  ap (λ l. l ++ group) run.0 ∙ sym (append-nil group),
  subst (λ s. Step s command group d) run.1 step,
  (refl, refl),
)
run-push Step a (c ∷ commands) log b command group d run step = (
  run.0,
  run.1 ++ group,
  run.2,
  ap (λ l. l ++ group) run.3 ∙ append_assoc run.0 run.1 group,
  run.4,
  run-push Step run.2 commands run.1 b command group d run.5 step,
)

-- the commands so far and one more
pub carried_out-push : {settings : Settings} {commands : List Command} {log : List Line} {old new : Gc}
    {command : Command} {group : List Line} →
    CarriedOut settings commands log old →
    ((a : State) → IsGood a → Shows (view_of_gc old) a → IsStepOf (view_of_gc new) command group a) →
    CarriedOut settings (commands ++ command ∷ []) (log ++ group) new
carried_out-push {settings} {commands} {log} {command = command} {group = group} c step =
    let s = step c.state c.good c.shows in
    let more = length_push commands command in
    let few = step_counts_one c.state command group (after c.state command group) s.step in
    record {
      state = after c.state command group;
      legal = run-push IsStep (empty_state settings) commands log c.state command group
          (after c.state command group) c.legal s.step;
      good = s.good;
      shows = s.shows;
      settings_stay = few.settings ∙ c.settings_stay;
      counted = omega (arith, more, few.commands, c.counted);
      births = omega (arith, more, few.births, c.births);
    }

-- how the numbers of a heap stand to its commands
pub record Counted (heap : Gc) (commands : List Command) : Type 0 where
  pub commands_are : (totals_in heap).commands ≡ length commands
  pub births_are : (totals_in heap).born ≤ length commands

pub counted : {settings : Settings} {commands : List Command} {log : List Line} {heap : Gc} →
    CarriedOut settings commands log heap → Counted heap commands
counted {commands = commands} c =
    record {
      commands_are = ap (λ (totals : Totals). totals.commands) c.shows.totals ∙ c.counted;
      births_are = subst (λ n. n ≤ length commands) (sym
          (ap (λ (totals : Totals). totals.born) c.shows.totals)) c.births;
    }
