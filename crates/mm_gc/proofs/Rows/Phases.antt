-- The rows of the commands that free objects or mark them.
use Rattle.std.proofs.Common.{◌≡◌, ℕ, true, false, not, List, [], Some, refl, ap}
use Rattle.std.specs.Prelude.{is_some}
use Rattle.mm_model.specs.declared.command.Command.TheVariants as commands
use Rattle.mm_model.specs.declared.refusal.Refusal.TheVariants as refusals
use Rattle.mm_model.specs.declared.reply.Reply.TheVariants as replies
use Rattle.mm_model.specs.declared.line.Line.{Line}
use Rattle.mm_model.specs.declared.line.Phase.TheVariants.{Reap, Collect}
use Rattle.mm_model.specs.Views.View.{View}
use Rattle.mm_model.specs.Views.ViewEffect.{view_begun}
use Rattle.mm_model.specs.Views.ViewPhase.{view_phase_lines, view_reaped, view_collected, ViewReaps, ViewCollects}
use Rattle.mm_model.specs.Views.ViewPhase.{ViewFinishes}
use Rattle.mm_model.specs.Views.ViewStep.{IsViewRow, ViewScans}
use Rattle.mm_gc.proofs.Refusals.{RefusesIn, row-carried}
use Rattle.mm_gc.proofs.Refusals.Refuses.{Here, Later, Allowed}

pub reap-row : (view : View) (dead : List ℕ) → ViewReaps view dead
    → IsViewRow view commands.Reap (view_phase_lines Reap view dead)
    (record { view = view_reaped dead view; reply = replies.Done })
reap-row view dead reaps =
    row-carried view commands.Reap (view_phase_lines Reap view dead)
    (record { view = view_reaped dead view; reply = replies.Done }) Allowed
    (record { dead = dead; reapable = reaps; log_is = refl; left_is = refl }, refl)

pub collect-row : (view : View) (lost : List ℕ) → ViewCollects view lost
    → IsViewRow view commands.Collect (view_phase_lines Collect view lost)
    (record { view = view_collected lost view; reply = replies.Done })
collect-row view lost collects =
    row-carried view commands.Collect (view_phase_lines Collect view lost)
    (record { view = view_collected lost view; reply = replies.Done }) Allowed
    (record { lost = lost; unreached = collects; log_is = refl; left_is = refl }, refl)

abbrev pub Runs : View → Type 0
Runs view = is_some view.cycle ≡ true

abbrev pub RunsNot : View → Type 0
RunsNot view = is_some view.cycle ≡ false

pub finish-idle : (view : View) → RunsNot view → RefusesIn view commands.Finish (Some refusals.Idle)
finish-idle view idle = Here (ap not idle)

pub finish-row : (view : View) (lost : List ℕ) → Runs view → ViewFinishes view lost
    → IsViewRow view commands.Finish (view_phase_lines Collect view lost)
    (record { view = view_collected lost view; reply = replies.Done })
finish-row view lost runs finishes =
    row-carried view commands.Finish (view_phase_lines Collect view lost)
    (record { view = view_collected lost view; reply = replies.Done }) (Later (ap not runs) Allowed)
    (record { lost = lost; unmarked = finishes; log_is = refl; left_is = refl }, refl)

pub begin-busy : (view : View) → Runs view → RefusesIn view commands.Begin (Some refusals.Busy)
begin-busy view runs = Here runs

pub begin-row : (view : View) → RunsNot view
    → IsViewRow view commands.Begin [] (record { view = view_begun view; reply = replies.Done })
begin-row view idle =
    row-carried view commands.Begin [] (record { view = view_begun view; reply = replies.Done }) (Later idle Allowed)
    (record { no_lines = refl; effect_is = refl })

pub step-idle : (view : View) (k : ℕ) → RunsNot view → RefusesIn view (commands.Step k) (Some refusals.Idle)
step-idle view k idle = Here (ap not idle)

pub step-row : (view : View) (k : ℕ) (log : List Line) (left : View) → Runs view → ViewScans view k log left
    → IsViewRow view (commands.Step k) log (record { view = left; reply = replies.Done })
step-row view k log left runs scans =
    row-carried view (commands.Step k) log (record { view = left; reply = replies.Done })
    (Later (ap not runs) Allowed) (scans, refl)
