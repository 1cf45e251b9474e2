-- The cycles of a paced list end in time.
use Rattle.std.proofs.Common.{ℕ, ◌*◌, ◌<◌, ◌≤◌, IsTrue, List, Option, Some, None, subst}
use Rattle.mm_model.specs.declared.command.Command.{Command}
use Rattle.mm_model.specs.declared.line.Line.{Line}
use Rattle.mm_model.specs.declared.settings.Settings.{Settings}
use Rattle.mm_model.specs.State.{State, empty_state}
use Rattle.mm_model.specs.Step.{IsStep}
use Rattle.mm_model.specs.Logs.Log.{IsLegal}
use Rattle.mm_model.specs.Logs.Turns.{Turn, AreSteps}
use Rattle.mm_model.proofs.Faithful.Turns.{turns-same}
use Rattle.mm_model.proofs.Good.Starting.{empty_is_good}
use Rattle.mm_laws.proofs.Turning.Faithful.{told-run}
use Rattle.mm_pace.specs.Work.{is_running}
use Rattle.mm_pace.specs.Recent.{since, work_begun}
use Rattle.mm_pace.specs.Paced.{AreCommandsOf, AreInTime, EachOwn, IsPaced}

-- what is known of turns that are paced and are steps
abbrev pub EndInTime : Type 0
EndInTime = (rate : ℕ) (settings : Settings) (trace : List Command) (turns own : List Turn) (b : State)
    (paced : IsPaced rate trace turns own) → AreSteps (empty_state settings) turns b
    → EachOwn paced.stretches (λ earlier turn. IsTrue (is_running turn.before)
    → rate * since earlier < 16 * work_begun earlier)

pub in_time : EndInTime → (rate : Option ℕ) (settings : Settings) (trace : List Command) (log : List Line)
    (commands : List Command) (state : State) → settings.pages ≤ settings.max
    → (are : AreCommandsOf rate settings trace log commands) → IsLegal IsStep settings commands log state
    → AreInTime rate settings trace log commands are
in_time ends None settings trace log commands state growing are legal = tt
in_time ends (Some rate) settings trace log commands state growing list legal =
    let told = told-run (empty_state settings) commands log state (empty_is_good settings growing) legal in
    let same = turns-same settings commands log told.turns list.turns
    (record { each_command = told.each_command; cut = told.cut; groups = told.groups; joined = told.joined })
    list.are in
    ends rate settings trace list.turns list.own state list.paced
    (subst (λ (ts : List Turn). AreSteps (empty_state settings) ts state) same told.steps)
