-- Runs are cut behind any command, and joined.
use Rattle.std.proofs.Common.{List, [], ◌∷◌, ◌++◌, refl, sym, ap, ◌∙◌, subst, append_assoc}
use Rattle.mm_model.specs.declared.command.Command.{Command}
use Rattle.mm_model.specs.declared.line.Line.{Line}
use Rattle.mm_model.specs.State.{State}
use Rattle.mm_model.specs.Step.{IsStep}
use Rattle.mm_model.specs.Logs.Log.{IsRun}
use Rattle.mm_laws.specs.Logs.{IsCutBehind}

pub run-cut : (a : State) (first others : List Command) (log : List Line) (b : State)
    → IsRun IsStep a (first ++ others) log b → IsCutBehind a first others log b
run-cut a [] others log b run =
    record { front = []; rest = log; mid = a; log_is = refl; before = (refl, refl); behind = run }
run-cut a (command ∷ first) others log b run =
    let cut = run-cut run.2 first others run.1 b run.5 in
    record {
      front = run.0 ++ cut.front;
      rest = cut.rest;
      mid = cut.mid;
      log_is = run.3 ∙ ap (λ (lines : List Line). run.0 ++ lines) cut.log_is
          ∙ sym (append_assoc run.0 cut.front cut.rest);
      before = (run.0, cut.front, run.2, refl, run.4, cut.before);
      behind = cut.behind;
    }

pub run-joined : (a : State) (first others : List Command) (front rest : List Line) (mid b : State)
    → IsRun IsStep a first front mid → IsRun IsStep mid others rest b
    → IsRun IsStep a (first ++ others) (front ++ rest) b
run-joined a [] others front rest mid b before behind =
    subst (λ log. IsRun IsStep a others (log ++ rest) b) (sym before.0)
    (subst (λ (s : State). IsRun IsStep s others rest b) before.1 behind)
run-joined a (command ∷ first) others front rest mid b before behind = (
  before.0,
  before.1 ++ rest,
  before.2,
  ap (λ (lines : List Line). lines ++ rest) before.3 ∙ append_assoc before.0 before.1 rest,
  before.4,
  run-joined before.2 first others before.1 rest mid b before.5 behind,
)

pub cut-joined : (a : State) (first others : List Command) (log : List Line) (b : State)
    → IsCutBehind a first others log b
    → IsRun IsStep a (first ++ others) log b
cut-joined a first others log b cut =
    subst (λ lines. IsRun IsStep a (first ++ others) lines b) (sym cut.log_is)
    (run-joined a first others cut.front cut.rest cut.mid b cut.before cut.behind)
