-- Logs whose last turn is no step, and so aren't legal.
use Rattle.std.proofs.Common.{◌≡◌, ◌≤◌, ℕ, true, List, [], ◌∷◌, ◌++◌, None, refl, sym, ap, ◌∙◌, subst, append_assoc}
use Rattle.std.proofs.lemmas.List.{append-nil}
use Rattle.mm_model.specs.declared.command.Command.{Command}
use Rattle.mm_model.specs.declared.command.Command.TheVariants as commands
use Rattle.mm_model.specs.declared.line.Line.{Line}
use Rattle.mm_model.specs.declared.line.Line.TheVariants as lines
use Rattle.mm_model.specs.declared.settings.Settings.{Settings}
use Rattle.mm_model.specs.Object.{Object}
use Rattle.mm_model.specs.State.{State, empty_state}
use Rattle.mm_model.specs.Sets.Marking.{MayScan}
use Rattle.mm_model.specs.Sets.Scan.{AreScanned, IsEnough}
use Rattle.mm_model.specs.Refusing.{refusal}
use Rattle.mm_model.specs.After.{after, scanned_bases}
use Rattle.mm_model.specs.Step.{is_full, IsCarriedOut, IsStepUnless, IsStep}
use Rattle.mm_model.specs.Logs.Log.{IsLegal}
use Rattle.mm_model.specs.Logs.Turns.{Turn, is_group, AreSteps}
use Rattle.mm_model.proofs.Faithful.Turns.{turns-same}
use Rattle.mm_model.proofs.Good.Starting.{empty_is_good}
use Rattle.mm_model.proofs.Steps.Determining.{scanned_bases-end}
use Rattle.mm_laws.proofs.Turning.Faithful.{told-run}
use Rattle.mm_examples.proofs.Breaking.{AreGroups, are_turns, lines_of, front, before}

-- the last of turns that are steps
last-step : (a : State) (turns : List Turn) (last : Turn) (b : State) → AreSteps a (turns ++ last ∷ []) b
    → IsStep last.before last.command last.group last.after
last-step a [] last b steps = steps.1
last-step a (turn ∷ turns) last b steps = last-step turn.after turns last b steps.2

pub not_legal : (settings : Settings) → settings.pages ≤ settings.max → (commands : List Command)
    (groups : List (List Line)) (last : Turn) → AreGroups commands groups → is_group last.group ≡ true
    → before settings commands groups ≡ last.before → last.after ≡ after last.before last.command last.group
    → (IsStep last.before last.command last.group last.after → ⊥) → (b : State)
    → IsLegal IsStep settings (commands ++ last.command ∷ []) (lines_of groups ++ last.group) b → ⊥
not_legal settings growing commands groups last each group here next no_step b legal =
    let all = commands ++ last.command ∷ [] in
    let log = lines_of groups ++ last.group in
    let told = told-run (empty_state settings) all log b (empty_is_good settings growing) legal in
    let turns = front settings commands groups ++ last ∷ [] in
    let same = turns-same settings all log told.turns turns
    (record {
      each_command = told.each_command;
      cut = told.cut;
      groups = told.groups;
      joined = told.joined;
    }) (are_turns settings commands groups last each group here next) in
    no_step
    (last-step (empty_state settings) (front settings commands groups) last b
    (subst (λ ts. AreSteps (empty_state settings) ts b) same told.steps))

-- what a `step` that isn't refused scans
pub record IsScanning (a : State) (k : ℕ) (group : List Line) : Type 0 where
  pub births : List ℕ
  pub log : List Line
  pub after : State
  pub scanned : AreScanned a births log after
  pub enough : IsEnough k log after
  -- the lines of parts are the same as those of the group
  pub bases : scanned_bases log ≡ scanned_bases group

scanned_bases-append : (log rest : List Line) → scanned_bases (log ++ rest) ≡ scanned_bases log ++ scanned_bases rest
scanned_bases-append [] rest = refl
scanned_bases-append (lines.Scan base slots ∷ log) rest =
    ap (λ (bases : List ℕ). base ∷ bases) (scanned_bases-append log rest)
scanned_bases-append (line ∷ log) rest = scanned_bases-append log rest

pub scanning : (a : State) (k : ℕ) (group : List Line) (b : State) → refusal a (commands.Step k) ≡ None
    → IsStep a (commands.Step k) group b → IsScanning a k group
scanning a k group b allowed step =
    carried (subst (λ r. IsStepUnless r a (commands.Step k) group b) allowed step)
  where
    carried : IsCarriedOut a (commands.Step k) group b → IsScanning a k group
    carried m =
        let reply = lines.Reply m.effect.reply ∷ [] in
        record {
          births = m.carries.0.births;
          log = m.log;
          after = m.effect.state;
          scanned = m.carries.0.scanned;
          enough = m.carries.0.enough;
          bases = sym
              (ap scanned_bases (m.group_is ∙ append_assoc m.log m.end_log reply)
              ∙ scanned_bases-append m.log (m.end_log ++ reply)
              ∙ ap (λ (bases : List ℕ). scanned_bases m.log ++ bases)
              (scanned_bases-end m.effect.state (is_full m.effect.reply) m.end m.effect.reply m.end_log m.ends)
              ∙ append-nil (scanned_bases m.log));
        }

-- where nothing may be scanned, `step` scans nothing
pub scans_none : (a : State) (k : ℕ) (group : List Line) (b : State)
    → ((birth : ℕ) (object : Object) → MayScan a birth object → ⊥) → refusal a (commands.Step k) ≡ None
    → IsStep a (commands.Step k) group b → scanned_bases group ≡ []
scans_none a k group b none allowed step =
    carried (subst (λ r. IsStepUnless r a (commands.Step k) group b) allowed step)
  where
    no_lines : (births : List ℕ) (log : List Line) (c : State) → AreScanned a births log c → log ≡ []
    no_lines [] log c scanned = scanned.0
    no_lines (birth ∷ births) log c scanned = absurd (none birth scanned.0 scanned.2)

    carried : IsCarriedOut a (commands.Step k) group b → scanned_bases group ≡ []
    carried m =
        let reply = lines.Reply m.effect.reply ∷ [] in
        ap scanned_bases m.group_is
        ∙ ap (λ log. scanned_bases (log ++ m.end_log ++ reply))
        (no_lines m.carries.0.births m.log m.effect.state m.carries.0.scanned)
        ∙ scanned_bases-end m.effect.state (is_full m.effect.reply) m.end m.effect.reply m.end_log m.ends
