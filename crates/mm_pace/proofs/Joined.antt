-- Turns that are steps, in parts, and what is told of the state that they leave.
use Rattle.std.proofs.Common.{◌≡◌, List, [], ◌∷◌, ◌++◌, Option, Some, None, refl, sym, ap, ◌∙◌, subst}
use Rattle.std.specs.Option.{option_map_or}
use Rattle.mm_model.specs.declared.settings.Settings.{Settings}
use Rattle.mm_model.specs.State.{State, empty_state}
use Rattle.mm_model.specs.Logs.Turns.{Turn, AreSteps}
use Rattle.mm_pace.specs.Work.{work_of, is_running}
use Rattle.mm_pace.specs.Rules.{last_turn, runs_after, work_after}

-- the state between two parts
pub record AreCut (a : State) (turns more : List Turn) (b : State) : Type 0 where
  pub mid : State
  pub first : AreSteps a turns mid
  pub second : AreSteps mid more b

pub steps-cut : (a : State) (turns more : List Turn) (b : State) → AreSteps a (turns ++ more) b
    → AreCut a turns more b
steps-cut a [] more b steps = record { mid = a; first = refl; second = steps }
steps-cut a (turn ∷ turns) more b steps =
    let cut = steps-cut turn.after turns more b steps.2 in
    record { mid = cut.mid; first = (steps.0, steps.1, cut.first); second = cut.second }

pub steps-join : (a : State) (turns more : List Turn) (mid b : State) → AreSteps a turns mid → AreSteps mid more b
    → AreSteps a (turns ++ more) b
steps-join a [] more mid b first second = subst (λ (s : State). AreSteps s more b) first second
steps-join a (turn ∷ turns) more mid b first second =
    (first.0, first.1, steps-join turn.after turns more mid b first.2 second)

-- what is told of the last turn's state is told of the state that the turns leave
told-last : {X : Type 0} (tell : State → X) (a : State) (turns : List Turn) (b : State) → AreSteps a turns b
    → option_map_or (λ (t : Turn). tell t.after) (last_turn turns) (tell a) ≡ tell b
told-last tell a [] b steps = ap tell (sym steps)
told-last tell a (turn ∷ []) b steps = ap tell (sym steps.2)
told-last tell a (turn ∷ next ∷ turns) b steps =
    same (last_turn (next ∷ turns)) refl ∙ told-last tell turn.after (next ∷ turns) b steps.2
  where
    some : (last : Turn) (ts : List Turn) → last_turn (last ∷ ts) ≡ None → ⊥
    some last [] e = cc
    some last (t ∷ ts) e = some t ts e

    same : (found : Option Turn) → last_turn (next ∷ turns) ≡ found
        → option_map_or (λ (t : Turn). tell t.after) found (tell a)
        ≡ option_map_or (λ (t : Turn). tell t.after) (last_turn (next ∷ turns)) (tell turn.after)
    same None e = absurd (some next turns e)
    same (Some last) e =
        ap (λ (found : Option Turn). option_map_or (λ (t : Turn). tell t.after) found (tell turn.after)) (sym e)

pub runs_after-steps : (settings : Settings) (turns : List Turn) (b : State) → AreSteps (empty_state settings) turns b
    → runs_after turns ≡ is_running b
runs_after-steps settings turns b steps = told-last is_running (empty_state settings) turns b steps

pub work_after-steps : (settings : Settings) (turns : List Turn) (b : State) → AreSteps (empty_state settings) turns b
    → work_after turns ≡ work_of b
work_after-steps settings turns b steps = told-last work_of (empty_state settings) turns b steps
