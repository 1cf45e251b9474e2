-- The text of sites after a log.
use Rattle.std.specs.Prelude.{◌≡◌, ℕ, List}
use Rattle.std.specs.List.{flat_map, range_with_len}
use Rattle.mm_model.specs.declared.command.Command.{Command}
use Rattle.mm_model.specs.declared.line.Line.{Line}
use Rattle.mm_model.specs.declared.settings.Settings.{Settings}
use Rattle.mm_model.specs.State.{State}
use Rattle.mm_model.specs.Step.{IsStep}
use Rattle.mm_model.specs.Logs.Log.{IsLegal}
use Rattle.mm_model.specs.Logs.Turns.{Turn, AreTurns}
use Rattle.mm_sites.specs.Births.{birth_sites, total_in}
use Rattle.mm_sites.specs.Text.{site_text}

-- The log is legal for the commands. Where these are the commands' sites, this is the text of the first sites, so many
-- of them.
pub record IsSiteText (settings : Settings) (commands : List Command) (log : List Line) (sites : List ℕ) (first : ℕ)
    (text : List ℕ) : Type 0 where
  pub state : State
  pub turns : List Turn
  pub legal : IsLegal IsStep settings commands log state
  pub are : AreTurns settings commands log turns
  pub told : flat_map (λ site. site_text site (total_in state (birth_sites turns sites) site)) (range_with_len 0 first)
      ≡ text
