-- The empty state is good.
use Rattle.std.specs.Prelude.{◌≤◌}
use Rattle.mm_model.specs.declared.settings.Settings.{Settings}
use Rattle.mm_model.specs.State.{empty_state}
use Rattle.mm_model.specs.Good.{IsGood}

pub empty_is_good : (settings : Settings) → settings.pages ≤ settings.max → IsGood (empty_state settings)
empty_is_good settings growing =
    record {
      growing = growing;
      placed = record { inside = tt; apart = tt };
      shaped = λ birth object h. let is = h.is in cc;
      areas_shaped = λ n area e. cc;
      numbered = record { ascending = tt; below = tt };
      referred = record { stack = tt; slots = λ birth object h. let is = h.is in cc; cells = λ n area e. cc };
      tight = tt;
      counted = λ birth object h. let is = h.is in cc;
      paired = λ birth object h. let is = h.is in cc;
      coloured = tt;
    }
