-- Values and requests as contracts see them.
use Rattle.std.specs.Prelude.{ℕ, ◌≤◌, IfSome, option_map}
use Rattle.mm_model.specs.Places.Limits.{IsWithinLimits}
use Rattle.mmgc.specs.declared.words.Request.{Request}
use Rattle.mmgc.specs.declared.words.Given.{Given}
use Rattle.mmgc.specs.Generator.{most_generated}
use Rattle.mmgc.specs.Words.{Choice, Values}

abbrev pub asked_by : Request → Choice
asked_by request =
    record {
      settings = request.settings;
      file = option_map (λ name. name.now) request.file;
      generated = request.generated;
      extras = request.extras;
    }

-- cycles can be paced at it
abbrev pub IsRate : ℕ → Type 0
IsRate rate = (1 ≤ rate) × (rate ≤ 1024)

-- the heap can have the settings, cycles the rate, and not too many commands are asked for
pub record IsAllowed (request : Request) : Type 0 where
  pub settings : IsWithinLimits request.settings
  pub rate : IfSome request.extras.rate IsRate
  pub count : IfSome request.generated (λ trace. trace.count ≤ most_generated)

abbrev pub values_by : Given → Values
values_by given =
    record {
      pages = option_map (λ text. text.now) given.pages;
      max = option_map (λ text. text.now) given.max;
      zct = option_map (λ text. text.now) given.zct;
      queue = option_map (λ text. text.now) given.queue;
      stack = option_map (λ text. text.now) given.stack;
      generated = option_map (λ text. text.now) given.generated;
      count = option_map (λ text. text.now) given.count;
      why = option_map (λ text. text.now) given.why;
      pace = option_map (λ text. text.now) given.pace;
      sites = given.sites;
      file = option_map (λ text. text.now) given.file;
    }
