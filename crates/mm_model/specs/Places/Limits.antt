-- Which settings a heap can have.
use Rattle.std.specs.Prelude.{◌≤◌}
use Rattle.mm_model.specs.declared.settings.Settings.{Settings}

pub record IsWithinLimits (settings : Settings) : Type 0 where
  pub least_pages : 2 ≤ settings.pages
  pub growing : settings.pages ≤ settings.max
  pub most_pages : settings.max ≤ 4096
  pub least_zct : 1 ≤ settings.zct
  pub most_zct : settings.zct ≤ 1048575
  pub least_queue : 1 ≤ settings.queue
  pub most_queue : settings.queue ≤ 65536
  pub least_stack : 1 ≤ settings.stack
  pub most_stack : settings.stack ≤ 65536
