use Rattle.std.specs.Prelude.{◌≡◌, ℕ, ◌+◌, ◌*◌, ◌^◌, ◌≤◌}

-- how many nodes a change of the pages from .. to visits, told by the steps before and after it
pub record MarkVisits (height from to before after : ℕ) : Type 0 where
  pub none : from ≡ to → after ≡ before
  pub whole : from ≡ 0 → to ≡ 2 ^ height → after ≤ before + 1
  pub low_end : from ≡ 0 → after ≤ before + 1 + 2 * height
  pub high_end : to ≡ 2 ^ height → after ≤ before + 1 + 2 * height
  pub any : after ≤ before + 1 + 4 * height
