-- Bytes that an object can take.
use Rattle.std.specs.Prelude.{◌≡◌, ℕ, ◌≤◌, ◌%◌}

pub record IsExtent (bytes : ℕ) : Type 0 where
  pub least : 16 ≤ bytes
  pub most : bytes ≤ 4198400
  pub grained : bytes % 16 ≡ 0
