-- Which sizes there are.
use Rattle.std.specs.Prelude.{◌<◌, ◌≤◌}
use Rattle.mm_model.specs.declared.object.Size.{Size}
use Rattle.mm_model.specs.declared.object.Size.TheVariants.{Small, Pages}

-- one of the 19 classes, or at most as many pages as the greatest region has
abbrev pub IsSize : Size → Type 0
IsSize (Small class) = class < 19
IsSize (Pages count) = (0 < count) × (count ≤ 4096)
