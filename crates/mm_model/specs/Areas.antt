-- Areas under numbers.
use Rattle.std.specs.Prelude.{ℕ, Bool, not, if◌then◌else◌, ◌==◌, nat_lt, List, [], ◌∷◌, map, replicate, Option, is_some}
use Rattle.std.specs.Prelude.{unwrap_or}
use Rattle.std.specs.List.{find, filter}
use Rattle.mm_model.specs.Value.{integer}
use Rattle.mm_model.specs.Places.SizeClass.{extent_of, area_bytes}
use Rattle.mm_model.specs.State.{State, Area}
use Rattle.mm_model.specs.Places.Place.{first_from}

abbrev pub most_areas : ℕ
most_areas = 1024

abbrev pub area_at : State → ℕ → Option Area
area_at a number = find (λ area. area.number == number) a.areas

-- the lowest number that no area has
abbrev pub free_number : State → ℕ
free_number a = unwrap_or (first_from (λ number. not (is_some (area_at a number))) 0 most_areas) most_areas

abbrev pub new_area : ℕ → ℕ → Bool → ℕ → ℕ → Area
new_area number base scanned counted cells =
    record {
      number = number;
      base = base;
      extent = extent_of (area_bytes cells);
      scanned = scanned;
      counted = counted;
      cells = replicate cells (integer 0);
    }

-- one more area, in its place by number
abbrev pub area_inserted : Area → List Area → List Area
area_inserted new [] = new ∷ []
area_inserted new (area ∷ areas) =
    if nat_lt new.number area.number then new ∷ area ∷ areas else area ∷ area_inserted new areas

abbrev pub with_area : Area → State → State
with_area new a = record a { areas = area_inserted new a.areas }

abbrev pub without_area : ℕ → State → State
without_area number a = record a { areas = filter (λ area. not (area.number == number)) a.areas }

-- the area with the new one's number becomes the new one
abbrev pub with_changed_area : Area → State → State
with_changed_area new a =
    record a { areas = map (λ area. if area.number == new.number then new else area) a.areas }
