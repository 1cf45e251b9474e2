-- How a place is looked for: at once, after a reap, and after a full collection.
use Rattle.std.specs.Prelude.{◌≡◌, ℕ, List, [], ◌++◌, Option, Some, None}
use Rattle.mm_model.specs.declared.line.Line.{Line}
use Rattle.mm_model.specs.declared.line.Phase.TheVariants.{Reap, Collect}
use Rattle.mm_model.specs.State.{State}
use Rattle.mm_model.specs.Places.Place.{Family, place_of, region_pages}
use Rattle.mm_model.specs.Phase.{phase_lines, reaped, collected, AreReaped, AreCollected}

-- within the region as it is
abbrev pub place_now : State → Family → ℕ → Option ℕ
place_now a family bytes = place_of a (region_pages a) family bytes

-- in a region that may grow to its greatest number of pages
abbrev pub place_grown : State → Family → ℕ → Option ℕ
place_grown a family bytes = place_of a a.settings.max family bytes

-- The lines that a search writes, the state that it leaves, and the place that it finds. Where it finds none in the
-- end, the command is refused as full.
pub data Searches (a : State) (family : Family) (bytes : ℕ) (log : List Line) (b : State)
    (found : Option ℕ) : Type 0 where
  At_once : (base : ℕ) → place_now a family bytes ≡ Some base → log ≡ [] → b ≡ a → found ≡ Some base
      → Searches a family bytes log b found
  After_reap : (base : ℕ) (dead : List ℕ) → place_now a family bytes ≡ None → AreReaped a dead
      → place_grown (reaped dead a) family bytes ≡ Some base → log ≡ phase_lines Reap a dead → b ≡ reaped dead a
      → found ≡ Some base
      → Searches a family bytes log b found
  After_collection : (dead lost : List ℕ) → place_now a family bytes ≡ None → AreReaped a dead
      → place_grown (reaped dead a) family bytes ≡ None → AreCollected (reaped dead a) lost
      → log ≡ phase_lines Reap a dead ++ phase_lines Collect (reaped dead a) lost
      → b ≡ collected lost (reaped dead a) → found ≡ place_grown (collected lost (reaped dead a)) family bytes
      → Searches a family bytes log b found
