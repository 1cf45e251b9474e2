-- What `step` scans: parts, one after another, in an order of the program's choice.
use Rattle.std.specs.Prelude.{◌≡◌, ℕ, ◌+◌, ◌-◌, ◌<◌, ◌≤◌, sum, List, [], ◌∷◌, map, length, take}
use Rattle.mm_model.specs.declared.line.Line.{Line}
use Rattle.mm_model.specs.declared.line.Line.TheVariants as lines
use Rattle.mm_model.specs.declared.object.Colour.TheVariants.{Gray}
use Rattle.mm_model.specs.Object.{Object}
use Rattle.mm_model.specs.State.{State, Lives}
use Rattle.mm_model.specs.Sets.Marking.{MayScan, colour_in, part_slots, part_done}

-- The objects whose parts are scanned, by birth number, each when its turn may come, with a line for each part.
abbrev pub AreScanned : State → List ℕ → List Line → State → Type 0
AreScanned a [] log b = (log ≡ []) × (b ≡ a)
AreScanned a (birth ∷ births) log b =
    (object : Object) × (rest : List Line) × MayScan a birth object ×
    (log ≡ lines.Scan object.base (length (part_slots a birth object)) ∷ rest) ×
    AreScanned (part_done a birth object) births rest b

-- a part costs one, and one for each of its slots
abbrev pub cost : Line → ℕ
cost (lines.Scan base slots) = 1 + slots
cost line = 0

abbrev pub costs : List Line → List ℕ
costs log = map cost log

abbrev pub IsNothingGray : State → Type 0
IsNothingGray a = (birth : ℕ) (object : Object) → Lives a birth object → colour_in a.cycle birth ≡ Gray → ⊥

-- `step k` scans until the costs together are at least k, or until nothing is gray. `step 0` scans nothing.
pub data IsEnough (k : ℕ) (log : List Line) (b : State) : Type 0 where
  Nothing_asked : k ≡ 0 → log ≡ [] → IsEnough k log b
  Cost_reached : k ≤ sum (costs log) → sum (take (length log - 1) (costs log)) < k → IsEnough k log b
  Nothing_left : sum (costs log) < k → IsNothingGray b → IsEnough k log b
