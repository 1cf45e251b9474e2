-- What has been allocated since a cycle began or ended last, and what the running one had to do as it began.
use Rattle.std.specs.Prelude.{ℕ, Bool, not, if◌then◌else◌, List, [], ◌∷◌, reverse, Option}
use Rattle.std.specs.List.{list_any, find, sum_by}
use Rattle.std.specs.Option.{option_map_or}
use Rattle.mm_model.specs.Places.SizeClass.{extent_of, object_bytes}
use Rattle.mm_model.specs.Logs.Turns.{Turn, Born, births_in, begins}
use Rattle.mm_pace.specs.Work.{work_of, is_running}

-- the bytes that an object took as it was born
abbrev pub extent_born : Born → ℕ
extent_born born = extent_of (object_bytes born.shape.slots)

-- Whether a cycle begins or ends in the turn. No turn does both: what ends one begins none.
abbrev pub changes_cycle : Turn → Bool
changes_cycle turn = if is_running turn.before then not (is_running turn.after) else is_running turn.after

-- The turns from the last one on in which a cycle began or ended, and all of them where there is none. What is born in
-- that turn is born after the cycle began or ended: `begin`, `finish` and `collect` bear nothing, and a search whose
-- collection ends a cycle comes before the birth.
abbrev pub recent : List Turn → List Turn
recent [] = []
recent (turn ∷ turns) = if list_any changes_cycle turns then recent turns else turn ∷ turns

-- The bytes of the objects that were born since a cycle began or ended last, or since the start where none did.
abbrev pub since : List Turn → ℕ
since turns = sum_by extent_born (births_in (recent turns))

-- the last turn in which a cycle began
abbrev pub last_begin : List Turn → Option Turn
last_begin turns = find begins (reverse turns)

-- The work of the state in which that `begin` began, before a reap at its end. Of turns without one it is 0.
abbrev pub work_begun : List Turn → ℕ
work_begun turns = option_map_or (λ turn. work_of turn.before) (last_begin turns) 0
