-- The state after a command, from the state before and the lines of its group: every choice stands in the lines.
use Rattle.std.specs.Prelude.{ℕ, true, false, if◌then◌else◌, nat_le, List, [], ◌∷◌, take, Option, Some, None, slice_get}
use Rattle.std.specs.List.{position_from}
use Rattle.std.specs.Option.{option_map_or, option_and_then}
use Rattle.mm_model.specs.declared.command.Command.{Command}
use Rattle.mm_model.specs.declared.command.Command.TheVariants as commands
use Rattle.mm_model.specs.declared.refusal.Refusal.{Refusal}
use Rattle.mm_model.specs.declared.line.Line.{Line}
use Rattle.mm_model.specs.declared.line.Line.TheVariants as lines
use Rattle.mm_model.specs.Places.SizeClass.{object_bytes, area_bytes}
use Rattle.mm_model.specs.Places.Place.{Family, Objects, Areas}
use Rattle.mm_model.specs.State.{State, lives_at, one_more_command}
use Rattle.mm_model.specs.Meaning.{meant_at, object_meant}
use Rattle.mm_model.specs.Count.{zero_count}
use Rattle.mm_model.specs.Sets.Marking.{part_done}
use Rattle.mm_model.specs.Phase.{reaped, collected}
use Rattle.mm_model.specs.Places.Search.{place_now, place_grown}
use Rattle.mm_model.specs.Effect.{Effect, done, with_some, new_effect, weak_effect, area_effect, pushes_object}
use Rattle.mm_model.specs.Effect.{plain_effect}
use Rattle.mm_model.specs.Refusing.{refusal}
use Rattle.mm_model.specs.Step.{is_full}

abbrev pub freed_bases : List Line → List ℕ
freed_bases [] = []
freed_bases (lines.Free base ∷ log) = base ∷ freed_bases log
freed_bases (line ∷ log) = freed_bases log

-- what each phase frees, in order: a phase's line says how many lines of freed objects follow
abbrev pub phases_in : List Line → List (List ℕ)
phases_in [] = []
phases_in (lines.Phase what count ∷ log) = freed_bases (take count log) ∷ phases_in log
phases_in (line ∷ log) = phases_in log

-- the objects of which a part is scanned, in order
abbrev pub scanned_bases : List Line → List ℕ
scanned_bases [] = []
scanned_bases (lines.Scan base slots ∷ log) = base ∷ scanned_bases log
scanned_bases (line ∷ log) = scanned_bases log

abbrev pub first_phase : List (List ℕ) → List ℕ
first_phase [] = []
first_phase (bases ∷ phases) = bases

abbrev pub later_phases : List (List ℕ) → List (List ℕ)
later_phases [] = []
later_phases (bases ∷ phases) = phases

-- what a search leaves and finds, and the phases that come after it
pub record Searched : Type 0 where
  pub state : State
  pub found : Option ℕ
  pub rest : List (List ℕ)

abbrev pub collected_unless : Option ℕ → State → Family → ℕ → List (List ℕ) → Searched
collected_unless (Some base) a family bytes phases = record { state = a; found = Some base; rest = phases }
collected_unless None a family bytes phases =
    let b = collected (first_phase phases) a in
    record { state = b; found = place_grown b family bytes; rest = later_phases phases }

abbrev pub reaped_unless : Option ℕ → State → Family → ℕ → List (List ℕ) → Searched
reaped_unless (Some base) a family bytes phases = record { state = a; found = Some base; rest = phases }
reaped_unless None a family bytes phases =
    let b = reaped (first_phase phases) a in
    collected_unless (place_grown b family bytes) b family bytes (later_phases phases)

abbrev pub searched : State → Family → ℕ → List (List ℕ) → Searched
searched a family bytes phases = reaped_unless (place_now a family bytes) a family bytes phases

-- what the row of a command comes to, and the phases that come after it
pub record Row : Type 0 where
  pub effect : Effect
  pub rest : List (List ℕ)

abbrev pub row_made : Searched → (State → Option ℕ → Effect) → Row
row_made s effect = record { effect = effect s.state s.found; rest = s.rest }

abbrev pub birth_at : State → ℕ → Option ℕ
birth_at a base = position_from (lives_at base) 0 a.objects

abbrev pub part_done_at : State → Option ℕ → State
part_done_at a None = a
part_done_at a (Some birth) = option_map_or (part_done a birth) (slice_get a.objects birth) a

abbrev pub parts_done : State → List ℕ → State
parts_done a [] = a
parts_done a (base ∷ bases) = parts_done (part_done_at a (birth_at a base)) bases

abbrev pub weak_row : State → Option ℕ → Option ℕ → List (List ℕ) → Row
weak_row a target (Some weak) phases = record { effect = pushes_object a weak; rest = phases }
weak_row a target None phases =
    row_made (searched a Objects (object_bytes 0) phases)
    (λ b found. with_some target b (λ birth. weak_effect b birth found))

abbrev pub row_after : State → Command → List Line → Row
row_after a (commands.New shape) group =
    row_made (searched a Objects (object_bytes shape.slots) (phases_in group)) (λ b found. new_effect b shape found)
row_after a (commands.Weak i) group =
    weak_row a (meant_at a i) (option_and_then (λ object. object.partner) (object_meant a i)) (phases_in group)
row_after a (commands.Root counted cells) group =
    row_made (searched a Areas (area_bytes cells) (phases_in group))
    (λ b found. area_effect b true counted cells found)
row_after a (commands.Fixed cells) group =
    row_made (searched a Areas (area_bytes cells) (phases_in group)) (λ b found. area_effect b false 0 cells found)
row_after a commands.Reap group =
    record { effect = done (reaped (first_phase (phases_in group)) a); rest = later_phases (phases_in group) }
row_after a commands.Collect group =
    record { effect = done (collected (first_phase (phases_in group)) a); rest = later_phases (phases_in group) }
row_after a (commands.Step k) group =
    record { effect = done (parts_done a (scanned_bases group)); rest = phases_in group }
row_after a commands.Finish group =
    record { effect = done (collected (first_phase (phases_in group)) a); rest = later_phases (phases_in group) }
row_after a command group = record { effect = plain_effect a command; rest = phases_in group }

-- the reap at the end, if there is one
abbrev pub ended : Row → State
ended row =
    if is_full row.effect.reply then row.effect.state
    else if nat_le row.effect.state.threshold (zero_count row.effect.state)
    then reaped (first_phase row.rest) row.effect.state else row.effect.state

abbrev pub after_unless : Option Refusal → State → Command → List Line → State
after_unless (Some because) a command group = a
after_unless None a command group = ended (row_after a command group)

abbrev pub after : State → Command → List Line → State
after a command group = one_more_command (after_unless (refusal a command) a command group)
