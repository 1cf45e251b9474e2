-- The turns of a log, one for each command, and what can be read of them: births, writes, phases and cycles.
use Rattle.std.specs.Prelude.{◌≡◌, ℕ, Bool, true, false, if◌then◌else◌, ◌&&◌, ◌==◌, nat_le, IsTrue, List, [], ◌∷◌, ◌++◌}
use Rattle.std.specs.Prelude.{map, Option, Some, None, slice_get, ⊤}
use Rattle.std.specs.List.{AllByRecursion, fold, flat_map}
use Rattle.std.specs.Option.{option_map, option_map_or, option_and_then}
use Rattle.mm_model.specs.declared.command.Command.{Command}
use Rattle.mm_model.specs.declared.command.Command.TheVariants as commands
use Rattle.mm_model.specs.declared.object.Shape.{Shape}
use Rattle.mm_model.specs.declared.refusal.Refusal.{Refusal}
use Rattle.mm_model.specs.declared.reply.Reply.{Reply}
use Rattle.mm_model.specs.declared.reply.Reply.TheVariants as replies
use Rattle.mm_model.specs.declared.line.Line.{Line}
use Rattle.mm_model.specs.declared.line.Line.TheVariants as lines
use Rattle.mm_model.specs.declared.settings.Settings.{Settings}
use Rattle.mm_model.specs.Places.SizeClass.{object_bytes, area_bytes}
use Rattle.mm_model.specs.Places.Place.{Family, Objects, Areas}
use Rattle.mm_model.specs.Object.{Object}
use Rattle.mm_model.specs.State.{State, Lives, empty_state}
use Rattle.mm_model.specs.Meaning.{meant_at, object_meant}
use Rattle.mm_model.specs.Count.{zero_count}
use Rattle.mm_model.specs.Phase.{lists, reaped}
use Rattle.mm_model.specs.Places.Search.{place_now, place_grown}
use Rattle.mm_model.specs.Effect.{weak_shape}
use Rattle.mm_model.specs.Refusing.{refusal, word_at}
use Rattle.mm_model.specs.Step.{IsStep, is_full}
use Rattle.mm_model.specs.After.{phases_in, first_phase, later_phases, Row, row_after, after}

-- One command: the state before it, the lines that it wrote, and the state after it.
pub record Turn : Type 0 where
  pub before : State
  pub command : Command
  pub group : List Line
  pub after : State

-- the last line is a reply, and no other one is
abbrev pub is_group : List Line → Bool
is_group [] = false
is_group (lines.Reply reply ∷ []) = true
is_group (lines.Reply reply ∷ line ∷ log) = false
is_group (line ∷ log) = is_group log

-- Each turn begins where the one before ended, the first one in the given state, and its lines tell the state after it.
abbrev pub AreJoined : State → List Turn → Type 0
AreJoined a [] = ⊤
AreJoined a (turn ∷ turns) =
    (turn.before ≡ a) × (turn.after ≡ after turn.before turn.command turn.group) × AreJoined turn.after turns

-- The turns of a log, which settings, commands and log determine: no state is free.
pub record AreTurns (settings : Settings) (commands : List Command) (log : List Line) (turns : List Turn) : Type 0 where
  -- there is one for each command
  pub each_command : map (λ turn. turn.command) turns ≡ commands
  -- the log is cut behind each reply
  pub cut : flat_map (λ turn. turn.group) turns ≡ log
  pub groups : AllByRecursion (λ turn. IsTrue (is_group turn.group)) turns
  pub joined : AreJoined (empty_state settings) turns

-- the turns before one of them
pub record ComesAfter (turns earlier : List Turn) (turn : Turn) : Type 0 where
  pub later : List Turn
  pub is : earlier ++ turn ∷ later ≡ turns

-- what holds of each turn and those before it
abbrev pub EachTurn : List Turn → (List Turn → Turn → Type 0) → Type 0
EachTurn turns P = (earlier : List Turn) (turn : Turn) → ComesAfter turns earlier turn → P earlier turn

abbrev pub reply_in : List Line → Option Reply
reply_in [] = None
reply_in (lines.Reply reply ∷ log) = Some reply
reply_in (line ∷ log) = reply_in log

abbrev pub reply_of : Turn → Option Reply
reply_of turn = reply_in turn.group

abbrev pub is_refusal : Reply → Bool
is_refusal (replies.Refused because) = true
is_refusal reply = false

abbrev pub was_refused : Turn → Bool
was_refused turn = option_map_or is_refusal (reply_of turn) false

-- An object as it was born: where, in which shape, and of a weak reference the object for which it was made.
pub record Born : Type 0 where
  pub base : ℕ
  pub shape : Shape
  pub target : Option ℕ

abbrev pub born_at : State → Command → ℕ → List Born
born_at a (commands.New shape) base = record { base = base; shape = shape; target = None } ∷ []
born_at a (commands.Weak i) base = record { base = base; shape = weak_shape; target = meant_at a i } ∷ []
born_at a command base = []

abbrev pub births_if : State → Command → Option Reply → List Born
births_if a command (Some (replies.New base)) = born_at a command base
births_if a command reply = []

-- an object is born where the reply tells a new base
abbrev pub births_of : Turn → List Born
births_of turn = births_if turn.before turn.command (reply_of turn)

-- all that were born, in order: each stands under its birth number, freed or not
abbrev pub births_in : List Turn → List Born
births_in turns = flat_map births_of turns

-- For which object the weak reference with a birth number was made. It stays so after the reference is emptied.
abbrev pub made_for : List Turn → ℕ → Option ℕ
made_for turns weak = option_and_then (λ born. born.target) (slice_get (births_in turns) weak)

-- a word that is written to a slot of an object
pub record Write : Type 0 where
  pub object : ℕ
  pub slot : ℕ
  pub word : ℕ

-- `put` writes the word of its cell to the object that the other cell means. No other command writes to a slot.
abbrev pub write_in : State → Command → Option Write
write_in a (commands.Put i s j) =
    option_map (λ birth. record { object = birth; slot = s; word = word_at a j }) (meant_at a i)
write_in a command = None

abbrev pub write_of : Turn → Option Write
write_of turn = if was_refused turn then None else write_in turn.before turn.command

-- what a slot has after a write, which is to this slot or to another one
abbrev pub word_after : ℕ → ℕ → ℕ → Option Write → ℕ
word_after birth slot word None = word
word_after birth slot word (Some write) = if write.object == birth && write.slot == slot then write.word else word

-- The word that was written last to a slot of an object, whether it was freed since or not, and 0 where none was.
abbrev pub last_written : List Turn → ℕ → ℕ → ℕ
last_written turns birth slot = fold (λ word turn. word_after birth slot word (write_of turn)) 0 turns

-- the ways in which objects are freed
pub data Way : Type 0 where
  Reaping : Way
  -- a full collection
  Collecting : Way
  -- the end of a cycle
  Finishing : Way

-- a phase of a turn: the state in which it begins, and the bases that it frees, as its lines tell them
pub record PhaseOf : Type 0 where
  pub way : Way
  pub before : State
  pub bases : List ℕ

abbrev pub first_of : Way → State → List (List ℕ) → PhaseOf
first_of way a phases = record { way = way; before = a; bases = first_phase phases }

-- A search that finds no place reaps, and where it finds none then it collects.
abbrev pub collection_unless : Option ℕ → State → List (List ℕ) → List PhaseOf
collection_unless (Some base) a phases = []
collection_unless None a phases = first_of Collecting a phases ∷ []

abbrev pub reap_unless : Option ℕ → State → Family → ℕ → List (List ℕ) → List PhaseOf
reap_unless (Some base) a family bytes phases = []
reap_unless None a family bytes phases =
    let b = reaped (first_phase phases) a in
    first_of Reaping a phases ∷ collection_unless (place_grown b family bytes) b (later_phases phases)

abbrev pub search_phases : State → Family → ℕ → List (List ℕ) → List PhaseOf
search_phases a family bytes phases = reap_unless (place_now a family bytes) a family bytes phases

-- `weak` looks for a place where the object has no weak reference
abbrev pub weak_phases : State → Option ℕ → List (List ℕ) → List PhaseOf
weak_phases a (Some weak) phases = []
weak_phases a None phases = search_phases a Objects (object_bytes 0) phases

-- the phases of a command that isn't refused, without the reap at its end
abbrev pub row_phases : State → Command → List (List ℕ) → List PhaseOf
row_phases a (commands.New shape) phases = search_phases a Objects (object_bytes shape.slots) phases
row_phases a (commands.Weak i) phases =
    weak_phases a (option_and_then (λ object. object.partner) (object_meant a i)) phases
row_phases a (commands.Root counted cells) phases = search_phases a Areas (area_bytes cells) phases
row_phases a (commands.Fixed cells) phases = search_phases a Areas (area_bytes cells) phases
row_phases a commands.Reap phases = first_of Reaping a phases ∷ []
row_phases a commands.Collect phases = first_of Collecting a phases ∷ []
row_phases a commands.Finish phases = first_of Finishing a phases ∷ []
row_phases a command phases = []

-- the reap at the end, in the state that the command left
abbrev pub end_phases : Row → List PhaseOf
end_phases row =
    if is_full row.effect.reply then []
    else if nat_le row.effect.state.threshold (zero_count row.effect.state)
    then first_of Reaping row.effect.state row.rest ∷ [] else []

abbrev pub phases_unless : Option Refusal → State → Command → List Line → List PhaseOf
phases_unless (Some because) a command group = []
phases_unless None a command group =
    row_phases a command (phases_in group) ++ end_phases (row_after a command group)

-- all phases of a turn, in order
abbrev pub phases_of : Turn → List PhaseOf
phases_of turn = phases_unless (refusal turn.before turn.command) turn.before turn.command turn.group

-- what holds of each phase of a turn that frees in this way
abbrev pub EachPhase : Way → Turn → (PhaseOf → Type 0) → Type 0
EachPhase way turn P = AllByRecursion (λ phase. phase.way ≡ way → P phase) (phases_of turn)

-- The object with a birth number lives as the phase begins, and its base is among those that it frees.
pub record Frees (phase : PhaseOf) (birth : ℕ) : Type 0 where
  pub object : Object
  pub lives : Lives phase.before birth object
  pub listed : IsTrue (lists phase.bases object.base)

-- The states of a cycle: the one that its `begin` left, and those after the turns since, the latest first.
pub record CycleStates : Type 0 where
  pub begun : State
  pub since : List State

abbrev pub is_begin : Command → Bool
is_begin commands.Begin = true
is_begin command = false

-- whether a cycle begins in the turn
abbrev pub begins : Turn → Bool
begins turn = if was_refused turn then false else is_begin turn.command

abbrev pub and_then : State → CycleStates → CycleStates
and_then a cycle = record cycle { since = a ∷ cycle.since }

abbrev pub cycle_after : Option CycleStates → Turn → Option CycleStates
cycle_after cycle turn =
    if begins turn then Some (record { begun = turn.after; since = [] }) else option_map (and_then turn.after) cycle

-- the cycle that began last
abbrev pub latest_cycle : List Turn → Option CycleStates
latest_cycle turns = fold cycle_after None turns

-- turns that are steps, from a state to another one
abbrev pub AreSteps : State → List Turn → State → Type 0
AreSteps a [] b = b ≡ a
AreSteps a (turn ∷ turns) b =
    (turn.before ≡ a) × IsStep turn.before turn.command turn.group turn.after × AreSteps turn.after turns b
