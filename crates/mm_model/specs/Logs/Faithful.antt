-- What a log promises to whoever reads it, said of its turns.
use Rattle.std.specs.Prelude.{◌≡◌, ◌⊎◌, ◌↔◌, ℕ, ◌+◌, true, false, if◌then◌else◌, nat_lt, IsTrue, List, [], ◌∷◌, length}
use Rattle.std.specs.Prelude.{Option, Some, None, is_some, slice_get, ⊤}
use Rattle.std.specs.List.{AllByRecursion, flat_map}
use Rattle.mm_model.specs.declared.command.Command.{Command}
use Rattle.mm_model.specs.declared.command.Command.TheVariants as commands
use Rattle.mm_model.specs.declared.refusal.Refusal.TheVariants as refusals
use Rattle.mm_model.specs.declared.reply.Reply.{Reply}
use Rattle.mm_model.specs.declared.reply.Reply.TheVariants as replies
use Rattle.mm_model.specs.declared.line.Line.{Line}
use Rattle.mm_model.specs.declared.settings.Settings.{Settings}
use Rattle.mm_model.specs.Places.SizeClass.{extent_of, object_bytes}
use Rattle.mm_model.specs.Places.Place.{Objects, live_pieces}
use Rattle.mm_model.specs.Value.{Value}
use Rattle.mm_model.specs.Object.{Object, is_scanned, is_weak}
use Rattle.mm_model.specs.State.{State, Area, Lives}
use Rattle.mm_model.specs.Words.{SlotKind, slot_kind_at, falls}
use Rattle.mm_model.specs.Meaning.{resolved, meant_at}
use Rattle.mm_model.specs.Areas.{area_at}
use Rattle.mm_model.specs.Store.{refuses_word, store_reply}
use Rattle.mm_model.specs.Sets.Protected.{IsProtected}
use Rattle.mm_model.specs.Sets.Reached.{IsReached}
use Rattle.mm_model.specs.Sets.Marking.{IsMarked}
use Rattle.mm_model.specs.Phase.{IsAscending, collected}
use Rattle.mm_model.specs.Places.Search.{place_grown}
use Rattle.mm_model.specs.Refusing.{is_stack_full}
use Rattle.mm_model.specs.After.{freed_bases}
use Rattle.mm_model.specs.Good.{IsPlaced, IsGood}
use Rattle.mm_model.specs.Logs.Throughout.{IsThroughout}
use Rattle.mm_model.specs.Logs.Course.{IsGone}
use Rattle.mm_model.specs.WeakReferences.{IsMadeFor}
use Rattle.mm_model.specs.Logs.Turns.{Turn, AreTurns, EachTurn, reply_of, Born, births_in, made_for, last_written}
use Rattle.mm_model.specs.Logs.Turns.{Collecting, Finishing, PhaseOf, phases_of, EachPhase, Frees, begins, CycleStates}
use Rattle.mm_model.specs.Logs.Turns.{latest_cycle}

-- What is answered through a reference to an object, as it was born, by a heap that never frees.

abbrev pub unless_full : State → Reply → Reply
unless_full a reply = if is_stack_full a then replies.Refused refusals.StackFull else reply

-- `inner`, of the word that it gives
abbrev pub inner_answer : State → Born → ℕ → Reply
inner_answer a born word =
    if falls word born.base (extent_of (object_bytes born.shape.slots)) then unless_full a (replies.Word word)
    else replies.Refused refusals.Outside

-- `get`, of a slot and the word in it
abbrev pub get_answer : State → Born → ℕ → ℕ → Reply
get_answer a born s word =
    if nat_lt s born.shape.slots then unless_full a (replies.Word word) else replies.Refused refusals.NoSlot

abbrev pub map_answer : Born → Reply
map_answer born =
    replies.Object (record {
      base = born.base;
      kind = born.shape.kind;
      finalize = born.shape.finalize;
      extent = extent_of (object_bytes born.shape.slots);
    })

abbrev pub born_slot_kind : Born → ℕ → SlotKind
born_slot_kind born s = slot_kind_at (is_scanned born.shape.kind) born.shape.counted s

-- `put`, of a slot and the word that goes into it
abbrev pub stored_answer : State → Born → ℕ → ℕ → Reply
stored_answer a born s word =
    if nat_lt s born.shape.slots then
    (if refuses_word a (born_slot_kind born s) word then replies.Refused refusals.NotCounted
    else store_reply a (born_slot_kind born s) word)
    else replies.Refused refusals.NoSlot

-- `put`, of a slot and the stack cell whose word goes into it, if there is this cell
abbrev pub put_answer : State → Born → ℕ → Option Value → Reply
put_answer a born s None = replies.Refused refusals.NoCell
put_answer a born s (Some value) = stored_answer a born s value.word

-- a stack cell that holds a reference to the object with a birth number
pub record HoldsReference (a : State) (i birth : ℕ) : Type 0 where
  pub value : Value
  pub cell : slice_get a.stack i ≡ Some value
  pub origin : value.origin ≡ Some birth

-- the object with a birth number lives and has this base
pub record HasObject (a : State) (birth base : ℕ) : Type 0 where
  pub object : Object
  pub lives : Lives a birth object
  pub at : object.base ≡ base

-- the turn is refused since a weak reference has no place, after all that its search freed
pub record FindsNoPlace (turn : Turn) : Type 0 where
  pub refused : reply_of turn ≡ Some (replies.Refused refusals.Full)
  pub none : place_grown turn.after Objects (object_bytes 0) ≡ None

-- a weak reference that was made for an object lives and has this base
pub record HasWeak (earlier : List Turn) (a : State) (target base : ℕ) : Type 0 where
  pub weak : ℕ
  pub made : made_for earlier weak ≡ Some target
  pub lives : HasObject a weak base

-- `weak` through a reference to the object with a birth number. One that is a weak reference has none of its own.
-- Another one has that which was made for it, where this lives. Else one is made, unless there is no place for it.
pub record AnswersWeak (earlier : List Turn) (turn : Turn) (birth : ℕ) (born : Born) : Type 0 where
  pub of_weak : is_weak born.shape.kind ≡ true → reply_of turn ≡ Some (replies.Refused refusals.NoWeak)
  pub full : is_weak born.shape.kind ≡ false → is_stack_full turn.before ≡ true
      → reply_of turn ≡ Some (replies.Refused refusals.StackFull)
  pub kept : is_weak born.shape.kind ≡ false → is_stack_full turn.before ≡ false → (base : ℕ)
      → HasWeak earlier turn.before birth base ↔ (reply_of turn ≡ Some (replies.Word base))
  pub made : is_weak born.shape.kind ≡ false → is_stack_full turn.before ≡ false
      → ((base : ℕ) → HasWeak earlier turn.before birth base → ⊥)
      → ((base : ℕ) × (reply_of turn ≡ Some (replies.New base))) ⊎ FindsNoPlace turn

-- Through a cell that holds a reference, a turn acts on the object that it was made for, as it was born: it still lives
-- there, what is read of it is what was written last, and what is written is what is read later.
pub record ActsOnOrigin (earlier : List Turn) (turn : Turn) (i birth word : ℕ) : Type 0 where
  pub born : Born
  pub was_born : slice_get (births_in earlier) birth ≡ Some born
  pub lives : HasObject turn.before birth born.base
  -- the word alone means it
  pub means : resolved turn.before word ≡ Some birth
  pub inner : (bytes : ℕ) → turn.command ≡ commands.Inner i bytes
      → reply_of turn ≡ Some (inner_answer turn.before born (word + bytes))
  pub get : (s : ℕ) → turn.command ≡ commands.Get i s
      → reply_of turn ≡ Some (get_answer turn.before born s (last_written earlier birth s))
  pub map : turn.command ≡ commands.Map i → reply_of turn ≡ Some (map_answer born)
  pub put : (s j : ℕ) → turn.command ≡ commands.Put i s j
      → reply_of turn ≡ Some (put_answer turn.before born s (slice_get turn.before.stack j))
  pub weak : turn.command ≡ commands.Weak i → AnswersWeak earlier turn birth born

-- Each read through a reference answers as a heap that never frees would.
abbrev pub ReadsThroughReferences : List Turn → Turn → Type 0
ReadsThroughReferences earlier turn =
    (i birth : ℕ) (holds : HoldsReference turn.before i birth) → ActsOnOrigin earlier turn i birth holds.value.word

-- one of the phases frees the object with a birth number
abbrev pub IsFreedIn : List PhaseOf → ℕ → Type 0
IsFreedIn [] birth = ⊥
IsFreedIn (phase ∷ phases) birth = Frees phase birth ⊎ IsFreedIn phases birth

-- the bases of live objects, each once, ascending
pub record TellsLiveObjects (phase : PhaseOf) : Type 0 where
  pub ascending : IsAscending phase.bases
  pub live : AllByRecursion
      (λ base. (birth : ℕ) × (object : Object) × Lives phase.before birth object × (object.base ≡ base)) phase.bases

-- No phase frees a protected object, and nothing else frees objects.
pub record SparesProtected (turn : Turn) : Type 0 where
  -- the lines tell of the phases' objects and of no others
  pub told : freed_bases turn.group ≡ flat_map (λ phase. phase.bases) (phases_of turn)
  pub live : AllByRecursion TellsLiveObjects (phases_of turn)
  pub gone : (birth : ℕ) → IsGone turn.after birth → IsGone turn.before birth ⊎ IsFreedIn (phases_of turn) birth
  pub spared : AllByRecursion (λ phase. (birth : ℕ) → IsProtected phase.before birth → Frees phase birth → ⊥)
      (phases_of turn)

-- the turn is a `look` through a cell that means the weak reference with a birth number
pub record LooksAt (turn : Turn) (weak : ℕ) : Type 0 where
  pub i : ℕ
  pub looks : turn.command ≡ commands.Look i
  pub means : meant_at turn.before i ≡ Some weak

-- `look` of a weak reference that was made for a target replies 0 exactly where this is gone, and else its base. It is
-- refused where the stack is full, and nowhere else.
pub record AnswersLook (turn : Turn) (weak target : ℕ) : Type 0 where
  pub full : LooksAt turn weak → is_stack_full turn.before ≡ true
      → reply_of turn ≡ Some (replies.Refused refusals.StackFull)
  pub empty : LooksAt turn weak → is_stack_full turn.before ≡ false
      → (reply_of turn ≡ Some (replies.Word 0)) ↔ IsGone turn.before target
  pub based : LooksAt turn weak → is_stack_full turn.before ≡ false → (object : Object)
      → Lives turn.before target object → reply_of turn ≡ Some (replies.Word object.base)

-- It was made for an object, of which `look` tells.
pub record FollowsTarget (earlier : List Turn) (turn : Turn) (weak : ℕ) : Type 0 where
  pub target : ℕ
  pub made : made_for earlier weak ≡ Some target
  pub looks : AnswersLook turn weak target

-- A weak reference is empty exactly once its target is freed.
abbrev pub FollowsTargets : List Turn → Turn → Type 0
FollowsTargets earlier turn =
    (weak : ℕ) (born : Born) → slice_get (births_in earlier) weak ≡ Some born → IsTrue (is_weak born.shape.kind)
    → FollowsTarget earlier turn weak

-- the object with a birth number lives after a collection
pub record IsLeft (phase : PhaseOf) (birth : ℕ) : Type 0 where
  pub object : Object
  pub lives : Lives (collected phase.bases phase.before) birth object

-- A full collection leaves exactly the reached objects.
abbrev pub LeavesReached : Turn → Type 0
LeavesReached turn =
    EachPhase Collecting turn (λ phase. (birth : ℕ) → IsLeft phase birth ↔ IsReached phase.before birth)

-- The end of a cycle frees exactly what marking didn't reach and isn't reached.
abbrev pub FreesUnmarked : PhaseOf → Type 0
FreesUnmarked phase =
    (birth : ℕ) (object : Object) → Lives phase.before birth object
    → Frees phase birth ↔ ((IsMarked phase.before birth → ⊥) × (IsReached phase.before birth → ⊥))

-- So it frees all that was unreachable throughout the cycle.
pub record EndsCycle (earlier : List Turn) (phase : PhaseOf) : Type 0 where
  pub exactly : FreesUnmarked phase
  pub cycle : CycleStates
  pub began : latest_cycle earlier ≡ Some cycle
  pub throughout : (birth : ℕ) → IsThroughout cycle.begun cycle.since birth → Frees phase birth

-- An incremental cycle leaves nothing that was unreachable throughout it.
abbrev pub EndsCycles : List Turn → Turn → Type 0
EndsCycles earlier turn = EachPhase Finishing turn (EndsCycle earlier)

-- the area with a number has this base
pub record HasArea (a : State) (number base : ℕ) : Type 0 where
  pub area : Area
  pub is : area_at a number ≡ Some area
  pub at : area.base ≡ base

-- what a reply says of a new piece is so
abbrev pub IsThere : Turn → Option Reply → Type 0
IsThere turn (Some (replies.New base)) = HasObject turn.after (length turn.before.objects) base
IsThere turn (Some (replies.Area area)) = HasArea turn.after area.number area.base
IsThere turn reply = ⊤

-- Blocks never overlap: they lie on their grid in the region, and new ones where the log says.
pub record KeepsApart (settings : Settings) (turn : Turn) : Type 0 where
  pub placed : IsPlaced settings.max (live_pieces turn.after)
  pub there : IsThere turn (reply_of turn)

-- a weak reference that was made for a target stays its own, and tells of it
pub record FollowsItsTarget (turn : Turn) (weak target : ℕ) : Type 0 where
  pub looks : AnswersLook turn weak target
  pub stays : IsMadeFor turn.after weak target

-- What marking comes to reach is reached: at the begin of a cycle, and while it runs.
pub record MarksReached (turn : Turn) : Type 0 where
  pub begun : begins turn ≡ true → (birth : ℕ) → IsMarked turn.after birth → IsReached turn.after birth
  pub gained : IsTrue (is_some turn.before.cycle) → IsTrue (is_some turn.after.cycle) → (birth : ℕ)
      → IsMarked turn.after birth → (object : Object) → Lives turn.before birth object
      → IsMarked turn.before birth ⊎ IsReached turn.after birth

-- What one step keeps of the promises by itself, whatever came before it.
pub record IsLawful (turn : Turn) : Type 0 where
  pub protected : SparesProtected turn
  pub weak : (weak target : ℕ) → IsMadeFor turn.before weak target → FollowsItsTarget turn weak target
  pub collections : LeavesReached turn
  pub cycles : EachPhase Finishing turn FreesUnmarked
  pub marking : MarksReached turn
  pub good : IsGood turn.after

-- what one turn keeps of the promises, after the turns before it
pub record IsFaithfulTurn (settings : Settings) (earlier : List Turn) (turn : Turn) : Type 0 where
  pub lawful : IsLawful turn
  pub references : ReadsThroughReferences earlier turn
  pub weak : FollowsTargets earlier turn
  pub cycles : EndsCycles earlier turn
  pub apart : KeepsApart settings turn

-- The log of the commands keeps what is promised.
pub record IsFaithful (settings : Settings) (commands : List Command) (log : List Line) : Type 0 where
  pub turns : List Turn
  pub are : AreTurns settings commands log turns
  -- each read through a reference answers as a heap that never frees would
  pub references : EachTurn turns ReadsThroughReferences
  -- no protected object is ever freed
  pub protected : EachTurn turns (λ earlier. SparesProtected)
  -- a weak reference is empty exactly once its target is freed
  pub weak : EachTurn turns FollowsTargets
  -- a full collection leaves exactly the reached objects
  pub collections : EachTurn turns (λ earlier. LeavesReached)
  -- an incremental cycle leaves none that was unreachable throughout
  pub cycles : EachTurn turns EndsCycles
  -- blocks never overlap
  pub apart : EachTurn turns (λ earlier. KeepsApart settings)
  -- each state is good, and so what is promised of one step holds of each
  pub lawful : EachTurn turns (λ earlier. IsLawful)
