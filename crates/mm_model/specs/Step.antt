-- One step: what a command does to a state, and the group of lines that it writes.
use Rattle.std.specs.Prelude.{◌≡◌, ℕ, ◌≤◌, ◌<◌, Bool, true, false, List, [], ◌∷◌, ◌++◌, Option, Some, None}
use Rattle.mm_model.specs.declared.command.Command.{Command}
use Rattle.mm_model.specs.declared.command.Command.TheVariants as commands
use Rattle.mm_model.specs.declared.refusal.Refusal.{Refusal}
use Rattle.mm_model.specs.declared.refusal.Refusal.TheVariants as refusals
use Rattle.mm_model.specs.declared.reply.Reply.{Reply}
use Rattle.mm_model.specs.declared.reply.Reply.TheVariants as replies
use Rattle.mm_model.specs.declared.line.Line.{Line}
use Rattle.mm_model.specs.declared.line.Line.TheVariants as lines
use Rattle.mm_model.specs.declared.line.Phase.TheVariants.{Reap, Collect}
use Rattle.mm_model.specs.Places.SizeClass.{object_bytes, area_bytes}
use Rattle.mm_model.specs.Places.Place.{Family, Objects, Areas}
use Rattle.mm_model.specs.Object.{Object}
use Rattle.mm_model.specs.State.{State, one_more_command}
use Rattle.mm_model.specs.Meaning.{meant_at, object_meant}
use Rattle.mm_model.specs.Count.{zero_count}
use Rattle.mm_model.specs.Phase.{phase_lines, reaped, collected, AreReaped, AreCollected, AreFinished}
use Rattle.mm_model.specs.Places.Search.{Searches}
use Rattle.mm_model.specs.Sets.Scan.{AreScanned, IsEnough}
use Rattle.mm_model.specs.Effect.{Effect, new_effect, weak_effect, area_effect, pushes_object, plain_effect}
use Rattle.mm_model.specs.Refusing.{refusal}

-- A place is looked for, and what follows depends on the state that the search leaves and on the place.
pub record Makes (a : State) (family : Family) (bytes : ℕ) (after : State → Option ℕ → Effect) (log : List Line)
    (effect : Effect) : Type 0 where
  pub state : State
  pub found : Option ℕ
  pub search : Searches a family bytes log state found
  pub effect_is : effect ≡ after state found

-- nothing is freed or scanned
pub record IsPlain (log : List Line) (effect is : Effect) : Type 0 where
  pub no_lines : log ≡ []
  pub effect_is : effect ≡ is

-- `weak`: the weak reference that there is, or a new one
abbrev pub MakesWeak : State → ℕ → Option ℕ → List Line → Effect → Type 0
MakesWeak a target (Some weak) log effect = IsPlain log effect (pushes_object a weak)
MakesWeak a target None log effect =
    Makes a Objects (object_bytes 0) (λ b found. weak_effect b target found) log effect

-- what the cell means, which it does where the command isn't refused
pub record MakesWeakOf (a : State) (i : ℕ) (log : List Line) (effect : Effect) : Type 0 where
  pub target : ℕ
  pub object : Object
  pub target_is : meant_at a i ≡ Some target
  pub object_is : object_meant a i ≡ Some object
  pub makes : MakesWeak a target object.partner log effect

-- one phase, which frees the objects at these bases
pub record Reaps (a : State) (log : List Line) (b : State) : Type 0 where
  pub dead : List ℕ
  pub reapable : AreReaped a dead
  pub log_is : log ≡ phase_lines Reap a dead
  pub state : b ≡ reaped dead a

pub record Collects (a : State) (log : List Line) (b : State) : Type 0 where
  pub lost : List ℕ
  pub unreached : AreCollected a lost
  pub log_is : log ≡ phase_lines Collect a lost
  pub state : b ≡ collected lost a

pub record Finishes (a : State) (log : List Line) (b : State) : Type 0 where
  pub lost : List ℕ
  pub unmarked : AreFinished a lost
  pub log_is : log ≡ phase_lines Collect a lost
  pub state : b ≡ collected lost a

pub record Scans (a : State) (k : ℕ) (log : List Line) (b : State) : Type 0 where
  pub births : List ℕ
  pub scanned : AreScanned a births log b
  pub enough : IsEnough k log b

-- the row of each command that isn't refused, apart from `full`
abbrev pub Carries : State → Command → List Line → Effect → Type 0
Carries a (commands.New shape) log effect =
    Makes a Objects (object_bytes shape.slots) (λ b found. new_effect b shape found) log effect
Carries a (commands.Weak i) log effect = MakesWeakOf a i log effect
Carries a (commands.Root counted cells) log effect =
    Makes a Areas (area_bytes cells) (λ b found. area_effect b true counted cells found) log effect
Carries a (commands.Fixed cells) log effect =
    Makes a Areas (area_bytes cells) (λ b found. area_effect b false 0 cells found) log effect
Carries a commands.Reap log effect = Reaps a log effect.state × (effect.reply ≡ replies.Done)
Carries a commands.Collect log effect = Collects a log effect.state × (effect.reply ≡ replies.Done)
Carries a (commands.Step k) log effect = Scans a k log effect.state × (effect.reply ≡ replies.Done)
Carries a commands.Finish log effect = Finishes a log effect.state × (effect.reply ≡ replies.Done)
Carries a command log effect = IsPlain log effect (plain_effect a command)

abbrev pub is_full : Reply → Bool
is_full (replies.Refused refusals.Full) = true
is_full reply = false

-- The end of a command that wasn't refused: a reap where there are as many zero-count objects as the threshold says.
pub data Ends (a : State) (full : Bool) (log : List Line) (b : State) : Type 0 where
  Refused_as_full : full ≡ true → log ≡ [] → b ≡ a → Ends a full log b
  Below_threshold : full ≡ false → zero_count a < a.threshold → log ≡ [] → b ≡ a → Ends a full log b
  At_threshold : full ≡ false → a.threshold ≤ zero_count a → Reaps a log b → Ends a full log b

-- What a command does and answers, with the lines before its reply: its row without the reap at its end. It isn't
-- counted.
abbrev pub RowUnless : Option Refusal → State → Command → List Line → Effect → Type 0
RowUnless (Some because) a command log effect =
    IsPlain log effect (record { state = a; reply = replies.Refused because })
RowUnless None a command log effect = Carries a command log effect

abbrev pub IsRow : State → Command → List Line → Effect → Type 0
IsRow a command log effect = RowUnless (refusal a command) a command log effect

-- a command that isn't refused before anything is tried
pub record IsCarriedOut (a : State) (command : Command) (group : List Line) (b : State) : Type 0 where
  pub log : List Line
  pub effect : Effect
  pub carries : Carries a command log effect
  pub end_log : List Line
  pub end : State
  pub ends : Ends effect.state (is_full effect.reply) end_log end
  pub group_is : group ≡ log ++ end_log ++ lines.Reply effect.reply ∷ []
  pub state_is : b ≡ one_more_command end

pub record IsRefused (a : State) (because : Refusal) (group : List Line) (b : State) : Type 0 where
  pub group_is : group ≡ lines.Reply (replies.Refused because) ∷ []
  pub state_is : b ≡ one_more_command a

abbrev pub IsStepUnless : Option Refusal → State → Command → List Line → State → Type 0
IsStepUnless (Some because) a command group b = IsRefused a because group b
IsStepUnless None a command group b = IsCarriedOut a command group b

-- The command takes the first state to the second with this group of lines. A refused command changes nothing but the
-- number of commands. `full` alone leaves what its search left: a reap and a collection were run, which free objects,
-- end a cycle and set the threshold.
abbrev pub IsStep : State → Command → List Line → State → Type 0
IsStep a command group b = IsStepUnless (refusal a command) a command group b
