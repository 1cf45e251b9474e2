-- What a command leaves of the numbers that a state counts: it bears at most one object, counts no command, and keeps
-- the settings.
use Rattle.std.proofs.Common.{◌≡◌, ℕ, ◌+◌, ◌≤◌, Bool, true, false, not, [], ◌∷◌, length, Option, Some, None, refl, ap}
use Rattle.std.proofs.Common.{◌∙◌, arith}
use Rattle.std.proofs.lemmas.List.{length_push, length-map, length-set}
use Rattle.std.specs.Prelude.{slice_get, slice_index, ◌&&◌, ◌==◌, if◌then◌else◌}
use Rattle.mm_model.specs.declared.command.Command.{Command}
use Rattle.mm_model.specs.declared.command.Command.TheVariants as commands
use Rattle.mm_model.specs.declared.object.Shape.{Shape}
use Rattle.mm_model.specs.Value.{Value, words_of}
use Rattle.mm_model.specs.Object.{Object, newborn}
use Rattle.mm_model.specs.State.{State, Area}
use Rattle.mm_model.specs.Words.{SlotKind, slot_kind, cell_kind}
use Rattle.mm_model.specs.Count.{made_sticky, with_sticky}
use Rattle.mm_model.specs.Sets.Marking.{is_raw, is_passed, with_grayed, barrier}
use Rattle.mm_model.specs.Store.{is_counted_slot, recounted, with_object, with_slot, with_cell, put_in_slot}
use Rattle.mm_model.specs.Store.{put_in_cell}
use Rattle.mm_model.specs.Meaning.{meant_at, object_meant}
use Rattle.mm_model.specs.Areas.{area_at, with_changed_area}
use Rattle.mm_model.specs.Effect.{Effect, with_some, new_effect, look_effect, pushes_object, plain_effect}

-- a state with as many objects and commands
pub record HasSameNumbers (a b : State) : Type 0 where
  pub born : length b.objects ≡ length a.objects
  pub commands : b.commands ≡ a.commands
  pub settings : b.settings ≡ a.settings

same_numbers-then : (a b c : State) → HasSameNumbers a b → HasSameNumbers b c → HasSameNumbers a c
same_numbers-then a b c h k =
    record { born = k.born ∙ h.born; commands = k.commands ∙ h.commands; settings = k.settings ∙ h.settings }

same_numbers-made_sticky : (a : State) (base : ℕ) → HasSameNumbers a (with_sticky base a)
same_numbers-made_sticky a base =
    record { born = length-map a.objects (made_sticky a base); commands = refl; settings = refl }

same_numbers-recounted : (kind : SlotKind) (old new : ℕ) (a : State) → HasSameNumbers a (recounted kind old new a)
same_numbers-recounted kind old new a =
    let split : (b : Bool) → HasSameNumbers a (if b then with_sticky new a else a) =
    elim [ true ↦ same_numbers-made_sticky a new | false ↦ record { born = refl; commands = refl; settings = refl } ] in
    split (is_counted_slot kind && not (old == new))

same_numbers-barrier : (kind : SlotKind) (birth s word : ℕ) (a : State) → HasSameNumbers a (barrier kind birth s word a)
same_numbers-barrier kind birth s word a =
    let split : (b : Bool) → HasSameNumbers a (if b then with_grayed (word ∷ []) a else a) =
    elim [
      | true ↦ record { born = refl; commands = refl; settings = refl }
      | false ↦ record { born = refl; commands = refl; settings = refl }
    ] in
    split (not (is_raw kind) && is_passed a.cycle birth s)

-- what a command leaves of them
pub record BearsFew (a : State) (effect : Effect) : Type 0 where
  pub births : length effect.state.objects ≤ length a.objects + 1
  pub commands : effect.state.commands ≡ a.commands
  pub settings : effect.state.settings ≡ a.settings

few : (a : State) (effect : Effect) → HasSameNumbers a effect.state → BearsFew a effect
few a effect h = let born = h.born in record { births = omega arith; commands = h.commands; settings = h.settings }

bears_few-with_some : {X : Type 0} (found : Option X) (a : State) (effect : X → Effect)
    → ((x : X) → BearsFew a (effect x))
    → BearsFew a (with_some found a effect)
bears_few-with_some None a effect h = record { births = omega arith; commands = refl; settings = refl }
bears_few-with_some (Some x) a effect h = h x

pub bears_few-new : (a : State) (shape : Shape) (found : Option ℕ) → BearsFew a (new_effect a shape found)
bears_few-new a shape None = record { births = omega arith; commands = refl; settings = refl }
bears_few-new a shape (Some base) =
    let more = length_push a.objects (newborn shape base) in
    record { births = omega (arith, more); commands = refl; settings = refl }

same_numbers-put : (a : State) (birth : ℕ) (object : Object) (s : ℕ) (value : Value)
    → HasSameNumbers a (put_in_slot a birth object s value)
same_numbers-put a birth object s value =
    let kind = slot_kind object s in
    let stored = with_object birth (with_slot a object s value) a in
    let old = slice_index (words_of object.slots) s in
    let first : HasSameNumbers a stored =
    record { born = length-set a.objects birth (with_slot a object s value); commands = refl; settings = refl } in
    let counted = recounted kind old value.word stored in
    same_numbers-then a counted (barrier kind birth s value.word counted)
    (same_numbers-then a stored counted first (same_numbers-recounted kind old value.word stored))
    (same_numbers-barrier kind birth s value.word counted)

same_numbers-area_put : (a : State) (area : Area) (s : ℕ) (value : Value)
    → HasSameNumbers a (put_in_cell a area s value)
same_numbers-area_put a area s value =
    let kind = cell_kind area s in
    let stored = with_changed_area (with_cell a area s value) a in
    let old = slice_index (words_of area.cells) s in
    same_numbers-then a stored (recounted kind old value.word stored)
    (record { born = refl; commands = refl; settings = refl })
    (same_numbers-recounted kind old value.word stored)

unchanged : (a : State) (effect : Effect) → effect.state.objects ≡ a.objects → effect.state.commands ≡ a.commands
    → effect.state.settings ≡ a.settings → BearsFew a effect
unchanged a effect objects commands settings =
    few a effect (record { born = ap length objects; commands = commands; settings = settings })

bears_few-object : (a : State) (birth : ℕ) → BearsFew a (pushes_object a birth)
bears_few-object a birth = bears_few-with_some (slice_get a.objects birth) a _ (λ object. unchanged a _ refl refl refl)

bears_few-look : (a : State) (target : Option ℕ) → BearsFew a (look_effect a target)
bears_few-look a None = unchanged a _ refl refl refl
bears_few-look a (Some target) = bears_few-object a target

pub bears_few-plain : (a : State) (command : Command) → BearsFew a (plain_effect a command)
bears_few-plain a (commands.New shape) = unchanged a _ refl refl refl
bears_few-plain a (commands.Push word) = unchanged a _ refl refl refl
bears_few-plain a (commands.Dup i) =
    bears_few-with_some (slice_get a.stack i) a _ (λ value. unchanged a _ refl refl refl)
bears_few-plain a (commands.Pop k) = unchanged a _ refl refl refl
bears_few-plain a (commands.Inner i bytes) =
    bears_few-with_some (slice_get a.stack i) a _ (λ value. unchanged a _ refl refl refl)
bears_few-plain a (commands.Get i s) =
    bears_few-with_some (object_meant a i) a _
    (λ object. bears_few-with_some (slice_get object.slots s) a _ (λ value. unchanged a _ refl refl refl))
bears_few-plain a (commands.Put i s j) =
    bears_few-with_some (meant_at a i) a _
    (λ birth. bears_few-with_some (slice_get a.objects birth) a _
    (λ object. bears_few-with_some (slice_get a.stack j) a _
    (λ value. few a _ (same_numbers-put a birth object s value))))
bears_few-plain a (commands.Weak i) = unchanged a _ refl refl refl
bears_few-plain a (commands.Look i) =
    bears_few-with_some (object_meant a i) a _ (λ object. bears_few-look a object.partner)
bears_few-plain a (commands.Root counted cells) = unchanged a _ refl refl refl
bears_few-plain a (commands.Fixed cells) = unchanged a _ refl refl refl
bears_few-plain a (commands.DropArea number) = unchanged a _ refl refl refl
bears_few-plain a (commands.AreaGet number s) =
    bears_few-with_some (area_at a number) a _
    (λ area. bears_few-with_some (slice_get area.cells s) a _ (λ value. unchanged a _ refl refl refl))
bears_few-plain a (commands.AreaPut number s j) =
    bears_few-with_some (area_at a number) a _
    (λ area. bears_few-with_some (slice_get a.stack j) a _
    (λ value. few a _ (same_numbers-area_put a area s value)))
bears_few-plain a commands.Reap = unchanged a _ refl refl refl
bears_few-plain a commands.Collect = unchanged a _ refl refl refl
bears_few-plain a commands.Begin = unchanged a _ refl refl refl
bears_few-plain a (commands.Step k) = unchanged a _ refl refl refl
bears_few-plain a commands.Finish = unchanged a _ refl refl refl
bears_few-plain a (commands.Map i) = unchanged a _ refl refl refl
bears_few-plain a commands.Stat = unchanged a _ refl refl refl
