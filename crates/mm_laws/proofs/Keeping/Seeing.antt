-- What a command that makes, scans and frees nothing leaves of each view of objects that no sticky mark changes.
use Rattle.std.proofs.Common.{◌≡◌, ℕ, Bool, true, false, not, [], ◌∷◌, Option, Some, None, refl, ◌∙◌}
use Rattle.std.specs.Prelude.{slice_get, slice_set, slice_index, map, ◌&&◌, ◌==◌, if◌then◌else◌}
use Rattle.mm_model.specs.declared.command.Command.{Command}
use Rattle.mm_model.specs.declared.command.Command.TheVariants as commands
use Rattle.mm_model.specs.Value.{Value, words_of}
use Rattle.mm_model.specs.Object.{Object}
use Rattle.mm_model.specs.State.{State, Area}
use Rattle.mm_model.specs.Words.{SlotKind, slot_kind, cell_kind}
use Rattle.mm_model.specs.Count.{made_sticky, with_sticky}
use Rattle.mm_model.specs.Sets.Marking.{is_raw, is_passed, with_grayed, barrier}
use Rattle.mm_model.specs.Store.{is_counted_slot, recounted, with_object, with_slot, with_cell, put_in_slot}
use Rattle.mm_model.specs.Store.{put_in_cell}
use Rattle.mm_model.specs.Meaning.{meant_at, object_meant}
use Rattle.mm_model.specs.Areas.{area_at, with_changed_area}
use Rattle.mm_model.specs.Effect.{Effect, with_some, look_effect, pushes_object, plain_effect}
use Rattle.mm_model.proofs.Lists.Replaced.{map-set_alike, map-map_alike}

-- each object looks the same
abbrev pub SeesSame : {P : Type 0} → (Object → P) → State → State → Type 0
SeesSame view a b = map view b.objects ≡ map view a.objects

abbrev pub is_put : Command → Bool
is_put (commands.Put i s j) = true
is_put command = false

module _ {P : Type 0} (view : Object → P)
    (unstuck : (a : State) (base : ℕ) (object : Object) → view (made_sticky a base object) ≡ view object) where
  same-made_sticky : (a : State) (base : ℕ) → SeesSame view a (with_sticky base a)
  same-made_sticky a base = map-map_alike view (made_sticky a base) (unstuck a base) a.objects

  same-recounted : (kind : SlotKind) (old new : ℕ) (a : State) → SeesSame view a (recounted kind old new a)
  same-recounted kind old new a =
      let split : (b : Bool) → SeesSame view a (if b then with_sticky new a else a) =
      elim [ true ↦ same-made_sticky a new | false ↦ refl ] in
      split (is_counted_slot kind && not (old == new))

  same-barrier : (kind : SlotKind) (birth s word : ℕ) (a : State) → SeesSame view a (barrier kind birth s word a)
  same-barrier kind birth s word a =
      let split : (b : Bool) → SeesSame view a (if b then with_grayed (word ∷ []) a else a) =
      elim [ true ↦ refl | false ↦ refl ] in
      split (not (is_raw kind) && is_passed a.cycle birth s)

  -- of `put` the object with the new slot is left
  pub same-put : (a : State) (birth : ℕ) (object : Object) (s : ℕ) (value : Value)
      → map view (put_in_slot a birth object s value).objects
      ≡ map view (slice_set a.objects birth (with_slot a object s value))
  same-put a birth object s value =
      let kind = slot_kind object s in
      let stored = with_object birth (with_slot a object s value) a in
      let old = slice_index (words_of object.slots) s in
      same-barrier kind birth s value.word (recounted kind old value.word stored)
      ∙ same-recounted kind old value.word stored

  same-area_put : (a : State) (area : Area) (s : ℕ) (value : Value) → SeesSame view a (put_in_cell a area s value)
  same-area_put a area s value =
      same-recounted (cell_kind area s) (slice_index (words_of area.cells) s) value.word
      (with_changed_area (with_cell a area s value) a)

  same-with_some : {X : Type 0} (found : Option X) (a : State) (effect : X → Effect)
      → ((x : X) → found ≡ Some x → SeesSame view a (effect x).state) → SeesSame view a (with_some found a effect).state
  same-with_some None a effect h = refl
  same-with_some (Some x) a effect h = h x refl

  pub same-object : (a : State) (birth : ℕ) → SeesSame view a (pushes_object a birth).state
  same-object a birth = same-with_some (slice_get a.objects birth) a _ (λ object e. refl)

  same-look : (a : State) (target : Option ℕ) → SeesSame view a (look_effect a target).state
  same-look a None = refl
  same-look a (Some target) = same-object a target

  pub same-plain : (a : State) (command : Command)
      → (is_put command ≡ true → (object : Object) (s : ℕ) (value : Value)
      → view (with_slot a object s value) ≡ view object)
      → SeesSame view a (plain_effect a command).state
  same-plain a (commands.New shape) kept = refl
  same-plain a (commands.Push word) kept = refl
  same-plain a (commands.Dup i) kept = same-with_some (slice_get a.stack i) a _ (λ value e. refl)
  same-plain a (commands.Pop k) kept = refl
  same-plain a (commands.Inner i bytes) kept = same-with_some (slice_get a.stack i) a _ (λ value e. refl)
  same-plain a (commands.Get i s) kept =
      same-with_some (object_meant a i) a _
      (λ object e. same-with_some (slice_get object.slots s) a _ (λ value f. refl))
  same-plain a (commands.Put i s j) kept =
      same-with_some (meant_at a i) a _
      (λ birth e. same-with_some (slice_get a.objects birth) a _
      (λ object is. same-with_some (slice_get a.stack j) a _
      (λ value f.
      same-put a birth object s value
      ∙ map-set_alike view a.objects birth object (with_slot a object s value) is (kept refl object s value))))
  same-plain a (commands.Weak i) kept = refl
  same-plain a (commands.Look i) kept =
      same-with_some (object_meant a i) a _ (λ object e. same-look a object.partner)
  same-plain a (commands.Root counted cells) kept = refl
  same-plain a (commands.Fixed cells) kept = refl
  same-plain a (commands.DropArea number) kept = refl
  same-plain a (commands.AreaGet number s) kept =
      same-with_some (area_at a number) a _
      (λ area e. same-with_some (slice_get area.cells s) a _ (λ value f. refl))
  same-plain a (commands.AreaPut number s j) kept =
      same-with_some (area_at a number) a _
      (λ area e. same-with_some (slice_get a.stack j) a _ (λ value f. same-area_put a area s value))
  same-plain a commands.Reap kept = refl
  same-plain a commands.Collect kept = refl
  same-plain a commands.Begin kept = refl
  same-plain a (commands.Step k) kept = refl
  same-plain a commands.Finish kept = refl
  same-plain a (commands.Map i) kept = refl
  same-plain a commands.Stat kept = refl
