-- `put` keeps a state good, into a counted slot too.
use Rattle.std.proofs.Common.{◌≡◌, ℕ, ◌+◌, ◌<◌, Bool, true, false, not, List, [], ◌∷◌, map, length, Option, Some, None}
use Rattle.std.proofs.Common.{refl, sym, ap, subst}
use Rattle.std.specs.Prelude.{slice_index, ◌&&◌, ◌==◌, if◌then◌else◌}
use Rattle.std.specs.Option.{option_map}
use Rattle.mm_model.specs.declared.object.Colour.{Colour}
use Rattle.mm_model.specs.declared.object.Colour.TheVariants.{Gray}
use Rattle.mm_model.specs.Value.{Value, words_of}
use Rattle.mm_model.specs.Object.{Object, is_live}
use Rattle.mm_model.specs.State.{State, Cycle, Lives}
use Rattle.mm_model.specs.Words.{SlotKind, slot_kind, names}
use Rattle.mm_model.specs.Count.{refs, made_sticky, with_sticky}
use Rattle.mm_model.specs.Sets.Marking.{is_white, is_raw, is_passed, grayed, grayed_cycle, with_grayed, barrier}
use Rattle.mm_model.specs.Store.{is_counted_slot, refuses_word, recounted, with_object, with_slot, put_in_slot}
use Rattle.mm_model.specs.Good.{IsReferring, IsColoured, IsGood}
use Rattle.mm_model.proofs.Good.Around.{if_some-weaker, good-around}
use Rattle.mm_model.proofs.Good.Writing.CountedWords.{adds, old_value}
use Rattle.mm_model.proofs.Good.Writing.Shading.{shaded_cycle, barrier-is, coloured-shaded}
use Rattle.mm_model.proofs.Good.Writing.Sticking.{coloured-made_sticky, recounted_is_good}
use Rattle.mm_model.proofs.Good.Writing.Stores.{any_store, sound-any_store, refs-any_store, few-any_store}

-- sticky marks change no colour
grayed-made_sticky : (a : State) (word : ℕ) (words : List ℕ) (objects : List Object) (colours : List Colour)
    → grayed words (map (made_sticky a word) objects) colours ≡ grayed words objects colours
grayed-made_sticky a word words [] colours = refl
grayed-made_sticky a word words (o ∷ os) [] = refl
grayed-made_sticky a word words (o ∷ os) (c ∷ cs) =
    ap (λ rest. (if is_white c && is_live o && names words o then Gray else c) ∷ rest)
    (grayed-made_sticky a word words os cs)

module _ (a : State) (good : IsGood a) (birth : ℕ) (object : Object) (lives : Lives a birth object) (s : ℕ)
    (value : Value) (refers : IsReferring a value) (within : s < length object.slots)
    (accepted : refuses_word a (slot_kind object s) value.word ≡ false) where
  abbrev kind : SlotKind
  kind = slot_kind object s

  abbrev old : ℕ
  old = slice_index (words_of object.slots) s

  -- the state with the value, in a cycle and outside of one
  abbrev after : State
  after = with_object birth (with_slot a object s value) a

  abbrev store : State
  store = any_store a good birth object lives s value refers

  abbrev cycle : Option Cycle
  cycle = shaded_cycle a good birth object lives s value refers

  refs-store : (base : ℕ) → refs store base + adds kind base old ≡ refs a base + adds kind base value.word
  refs-store base =
      let before = old_value object.slots s within in
      subst (λ word. refs store base + adds kind base word ≡ refs a base + adds kind base value.word) before.2
      (refs-any_store a good birth object lives s value refers before.0 before.1 base)

  recounted_good : IsGood (recounted kind old value.word store)
  recounted_good =
      recounted_is_good a store kind old value.word
      (sound-any_store a good birth object lives s value refers accepted)
      (few-any_store a good birth object lives s value refers) refs-store

  -- what the barrier makes of the cycle fits it
  shaded_is_good : (b : Bool) → IsGood (if b then with_sticky value.word store else store)
      → IsGood (record (if b then with_sticky value.word store else store) {
        stack = a.stack;
        cycle = cycle;
        threshold = a.threshold;
        commands = a.commands;
      })
  shaded_is_good true h =
      good-around (with_sticky value.word store) a.stack cycle a.threshold a.commands h h.referred.stack
      (if_some-weaker (IsColoured store) (IsColoured (with_sticky value.word store))
      (coloured-made_sticky store value.word)
      cycle (coloured-shaded a good birth object lives s value refers))
  shaded_is_good false h =
      good-around store a.stack cycle a.threshold a.commands h h.referred.stack
      (coloured-shaded a good birth object lives s value refers)

  -- marking is told in the same way before and after sticky marks are set
  barrier-recounted : (b : Bool) → barrier kind birth s value.word (if b then with_sticky value.word after else after)
      ≡ record (if b then with_sticky value.word store else store) {
        stack = a.stack;
        cycle = cycle;
        threshold = a.threshold;
        commands = a.commands;
      }
  barrier-recounted false = barrier-is a good birth object lives s value refers kind
  barrier-recounted true = split (not (is_raw kind) && is_passed a.cycle birth s)
    where
      same : (found : Option Cycle)
          → option_map (grayed_cycle (value.word ∷ []) (with_sticky value.word after)) found
          ≡ option_map (grayed_cycle (value.word ∷ []) after) found
      same None = refl
      same (Some c) =
          ap (λ (colours : List Colour). Some (record c { colours = colours }))
          (grayed-made_sticky after value.word (value.word ∷ []) after.objects c.colours)

      split : (b : Bool)
          → (if b then with_grayed (value.word ∷ []) (with_sticky value.word after) else with_sticky value.word after)
          ≡ record (with_sticky value.word after) {
            cycle = if b then option_map (grayed_cycle (value.word ∷ []) after) a.cycle else a.cycle;
          }
      split true = ap (λ (c : Option Cycle). record (with_sticky value.word after) { cycle = c }) (same a.cycle)
      split false = refl

  -- `put` keeps a state good
  pub any_put_is_good : IsGood (put_in_slot a birth object s value)
  any_put_is_good =
      let test = is_counted_slot kind && not (old == value.word) in
      subst IsGood (sym (barrier-recounted test)) (shaded_is_good test recounted_good)
