-- The write barrier shades what a stored word falls in, so that `put` keeps a state good.
use Rattle.std.proofs.Common.{◌≡◌, ℕ, zero, suc, Bool, true, false, not, ◌||◌, List, [], ◌∷◌, length, Option, Some}
use Rattle.std.proofs.Common.{None, refl, sym, ap, ◌∙◌, subst, arith}
use Rattle.std.proofs.lemmas.List.{length-set}
use Rattle.std.specs.Prelude.{IfSome, slice_get, slice_index, slice_index_or, ◌&&◌, ◌==◌, if◌then◌else◌}
use Rattle.std.specs.Option.{option_map}
use Rattle.mm_model.specs.declared.object.Colour.{Colour}
use Rattle.mm_model.specs.declared.object.Colour.TheVariants.{White, Gray, Black}
use Rattle.mm_model.specs.Value.{Value, words_of}
use Rattle.mm_model.specs.Object.{Object, is_live}
use Rattle.mm_model.specs.State.{State, Cycle, Lives}
use Rattle.mm_model.specs.Words.{SlotKind, slot_kind, names, falls}
use Rattle.mm_model.specs.Sets.Marking.{is_white, is_raw, colour_of, is_passed, grayed, grayed_cycle, with_grayed}
use Rattle.mm_model.specs.Sets.Marking.{barrier}
use Rattle.mm_model.specs.Count.{with_sticky}
use Rattle.mm_model.specs.Store.{is_counted_slot, with_object, with_slot, put_in_slot}
use Rattle.mm_model.specs.Good.{IsReferring, IsColoured, IsGood}
use Rattle.mm_model.proofs.Good.Around.{good-around}
use Rattle.mm_model.proofs.Good.Writing.Stores.{IsShaded, any_store, keeps-any_store, any_store_is_coloured, with_store}
use Rattle.mm_model.proofs.Good.Writing.Stores.{store_is_good}

pub length-grayed : (words : List ℕ) (objects : List Object) (colours : List Colour)
    → length (grayed words objects colours) ≡ length colours
length-grayed words [] colours = refl
length-grayed words (o ∷ os) [] = refl
length-grayed words (o ∷ os) (c ∷ cs) = ap suc (length-grayed words os cs)

-- the colour of an object that one of the words may name
abbrev pub shade : List ℕ → Object → Colour → Colour
shade words object colour = if is_white colour && is_live object && names words object then Gray else colour

pub colour-grayed : (words : List ℕ) (objects : List Object) (colours : List Colour) (j : ℕ) (object : Object)
    → length colours ≡ length objects → slice_get objects j ≡ Some object
    → slice_index_or (grayed words objects colours) j White ≡ shade words object (slice_index_or colours j White)
colour-grayed words [] colours j object each e = cc
colour-grayed words (o ∷ os) [] j object each e = cc
colour-grayed words (o ∷ os) (c ∷ cs) zero object each e = let same : o ≡ object = cc in ap (λ x. shade words x c) same
colour-grayed words (o ∷ os) (c ∷ cs) (suc j) object each e =
    colour-grayed words os cs j object (suc-same each) e
  where
    suc-same : {m n : ℕ} → suc m ≡ suc n → m ≡ n
    suc-same e = omega arith

-- nothing becomes whiter or black by it, and a white object that a word names becomes gray
pub shade-white : (words : List ℕ) (o : Object) (c : Colour) → shade words o c ≡ White → c ≡ White
shade-white words o White e = refl
shade-white words o Gray e = e
shade-white words o Black e = e

pub shade-black : (words : List ℕ) (o : Object) (c : Colour) → shade words o c ≡ Black → c ≡ Black
shade-black words o White e = split (is_live o && names words o) e
  where
    split : (b : Bool) → (if b then Gray else White) ≡ Black → White ≡ Black
    split true p = cc
    split false p = p
shade-black words o Gray e = e
shade-black words o Black e = e

pub shade-gray : (words : List ℕ) (o : Object) (c : Colour) → c ≡ Gray → shade words o c ≡ Gray
shade-gray words o c e = ap (shade words o) e

pub shade-named : (words : List ℕ) (o : Object) (c : Colour) → is_live o ≡ true → names words o ≡ true
    → shade words o c ≡ White → ⊥
shade-named words o c live named e =
    let white = shade-white words o c e in
    let gray : shade words o White ≡ Gray =
    ap (λ b. if b && names words o then Gray else White) live ∙ ap (λ b. if b then Gray else White) named in
    clash (sym gray ∙ ap (shade words o) (sym white) ∙ e)
  where
    clash : Gray ≡ White → ⊥
    clash p = cc

module _ (a : State) (good : IsGood a) (birth : ℕ) (object : Object) (lives : Lives a birth object) (s : ℕ)
    (value : Value) (refers : IsReferring a value) where
  abbrev after : State
  after = with_object birth (with_slot a object s value) a

  -- the cycle that the barrier leaves
  abbrev pub shaded_cycle : Option Cycle
  shaded_cycle =
      if not (is_raw (slot_kind object s)) && is_passed a.cycle birth s
      then option_map (grayed_cycle (value.word ∷ []) after) a.cycle else a.cycle

  pub barrier-is : (kind : SlotKind) → barrier kind birth s value.word after
      ≡ record after {
        cycle = if not (is_raw kind) && is_passed a.cycle birth s
            then option_map (grayed_cycle (value.word ∷ []) after) a.cycle else a.cycle;
      }
  barrier-is kind = split (not (is_raw kind) && is_passed a.cycle birth s)
    where
      split : (b : Bool) → (if b then with_grayed (value.word ∷ []) after else after)
          ≡ record after {
            cycle = if b then option_map (grayed_cycle (value.word ∷ []) after) a.cycle else a.cycle;
          }
      split true = refl
      split false = refl

  shades : (cycle : Cycle) → IsColoured a cycle
      → IsShaded a birth object s value.word cycle (grayed_cycle (value.word ∷ []) after cycle)
  shades cycle h =
      let words = value.word ∷ [] in
      let colour : (j : ℕ) (o : Object) → Lives a j o → (p : Object) × (is_live p ≡ true)
      × (falls value.word p.base p.extent ≡ falls value.word o.base o.extent)
      × (colour_of (grayed_cycle words after cycle) j ≡ shade words p (colour_of cycle j)) =
      λ j o l.
      let on = keeps-any_store a good birth object lives s value refers j o l in (
        on.after,
        on.lives.live,
        ap (λ base. falls value.word base on.after.extent) on.base ∙ ap (falls value.word o.base) on.extent,
        colour-grayed words after.objects cycle.colours j on.after
            (h.each ∙ sym (length-set a.objects birth (with_slot a object s value))) on.lives.is,
      ) in
      record {
        each = length-grayed words after.objects cycle.colours;
        partly_scanned = refl;
        white = λ j o l e. let p = colour j o l in shade-white words p.0 (colour_of cycle j) (sym p.3 ∙ e);
        black = λ j o l e. let p = colour j o l in shade-black words p.0 (colour_of cycle j) (sym p.3 ∙ e);
        gray = λ j o l e. let p = colour j o l in p.3 ∙ shade-gray words p.0 (colour_of cycle j) e;
        shaded = λ scanned passed j o l e named.
            let p = colour j o l in
            shade-named words p.0 (colour_of cycle j) p.1 (ap (λ b. b || false) (p.2 ∙ named)) (sym p.3 ∙ e);
      }

  not_shaded : (cycle : Cycle) → (not (is_raw (slot_kind object s)) && is_passed (Some cycle) birth s) ≡ false
      → IsShaded a birth object s value.word cycle cycle
  not_shaded cycle e =
      record {
        each = refl;
        partly_scanned = refl;
        white = λ j o l p. p;
        black = λ j o l p. p;
        gray = λ j o l p. p;
        shaded = λ scanned passed j o l p named. absurd (clash (is_raw (slot_kind object s)) _ scanned passed e);
      }
    where
      clash : (raw passed : Bool) → raw ≡ false → passed ≡ true → (not raw && passed) ≡ false → ⊥
      clash true passed p q e = cc
      clash false true p q e = cc
      clash false false p q e = cc

  coloured : (cycle : Option Cycle) → IfSome cycle (IsColoured a) → (b : Bool)
      → (not (is_raw (slot_kind object s)) && is_passed cycle birth s) ≡ b
      → IfSome (if b then option_map (grayed_cycle (value.word ∷ []) after) cycle else cycle)
      (IsColoured (any_store a good birth object lives s value refers))
  coloured None h true e = tt
  coloured None h false e = tt
  coloured (Some cycle) h true e =
      any_store_is_coloured a good birth object lives s value refers cycle
      (grayed_cycle (value.word ∷ []) after cycle) h (shades cycle h)
  coloured (Some cycle) h false e =
      any_store_is_coloured a good birth object lives s value refers cycle cycle h (not_shaded cycle e)

  pub coloured-shaded : IfSome shaded_cycle (IsColoured (any_store a good birth object lives s value refers))
  coloured-shaded = coloured a.cycle good.coloured (not (is_raw (slot_kind object s)) && is_passed a.cycle birth s) refl

module _ (a : State) (good : IsGood a) (birth : ℕ) (object : Object) (lives : Lives a birth object) (s : ℕ)
    (value : Value) (refers : IsReferring a value) (uncounted : is_counted_slot (slot_kind object s) ≡ false) where
  abbrev pub barrier_cycle : Option Cycle
  barrier_cycle = shaded_cycle a good birth object lives s value refers

  pub put-is : put_in_slot a birth object s value
      ≡ record (with_object birth (with_slot a object s value) a) { cycle = barrier_cycle }
  put-is =
      let old = slice_index (words_of object.slots) s in
      let store = with_object birth (with_slot a object s value) a in
      ap (λ b. barrier (slot_kind object s) birth s value.word
      (if b && not (old == value.word) then with_sticky value.word store else store)) uncounted
      ∙ barrier-is a good birth object lives s value refers (slot_kind object s)

  -- `put` into a slot that isn't counted keeps a state good
  pub put_is_good : IsGood (put_in_slot a birth object s value)
  put_is_good =
      let store = with_store a good birth object lives s value refers uncounted in
      let is_good = store_is_good a good birth object lives s value refers uncounted in
      subst IsGood (sym put-is)
      (good-around store a.stack barrier_cycle a.threshold a.commands is_good is_good.referred.stack
      (coloured-shaded a good birth object lives s value refers))
