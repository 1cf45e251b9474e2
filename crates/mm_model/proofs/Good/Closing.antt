-- Nothing that stays after a phase refers to what the phase frees.
use Rattle.std.proofs.Common.{◌≡◌, ℕ, zero, suc, ◌<◌, Bool, true, false, not, ◌||◌, eqb-true, List, [], ◌∷◌, take}
use Rattle.std.proofs.Common.{Option, Some, None, refl, sym, ap, ◌∙◌, subst, arith}
use Rattle.std.proofs.lemmas.Bool.{eq-eqb}
use Rattle.std.proofs.lemmas.Bool.Decides.{nat_tests}
use Rattle.std.proofs.lemmas.Option.{slice_get-map}
use Rattle.std.specs.Prelude.{IsTrue, IfSome, slice_get, nat_lt, ◌==◌, if◌then◌else◌}
use Rattle.std.specs.List.{AllByRecursion, list_any, flat_map}
use Rattle.std.specs.Option.{option_map, option_and_then}
use Rattle.mm_model.specs.declared.object.Kind.{Kind}
use Rattle.mm_model.specs.Value.{Value, words_of}
use Rattle.mm_model.specs.Object.{Object, is_counted, is_scanned, live_objects}
use Rattle.mm_model.specs.State.{State, Area, Lives}
use Rattle.mm_model.specs.Words.{SlotKind, CountedSlot, WordSlot, RawSlot, slot_kind_at, slot_kind, cell_kind}
use Rattle.mm_model.specs.Words.{if_scanned, counted_slots, counted_cells, scanned_slots, scanned_cells, stack_words}
use Rattle.mm_model.specs.Words.{area_words, counted_cell_words, names, holds, falls}
use Rattle.mm_model.specs.Meaning.{keeps, kept_origin, stored}
use Rattle.mm_model.specs.Count.{begins_counted, names_counted}
use Rattle.mm_model.specs.Places.Place.{live_pieces}
use Rattle.mm_model.specs.Phase.{lists, AreBasesOf}
use Rattle.mm_model.specs.Good.{IsPlaced, IsReferring, is_tight, IsGood}
use Rattle.mm_model.proofs.Places.Falling.{falls_from, falls_at_base}
use Rattle.mm_model.proofs.Lists.Growing.{any_get, any_from_get}
use Rattle.mm_model.proofs.Good.Living.{each_before, each_after, each_get, lives_once, lives_once_at, lives_same}
use Rattle.mm_model.proofs.Good.Living.{lives_from_page_1, lives_extent}
use Rattle.mm_model.proofs.Lists.Parts.{each_of-live, each_of-get}
use Rattle.mm_model.proofs.Lists.Passing.{any-flat_map_get, any-flat_map-weaker, any-weaker, any-words_take}
use Rattle.mm_model.proofs.Places.Placing.{both, some_with}
use Rattle.mm_model.proofs.Good.Releases.{Stays, RefersOn, HoldsOn, IsClosed}

-- what is listed among the bases of a set is in it
pub dead_listed : (a : State) (Dead : ℕ → Type 0) (bases : List ℕ) → IsPlaced a.settings.max (live_pieces a)
    → AreBasesOf a Dead bases → (birth : ℕ) (object : Object) → Lives a birth object
    → IsTrue (lists bases object.base) → Dead birth
dead_listed a Dead bases placed are birth object lives h =
    let found = some_with (λ b. b == object.base)
    (λ base. (n : ℕ) × (o : Object) × Lives a n o × (o.base ≡ base) × Dead n) bases h are.only in
    let base : found.0 ≡ object.base = eqb-true _ _ found.1 in
    let dead = found.2 in
    subst Dead (lives_once_at a placed dead.0 birth dead.1 object dead.2 lives (dead.3 ∙ base)) dead.4

-- a slot that keeps a reference to an object is one for its kind
keeps-stored : (a : State) (kind : SlotKind) (value : Value) (birth : ℕ) (object : Object) → value.origin ≡ Some birth
    → Lives a birth object → stored a kind value ≡ value → keeps kind object.kind ≡ true
keeps-stored a kind value birth object origin lives e =
    let kept : kept_origin a kind birth ≡ Some birth =
    ap (option_and_then (kept_origin a kind)) (sym origin) ∙ ap (λ (v : Value). v.origin) e ∙ origin in
    let test : (if keeps kind object.kind then Some birth else None) ≡ Some birth =
    sym (ap (option_and_then (λ (o : Object). if keeps kind o.kind then Some birth else None)) lives.is) ∙ kept in
    split (keeps kind object.kind) test
  where
    split : (b : Bool) → (if b then Some birth else None) ≡ Some birth → b ≡ true
    split true e = refl
    split false e = cc

get-take : {X : Type 0} (n : ℕ) (xs : List X) (i : ℕ) (x : X) → i < n → slice_get xs i ≡ Some x
    → slice_get (take n xs) i ≡ Some x
get-take zero xs i x less e = absurd (omega arith)
get-take (suc n) [] i x less e = cc
get-take (suc n) (y ∷ ys) zero x less e = e
get-take (suc n) (y ∷ ys) (suc i) x less e = get-take n ys i x (omega arith) e

word_at : (values : List Value) (s : ℕ) (value : Value) → slice_get values s ≡ Some value
    → slice_get (words_of values) s ≡ Some value.word
word_at values s value e =
    slice_get-map (λ (v : Value). v.word) values s ∙ ap (option_map (λ (v : Value). v.word)) e

-- where a slot keeps a reference, its word is one of the scanned words, and in a counted slot one of the counted ones
record IsKeptThere (scanned : Bool) (counted s : ℕ) (values : List Value) (word : ℕ) : Type 0 where
  among_scanned : slice_get (if_scanned scanned values) s ≡ Some word
  among_counted : (slot_kind_at scanned counted s ≡ CountedSlot)
      → slice_get (if_scanned scanned (take counted values)) s ≡ Some word

kept_there : (scanned : Bool) (counted s : ℕ) (values : List Value) (value : Value) (kind : Kind)
    → slice_get values s ≡ Some value → keeps (slot_kind_at scanned counted s) kind ≡ true
    → IsKeptThere scanned counted s values value.word
kept_there false counted s values value kind e k = cc
kept_there true counted s values value kind e k =
    record {
      among_scanned = word_at values s value e;
      among_counted = λ q. first (nat_lt s counted) refl q;
    }
  where
    first : (b : Bool) → nat_lt s counted ≡ b → (if b then CountedSlot else WordSlot) ≡ CountedSlot
        → slice_get (words_of (take counted values)) s ≡ Some value.word
    first true p q =
        let less : s < counted = grind (arith, nat_tests) in
        word_at (take counted values) s value (get-take counted values s value less e)
    first false p q = cc

-- the kind of a slot that keeps a counted object, or another one
counted_slot : (kind : SlotKind) (k : Kind) → keeps kind k ≡ true → is_counted k ≡ true → kind ≡ CountedSlot
counted_slot CountedSlot k e c = refl
counted_slot WordSlot k e c = let other = ap not c in cc
counted_slot RawSlot k e c = cc

module _ (a : State) (good : IsGood a) where
  -- a word that a counted place holds and that falls in an object is its base
  tight_base : (word birth : ℕ) (object : Object) → Lives a birth object
      → falls word object.base object.extent ≡ true → IsTrue (is_tight a word) → object.base ≡ word
  tight_base word birth object lives f tight =
      let low = lives_from_page_1 a good.placed birth object lives in
      let here = falls_from word object.base object.extent f in
      let above : word ≡ 0 → ⊥ = λ e. let first = here.0 in omega arith in
      let named : (zero : Bool) → (word == 0) ≡ zero → (zero || names_counted a word) ≡ true
      → names_counted a word ≡ true =
      elim [ true ↦ λ p q. absurd (above (eqb-true _ _ p)) | false ↦ λ p q. q ] in
      let hit = any_get (begins_counted word) a.objects (named (word == 0) refl tight) in
      let parts = both _ _ hit.3 in
      let other : Lives a hit.0 hit.1 = record { is = hit.2; live = (both _ _ parts.0).0 } in
      let base : hit.1.base ≡ word = eqb-true _ _ parts.1 in
      let some = lives_extent a good.placed hit.0 hit.1 other in
      let one : hit.0 ≡ birth =
      lives_once a good.placed hit.0 birth hit.1 object other lives word (omega arith) (omega arith) here.0 here.1 in
      let same : hit.1 ≡ object =
      lives_same a birth hit.1 object (subst (λ n. Lives a n hit.1) one other) lives in
      ap (λ (o : Object). o.base) (sym same) ∙ base

  slots_tight : (by : ℕ) (holder : Object) → Lives a by holder
      → AllByRecursion (λ word. IsTrue (is_tight a word)) (counted_slots holder)
  slots_tight by holder lives =
      each_of-live (λ word. IsTrue (is_tight a word)) counted_slots a.objects
      (each_before _ (flat_map counted_slots (live_objects a.objects)) (counted_cell_words a) good.tight) by holder
      lives.is lives.live

  -- what a kept reference in a slot says of its object: a scanned word falls in it, and a counted slot holds its base
  pub record IsHeld (by : ℕ) (holder object : Object) : Type 0 where
    pub scanned : names (scanned_slots holder) object ≡ true
    pub counted : is_counted object.kind ≡ true → holds (counted_slots holder) object ≡ true

  pub slot_held : (by : ℕ) (holder : Object) → Lives a by holder → (s : ℕ) (value : Value)
      → slice_get holder.slots s ≡ Some value → (birth : ℕ) (object : Object) → value.origin ≡ Some birth
      → Lives a birth object → IsHeld by holder object
  slot_held by holder held s value e birth object origin lives =
      let is_stored = good.referred.slots by holder held s value e in
      let k = keeps-stored a (slot_kind holder s) value birth object origin lives is_stored.kept in
      let there = kept_there (is_scanned holder.kind) holder.counted s holder.slots value object.kind e k in
      let refers = subst (λ o. IfSome o
      (λ n. (x : Object) × Lives a n x × IsTrue (falls value.word x.base x.extent))) origin is_stored.refers in
      let same : refers.0 ≡ object = lives_same a birth refers.0 object refers.1 lives in
      let falls_there : falls value.word object.base object.extent ≡ true =
      ap (λ (o : Object). falls value.word o.base o.extent) (sym same) ∙ refers.2 in
      record {
        scanned = any_from_get (λ word. falls word object.base object.extent) (scanned_slots holder) s value.word
            there.among_scanned falls_there;
        counted = λ c.
            let word = there.among_counted (counted_slot (slot_kind holder s) object.kind k c) in
            let tight = each_get (λ word. IsTrue (is_tight a word)) (counted_slots holder) s value.word
            (slots_tight by holder held) word in
            let base = tight_base value.word birth object lives falls_there tight in
            any_from_get (λ word. word == object.base) (counted_slots holder) s value.word word
            (eq-eqb value.word object.base (sym base));
      }

  -- and what one in a cell says: a word of a scanned area falls in it, and a counted cell holds its base
  pub record IsHeldByArea (object : Object) : Type 0 where
    pub scanned : names (area_words a) object ≡ true
    pub counted : is_counted object.kind ≡ true → holds (counted_cell_words a) object ≡ true

  pub cell_held : (n : ℕ) (area : Area) → slice_get a.areas n ≡ Some area → (s : ℕ) (value : Value)
      → slice_get area.cells s ≡ Some value → (birth : ℕ) (object : Object) → value.origin ≡ Some birth
      → Lives a birth object → IsHeldByArea object
  cell_held n area is s value e birth object origin lives =
      let is_stored = good.referred.cells n area is s value e in
      let k = keeps-stored a (cell_kind area s) value birth object origin lives is_stored.kept in
      let there = kept_there area.scanned area.counted s area.cells value object.kind e k in
      let refers = subst (λ o. IfSome o
      (λ m. (x : Object) × Lives a m x × IsTrue (falls value.word x.base x.extent))) origin is_stored.refers in
      let same : refers.0 ≡ object = lives_same a birth refers.0 object refers.1 lives in
      let falls_there : falls value.word object.base object.extent ≡ true =
      ap (λ (o : Object). falls value.word o.base o.extent) (sym same) ∙ refers.2 in
      let fell : ℕ → Bool = λ word. falls word object.base object.extent in
      let is_base : ℕ → Bool = λ word. word == object.base in
      let Tight : ℕ → Type 0 = λ word. IsTrue (is_tight a word) in
      record {
        scanned = any-flat_map_get scanned_cells fell a.areas n area is
            (any_from_get fell (scanned_cells area) s value.word there.among_scanned falls_there);
        counted = λ c.
            let word = there.among_counted (counted_slot (cell_kind area s) object.kind k c) in
            let words = each_of-get Tight counted_cells a.areas
            (each_after Tight (flat_map counted_slots (live_objects a.objects)) (counted_cell_words a) good.tight)
            n area is in
            let tight = each_get Tight (counted_cells area) s value.word words word in
            let base = tight_base value.word birth object lives falls_there tight in
            any-flat_map_get counted_cells is_base a.areas n area is
            (any_from_get is_base (counted_cells area) s value.word word
            (eq-eqb value.word object.base (sym base)));
      }

  -- a reference on the stack names its object
  pub stack_names : (i : ℕ) (value : Value) → slice_get a.stack i ≡ Some value → (birth : ℕ) (object : Object)
      → value.origin ≡ Some birth → Lives a birth object → names (stack_words a) object ≡ true
  stack_names i value e birth object origin lives =
      let refers = subst (λ o. IfSome o
      (λ m. (x : Object) × Lives a m x × IsTrue (falls value.word x.base x.extent))) origin
      (each_get (IsReferring a) a.stack i value good.referred.stack e) in
      let same : refers.0 ≡ object = lives_same a birth refers.0 object refers.1 lives in
      any_from_get (λ word. falls word object.base object.extent) (stack_words a) i value.word
      (word_at a.stack i value e) (ap (λ (o : Object). falls value.word o.base o.extent) (sym same) ∙ refers.2)

-- each element by its place
each_by_place : {X : Type 0} (P : X → Type 0) (xs : List X) → ((i : ℕ) (x : X) → slice_get xs i ≡ Some x → P x)
    → AllByRecursion P xs
each_by_place P [] h = tt
each_by_place P (x ∷ xs) h = (h 0 x refl, each_by_place P xs (λ i y e. h (suc i) y e))

on_origin : (a : State) (bases : List ℕ) (value : Value)
    → ((birth : ℕ) → value.origin ≡ Some birth → Stays a bases birth) → RefersOn a bases value
on_origin a bases value h = split value.origin refl
  where
    split : (origin : Option ℕ) → value.origin ≡ origin → IfSome origin (Stays a bases)
    split None e = tt
    split (Some birth) e = h birth e

-- What a list of bases must spare, for nothing that stays to refer to what is freed.
pub record Spares (a : State) (bases : List ℕ) : Type 0 where
  pub stack : (birth : ℕ) (object : Object) → Lives a birth object → names (stack_words a) object ≡ true
      → lists bases object.base ≡ false
  pub slots : (birth : ℕ) (object : Object) (by : ℕ) (holder : Object) → Lives a birth object → Lives a by holder
      → lists bases holder.base ≡ false → names (scanned_slots holder) object ≡ true
      → (is_counted object.kind ≡ true → holds (counted_slots holder) object ≡ true)
      → lists bases object.base ≡ false
  pub cells : (birth : ℕ) (object : Object) → Lives a birth object → names (area_words a) object ≡ true
      → (is_counted object.kind ≡ true → holds (counted_cell_words a) object ≡ true)
      → lists bases object.base ≡ false

module _ (a : State) (good : IsGood a) (bases : List ℕ) (spares : Spares a bases) where
  -- a word that is the base of a live object falls in it
  named_from_held : (words : List ℕ) (birth : ℕ) (object : Object) → Lives a birth object
      → holds words object ≡ true → names words object ≡ true
  named_from_held words birth object lives h =
      any-weaker (λ word. word == object.base) (λ word. falls word object.base object.extent)
      (λ word e.
      ap (λ w. falls w object.base object.extent) (eqb-true word object.base e)
      ∙ falls_at_base object.base object.extent (lives_extent a good.placed birth object lives)) words h

  holds_word : (words : List ℕ) (i word : ℕ) → slice_get words i ≡ Some word → (object : Object)
      → object.base ≡ word → holds words object ≡ true
  holds_word words i word e object base =
      any_from_get (λ w. w == object.base) words i word e (eq-eqb word object.base (sym base))

  -- what holds of the counted words holds of the scanned ones
  counted_in_scanned : (by : ℕ) (holder : Object) (birth : ℕ) (object : Object) → Lives a birth object
      → holds (counted_slots holder) object ≡ true → names (scanned_slots holder) object ≡ true
  counted_in_scanned by holder birth object lives h =
      any-words_take (λ word. falls word object.base object.extent) (is_scanned holder.kind) holder.counted
      holder.slots (named_from_held (counted_slots holder) birth object lives h)

  counted_cells_in : (areas : List Area) (object : Object)
      → list_any (λ word. falls word object.base object.extent) (flat_map counted_cells areas) ≡ true
      → list_any (λ word. falls word object.base object.extent) (flat_map scanned_cells areas) ≡ true
  counted_cells_in areas object h =
      any-flat_map-weaker counted_cells scanned_cells (λ word. falls word object.base object.extent)
      (λ area. any-words_take (λ word. falls word object.base object.extent) area.scanned area.counted area.cells)
      areas h

  pub closed_from : IsClosed a bases
  closed_from =
      record {
        stack = each_by_place (RefersOn a bases) a.stack (λ i value e.
            on_origin a bases value (λ birth origin object lives.
            spares.stack birth object lives (stack_names a good i value e birth object origin lives)));
        slots = λ by holder held stays s value e.
            on_origin a bases value (λ birth origin object lives.
            let there = slot_held a good by holder held s value e birth object origin lives in
            spares.slots birth object by holder lives held stays there.scanned there.counted);
        cells = λ n area is s value e.
            on_origin a bases value (λ birth origin object lives.
            let there = cell_held a good n area is s value e birth object origin lives in
            spares.cells birth object lives there.scanned there.counted);
        counted_slots = λ by holder held stays.
            each_by_place (HoldsOn a bases) (counted_slots holder) (λ i word e birth object lives c base.
            let own = holds_word (counted_slots holder) i word e object base in
            spares.slots birth object by holder lives held stays
            (counted_in_scanned by holder birth object lives own) (λ d. own));
        counted_cells =
            each_by_place (HoldsOn a bases) (counted_cell_words a) (λ i word e birth object lives c base.
            let own = holds_word (counted_cell_words a) i word e object base in
            spares.cells birth object lives
            (counted_cells_in a.areas object (named_from_held (counted_cell_words a) birth object lives own))
            (λ d. own));
      }
