-- A store into a slot keeps a state sound, and good where the slot isn't counted.
use Rattle.std.proofs.Common.{◌≡◌, ℕ, ◌+◌, ◌<◌, ◌≤◌, Bool, true, false, not, ◌||◌, List, ◌++◌, map, length, take}
use Rattle.std.proofs.Common.{Option, Some, None, refl, sym, ap, ◌∙◌, subst, ◌⊎◌, ⊎_elim, inl, inr, eqb-true, arith}
use Rattle.std.proofs.lemmas.Bool.Decides.{nat_tests}
use Rattle.std.proofs.lemmas.Bool.{eq-eqb}
use Rattle.std.proofs.lemmas.List.{length-set, length-map}
use Rattle.std.specs.Prelude.{IsTrue, IfSome, slice_get, slice_set, nat_lt, ◌&&◌, ◌==◌, if◌then◌else◌}
use Rattle.std.specs.List.{AllByRecursion, list_any}
use Rattle.mm_model.specs.declared.object.Colour.TheVariants.{White, Gray, Black}
use Rattle.mm_model.specs.Value.{Value, words_of}
use Rattle.mm_model.specs.Object.{Object, is_counted, is_scanned, is_weak}
use Rattle.mm_model.specs.State.{State, Cycle, PartlyScanned, Lives}
use Rattle.mm_model.specs.Words.{SlotKind, CountedSlot, WordSlot, slot_kind_at, slot_kind, cell_kind, if_scanned}
use Rattle.mm_model.specs.Words.{counted_slots, scanned_slots, counted_words, names, falls}
use Rattle.mm_model.specs.Meaning.{stored}
use Rattle.mm_model.specs.Count.{refs, begins_counted, names_counted}
use Rattle.mm_model.specs.Sets.Marking.{is_raw, is_black, colour_of, done_in}
use Rattle.mm_model.specs.Places.Place.{object_piece, area_piece}
use Rattle.mm_model.specs.Store.{is_counted_slot, refuses_word, with_slot}
use Rattle.mm_model.specs.Good.{IsPlaced, IsReferring, IsStored, IsReferred, is_tight, IsPaired, IsPartlyScanned}
use Rattle.mm_model.specs.Good.{IsColoured, IsShaped, IsGood}
use Rattle.mm_model.proofs.Lists.Truth.{or_true}
use Rattle.mm_model.proofs.Good.Around.{if_some-weaker}
use Rattle.mm_model.proofs.Good.Writing.CountedWords.{count_in, adds, uncounted_place, count_in-set, each_counted-set}
use Rattle.mm_model.proofs.Good.Writing.CountedWords.{each_counted_slot, each_counted_cell, each_counted_word}
use Rattle.mm_model.proofs.Good.Writing.CountedWords.{refs-set_object}
use Rattle.mm_model.proofs.Good.Living.{lives_same}
use Rattle.mm_model.proofs.Places.Placing.{each_weaker}
use Rattle.mm_model.proofs.Good.References.{IsKept, Keeps, referring-kept, stored-kept, is_stored-kept}
use Rattle.mm_model.proofs.Good.References.{each_referring-kept, stored-stored, referring-stored}
use Rattle.mm_model.proofs.Lists.Replaced.{get-set_same, get-set_other, get-set_cases, map-set, map_live-set}
use Rattle.mm_model.proofs.Lists.Replaced.{any-set_alike, any_take-set, any-set}
use Rattle.mm_model.proofs.Good.Making.Shapes.{shaped-alike}
use Rattle.mm_model.proofs.Good.Writing.Sticking.{IsSound, AreFew, sound_is_good}

-- a word that names an object among the scanned slots is an old one, or the new one in a scanned slot
pub named-set : (scanned : Bool) (counted s : ℕ) (slots : List Value) (value : Value) (other : Object)
    → names (if_scanned scanned (slice_set slots s value)) other ≡ true
    → (names (if_scanned scanned slots) other ≡ true)
    ⊎ ((is_raw (slot_kind_at scanned counted s) ≡ false) × (falls value.word other.base other.extent ≡ true))
named-set false counted s slots value other e = cc
named-set true counted s slots value other e =
    let test : ℕ → Bool = λ word. falls word other.base other.extent in
    ⊎_elim (λ (l : list_any test (words_of slots) ≡ true). inl l)
    (λ (r : test value.word ≡ true). inr (not_raw (nat_lt s counted), r))
    (any-set test (words_of slots) s value.word
    (ap (list_any test) (sym (map-set (λ (v : Value). v.word) slots s value)) ∙ e))
  where
    not_raw : (b : Bool) → is_raw (if b then CountedSlot else WordSlot) ≡ false
    not_raw true = refl
    not_raw false = refl

-- the same of the first of them
named_take-set : (scanned : Bool) (counted s done : ℕ) (slots : List Value) (value : Value) (other : Object)
    → names (take done (if_scanned scanned (slice_set slots s value))) other ≡ true
    → (names (take done (if_scanned scanned slots)) other ≡ true)
    ⊎ ((is_raw (slot_kind_at scanned counted s) ≡ false) × (s < done)
    × (falls value.word other.base other.extent ≡ true))
named_take-set false counted s done slots value other e = inl e
named_take-set true counted s done slots value other e =
    let test : ℕ → Bool = λ word. falls word other.base other.extent in
    ⊎_elim (λ (l : list_any test (take done (words_of slots)) ≡ true). inl l)
    (λ (r : (s < done) × (test value.word ≡ true)). inr (not_raw (nat_lt s counted), r.0, r.1))
    (any_take-set test done (words_of slots) s value.word
    (ap (λ ws. list_any test (take done ws)) (sym (map-set (λ (v : Value). v.word) slots s value)) ∙ e))
  where
    not_raw : (b : Bool) → is_raw (if b then CountedSlot else WordSlot) ≡ false
    not_raw true = refl
    not_raw false = refl

-- a word that a counted place takes is 0 or the base of a live counted object
pub accepted_is_tight : (a : State) (kind : SlotKind) (word : ℕ) → is_counted_slot kind ≡ true
    → refuses_word a kind word ≡ false → IsTrue (is_tight a word)
accepted_is_tight a kind word counted accepted =
    split (word == 0) (names_counted a word)
    (ap (λ b. b && not (word == 0) && not (names_counted a word)) (sym counted) ∙ accepted)
  where
    split : (zero here : Bool) → (true && not zero && not here) ≡ false → (zero || here) ≡ true
    split true here e = refl
    split false true e = refl
    split false false e = cc

-- What marking does about a store: it makes no object whiter, and where it had passed the slot, the word falls in no
-- white object.
pub record IsShaded (a : State) (birth : ℕ) (object : Object) (s word : ℕ) (before after : Cycle) : Type 0 where
  pub each : length after.colours ≡ length before.colours
  pub partly_scanned : after.partly_scanned ≡ before.partly_scanned
  pub white : (j : ℕ) (o : Object) → Lives a j o → colour_of after j ≡ White → colour_of before j ≡ White
  pub black : (j : ℕ) (o : Object) → Lives a j o → colour_of after j ≡ Black → colour_of before j ≡ Black
  pub gray : (j : ℕ) (o : Object) → Lives a j o → colour_of before j ≡ Gray → colour_of after j ≡ Gray
  pub shaded : is_raw (slot_kind object s) ≡ false
      → (is_black (colour_of before birth) || nat_lt s (done_in before.partly_scanned birth)) ≡ true
      → (j : ℕ) (o : Object) → Lives a j o → colour_of after j ≡ White → falls word o.base o.extent ≡ true → ⊥

module _ (a : State) (good : IsGood a) (birth : ℕ) (object : Object) (lives : Lives a birth object) (s : ℕ)
    (value : Value) (refers : IsReferring a value) where
  abbrev changed : Object
  changed = with_slot a object s value

  -- the state with the new slot, outside a cycle
  abbrev pub any_store : State
  any_store = record a { objects = slice_set a.objects birth changed; cycle = None }

  pub old_or_changed : (j : ℕ) (o : Object) → Lives any_store j o → ((j ≡ birth) × (changed ≡ o)) ⊎ Lives a j o
  old_or_changed j o h =
      ⊎_elim (λ (l : (j ≡ birth) × (changed ≡ o)). inl l)
      (λ (r : slice_get a.objects j ≡ Some o). inr (record { is = r; live = h.live }))
      (get-set_cases a.objects birth j changed o h.is)

  -- what it was before
  pub record Was (j : ℕ) (o : Object) : Type 0 where
    pub before : Object
    pub lived : Lives a j before
    pub base : o.base ≡ before.base
    pub extent : o.extent ≡ before.extent

  pub was : (j : ℕ) (o : Object) → Lives any_store j o → Was j o
  was j o h =
      ⊎_elim
      (λ (l : (j ≡ birth) × (changed ≡ o)).
      record {
        before = object;
        lived = subst (λ n. Lives a n object) (sym l.0) lives;
        base = ap (λ (x : Object). x.base) (sym l.1);
        extent = ap (λ (x : Object). x.extent) (sym l.1);
      })
      (λ (r : Lives a j o). record { before = o; lived = r; base = refl; extent = refl })
      (old_or_changed j o h)

  changed_lives : Lives any_store birth changed
  changed_lives = record { is = get-set_same a.objects birth object changed lives.is; live = lives.live }

  pub keeps-any_store : Keeps a any_store
  keeps-any_store j o h =
      let split : (b : Bool) → (j == birth) ≡ b → IsKept any_store j o =
      elim [
        | true ↦ λ p.
            let here : j ≡ birth = eqb-true _ _ p in
            let same : o ≡ object =
            lives_same a birth o object (subst (λ n. Lives a n o) here h) lives in
            record {
              after = changed;
              lives = subst (λ n. Lives any_store n changed) (sym here) changed_lives;
              base = ap (λ (x : Object). x.base) (sym same);
              extent = ap (λ (x : Object). x.extent) (sym same);
              kind = ap (λ (x : Object). x.kind) (sym same);
            }
        | false ↦ λ p.
            let other : j ≡ birth → ⊥ = λ e. absurd (apart (sym p ∙ eq-eqb _ _ e)) in
            record {
              after = o;
              lives = record { is = get-set_other a.objects birth j changed other ∙ h.is; live = h.live };
              base = refl;
              extent = refl;
              kind = refl;
            }
      ] in
      split (j == birth) refl
    where
      apart : false ≡ true → ⊥
      apart e = cc

  referred : IsReferred any_store
  referred =
      record {
        stack = each_referring-kept a any_store keeps-any_store a.stack good.referred.stack;
        slots = λ j o h t w e.
            ⊎_elim
            (λ (l : (j ≡ birth) × (changed ≡ o)).
            subst (λ (x : Object). IsStored any_store (slot_kind x t) w) l.1
            (slot t w (ap (λ (x : Object). slice_get x.slots t) l.1 ∙ e)))
            (λ (r : Lives a j o).
            is_stored-kept a any_store keeps-any_store (slot_kind o t) w (good.referred.slots j o r t w e))
            (old_or_changed j o h);
        cells = λ n area is t w e.
            is_stored-kept a any_store keeps-any_store (cell_kind area t) w (good.referred.cells n area is t w e);
      }
    where
      slot : (t : ℕ) (w : Value) → slice_get (slice_set object.slots s (stored a (slot_kind object s) value)) t ≡ Some w
          → IsStored any_store (slot_kind object t) w
      slot t w e =
          let new = stored a (slot_kind object s) value in
          let means = referring-stored a (slot_kind object s) value refers in
          ⊎_elim
          (λ (l : (t ≡ s) × (new ≡ w)).
          subst (λ x. IsStored any_store (slot_kind object t) x) l.1
          (subst (λ n. IsStored any_store (slot_kind object n) new) (sym l.0)
          (record {
            refers = referring-kept a any_store keeps-any_store new means;
            kept = stored-kept a any_store keeps-any_store (slot_kind object s) new means
                ∙ stored-stored a (slot_kind object s) value;
          })))
          (λ (r : slice_get object.slots t ≡ Some w).
          is_stored-kept a any_store keeps-any_store (slot_kind object t) w
          (good.referred.slots birth object lives t w r))
          (get-set_cases object.slots s t new w e)

  tight_then : (word : ℕ) → IsTrue (is_tight a word) → IsTrue (is_tight any_store word)
  tight_then word h =
      ap (λ b. (word == 0) || b) (any-set_alike (begins_counted word) a.objects birth object changed lives.is refl) ∙ h

  tight : refuses_word a (slot_kind object s) value.word ≡ false
      → AllByRecursion (λ word. IsTrue (is_tight any_store word)) (counted_words any_store)
  tight accepted =
      let P : ℕ → Type 0 = λ word. IsTrue (is_tight any_store word) in
      let before : AllByRecursion P (counted_words a) =
      each_weaker (λ word. IsTrue (is_tight a word)) P tight_then (counted_words a) good.tight in
      each_counted_word P any_store
      (λ j o h.
      ⊎_elim
      (λ (l : (j ≡ birth) × (changed ≡ o)).
      subst (λ (x : Object). AllByRecursion P (counted_slots x)) l.1
      (each_counted-set P (is_scanned object.kind) object.counted s object.slots (stored a (slot_kind object s) value)
      (each_counted_slot P a before birth object lives)
      (λ counted. tight_then value.word (accepted_is_tight a (slot_kind object s) value.word counted accepted))))
      (λ (r : Lives a j o). each_counted_slot P a before j o r)
      (old_or_changed j o h))
      (each_counted_cell P a before)

  -- The new word adds one to the count of its base, if the slot is counted, and the old word no longer does.
  pub refs-any_store : (old : Value) → slice_get object.slots s ≡ Some old → (base : ℕ)
      → refs any_store base + adds (slot_kind object s) base old.word
      ≡ refs a base + adds (slot_kind object s) base value.word
  refs-any_store old e base =
      let whole = refs-set_object a any_store birth object changed lives lives.live refl refl base in
      let own = count_in-set base (is_scanned object.kind) object.counted s object.slots old
      (stored a (slot_kind object s) value) e in
      omega (arith, whole, own)

  -- where no count has risen, few places hold what isn't sticky
  pub few-any_store : (Where : ℕ → Type 0) → ((base : ℕ) → Where base → refs any_store base ≤ refs a base)
      → AreFew any_store Where
  few-any_store Where no_more j o h is free there =
      let less = no_more o.base there in
      let most : refs a o.base ≤ 254 =
      ⊎_elim
      (λ (l : (j ≡ birth) × (changed ≡ o)).
      subst (λ n. refs a n ≤ 254) (ap (λ (x : Object). x.base) l.1)
      (good.counted birth object lives (ap (λ (x : Object). is_counted x.kind) l.1 ∙ is)
      (ap (λ (x : Object). x.sticky) l.1 ∙ free)))
      (λ (r : Lives a j o). good.counted j o r is free)
      (old_or_changed j o h) in
      omega arith

  paired : (j : ℕ) (o : Object) → Lives any_store j o → IfSome o.partner (IsPaired any_store j o)
  paired j o h =
      ⊎_elim
      (λ (l : (j ≡ birth) × (changed ≡ o)).
      subst (λ (x : Object). IfSome x.partner (IsPaired any_store j x)) l.1
      (subst (λ n. IfSome object.partner (IsPaired any_store n changed)) (sym l.0)
      (if_some-weaker (IsPaired a birth object) (IsPaired any_store birth changed)
      (λ other p. again birth object changed other refl p) object.partner (good.paired birth object lives))))
      (λ (r : Lives a j o).
      if_some-weaker (IsPaired a j o) (IsPaired any_store j o) (λ other p. again j o o other refl p) o.partner
      (good.paired j o r))
      (old_or_changed j o h)
    where
      again : (j : ℕ) (x y : Object) (other : ℕ) → y.kind ≡ x.kind → IsPaired a j x other → IsPaired any_store j y other
      again j x y other kind p =
          let split : (b : Bool) → (other == birth) ≡ b → IsPaired any_store j y other =
          elim [
            | true ↦ λ q.
                let here : other ≡ birth = eqb-true _ _ q in
                let same : p.partner ≡ object =
                lives_same a birth p.partner object (subst (λ n. Lives a n p.partner) here p.lives) lives in
                record {
                  partner = changed;
                  lives = subst (λ n. Lives any_store n changed) (sym here) changed_lives;
                  back = ap (λ (o : Object). o.partner) (sym same) ∙ p.back;
                  one_weak = λ e. p.one_weak (ap (λ (o : Object). is_weak o.kind) same ∙ e ∙ ap is_weak kind);
                }
            | false ↦ λ q.
                let apart : other ≡ birth → ⊥ = λ e. absurd (clash (sym q ∙ eq-eqb _ _ e)) in
                record {
                  partner = p.partner;
                  lives = record {
                    is = get-set_other a.objects birth other changed apart ∙ p.lives.is;
                    live = p.lives.live;
                  };
                  back = p.back;
                  one_weak = λ e. p.one_weak (e ∙ ap is_weak kind);
                }
          ] in
          split (other == birth) refl
        where
          clash : false ≡ true → ⊥
          clash e = cc

  pub sound-any_store : refuses_word a (slot_kind object s) value.word ≡ false → IsSound any_store
  sound-any_store accepted =
      record {
        growing = good.growing;
        placed = subst (IsPlaced a.settings.max)
            (ap (λ ps. map area_piece a.areas ++ ps)
            (sym (map_live-set object_piece a.objects birth object changed lives.is refl refl))) good.placed;
        shaped = λ j o h.
            ⊎_elim
            (λ (l : (j ≡ birth) × (changed ≡ o)).
            subst IsShaped l.1
            (shaped-alike object changed
            (record {
              extent = refl;
              kind = refl;
              finalize = refl;
              counted = refl;
              slots = length-set object.slots s (stored a (slot_kind object s) value);
            })
            (good.shaped birth object lives)))
            (λ (r : Lives a j o). good.shaped j o r)
            (old_or_changed j o h);
        areas_shaped = good.areas_shaped;
        numbered = good.numbered;
        referred = referred;
        tight = tight accepted;
        paired = paired;
        coloured = tt;
      }

  pub names-was : (words : List ℕ) (j : ℕ) (o : Object) (w : Was j o) → names words o ≡ names words w.before
  names-was words j o w =
      ap (λ base. list_any (λ word. falls word base o.extent) words) w.base
      ∙ ap (λ extent. list_any (λ word. falls word w.before.base extent) words) w.extent

  -- Marking goes on where it was, if it shades what the word falls in.
  pub any_store_is_coloured : (before after : Cycle) → IsColoured a before
      → IsShaded a birth object s value.word before after → IsColoured any_store after
  any_store_is_coloured before after h shades =
      record {
        each = shades.each ∙ h.each ∙ sym (length-set a.objects birth changed);
        black = λ j o lives_j black k other lives_k white named.
            let w = was k other lives_k in
            let white_before = shades.white k w.before w.lived white in
            ⊎_elim
            (λ (l : (j ≡ birth) × (changed ≡ o)).
            let black_before = shades.black birth object lives (ap (colour_of after) (sym l.0) ∙ black) in
            let own = ap (λ (x : Object). names (scanned_slots x) other) l.1 ∙ named in
            ⊎_elim
            (λ (old : names (scanned_slots object) other ≡ true).
            h.black birth object lives black_before k w.before w.lived white_before
            (sym (names-was (scanned_slots object) k other w) ∙ old))
            (λ (new : (is_raw (slot_kind object s) ≡ false) × (falls value.word other.base other.extent ≡ true)).
            shades.shaded new.0
            (ap (λ c. is_black c || nat_lt s (done_in before.partly_scanned birth)) black_before)
            k w.before w.lived white
            (ap (λ base. falls value.word base w.before.extent) (sym w.base)
            ∙ ap (λ extent. falls value.word other.base extent) (sym w.extent) ∙ new.1))
            (named-set (is_scanned object.kind) object.counted s object.slots
            (stored a (slot_kind object s) value) other own))
            (λ (r : Lives a j o).
            h.black j o r (shades.black j o r black) k w.before w.lived white_before
            (sym (names-was (scanned_slots o) k other w) ∙ named))
            (old_or_changed j o lives_j);
        partly_scanned = partly_scanned after.partly_scanned shades.partly_scanned;
      }
    where
      some : (p : PartlyScanned) → before.partly_scanned ≡ Some p → IsPartlyScanned a before p
          → IsPartlyScanned any_store after p
      some p is q =
          let done : (j : ℕ) → p.object ≡ j → done_in before.partly_scanned j ≡ p.slots_done =
          λ j e. ap (λ partly_scanned. done_in partly_scanned j) is
          ∙ ap (λ b. if b then p.slots_done else 0) (eq-eqb _ _ e) in
          let split : (b : Bool) → (p.object == birth) ≡ b → IsPartlyScanned any_store after p =
          elim [
            | true ↦ λ t.
                let here : p.object ≡ birth = eqb-true _ _ t in
                let same : q.object ≡ object =
                lives_same a birth q.object object (subst (λ n. Lives a n q.object) here q.lives) lives in
                record {
                  object = changed;
                  lives = subst (λ n. Lives any_store n changed) (sym here) changed_lives;
                  gray = shades.gray p.object q.object q.lives q.gray;
                  some_done = q.some_done;
                  some_left = subst (λ n. p.slots_done < n)
                      (ap (λ (o : Object). length (scanned_slots o)) same ∙ sym same_length) q.some_left;
                  names = λ k other lives_k white named.
                      let w = was k other lives_k in
                      let white_before = shades.white k w.before w.lived white in
                      ⊎_elim
                      (λ (old : names (take p.slots_done (scanned_slots object)) other ≡ true).
                      q.names k w.before w.lived white_before
                      (ap (λ (o : Object). names (take p.slots_done (scanned_slots o)) w.before) same
                      ∙ sym (names-was (take p.slots_done (scanned_slots object)) k other w) ∙ old))
                      (λ (new : (is_raw (slot_kind object s) ≡ false) × (s < p.slots_done)
                      × (falls value.word other.base other.extent ≡ true)).
                      let less : nat_lt s (done_in before.partly_scanned birth) ≡ true =
                      ap (nat_lt s) (done birth here) ∙ within s p.slots_done new.1 in
                      shades.shaded new.0 (or_true _ _ less) k w.before w.lived white
                      (ap (λ base. falls value.word base w.before.extent) (sym w.base)
                      ∙ ap (λ extent. falls value.word other.base extent) (sym w.extent) ∙ new.2))
                      (named_take-set (is_scanned object.kind) object.counted s p.slots_done object.slots
                      (stored a (slot_kind object s) value) other named);
                }
            | false ↦ λ t.
                let apart : p.object ≡ birth → ⊥ = λ e. absurd (clash (sym t ∙ eq-eqb _ _ e)) in
                record {
                  object = q.object;
                  lives = record {
                    is = get-set_other a.objects birth p.object changed apart ∙ q.lives.is;
                    live = q.lives.live;
                  };
                  gray = shades.gray p.object q.object q.lives q.gray;
                  some_done = q.some_done;
                  some_left = q.some_left;
                  names = λ k other lives_k white named.
                      let w = was k other lives_k in
                      q.names k w.before w.lived (shades.white k w.before w.lived white)
                      (sym (names-was (take p.slots_done (scanned_slots q.object)) k other w) ∙ named);
                }
          ] in
          split (p.object == birth) refl
        where
          clash : false ≡ true → ⊥
          clash e = cc

          within : (m n : ℕ) → m < n → nat_lt m n ≡ true
          within m n less = grind (arith, nat_tests)

          same_length : length (scanned_slots changed) ≡ length (scanned_slots object)
          same_length = scanned_length (is_scanned object.kind)
            where
              scanned_length : (b : Bool)
                  → length (if_scanned b (slice_set object.slots s (stored a (slot_kind object s) value)))
                  ≡ length (if_scanned b object.slots)
              scanned_length true =
                  length-map (slice_set object.slots s (stored a (slot_kind object s) value)) (λ (v : Value). v.word)
                  ∙ length-set object.slots s (stored a (slot_kind object s) value)
                  ∙ sym (length-map object.slots (λ (v : Value). v.word))
              scanned_length false = refl

      partly_scanned : (found : Option PartlyScanned) → found ≡ before.partly_scanned
          → IfSome found (IsPartlyScanned any_store after)
      partly_scanned None e = tt
      partly_scanned (Some p) e =
          some p (sym e) (subst (λ (found : Option PartlyScanned). IfSome found (IsPartlyScanned a before))
          (sym e) h.partly_scanned)

module _ (a : State) (good : IsGood a) (birth : ℕ) (object : Object) (lives : Lives a birth object) (s : ℕ)
    (value : Value) (refers : IsReferring a value) (uncounted : is_counted_slot (slot_kind object s) ≡ false) where
  abbrev pub with_store : State
  with_store = any_store a good birth object lives s value refers

  refs-store : (base : ℕ) → refs with_store base ≡ refs a base
  refs-store base =
      let new = stored a (slot_kind object s) value in
      let whole = refs-set_object a with_store birth object (with_slot a object s value) lives lives.live refl refl
      base in
      let own = ap (count_in base)
      (uncounted_place (is_scanned object.kind) object.counted s object.slots new uncounted) in
      omega (arith, whole, own)

  pub store_is_good : IsGood with_store
  store_is_good =
      sound_is_good with_store
      (sound-any_store a good birth object lives s value refers
      (ap (λ b. b && not (value.word == 0) && not (names_counted a value.word)) uncounted))
      (few-any_store a good birth object lives s value refers (λ base. Unit {0})
      (λ base any. let same = refs-store base in omega arith))
