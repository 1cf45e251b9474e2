-- Where a counted place gets another word, the object at that base becomes sticky, and the state stays good.
use Rattle.std.proofs.Common.{◌≡◌, ℕ, ◌+◌, ◌≤◌, Bool, true, false, not, cond, ◌||◌, eqb-true, List, [], ◌∷◌, ◌++◌, map}
use Rattle.std.proofs.Common.{take, Option, Some, None, refl, sym, ap, ◌∙◌, subst, arith}
use Rattle.std.proofs.lemmas.Bool.{eq-eqb}
use Rattle.std.proofs.lemmas.Bool.Decides.{nat_tests}
use Rattle.std.proofs.lemmas.List.{length-map}
use Rattle.std.proofs.lemmas.Option.{slice_get-map}
use Rattle.std.specs.Prelude.{IsTrue, IfSome, slice_get, nat_le, ◌&&◌, ◌==◌, if◌then◌else◌}
use Rattle.std.specs.List.{AllByRecursion, flat_map, count_by}
use Rattle.std.specs.Option.{option_map}
use Rattle.mm_model.specs.Object.{Object, is_live, is_counted, live_objects}
use Rattle.mm_model.specs.State.{State, Area, Cycle, Lives}
use Rattle.mm_model.specs.Words.{SlotKind, slot_kind, cell_kind, counted_slots, scanned_slots, counted_cell_words}
use Rattle.mm_model.specs.Words.{counted_words, names}
use Rattle.mm_model.specs.Count.{refs, begins_counted, names_counted, made_sticky, with_sticky}
use Rattle.mm_model.specs.Places.Place.{object_piece, area_piece, live_pieces}
use Rattle.mm_model.specs.Store.{is_counted_slot, recounted}
use Rattle.mm_model.specs.Good.{IsPlaced, IsShaped, IsAreaShaped, AreNumbered, IsStored, IsReferred, is_tight, IsPaired}
use Rattle.mm_model.specs.Good.{NamesNoWhite, IsPartlyScanned, IsColoured, IsGood}
use Rattle.mm_model.proofs.Good.Around.{if_some-weaker}
use Rattle.mm_model.proofs.Good.Writing.CountedWords.{adds, adds-other, adds-same}
use Rattle.mm_model.proofs.Lists.Keyed.{any-map}
use Rattle.mm_model.proofs.Places.Placing.{each_weaker}
use Rattle.mm_model.proofs.Good.Making.Shapes.{shaped-alike}
use Rattle.mm_model.proofs.Good.References.{Keeps, is_stored-kept, each_referring-kept}
use Rattle.mm_model.proofs.Lists.Replaced.{map-map_alike, flat_map-map}

-- all that is good of a state but how many counted places hold its objects
pub record IsSound (a : State) : Type 0 where
  pub growing : a.settings.pages ≤ a.settings.max
  pub placed : IsPlaced a.settings.max (live_pieces a)
  pub shaped : (birth : ℕ) (object : Object) → Lives a birth object → IsShaped object
  pub areas_shaped : (n : ℕ) (area : Area) → slice_get a.areas n ≡ Some area → IsAreaShaped area
  pub numbered : AreNumbered a.areas
  pub referred : IsReferred a
  pub tight : AllByRecursion (λ word. IsTrue (is_tight a word)) (counted_words a)
  pub paired : (birth : ℕ) (object : Object) → Lives a birth object → IfSome object.partner (IsPaired a birth object)
  pub coloured : IfSome a.cycle (IsColoured a)

-- each live counted object that isn't sticky, among those at such bases, is held by at most 254 counted places
abbrev pub AreFew : State → (ℕ → Type 0) → Type 0
AreFew a Where =
    (birth : ℕ) (object : Object) → Lives a birth object → IsTrue (is_counted object.kind) → object.sticky ≡ false
    → Where object.base → refs a object.base ≤ 254

pub sound_is_good : (a : State) → IsSound a → AreFew a (λ base. Unit {0}) → IsGood a
sound_is_good a sound few =
    record {
      growing = sound.growing;
      placed = sound.placed;
      shaped = sound.shaped;
      areas_shaped = sound.areas_shaped;
      numbered = sound.numbered;
      referred = sound.referred;
      tight = sound.tight;
      counted = λ birth object h counted free. few birth object h counted free tt;
      paired = sound.paired;
      coloured = sound.coloured;
    }

live_objects-map : (f : Object → Object) → ((o : Object) → is_live (f o) ≡ is_live o) → (objects : List Object)
    → live_objects (map f objects) ≡ map f (live_objects objects)
live_objects-map f same [] = refl
live_objects-map f same (o ∷ os) =
    let rest = live_objects-map f same os in
    let split : (b : Bool) → cond b (f o ∷ live_objects (map f os)) (live_objects (map f os))
    ≡ map f (cond b (o ∷ live_objects os) (live_objects os)) =
    elim [ true ↦ ap (λ xs. f o ∷ xs) rest | false ↦ rest ] in
    ap (λ b. cond b (f o ∷ live_objects (map f os)) (live_objects (map f os))) (same o) ∙ split (is_live o)

module _ (a : State) (word : ℕ) where
  abbrev b : State
  b = with_sticky word a

  lives-made_sticky : (birth : ℕ) (object : Object) → Lives a birth object → Lives b birth (made_sticky a word object)
  lives-made_sticky birth object h =
      record {
        is = slice_get-map (made_sticky a word) a.objects birth ∙ ap (option_map (made_sticky a word)) h.is;
        live = h.live;
      }

  -- what it was before
  before_made_sticky : (birth : ℕ) (object : Object) → Lives b birth object
      → (before : Object) × Lives a birth before × (made_sticky a word before ≡ object)
  before_made_sticky birth object h =
      split (slice_get a.objects birth) refl (sym (slice_get-map (made_sticky a word) a.objects birth) ∙ h.is)
    where
      split : (found : Option Object) → slice_get a.objects birth ≡ found
          → option_map (made_sticky a word) found ≡ Some object
          → (before : Object) × Lives a birth before × (made_sticky a word before ≡ object)
      split None e p = cc
      split (Some before) e p =
          let same : made_sticky a word before ≡ object = cc in
          (before, record { is = e; live = ap is_live same ∙ h.live }, same)

  keeps-made_sticky : Keeps a b
  keeps-made_sticky birth object h =
      record {
        after = made_sticky a word object;
        lives = lives-made_sticky birth object h;
        base = refl;
        extent = refl;
        kind = refl;
      }

  alive : live_objects b.objects ≡ map (made_sticky a word) (live_objects a.objects)
  alive = live_objects-map (made_sticky a word) (λ o. refl) a.objects

  pub live_pieces-made_sticky : live_pieces b ≡ live_pieces a
  live_pieces-made_sticky =
      ap (λ os. map area_piece a.areas ++ map object_piece os) alive
      ∙ ap (λ ps. map area_piece a.areas ++ ps)
      (map-map_alike object_piece (made_sticky a word) (λ o. refl) (live_objects a.objects))

  pub counted_words-made_sticky : counted_words b ≡ counted_words a
  counted_words-made_sticky =
      ap (λ os. flat_map counted_slots os ++ counted_cell_words a) alive
      ∙ ap (λ ws. ws ++ counted_cell_words a)
      (flat_map-map counted_slots (map (made_sticky a word) (live_objects a.objects))
      ∙ ap (flat_map (λ ws. ws)) (map-map_alike counted_slots (made_sticky a word) (λ o. refl) (live_objects a.objects))
      ∙ sym (flat_map-map counted_slots (live_objects a.objects)))

  refs-made_sticky : (base : ℕ) → refs b base ≡ refs a base
  refs-made_sticky base = ap (count_by (λ w. w == base)) counted_words-made_sticky

  names_counted-made_sticky : (w : ℕ) → names_counted b w ≡ names_counted a w
  names_counted-made_sticky w = any-map (made_sticky a word) (begins_counted w) a.objects

  no_white-made_sticky : (cycle : Cycle) (words : List ℕ) → NamesNoWhite a cycle words → NamesNoWhite b cycle words
  no_white-made_sticky cycle words h birth object lives white named =
      let was = before_made_sticky birth object lives in
      h birth was.0 was.1 white (ap (names words) was.2 ∙ named)

  pub coloured-made_sticky : (cycle : Cycle) → IsColoured a cycle → IsColoured b cycle
  coloured-made_sticky cycle h =
      record {
        each = h.each ∙ sym (length-map a.objects (made_sticky a word));
        black = λ birth object lives black.
            let was = before_made_sticky birth object lives in
            subst (λ (o : Object). NamesNoWhite b cycle (scanned_slots o)) was.2
            (no_white-made_sticky cycle (scanned_slots was.0) (h.black birth was.0 was.1 black));
        partly_scanned = if_some-weaker (IsPartlyScanned a cycle) (IsPartlyScanned b cycle)
            (λ partly_scanned p.
            record {
              object = made_sticky a word p.object;
              lives = lives-made_sticky partly_scanned.object p.object p.lives;
              gray = p.gray;
              some_done = p.some_done;
              some_left = p.some_left;
              names = no_white-made_sticky cycle (take partly_scanned.slots_done (scanned_slots p.object)) p.names;
            }) cycle.partly_scanned h.partly_scanned;
      }

  module _ (sound : IsSound a) where
    referred-made_sticky : IsReferred b
    referred-made_sticky =
        record {
          stack = each_referring-kept a b keeps-made_sticky a.stack sound.referred.stack;
          slots = λ birth object h s value e.
              let was = before_made_sticky birth object h in
              is_stored-kept a b keeps-made_sticky (slot_kind object s) value
              (subst (λ (o : Object). IsStored a (slot_kind o s) value) was.2
              (sound.referred.slots birth was.0 was.1 s value (ap (λ (o : Object). slice_get o.slots s) was.2 ∙ e)));
          cells = λ n area is s value e.
              is_stored-kept a b keeps-made_sticky (cell_kind area s) value (sound.referred.cells n area is s value e);
        }

    paired-made_sticky : (birth : ℕ) (object : Object) → Lives b birth object
        → IfSome object.partner (IsPaired b birth object)
    paired-made_sticky birth object h =
        let was = before_made_sticky birth object h in
        subst (λ (o : Object). IfSome o.partner (IsPaired b birth o)) was.2
        (if_some-weaker (IsPaired a birth was.0) (IsPaired b birth (made_sticky a word was.0))
        (λ other p.
        record {
          partner = made_sticky a word p.partner;
          lives = lives-made_sticky other p.partner p.lives;
          back = p.back;
          one_weak = p.one_weak;
        })
        was.0.partner (sound.paired birth was.0 was.1))

    sound-made_sticky : IsSound b
    sound-made_sticky =
        record {
          growing = sound.growing;
          placed = subst (IsPlaced a.settings.max) (sym live_pieces-made_sticky) sound.placed;
          shaped = λ birth object h.
              let was = before_made_sticky birth object h in
              subst IsShaped was.2
              (shaped-alike was.0 (made_sticky a word was.0)
              (record { extent = refl; kind = refl; finalize = refl; counted = refl; slots = refl })
              (sound.shaped birth was.0 was.1));
          areas_shaped = sound.areas_shaped;
          numbered = sound.numbered;
          referred = referred-made_sticky;
          tight = subst (AllByRecursion (λ w. IsTrue (is_tight b w))) (sym counted_words-made_sticky)
              (each_weaker (λ w. IsTrue (is_tight a w)) (λ w. IsTrue (is_tight b w))
              (λ w h. ap (λ named. (w == 0) || named) (names_counted-made_sticky w) ∙ h) (counted_words a) sound.tight);
          paired = paired-made_sticky;
          coloured = if_some-weaker (IsColoured a) (IsColoured b) coloured-made_sticky a.cycle sound.coloured;
        }

    -- An object at the word that isn't sticky then is held by few: else it would have become so.
    few-made_sticky : AreFew a (λ base. base ≡ word → ⊥) → AreFew b (λ base. Unit {0})
    few-made_sticky few birth object h counted free any =
        let was = before_made_sticky birth object h in
        let sticky : (made_sticky a word was.0).sticky ≡ false = ap (λ (o : Object). o.sticky) was.2 ∙ free in
        let kind : is_counted was.0.kind ≡ true = ap (λ (o : Object). is_counted o.kind) was.2 ∙ counted in
        let base : was.0.base ≡ object.base = ap (λ (o : Object). o.base) was.2 in
        let same = refs-made_sticky object.base in
        let moved = ap (refs a) base in
        let less : refs a was.0.base ≤ 254 = at was.0 was.1 kind sticky (was.0.base == word) refl in
        omega (arith, same, moved, less)
      where
        neither : (p q : Bool) → (p || q) ≡ false → (p ≡ false) × (q ≡ false)
        neither true q e = cc
        neither false q e = (refl, e)

        at : (o : Object) → Lives a birth o → is_counted o.kind ≡ true → (made_sticky a word o).sticky ≡ false
            → (here : Bool)
            → (o.base == word) ≡ here → refs a o.base ≤ 254
        at o lives kind sticky true e =
            let parts = neither o.sticky (begins_counted word o && nat_le 255 (refs a word)) sticky in
            let begins : begins_counted word o ≡ true =
            ap (λ live. live && is_counted o.kind && o.base == word) lives.live
            ∙ ap (λ c. c && o.base == word) kind ∙ e in
            let least : nat_le 255 (refs a word) ≡ false =
            ap (λ c. c && nat_le 255 (refs a word)) (sym begins) ∙ parts.1 in
            let there : o.base ≡ word = eqb-true _ _ e in
            let few_there : refs a word ≤ 254 = grind (arith, nat_tests) in
            subst (λ n. refs a n ≤ 254) (sym there) few_there
        at o lives kind sticky false e =
            let parts = neither o.sticky (begins_counted word o && nat_le 255 (refs a word)) sticky in
            few birth o lives kind parts.0 (λ same. clash (sym e ∙ eq-eqb _ _ same))
          where
            clash : false ≡ true → ⊥
            clash p = cc

    made_sticky_is_good : AreFew a (λ base. base ≡ word → ⊥) → IsGood b
    made_sticky_is_good few = sound_is_good b sound-made_sticky (few-made_sticky few)

-- What a store leaves is good where the new word alone adds to a count, and the old word no longer does.
pub recounted_is_good : (a b : State) (kind : SlotKind) (old new : ℕ) → IsSound b
    → ((Where : ℕ → Type 0) → ((base : ℕ) → Where base → refs b base ≤ refs a base) → AreFew b Where)
    → ((base : ℕ) → refs b base + adds kind base old ≡ refs a base + adds kind base new)
    → IsGood (recounted kind old new b)
recounted_is_good a b kind old new sound few sum = split (is_counted_slot kind && not (old == new)) refl
  where
    split : (test : Bool) → (is_counted_slot kind && not (old == new)) ≡ test
        → IsGood (if test then with_sticky new b else b)
    split true e =
        made_sticky_is_good b new sound
        (few (λ base. base ≡ new → ⊥)
        (λ base other. let total = sum base in let none = adds-other kind base new other in omega arith))
    split false e =
        sound_is_good b sound
        (few (λ base. Unit {0})
        (λ base any. let total = sum base in let same = adds-same kind base old new e in omega arith))
