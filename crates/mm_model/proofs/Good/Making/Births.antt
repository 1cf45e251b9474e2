-- What a birth leaves as it was: the state stays good.
use Rattle.std.proofs.Common.{◌≡◌, ℕ, zero, suc, ◌+◌, ◌/◌, ◌<◌, ◌≤◌, Bool, true, false, cond, eqb-true, List, [], ◌∷◌}
use Rattle.std.proofs.Common.{◌++◌, map, length, take, replicate, Option, Some, None, refl, sym, ap, ◌∙◌, subst, ◌⊎◌}
use Rattle.std.proofs.Common.{⊎_elim, inl, inr, append_assoc, arith}
use Rattle.std.proofs.lemmas.Bool.Decides.{nat_tests}
use Rattle.std.proofs.lemmas.List.{map-append, length_push, get_or_append_left, get_or_push}
use Rattle.std.proofs.lemmas.List.Concat.{flat_map-append}
use Rattle.std.proofs.lemmas.List.Sums.{sum_by-append}
use Rattle.std.proofs.lemmas.Option.{slice_get_within}
use Rattle.std.proofs.lemmas.List.Elements.{filter-append}
use Rattle.std.specs.Prelude.{IsTrue, IfSome, slice_get, nat_le, ◌==◌, ◌||◌, if◌then◌else◌}
use Rattle.std.specs.Option.{option_map}
use Rattle.mm_model.specs.declared.object.Colour.TheVariants.{White, Black}
use Rattle.std.specs.List.{AllByRecursion, flat_map, count_by}
use Rattle.mm_model.specs.declared.object.Shape.{Shape}
use Rattle.mm_model.specs.declared.object.Size.TheVariants.{Small, Pages}
use Rattle.mm_model.specs.Places.SizeClass.{class_index, size_of, object_bytes}
use Rattle.mm_model.specs.Value.{Value, integer, words_of}
use Rattle.mm_model.specs.Object.{Object, newborn, is_live, is_counted, is_scanned, live_objects}
use Rattle.mm_model.specs.State.{State, Cycle, Lives, with_black_birth}
use Rattle.mm_model.specs.Words.{counted_slots, scanned_slots, counted_cell_words, counted_words, slot_kind, cell_kind}
use Rattle.mm_model.specs.Count.{refs, begins_counted, names_counted}
use Rattle.mm_model.specs.Sets.Marking.{colour_of}
use Rattle.mm_model.specs.Places.Place.{Piece, Objects, object_piece, area_piece, live_pieces, place_of}
use Rattle.mm_model.specs.Good.{IsInside, AreApart, AreAllApart, IsPlaced, IsStored, IsReferred, is_tight, IsPaired}
use Rattle.mm_model.specs.Good.{NamesNoWhite, IsPartlyScanned, IsColoured, IsShaped, IsGood}
use Rattle.mm_model.specs.Effect.{made_at}
use Rattle.mm_model.proofs.Good.Around.{if_some-weaker}
use Rattle.mm_model.proofs.Places.Falling.{falls_from, falls_at_base, named_word}
use Rattle.mm_model.proofs.Lists.Growing.{each_push, get-front, get-push, get-last, any_get, any_from_get, count-none}
use Rattle.mm_model.proofs.Good.Living.{each_before, each_after, each_append, live_piece, some_extent}
use Rattle.mm_model.proofs.Good.Living.{lives_from_page_1}
use Rattle.mm_model.proofs.Places.Placing.{IsSize, Goes, place_goes, each_weaker, both}
use Rattle.mm_model.proofs.Good.References.{Keeps, is_stored-kept, each_referring-kept}
use Rattle.mm_model.proofs.Places.SizeClasses.{class_of_small}

pub all_apart-push : (ps : List Piece) (q : Piece) → AreAllApart ps → AllByRecursion (λ p. AreApart p q) ps
    → AreAllApart (ps ++ q ∷ [])
all_apart-push [] q a h = (tt, tt)
all_apart-push (p ∷ ps) q a h = (each_push (AreApart p) ps q a.0 h.0, all_apart-push ps q a.1 h.1)

-- whatever bytes are asked for, there is a size for them
pub size_of-IsSize : (bytes : ℕ) → IsSize (size_of bytes)
size_of-IsSize bytes =
    let split : (b : Bool) → nat_le bytes 2048 ≡ b
    → IsSize (cond b (Small (class_index bytes)) (Pages ((bytes + 4095) / 4096))) =
    elim [
      | true ↦ λ e. class_of_small bytes (grind (arith, nat_tests))
      | false ↦ λ e. let large : 2048 < bytes = grind (arith, nat_tests) in omega arith
    ] in
    split (nat_le bytes 2048) refl

pub inside-weaker : (low high : ℕ) → low ≤ high → (p : Piece) → IsInside low p → IsInside high p
inside-weaker low high l p h = record { from = h.from; to = omega arith; placed = h.placed }

-- the pieces after a birth
pub live_pieces-made : (a : State) (shape : Shape) (base : ℕ)
    → live_pieces (made_at a shape base) ≡ live_pieces a ++ object_piece (newborn shape base) ∷ []
live_pieces-made a shape base =
    ap (λ os. map area_piece a.areas ++ map object_piece os) (filter-append is_live a.objects (newborn shape base ∷ []))
    ∙ ap (λ ps. map area_piece a.areas ++ ps)
    (map-append object_piece (live_objects a.objects) (newborn shape base ∷ []))
    ∙ sym (append_assoc (map area_piece a.areas) (map object_piece (live_objects a.objects))
    (object_piece (newborn shape base) ∷ []))

pub placed-push : (limit : ℕ) (ps : List Piece) (q : Piece) → IsPlaced limit ps → Goes limit ps q
    → IsPlaced limit (ps ++ q ∷ [])
placed-push limit ps q h g =
    record { inside = each_push (IsInside limit) ps q h.inside g.inside; apart = all_apart-push ps q h.apart g.apart }

pub goes-weaker : (low high : ℕ) (ps : List Piece) (q : Piece) → low ≤ high → Goes low ps q → Goes high ps q
goes-weaker low high ps q l g = record { inside = inside-weaker low high l q g.inside; apart = g.apart }

-- the piece of a birth goes where a place was found
pub goes_at : (a : State) (shape : Shape) (limit base : ℕ) → IsGood a → limit ≤ a.settings.max
    → place_of a limit Objects (object_bytes shape.slots) ≡ Some base
    → Goes a.settings.max (live_pieces a) (object_piece (newborn shape base))
goes_at a shape limit base good within e =
    let size = size_of (object_bytes shape.slots) in
    goes-weaker limit a.settings.max _ _ within
    (place_goes limit (live_pieces a) Objects size base
    (size_of-IsSize (object_bytes shape.slots)) good.placed.apart e)

-- the words of a new object's slots are 0
abbrev pub IsZero : ℕ → Type 0
IsZero word = word ≡ 0

pub zero_words : (count slots : ℕ) → AllByRecursion IsZero (words_of (take count (replicate slots (integer 0))))
zero_words zero slots = tt
zero_words (suc count) zero = tt
zero_words (suc count) (suc slots) = (refl, zero_words count slots)

all_zero_words : (slots : ℕ) → AllByRecursion IsZero (words_of (replicate slots (integer 0)))
all_zero_words zero = tt
all_zero_words (suc slots) = (refl, all_zero_words slots)

pub zero_value : (slots s : ℕ) (value : Value) → slice_get (replicate slots (integer 0)) s ≡ Some value
    → value ≡ integer 0
zero_value zero s value e = cc
zero_value (suc slots) zero value e = cc
zero_value (suc slots) (suc s) value e = zero_value slots s value e

counted_zeros : (shape : Shape) (base : ℕ) → AllByRecursion IsZero (counted_slots (newborn shape base))
counted_zeros shape base =
    let split : (b : Bool)
    → AllByRecursion IsZero (if b then words_of (take shape.counted (replicate shape.slots (integer 0))) else []) =
    elim [ true ↦ zero_words shape.counted shape.slots | false ↦ tt ] in
    split (is_scanned shape.kind)

pub scanned_zeros : (shape : Shape) (base : ℕ) → AllByRecursion IsZero (scanned_slots (newborn shape base))
scanned_zeros shape base =
    let split : (b : Bool) → AllByRecursion IsZero (if b then words_of (replicate shape.slots (integer 0)) else []) =
    elim [ true ↦ all_zero_words shape.slots | false ↦ tt ] in
    split (is_scanned shape.kind)

module _ (a : State) (shape : Shape) (base : ℕ) (good : IsGood a)
    (goes : Goes a.settings.max (live_pieces a) (object_piece (newborn shape base)))
    (shaped : IsShaped (newborn shape base)) where
  abbrev b : State
  b = made_at a shape base

  lives-made : (birth : ℕ) (object : Object) → Lives a birth object → Lives b birth object
  lives-made birth object h =
      record { is = get-front a.objects (newborn shape base ∷ []) birth object h.is; live = h.live }

  keeps-made : Keeps a b
  keeps-made birth object h =
      record { after = object; lives = lives-made birth object h; base = refl; extent = refl; kind = refl }

  newborn_lives : Lives b (length a.objects) (newborn shape base)
  newborn_lives = record { is = get-last a.objects (newborn shape base); live = refl }

  -- what lives now lived before, or is the newborn
  old_or_newborn : (birth : ℕ) (object : Object) → Lives b birth object
      → Lives a birth object ⊎ ((birth ≡ length a.objects) × (newborn shape base ≡ object))
  old_or_newborn birth object h =
      ⊎_elim (λ (old : slice_get a.objects birth ≡ Some object). inl (record { is = old; live = h.live }))
      (λ (last : (birth ≡ length a.objects) × (newborn shape base ≡ object)). inr last)
      (get-push a.objects (newborn shape base) birth object h.is)

  -- nothing else that lives begins where the newborn does
  no_other_base : (birth : ℕ) (object : Object) → Lives a birth object → object.base ≡ base → ⊥
  no_other_base birth object h same =
      let own = some_extent a.settings.max (object_piece (newborn shape base)) goes.inside in
      let theirs = some_extent a.settings.max (object_piece object)
      (live_piece (IsInside a.settings.max) a.objects birth object
      (each_after _ (map area_piece a.areas) _ good.placed.inside) h.is h.live) in
      let apart = live_piece (λ p. AreApart p (object_piece (newborn shape base))) a.objects birth object
      (each_after _ (map area_piece a.areas) _ goes.apart) h.is h.live in
      ⊎_elim (λ (l : object.base + object.extent ≤ base). omega arith)
      (λ (l : base + (newborn shape base).extent ≤ object.base). omega arith) apart.disjoint

  above_zero : base ≡ 0 → ⊥
  above_zero e = let from = goes.inside.from in omega arith

  referred-made : IsReferred b
  referred-made =
      record {
        stack = (
          (
            newborn shape base,
            newborn_lives,
            falls_at_base base (newborn shape base).extent
                (some_extent a.settings.max (object_piece (newborn shape base)) goes.inside),
          ),
          each_referring-kept a b keeps-made a.stack good.referred.stack,
        );
        slots = λ birth object h s value e.
            ⊎_elim
            (λ (old : Lives a birth object).
            is_stored-kept a b keeps-made (slot_kind object s) value (good.referred.slots birth object old s value e))
            (λ (last : (birth ≡ length a.objects) × (newborn shape base ≡ object)).
            let is : slice_get (replicate shape.slots (integer 0)) s ≡ Some value =
            ap (λ (o : Object). slice_get o.slots s) last.1 ∙ e in
            subst (IsStored b (slot_kind object s)) (sym (zero_value shape.slots s value is))
            (record { refers = tt; kept = refl }))
            (old_or_newborn birth object h);
        cells = λ n area is s value e.
            is_stored-kept a b keeps-made (cell_kind area s) value (good.referred.cells n area is s value e);
      }

  -- the counted words are those before, and zeros
  counted_words-made : counted_words b
      ≡ (flat_map counted_slots (live_objects a.objects) ++ (counted_slots (newborn shape base) ++ []))
      ++ counted_cell_words a
  counted_words-made =
      ap (λ ws. ws ++ counted_cell_words a)
      (ap (flat_map counted_slots) (filter-append is_live a.objects (newborn shape base ∷ []))
      ∙ flat_map-append counted_slots (live_objects a.objects) (newborn shape base ∷ []))

  no_more_zeros : AllByRecursion IsZero (counted_slots (newborn shape base) ++ [])
  no_more_zeros = each_append IsZero (counted_slots (newborn shape base)) [] (counted_zeros shape base) tt

  tight_on : (word : ℕ) → IsTrue (is_tight a word) → IsTrue (is_tight b word)
  tight_on word h =
      let more : names_counted a word ≡ true → names_counted b word ≡ true =
      λ e.
      let hit = any_get (begins_counted word) a.objects e in
      any_from_get (begins_counted word) b.objects hit.0 hit.1
      (get-front a.objects (newborn shape base ∷ []) hit.0 hit.1 hit.2) hit.3 in
      let split : (zero here : Bool) → (zero || here) ≡ true → (here ≡ true → names_counted b word ≡ true)
      → (zero || names_counted b word) ≡ true =
      elim [ true ↦ λ here p f. refl | false ↦ λ here p f. f p ] in
      split (word == 0) (names_counted a word) h more

  tight-made : AllByRecursion (λ word. IsTrue (is_tight b word)) (counted_words b)
  tight-made =
      let P : ℕ → Type 0 = λ word. IsTrue (is_tight b word) in
      let old = flat_map counted_slots (live_objects a.objects) in
      let before : AllByRecursion P (old ++ counted_cell_words a) =
      each_weaker (λ word. IsTrue (is_tight a word)) P tight_on (counted_words a) good.tight in
      let zeros : AllByRecursion P (counted_slots (newborn shape base) ++ []) =
      each_weaker IsZero P (λ word e. ap (λ n. n == 0 || names_counted b n) e) _ no_more_zeros in
      subst (AllByRecursion P) (sym counted_words-made)
      (each_append P (old ++ (counted_slots (newborn shape base) ++ [])) (counted_cell_words a)
      (each_append P old _ (each_before P old (counted_cell_words a) before) zeros)
      (each_after P old (counted_cell_words a) before))

  -- no count changes
  refs-made : (x : ℕ) → (x ≡ 0 → ⊥) → refs b x ≡ refs a x
  refs-made x some =
      let f : ℕ → ℕ = λ w. cond (w == x) 1 0 in
      let old = flat_map counted_slots (live_objects a.objects) in
      let zeros = counted_slots (newborn shape base) ++ [] in
      let none : count_by (λ w. w == x) zeros ≡ 0 =
      count-none x zeros (each_weaker IsZero (λ w. w ≡ x → ⊥) (λ w e h. some (sym h ∙ e)) zeros no_more_zeros) in
      let first = sum_by-append f (old ++ zeros) (counted_cell_words a) in
      let second = sum_by-append f old zeros in
      let before = sum_by-append f old (counted_cell_words a) in
      ap (count_by (λ w. w == x)) counted_words-made ∙ omega (arith, first, second, before, none)

  counted-made : (birth : ℕ) (object : Object) → Lives b birth object → IsTrue (is_counted object.kind)
      → object.sticky ≡ false → refs b object.base ≤ 254
  counted-made birth object h counted free =
      ⊎_elim
      (λ (old : Lives a birth object).
      let most = good.counted birth object old counted free in
      let low = lives_from_page_1 a good.placed birth object old in
      let same = refs-made object.base (λ e. omega arith) in
      omega arith)
      (λ (last : (birth ≡ length a.objects) × (newborn shape base ≡ object)).
      let own : object.base ≡ base = ap (λ (o : Object). o.base) (sym last.1) in
      let same = refs-made base above_zero in
      let other : (word : ℕ) → IsTrue (is_tight a word) → word ≡ base → ⊥ =
      λ word tight e.
      let split : (zero here : Bool) → (word == 0) ≡ zero → (zero || here) ≡ true → here ≡ true =
      elim [ true ↦ λ here p q. absurd (above_zero (sym e ∙ eqb-true _ _ p)) | false ↦ λ here p q. q ] in
      let hit = any_get (begins_counted word) a.objects (split (word == 0) (names_counted a word) refl tight) in
      let parts = both _ _ hit.3 in
      let live = both _ _ parts.0 in
      no_other_base hit.0 hit.1 (record { is = hit.2; live = live.0 }) (eqb-true _ _ parts.1 ∙ e) in
      let none : refs a base ≡ 0 =
      count-none base (counted_words a) (each_weaker _ _ other (counted_words a) good.tight) in
      omega (arith, ap (refs b) own, same, none))
      (old_or_newborn birth object h)

  paired-made : (birth : ℕ) (object : Object) → Lives b birth object → IfSome object.partner (IsPaired b birth object)
  paired-made birth object h =
      ⊎_elim
      (λ (old : Lives a birth object).
      if_some-weaker (IsPaired a birth object) (IsPaired b birth object)
      (λ other p.
      record {
        partner = p.partner;
        lives = lives-made other p.partner p.lives;
        back = p.back;
        one_weak = p.one_weak;
      }) object.partner (good.paired birth object old))
      (λ (last : (birth ≡ length a.objects) × (newborn shape base ≡ object)).
      subst (λ (o : Object). IfSome o.partner (IsPaired b birth o)) last.1 tt)
      (old_or_newborn birth object h)

  module _ (cycle : Cycle) (coloured : IsColoured a cycle) where
    abbrev after : Cycle
    after = with_black_birth cycle

    colour-old : (birth : ℕ) (object : Object) → Lives a birth object → colour_of after birth ≡ colour_of cycle birth
    colour-old birth object h =
        let within = slice_get_within a.objects birth object h.is in
        let each = coloured.each in
        get_or_append_left cycle.colours (Black ∷ []) White birth (omega arith)

    colour-newborn : (birth : ℕ) → birth ≡ length a.objects → colour_of after birth ≡ Black
    colour-newborn birth e = get_or_push cycle.colours Black White birth (coloured.each ∙ sym e)

    -- no white object is new
    no_white-made : (words : List ℕ) → NamesNoWhite a cycle words → NamesNoWhite b after words
    no_white-made words h birth object lives white named =
        ⊎_elim
        (λ (old : Lives a birth object).
        h birth object old (sym (colour-old birth object old) ∙ white) named)
        (λ (last : (birth ≡ length a.objects) × (newborn shape base ≡ object)).
        let black = colour-newborn birth last.0 in cc)
        (old_or_newborn birth object lives)

    -- zeros name nothing
    zeros_name_nothing : (words : List ℕ) → AllByRecursion IsZero words → NamesNoWhite b after words
    zeros_name_nothing words zeros birth object lives white named =
        ⊎_elim
        (λ (old : Lives a birth object).
        let low = lives_from_page_1 a good.placed birth object old in
        let word = named_word words object named IsZero zeros in
        let falls = falls_from word.0 object.base object.extent word.1 in
        let is = word.2 in
        omega arith)
        (λ (last : (birth ≡ length a.objects) × (newborn shape base ≡ object)).
        let black = colour-newborn birth last.0 in cc)
        (old_or_newborn birth object lives)

    coloured-made : IsColoured b after
    coloured-made =
        record {
          each = length_push cycle.colours Black ∙ ap (λ n. n + 1) coloured.each
              ∙ sym (length_push a.objects (newborn shape base));
          black = λ birth object h black.
              ⊎_elim
              (λ (old : Lives a birth object).
              no_white-made (scanned_slots object)
              (coloured.black birth object old (sym (colour-old birth object old) ∙ black)))
              (λ (last : (birth ≡ length a.objects) × (newborn shape base ≡ object)).
              subst (λ (o : Object). NamesNoWhite b after (scanned_slots o)) last.1
              (zeros_name_nothing (scanned_slots (newborn shape base)) (scanned_zeros shape base)))
              (old_or_newborn birth object h);
          partly_scanned = if_some-weaker (IsPartlyScanned a cycle) (IsPartlyScanned b after)
              (λ partly_scanned p.
              record {
                object = p.object;
                lives = lives-made partly_scanned.object p.object p.lives;
                gray = colour-old partly_scanned.object p.object p.lives ∙ p.gray;
                some_done = p.some_done;
                some_left = p.some_left;
                names = no_white-made (take partly_scanned.slots_done (scanned_slots p.object)) p.names;
              }) cycle.partly_scanned coloured.partly_scanned;
        }

  cycle-made : (cycle : Option Cycle) → IfSome cycle (IsColoured a)
      → IfSome (option_map with_black_birth cycle) (IsColoured b)
  cycle-made None h = tt
  cycle-made (Some cycle) h = coloured-made cycle h

  -- a newborn where nothing lies keeps a state good
  pub born_is_good : IsGood b
  born_is_good =
      record {
        growing = good.growing;
        placed = subst (IsPlaced a.settings.max) (sym (live_pieces-made a shape base))
            (placed-push _ _ _ good.placed goes);
        shaped = λ birth object h.
            ⊎_elim (λ (old : Lives a birth object). good.shaped birth object old)
            (λ (last : (birth ≡ length a.objects) × (newborn shape base ≡ object)). subst IsShaped last.1 shaped)
            (old_or_newborn birth object h);
        areas_shaped = good.areas_shaped;
        numbered = good.numbered;
        referred = referred-made;
        tight = tight-made;
        counted = counted-made;
        paired = paired-made;
        coloured = cycle-made a.cycle good.coloured;
      }

-- a birth at a place that was found keeps a state good
pub made_is_good : (a : State) (shape : Shape) (limit base : ℕ) → IsGood a → limit ≤ a.settings.max
    → place_of a limit Objects (object_bytes shape.slots) ≡ Some base → IsShaped (newborn shape base)
    → IsGood (made_at a shape base)
made_is_good a shape limit base good within e shaped =
    born_is_good a shape base good (goes_at a shape limit base good within e) shaped
