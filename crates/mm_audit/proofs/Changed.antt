-- What is shown, and what is kept, once headers or words have changed.
use Rattle.std.proofs.Common.{◌≡◌, ℕ, ◌+◌, ◌*◌, ◌/◌, ◌<◌, ◌≤◌, ⊎_elim, List, length, take, drop}
use Rattle.std.proofs.Common.{Option, Some, None, refl, sym, ap, ◌∙◌, subst, length-take-le, arith}
use Rattle.std.specs.Prelude.{slice_get, slice_set}
use Rattle.std.proofs.Math.ListN.{get_or}
use Rattle.std.proofs.Math.Seq.{take-set-lt}
use Rattle.std.proofs.lemmas.Bool.{cases_lt}
use Rattle.std.proofs.lemmas.List.{length-drop, length-replicate, drop-set-add, get_or-take, get_or-drop}
use Rattle.std.proofs.lemmas.Option.{slice_get-get_or}
use Rattle.mm_model.specs.declared.object.Colour.{Colour}
use Rattle.mm_model.specs.declared.object.Shape.{Shape}
use Rattle.mm_model.specs.Views.ByBase.{Begins, with_entry}
use Rattle.mm_model.specs.Views.ObjectView.{ObjectView, ObjectsByBase}
use Rattle.mm_model.proofs.Lists.Replaced.{get-set_same, get-set_other}
use Rattle.mm_audit.specs.declared.header.Header.{Header}
use Rattle.mm_audit.specs.Counts.{with_word}
use Rattle.mm_audit.specs.Objects.{header_of, object_with, object_in, shown, newborn_of, IsRoomFor, IsFilled}
use Rattle.mm_audit.specs.Objects.{KeepsObjects}
use Rattle.mm_audit.proofs.Shown.{IsKept, begins-kept, kept-begins, shown-replaced, length-shown, part-filled}
use Rattle.mm_audit.proofs.Grains.{AreBeside, vacant-beside, kept-beside, beside-alike, kept-set}

pub inside_same : {X : Type 0} (x y : X) → Some x ≡ Some y → x ≡ y
inside_same x y e = cc

unlike : (header : Header) → None ≡ Some header → ⊥
unlike header e = cc

module _ (entries : List (Option Header)) (begins words : List ℕ) (keeps : KeepsObjects entries begins words) where
  abbrev objects : ObjectsByBase
  objects = shown words entries

  -- an object is freed
  pub shown-freed : (base : ℕ) → base < 16 * length entries
      → shown words (slice_set entries (base / 16) None) ≡ with_entry base None objects
  shown-freed base inside =
      let grain = base / 16 in
      let was = slice_get-get_or entries grain None (omega arith) in
      shown-replaced words words entries (slice_set entries grain None) grain (get_or entries grain None) None was
      (get-set_same entries grain (get_or entries grain None) None was)
      (λ k other. get-set_other entries grain k None other) (λ k header other is. refl)

  pub kept-freed : (grain : ℕ) → KeepsObjects (slice_set entries grain None) begins words
  kept-freed grain =
      kept-set entries begins words keeps grain None (λ header is. absurd (unlike header is))
      (λ header is. absurd (unlike header is))

  -- the words that an object's slots take
  pub slots-within : (grain : ℕ) (header : Header) → slice_get entries grain ≡ Some (Some header)
      → 4 * grain + 4 + header.slots ≤ length words
  slots-within grain header is =
      let room = keeps.roomy grain header is in
      let inside = room.inside in
      let fits = room.room in
      let each = keeps.each_word in
      omega arith

  pub slots-length : (grain : ℕ) (header : Header) → slice_get entries grain ≡ Some (Some header)
      → length (object_in words grain header).words ≡ header.slots
  slots-length grain header is =
      let within = slots-within grain header is in
      length-take-le header.slots (drop (4 * grain + 4) words)
      (omega (arith, length-drop (4 * grain + 4) words))

  pub header-shown : (grain : ℕ) (header : Header) → slice_get entries grain ≡ Some (Some header)
      → header_of (object_in words grain header) ≡ header
  header-shown grain header is = ap (λ n. record header { slots = n }) (slots-length grain header is)

  module _ (base : ℕ) (object : ObjectView) (is : Begins objects base object) where
    abbrev pub kept : IsKept words entries base object
    kept = begins-kept words entries base object is

    pub object-slots : length object.words ≡ kept.header.slots
    object-slots =
        ap (λ (o : ObjectView). length o.words) (sym kept.object_is) ∙ slots-length (base / 16) kept.header kept.is

    pub slot-place : (slot : ℕ) → slot < length object.words → base / 4 + 4 + slot < length words
    slot-place slot below =
        let at = kept.at in
        let within = slots-within (base / 16) kept.header kept.is in
        omega (arith, object-slots)

    -- its header, with as many bytes and slots
    pub header-kept : header_of object ≡ kept.header
    header-kept =
        ap header_of (sym kept.object_is) ∙ header-shown (base / 16) kept.header kept.is

    -- its words
    pub words-kept : take (length object.words) (drop (base / 4 + 4) words) ≡ object.words
    words-kept =
        let at = kept.at in
        let place : base / 4 + 4 ≡ 4 * (base / 16) + 4 = omega arith in
        ap (λ n. take n (drop (base / 4 + 4) words)) object-slots
        ∙ ap (λ n. take kept.header.slots (drop n words)) place ∙ ap (λ (o : ObjectView). o.words) kept.object_is

    pub slot-kept : (slot : ℕ) → slot < length object.words
        → slice_get object.words slot ≡ Some (get_or words (base / 4 + 4 + slot) 0)
    slot-kept slot below =
        slice_get-get_or object.words slot 0 below
        ∙ ap (λ (ws : List ℕ). Some (get_or ws slot 0)) (sym words-kept)
        ∙ ap (λ n. Some n)
        (get_or-take (length object.words) (drop (base / 4 + 4) words) slot 0 below
        ∙ get_or-drop (base / 4 + 4) words slot 0)

    -- another word in a slot
    pub shown-written : (slot word : ℕ) → slot < length object.words
        → shown (slice_set words (base / 4 + 4 + slot) word) entries
        ≡ with_entry base (Some (with_word slot word object)) objects
    shown-written slot word below =
        shown-replaced words after entries entries grain (Some header) (Some header) kept.is kept.is
        (λ k other. refl)
        (λ k more other also.
        beside-alike entries begins words keeps after grain header.extent place 1 (omega arith)
        (omega (arith, slots, room))
        (λ j low. get-set_other words place j word (λ same. absurd (omega arith)))
        (λ j high. get-set_other words place j word (λ same. absurd (omega arith))) k more also
        (kept-beside entries begins words keeps grain k header more kept.is also other))
        ∙ ap (λ (o : ObjectView). slice_set objects grain (Some o)) (here ∙ ap (with_word slot word) kept.object_is)
      where
        grain : ℕ
        grain = base / 16

        header : Header
        header = kept.header

        place : ℕ
        place = base / 4 + 4 + slot

        after : List ℕ
        after = slice_set words place word

        slots : slot < header.slots
        slots = omega (arith, object-slots)

        room : 16 + 4 * header.slots ≤ header.extent
        room = (keeps.roomy grain header kept.is).room

        here : object_in after grain header ≡ with_word slot word (object_in words grain header)
        here =
            ap (λ (ws : List ℕ). object_with ws header)
            (ap (λ n. take header.slots (drop (4 * grain + 4) (slice_set words n word))) (omega (arith, kept.at))
            ∙ ap (take header.slots) (drop-set-add (4 * grain + 4) words slot word)
            ∙ take-set-lt header.slots (drop (4 * grain + 4) words) slot word slots)

    -- another header, with as many bytes and slots
    pub shown-rewritten : (new : Header) → new.slots ≡ length object.words
        → shown words (slice_set entries (base / 16) (Some new))
        ≡ with_entry base (Some (object_with object.words new)) objects
    shown-rewritten new slots =
        shown-replaced words words entries (slice_set entries grain (Some new)) grain (Some kept.header) (Some new)
        kept.is (get-set_same entries grain (Some kept.header) (Some new) kept.is)
        (λ k other. get-set_other entries grain k (Some new) other) (λ k header other also. refl)
        ∙ ap (λ (ws : List ℕ). slice_set objects grain (Some (object_with ws new)))
        (ap (λ n. take n (drop (4 * grain + 4) words)) (slots ∙ object-slots)
        ∙ ap (λ (o : ObjectView). o.words) kept.object_is)
      where
        grain : ℕ
        grain = base / 16

    pub kept-rewritten : (new : Header) → new.extent ≡ object.extent → new.slots ≡ length object.words
        → KeepsObjects (slice_set entries (base / 16) (Some new)) begins words
    kept-rewritten new extent slots =
        kept-set entries begins words keeps (base / 16) (Some new)
        (λ header e.
        let same = inside_same new header e in
        let own = ap (λ (h : Header). h.extent) same in
        let more = ap (λ (h : Header). h.slots) same in
        let room = keeps.roomy (base / 16) kept.header kept.is in
        let inside = room.inside in
        let fits = room.room in
        record { inside = omega (arith, like); room = omega (arith, like, object-slots) })
        (λ header e inner low high.
        let same = inside_same new header e in
        let own = ap (λ (h : Header). h.extent) same in
        keeps.told (base / 16) kept.header kept.is inner low (omega (arith, like)))
      where
        like : kept.header.extent ≡ object.extent
        like = ap (λ (o : ObjectView). o.extent) kept.object_is

  -- an object is born in vacant room
  module _ (base extent : ℕ) (shape : Shape) (colour : Colour) (room : IsRoomFor objects base extent shape.slots)
      (told after : List ℕ) (tells : IsFilled begins told (base / 16) (extent / 16) (base / 16))
      (filled : IsFilled words after (4 * (base / 16) + 4) shape.slots 0) where
    grain : ℕ
    grain = base / 16

    aligned : base ≡ 16 * (base / 16)
    aligned = let at = room.aligned in omega arith

    inside : base + extent ≤ 16 * length entries
    inside = let within = room.inside in omega (arith, length-shown words entries)

    beside : (other : ℕ) (header : Header) → slice_get entries other ≡ Some (Some header)
        → AreBeside (16 * other) header.extent base extent
    beside other header is =
        vacant-beside objects base extent room.vacant (16 * other) (object_in words other header)
        (kept-begins words entries other header is)

    abbrev pub new : Header
    new = header_of (newborn_of extent shape colour)

    new-slots : new.slots ≡ shape.slots
    new-slots = length-replicate shape.slots 0

    here : object_in after (base / 16) new ≡ newborn_of extent shape colour
    here =
        ap (λ (ws : List ℕ). object_with ws new)
        (ap (λ n. take n (drop (4 * (base / 16) + 4) after)) new-slots
        ∙ part-filled (4 * (base / 16) + 4) shape.slots after 0 filled.here)

    pub shown-born : shown after (slice_set entries (base / 16) (Some new))
        ≡ with_entry base (Some (newborn_of extent shape colour)) objects
    shown-born =
        let was = slice_get-get_or entries (base / 16) None (omega (arith, inside, room.fits)) in
        shown-replaced words after entries (slice_set entries (base / 16) (Some new)) (base / 16)
        (get_or entries (base / 16) None) (Some new) was
        (get-set_same entries (base / 16) (get_or entries (base / 16) None) (Some new) was)
        (λ k other. get-set_other entries (base / 16) k (Some new) other)
        (λ k header other is.
        beside-alike entries begins words keeps after (base / 16) extent (4 * (base / 16) + 4) shape.slots
        (omega arith) (omega (arith, room.fits)) filled.below filled.above k header is
        (subst (λ n. AreBeside (16 * k) header.extent n extent) aligned (beside k header is)))
        ∙ ap (λ (o : ObjectView). slice_set objects (base / 16) (Some o)) here

    kept-told : KeepsObjects entries told after
    kept-told =
        record {
          few = keeps.few;
          each_grain = tells.size ∙ keeps.each_grain;
          each_word = filled.size ∙ keeps.each_word;
          roomy = keeps.roomy;
          told = λ k header is inner low high.
              ⊎_elim
              (λ (ends : 16 * k + header.extent ≤ base).
              tells.below inner (omega (arith, aligned)) ∙ keeps.told k header is inner low high)
              (λ (past : base + extent ≤ 16 * k).
              tells.above inner (omega (arith, aligned)) ∙ keeps.told k header is inner low high) (beside k header is);
          not_behind = λ inner k is.
              ⊎_elim
              (λ (below : inner < base / 16). keeps.not_behind inner k (sym (tells.below inner below) ∙ is))
              (λ (from : base / 16 ≤ inner).
              ⊎_elim
              (λ (within : inner < base / 16 + extent / 16).
              let same = inside_same (base / 16) k (sym (tells.here inner from within) ∙ is) in
              omega arith)
              (λ (above : base / 16 + extent / 16 ≤ inner).
              keeps.not_behind inner k (sym (tells.above inner above) ∙ is))
              (cases_lt inner (base / 16 + extent / 16)))
              (cases_lt inner (base / 16));
        }

    pub kept-born : KeepsObjects (slice_set entries (base / 16) (Some new)) told after
    kept-born =
        kept-set entries told after kept-told (base / 16) (Some new)
        (λ header e.
        let same = inside_same new header e in
        let own = ap (λ (h : Header). h.extent) same in
        let slots = ap (λ (h : Header). h.slots) same in
        record { inside = omega (arith, aligned, inside); room = omega (arith, new-slots, room.fits) })
        (λ header e inner low high.
        let same = inside_same new header e in
        let own = ap (λ (h : Header). h.extent) same in
        let whole = room.whole in
        tells.here inner low (omega arith))
