-- A part that is done: the colours, and what the marker knows afterwards.
use Rattle.std.proofs.Common.{◌≡◌, ◌≢◌, ℕ, ◌+◌, ◌-◌, ◌*◌, ◌/◌, ◌<◌, ◌≤◌, min, Bool, true, false, List, [], ◌∷◌, ◌++◌}
use Rattle.std.proofs.Common.{length, take, drop, Option, Some, inl, inr, refl, sym, ap, subst, ◌∙◌, arith}
use Rattle.std.specs.Prelude.{IfSome, slice_get, slice_set, slice_index, ◌&&◌, if◌then◌else◌}
use Rattle.std.specs.Option.{option_map, option_and_then}
use Rattle.std.proofs.lemmas.Bool.{cases_eq}
use Rattle.std.proofs.lemmas.List.{length-take, length-drop, get_or-drop, take_min}
use Rattle.mm_model.specs.declared.object.Colour.{Colour}
use Rattle.mm_model.specs.declared.object.Colour.TheVariants.{Gray, Black}
use Rattle.mm_model.specs.Object.{is_scanned}
use Rattle.mm_model.specs.Sets.Marking.{is_white}
use Rattle.mm_model.specs.Views.ByBase.{Begins, with_entry}
use Rattle.mm_model.specs.Views.ObjectView.{ObjectView, ObjectsByBase, scanned_words_of, names_at}
use Rattle.mm_model.specs.Views.SetsByBase.{grayed_at, with_grayed_objects}
use Rattle.mm_model.specs.Views.View.{PartlyScannedView}
use Rattle.mm_model.proofs.Lists.Replaced.{get-set_same, get-set_other, map-set, map-set_alike}
use Rattle.mm_model.proofs.View.ByBase.Entries.{get-changed, begins_same}
use Rattle.mm_object.specs.Object.{StoredObject, view_of_stored, views_of}
use Rattle.mm_object.specs.Heap.{Heap, HasSlot, with_object}
use Rattle.mm_object.specs.Colours.{white_object}
use Rattle.mm_mark.specs.Marker.{Marker, Marking, IsUnderScan, AreKnown}
use Rattle.mm_mark.specs.Parts.{IsKnown}
use Rattle.mm_mark.proofs.Known.{known-told, told-known, under-told}
use Rattle.mm_mark.specs.Colours.{IsSameButColours, IsGrayed, HasColour}
use Rattle.mm_mark.specs.Parts.{IsAdvanced, IsEnded, part_words, part_end}
use Rattle.mm_mark.proofs.Told.{viewed-stored, stored-viewed}
use Rattle.mm_mark.proofs.Grayed.{grayed_at-spares, take-next}
use Rattle.mm_mark.proofs.Reading.{black_not_gray}
use Rattle.mm_mark.proofs.Chosen.{known-elsewhere}

-- a gray object stays as it is where others become gray
pub gray-stays : (words : List ℕ) (objects : ObjectsByBase) (base : ℕ) (object : ObjectView)
    → Begins objects base object
    → object.colour ≡ Gray → Begins (with_grayed_objects words objects) base object
gray-stays words objects base object begins gray = record {
  grain = begins.grain;
  aligned = begins.aligned;
  is =
      get-changed (grayed_at words) objects begins.grain
      ∙ ap (option_map (option_and_then (grayed_at words (16 * begins.grain)))) begins.is
      ∙ ap Some (grayed_at-spares words (16 * begins.grain) object
      (ap (λ (c : Colour). is_white c && names_at words (16 * begins.grain) object) gray));
}

-- a scanned slot is one of all slots
pub scanned_slot : (object : ObjectView) (s : ℕ) → s < length (scanned_words_of object)
    → scanned_words_of object ≡ object.words
scanned_slot object s below = split (is_scanned object.kind) refl below
  where
    split : (b : Bool) → is_scanned object.kind ≡ b → s < length (if b then object.words else [])
        → (if is_scanned object.kind then object.words else []) ≡ object.words
    split true e h = ap (λ (b : Bool). if b then object.words else []) e
    split false e h = absurd (omega arith)

-- the slot is there also once others are gray
pub slot-there : (before after : Heap) (words : List ℕ) (base s : ℕ) (object : ObjectView)
    → Begins (views_of before.objects) base object → object.colour ≡ Gray → IsGrayed before after words
    → s < length (scanned_words_of object) → HasSlot after base s
slot-there before after words base s object begins gray grayed below =
    let now : Begins (views_of after.objects) base object =
    subst (λ (os : ObjectsByBase). Begins os base object) (sym grayed.grayed)
    (gray-stays words (views_of before.objects) base object begins gray) in
    let stored = viewed-stored after.objects base object now in
    let all : length (scanned_words_of object) ≡ length stored.object.words =
    ap length (scanned_slot object s below) ∙ sym (ap (λ (v : ObjectView). length v.words) stored.is) in
    record { object = stored.object; begins = stored.begins; within = omega arith }

-- a word that is read there is the slot's
pub slot-read : (before after : Heap) (words : List ℕ) (base s word : ℕ) (object : ObjectView)
    → Begins (views_of before.objects) base object → object.colour ≡ Gray → IsGrayed before after words
    → s < length (scanned_words_of object)
    → ((stored : StoredObject) → Begins after.objects base stored → word ≡ slice_index stored.words s)
    → word ≡ slice_index (scanned_words_of object) s
slot-read before after words base s word object begins gray grayed below read =
    let now : Begins (views_of after.objects) base object =
    subst (λ (os : ObjectsByBase). Begins os base object) (sym grayed.grayed)
    (gray-stays words (views_of before.objects) base object begins gray) in
    let stored = viewed-stored after.objects base object now in
    read stored.object stored.begins ∙ ap (λ (v : ObjectView). slice_index v.words s) stored.is
    ∙ sym (ap (λ ws. slice_index ws s) (scanned_slot object s below))

module _ (h : Heap) (base : ℕ) (object : StoredObject) (colour : Colour) (begins : Begins h.objects base object) where
  abbrev recoloured : Heap
  recoloured = with_object h base (Some (record object { colour = colour }))

  place : base / 16 ≡ begins.grain
  place = let at = begins.aligned in omega arith

  -- an object of another colour is seen with that colour
  pub recoloured-seen : views_of recoloured.objects
      ≡ with_entry base (Some (record (view_of_stored object) { colour = colour })) (views_of h.objects)
  recoloured-seen =
      map-set (option_map view_of_stored) h.objects (base / 16) (Some (record object { colour = colour }))

  -- and all else is as it was
  pub recoloured-rest : IsSameButColours h recoloured
  recoloured-rest =
      let is : slice_get h.objects (base / 16) ≡ Some (Some object) = ap (slice_get h.objects) place ∙ begins.is in
      ap (λ os. record h { objects = os })
      (map-set_alike (option_map white_object) h.objects (base / 16) (Some object)
      (Some (record object { colour = colour })) is refl)

-- where one entry changes, what begins elsewhere began before
pub entry-elsewhere : (objects : ObjectsByBase) (base other : ℕ) (new object : ObjectView)
    → Begins (with_entry base (Some new) objects) other object → other ≢ 16 * (base / 16)
    → Begins objects other object
entry-elsewhere objects base other new object begins apart = record {
  grain = begins.grain;
  aligned = begins.aligned;
  is =
      let at = begins.aligned in
      let d : begins.grain ≢ base / 16 = λ e. apart (at ∙ ap (λ n. 16 * n) e) in
      sym (get-set_other objects (base / 16) begins.grain (Some new) d) ∙ begins.is;
}

-- and what began there is the new one
pub entry-here : (objects : ObjectsByBase) (base : ℕ) (old new : ObjectView) → Begins objects base old
    → Begins (with_entry base (Some new) objects) base new
entry-here objects base old new begins =
    let at = begins.aligned in
    let place : base / 16 ≡ begins.grain = omega arith in
    record {
      grain = begins.grain;
      aligned = begins.aligned;
      is =
          ap (λ n. slice_get (slice_set objects n (Some new)) begins.grain) place
          ∙ get-set_same objects begins.grain (Some old) (Some new) begins.is;
    }

pub entry-apart : (objects : ObjectsByBase) (base other : ℕ) (old new object : ObjectView) → Begins objects base old
    → Begins (with_entry base (Some new) objects) other object → other ≢ base → Begins objects other object
entry-apart objects base other old new object here begins apart =
    let at = here.aligned in
    let whole : 16 * (base / 16) ≡ base = omega arith in
    entry-elsewhere objects base other new object begins (λ e. apart (e ∙ whole))

-- what begins elsewhere begins there still
pub entry-kept : (objects : ObjectsByBase) (base other : ℕ) (old new object : ObjectView) → Begins objects base old
    → Begins objects other object → other ≢ base → Begins (with_entry base (Some new) objects) other object
entry-kept objects base other old new object here begins apart =
    let at = here.aligned in
    let there = begins.aligned in
    let place : 16 * (base / 16) ≡ base = omega arith in
    let d : begins.grain ≢ base / 16 = λ e. apart (there ∙ ap (λ n. 16 * n) e ∙ place) in
    record {
      grain = begins.grain;
      aligned = begins.aligned;
      is = get-set_other objects (base / 16) begins.grain (Some new) d ∙ begins.is;
    }

-- once the object is black the marker knows the others without it
pub known-blackened : (old new : Marker) (objects : ObjectsByBase) (base : ℕ) (object : ObjectView)
    → Begins objects base object → new.queue ≡ old.queue → new.left_out ≡ old.left_out
    → IfSome old.partly (λ p. p.base ≡ base) → AreKnown old objects
    → AreKnown new (with_entry base (Some (record object { colour = Black })) objects)
known-blackened old new objects base object here queue left own known other entry begins gray =
    let black : ObjectView = record object { colour = Black } in
    let now = entry-here objects base object black here in
    let apart : other ≢ base = λ e.
    black_not_gray (ap (λ (v : ObjectView). v.colour)
    (begins_same (with_entry base (Some black) objects) base black entry now
    (subst (λ (b : ℕ). Begins (with_entry base (Some black) objects) b entry) e begins)) ∙ gray) in
    known-told new other (known-elsewhere old new base queue left own other apart
    (told-known old other
    (known other entry (entry-apart objects base other object black entry here begins apart) gray)))

-- and where it is scanned in part it is known by that
pub known-partly : (old new : Marker) (objects : ObjectsByBase) (p : PartlyScannedView) → new.queue ≡ old.queue
    → new.left_out ≡ old.left_out → new.partly ≡ Some p → IfSome old.partly (λ q. q.base ≡ p.base)
    → AreKnown old objects → AreKnown new objects
known-partly old new objects p queue left is own known base object begins gray = elim (cases_eq base p.base) [
  | inl e ↦ known-told new base (IsKnown.Is_partly_scanned p is (sym e))
  | inr d ↦
      known-told new base
      (known-elsewhere old new p.base queue left own base d (told-known old base (known base object begins gray)))
]

-- how many slots a part has
pub length-part_words : (from : PartlyScannedView) (object : ObjectView)
    → length (part_words from object) ≡ min 64 (length (scanned_words_of object) - from.slots_done)
length-part_words from object =
    length-take 64 (drop from.slots_done (scanned_words_of object))
    ∙ ap (min 64) (length-drop from.slots_done (scanned_words_of object))

-- the part that is shaded and then noted is done
pub ended-advanced : (objects : ObjectsByBase) (from : PartlyScannedView) (object : ObjectView) (mid after : Marking)
    (end count : ℕ) → Begins objects from.base object → object.colour ≡ Gray
    → mid.objects ≡ with_grayed_objects (part_words from object) objects → end ≡ part_end from object
    → count ≡ length (scanned_words_of object) → from.slots_done ≤ count
    → IsEnded mid (record { base = from.base; slots_done = end }) count after → IsAdvanced objects from object after
ended-advanced objects from object mid after end count begins gray grayed is all fits
    (IsEnded.Is_black own there whole now none) =
    let stays : Begins mid.objects from.base object =
    subst (λ (os : ObjectsByBase). Begins os from.base object) (sym grayed)
    (gray-stays (part_words from object) objects from.base object begins gray) in
    let same : own ≡ object = begins_same mid.objects from.base own object there stays in
    IsAdvanced.Is_black (sym is ∙ whole ∙ all)
    (now ∙ ap (λ (o : ObjectView). with_entry from.base (Some (record o { colour = Black })) mid.objects) same
    ∙ ap (with_entry from.base (Some (record object { colour = Black }))) grayed) none
ended-advanced objects from object mid after end count begins gray grayed is all fits
    (IsEnded.Is_under_scan some now partly) =
    let size = length-part_words from object in
    let below : part_end from object < length (scanned_words_of object) = omega arith in
    IsAdvanced.Is_under_scan below (now ∙ grayed)
    (partly ∙ ap (λ (n : ℕ). Some (record { base = from.base; slots_done = n })) is)

-- and what is scanned in part then has some slots done and some left
pub advanced-under : (objects : ObjectsByBase) (from : PartlyScannedView) (object : ObjectView) (after : Marking)
    → Begins objects from.base object → object.colour ≡ Gray → from.slots_done ≤ length (scanned_words_of object)
    → IsAdvanced objects from object after → IfSome after.marker.partly (IsUnderScan after.objects)
advanced-under objects from object after begins gray fits (IsAdvanced.Is_black whole now none) =
    subst (λ (p : Option PartlyScannedView). IfSome p (IsUnderScan after.objects)) (sym none) tt
advanced-under objects from object after begins gray fits (IsAdvanced.Is_under_scan below now partly) =
    let size = length-part_words from object in
    subst (λ (p : Option PartlyScannedView). IfSome p (IsUnderScan after.objects)) (sym partly)
    (under-told after.objects (record { base = from.base; slots_done = part_end from object }) (record {
      object = object;
      begins = subst (λ (os : ObjectsByBase). Begins os from.base object) (sym now)
          (gray-stays (part_words from object) objects from.base object begins gray);
      gray = gray;
      some_done = omega arith;
      some_left = below;
    }))

-- one more slot of a part
pub take-next-slot : (xs : List ℕ) (from s : ℕ) → from ≤ s → s < length xs
    → take (s + 1 - from) (drop from xs) ≡ take (s - from) (drop from xs) ++ (slice_index xs s ∷ [])
take-next-slot xs from s begun below =
    let size = length-drop from xs in
    let next : s + 1 - from ≡ s - from + 1 = omega arith in
    let whole : from + (s - from) ≡ s = omega arith in
    ap (λ (n : ℕ). take n (drop from xs)) next ∙ take-next (drop from xs) (s - from) (omega arith)
    ∙ ap (λ (w : ℕ). take (s - from) (drop from xs) ++ (w ∷ []))
    (get_or-drop from xs (s - from) 0 ∙ ap (slice_index xs) whole)

-- what is told of the stored object is told of the one that is seen
pub count-seen : (h : Heap) (base count : ℕ)
    → ((stored : StoredObject) → Begins h.objects base stored
    → count ≡ length (scanned_words_of (view_of_stored stored)))
    → (object : ObjectView) → Begins (views_of h.objects) base object → count ≡ length (scanned_words_of object)
count-seen h base count told object begins =
    let stored = viewed-stored h.objects base object begins in
    told stored.object stored.begins ∙ ap (λ (v : ObjectView). length (scanned_words_of v)) stored.is

-- the object that is seen has the colour that is stored
pub colour-seen : (h : Heap) (base : ℕ) (colour : Colour) → HasColour h base colour → (object : ObjectView)
    → Begins (views_of h.objects) base object → object.colour ≡ colour
colour-seen h base colour has object begins =
    ap (λ (v : ObjectView). v.colour)
    (begins_same (views_of h.objects) base object (view_of_stored has.object) begins
    (stored-viewed h.objects base has.object has.begins)) ∙ has.is

-- the words of a part, by how many slots it has
pub part-words : (from : PartlyScannedView) (object : ObjectView) (slots : ℕ)
    → slots ≡ min 64 (length (scanned_words_of object) - from.slots_done)
    → take slots (drop from.slots_done (scanned_words_of object)) ≡ part_words from object
part-words from object slots is =
    ap (λ (n : ℕ). take n (drop from.slots_done (scanned_words_of object)))
    (is ∙ ap (min 64) (sym (length-drop from.slots_done (scanned_words_of object))))
    ∙ take_min 64 (drop from.slots_done (scanned_words_of object))
