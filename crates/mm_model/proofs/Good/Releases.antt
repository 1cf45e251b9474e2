-- A state without some of its live objects is good, where nothing that stays refers to one of them.
use Rattle.std.proofs.Common.{◌≡◌, ℕ, ◌≤◌, Bool, true, false, ◌||◌, List, [], ◌∷◌, map, take, Option, Some, None}
use Rattle.std.proofs.Common.{eqb-true, refl, sym, ap, ◌∙◌, subst, arith}
use Rattle.std.proofs.lemmas.List.{length-map}
use Rattle.std.proofs.lemmas.List.Sums.{sum_by-append}
use Rattle.std.proofs.lemmas.Option.{slice_get-map}
use Rattle.std.specs.Prelude.{IsTrue, IfSome, slice_get, ◌&&◌, ◌==◌, if◌then◌else◌}
use Rattle.std.specs.List.{AllByRecursion, flat_map}
use Rattle.std.specs.Option.{option_map, option_and_then, option_map_or}
use Rattle.mm_model.specs.declared.object.Kind.{Kind}
use Rattle.mm_model.specs.Value.{Value}
use Rattle.mm_model.specs.Object.{Object, is_live, is_counted, live_objects}
use Rattle.mm_model.specs.State.{State, Area, Cycle, PartlyScanned, Lives}
use Rattle.mm_model.specs.Words.{SlotKind, slot_kind, cell_kind, counted_slots, scanned_slots, counted_cell_words}
use Rattle.mm_model.specs.Words.{counted_words, names, falls}
use Rattle.mm_model.specs.Meaning.{keeps, kept_origin, stored}
use Rattle.mm_model.specs.Count.{refs, begins_counted, names_counted}
use Rattle.mm_model.specs.Places.Place.{object_piece, area_piece, live_pieces}
use Rattle.mm_model.specs.Phase.{lists, is_freed, is_freed_birth, unless_freed, after_release, partly_scanned_left}
use Rattle.mm_model.specs.Phase.{cycle_left, released}
use Rattle.mm_model.specs.Good.{IsPlaced, IsReferring, IsStored, IsReferred, is_tight, IsPaired, NamesNoWhite}
use Rattle.mm_model.specs.Good.{IsPartlyScanned, IsColoured, IsShaped, IsGood}
use Rattle.mm_model.proofs.Lists.Growing.{any_get, any_from_get}
use Rattle.mm_model.proofs.Good.Living.{each_after, each_before, each_append}
use Rattle.mm_model.proofs.Lists.Parts.{each-part, all_apart-part, part-behind, each_of-live, each_live-of}
use Rattle.mm_model.proofs.Lists.Parts.{map_live-part, count_live-part}
use Rattle.mm_model.proofs.Good.Making.Shapes.{shaped-alike}
use Rattle.mm_model.proofs.Places.Placing.{both}

-- the object with a birth number is none of those that are freed
abbrev pub Stays : State → List ℕ → ℕ → Type 0
Stays a bases birth = (object : Object) → Lives a birth object → lists bases object.base ≡ false

-- the value refers to nothing that is freed
abbrev pub RefersOn : State → List ℕ → Value → Type 0
RefersOn a bases value = IfSome value.origin (Stays a bases)

-- no live counted object that begins at the word is freed
abbrev pub HoldsOn : State → List ℕ → ℕ → Type 0
HoldsOn a bases word =
    (birth : ℕ) (object : Object) → Lives a birth object → IsTrue (is_counted object.kind) → object.base ≡ word
    → lists bases object.base ≡ false

-- Nothing that stays refers to what is freed.
pub record IsClosed (a : State) (bases : List ℕ) : Type 0 where
  pub stack : AllByRecursion (RefersOn a bases) a.stack
  pub slots : (birth : ℕ) (object : Object) → Lives a birth object → lists bases object.base ≡ false
      → (s : ℕ) (value : Value) → slice_get object.slots s ≡ Some value → RefersOn a bases value
  pub cells : (n : ℕ) (area : Area) → slice_get a.areas n ≡ Some area → (s : ℕ) (value : Value)
      → slice_get area.cells s ≡ Some value → RefersOn a bases value
  pub counted_slots : (birth : ℕ) (object : Object) → Lives a birth object → lists bases object.base ≡ false
      → AllByRecursion (HoldsOn a bases) (counted_slots object)
  pub counted_cells : AllByRecursion (HoldsOn a bases) (counted_cell_words a)

module _ (a : State) (bases : List ℕ) where
  -- what lives afterwards, as it was: it isn't listed
  pub record Stayed (birth : ℕ) (object : Object) : Type 0 where
    pub before : Object
    pub lived : Lives a birth before
    pub unlisted : lists bases before.base ≡ false
    pub is : record before { partner = unless_freed a bases before.partner } ≡ object

  pub stayed : (birth : ℕ) (object : Object) → Lives (released bases a) birth object → Stayed birth object
  stayed birth object h = by_birth (slice_get a.objects birth) refl
    where
      by_freed : (o : Object) → slice_get a.objects birth ≡ Some o → (freed : Bool) → is_freed bases o ≡ freed
          → (if freed then record o { gone = true } else record o { partner = unless_freed a bases o.partner })
          ≡ object → Stayed birth object
      by_freed o e true f same = let live = ap is_live same ∙ h.live in cc
      by_freed o e false f same =
          let live : is_live o ≡ true = ap is_live same ∙ h.live in
          record {
            before = o;
            lived = record { is = e; live = live };
            unlisted = sym (ap (λ c. c && lists bases o.base) live) ∙ f;
            is = same;
          }

      by_birth : (found : Option Object) → slice_get a.objects birth ≡ found → Stayed birth object
      by_birth None e =
          let none = ap (option_map (after_release a bases)) (sym e)
          ∙ sym (slice_get-map (after_release a bases) a.objects birth) ∙ h.is in
          cc
      by_birth (Some o) e =
          let is : Some (after_release a bases o) ≡ Some object =
          ap (option_map (after_release a bases)) (sym e)
          ∙ sym (slice_get-map (after_release a bases) a.objects birth) ∙ h.is in
          let same : after_release a bases o ≡ object = cc in
          by_freed o e (is_freed bases o) refl same

  -- and what isn't listed goes on to live
  pub stays_lives : (birth : ℕ) (object : Object) → Lives a birth object → lists bases object.base ≡ false
      → Lives (released bases a) birth (record object { partner = unless_freed a bases object.partner })
  stays_lives birth object h e =
      let free : is_freed bases object ≡ false = ap (λ c. c && lists bases object.base) h.live ∙ e in
      record {
        is = slice_get-map (after_release a bases) a.objects birth
            ∙ ap (option_map (after_release a bases)) h.is
            ∙ ap (λ c. Some (if c then record object { gone = true }
            else record object { partner = unless_freed a bases object.partner })) free;
        live = h.live;
      }

module _ (a : State) (good : IsGood a) (bases : List ℕ) (closed : IsClosed a bases) where
  abbrev b : State
  b = released bases a

  abbrev change : Object → Object
  change object = after_release a bases object

  -- the object as it was, if it isn't freed
  change-lives : (o : Object) → is_live (change o) ≡ true → (is_live o ≡ true) × (is_freed bases o ≡ false)
  change-lives o e = split (is_freed bases o) refl e
    where
      split : (c : Bool) → is_freed bases o ≡ c
          → is_live (if c then record o { gone = true } else record o { partner = unless_freed a bases o.partner })
          ≡ true
          → (is_live o ≡ true) × (is_freed bases o ≡ false)
      split true p q = cc
      split false p q = (q, p)

  change-stays : (o : Object) → is_freed bases o ≡ false
      → change o ≡ record o { partner = unless_freed a bases o.partner }
  change-stays o e =
      ap (λ c. if c then record o { gone = true } else record o { partner = unless_freed a bases o.partner }) e

  change-kind : (o : Object) → (change o).kind ≡ o.kind
  change-kind o = split (is_freed bases o)
    where
      split : (c : Bool)
          → (if c then record o { gone = true } else record o { partner = unless_freed a bases o.partner }).kind
          ≡ o.kind
      split true = refl
      split false = refl

  kept_origin-released : (kind : SlotKind) (birth : ℕ) → kept_origin b kind birth ≡ kept_origin a kind birth
  kept_origin-released kind birth =
      ap (option_and_then (λ (o : Object). if keeps kind o.kind then Some birth else None))
      (slice_get-map change a.objects birth)
      ∙ split (slice_get a.objects birth)
    where
      split : (found : Option Object)
          → option_and_then (λ (o : Object). if keeps kind o.kind then Some birth else None) (option_map change found)
          ≡ option_and_then (λ (o : Object). if keeps kind o.kind then Some birth else None) found
      split None = refl
      split (Some o) = ap (λ (k : Kind). if keeps kind k then Some birth else None) (change-kind o)

  stored-released : (kind : SlotKind) (value : Value) → stored b kind value ≡ stored a kind value
  stored-released kind value = ap (λ o. record value { origin = o }) (split value.origin)
    where
      split : (origin : Option ℕ) → option_and_then (kept_origin b kind) origin
          ≡ option_and_then (kept_origin a kind) origin
      split None = refl
      split (Some birth) = kept_origin-released kind birth

  referring : (value : Value) → RefersOn a bases value → IsReferring a value → IsReferring b value
  referring value on h = split value.origin on h
    where
      split : (origin : Option ℕ) → IfSome origin (Stays a bases)
          → IfSome origin (λ birth. (o : Object) × Lives a birth o × IsTrue (falls value.word o.base o.extent))
          → IfSome origin (λ birth. (o : Object) × Lives b birth o × IsTrue (falls value.word o.base o.extent))
      split None on h = tt
      split (Some birth) on h =
          let on_then = stays_lives a bases birth h.0 h.1 (on h.0 h.1) in
          (record h.0 { partner = unless_freed a bases h.0.partner }, on_then, h.2)

  is_stored : (kind : SlotKind) (value : Value) → RefersOn a bases value → IsStored a kind value → IsStored b kind value
  is_stored kind value on h =
      record { refers = referring value on h.refers; kept = stored-released kind value ∙ h.kept }

  each_referring : (values : List Value) → AllByRecursion (RefersOn a bases) values
      → AllByRecursion (IsReferring a) values → AllByRecursion (IsReferring b) values
  each_referring [] on h = tt
  each_referring (v ∷ vs) on h = (referring v on.0 h.0, each_referring vs on.1 h.1)

  referred : IsReferred b
  referred =
      record {
        stack = each_referring a.stack closed.stack good.referred.stack;
        slots = λ birth object h s value e.
            let w = stayed a bases birth object h in
            let here : slice_get w.before.slots s ≡ Some value =
            ap (λ (o : Object). slice_get o.slots s) w.is ∙ e in
            subst (λ (o : Object). IsStored b (slot_kind o s) value) w.is
            (is_stored (slot_kind w.before s) value (closed.slots birth w.before w.lived w.unlisted s value here)
            (good.referred.slots birth w.before w.lived s value here));
        cells = λ n area is s value e.
            is_stored (cell_kind area s) value (closed.cells n area is s value e)
            (good.referred.cells n area is s value e);
      }

  -- a word that is tight stays so where its object does
  tight_on : (word : ℕ) → IsTrue (is_tight a word) → HoldsOn a bases word → IsTrue (is_tight b word)
  tight_on word h on = split (word == 0) refl h
    where
      split : (zero : Bool) → (word == 0) ≡ zero → (zero || names_counted a word) ≡ true
          → (zero || names_counted b word) ≡ true
      split true p q = refl
      split false p q =
          let hit = any_get (begins_counted word) a.objects q in
          let parts = both _ _ hit.3 in
          let live = both _ _ parts.0 in
          let lives : Lives a hit.0 hit.1 = record { is = hit.2; live = live.0 } in
          let there = stays_lives a bases hit.0 hit.1 lives (on hit.0 hit.1 lives live.1 (eqb-true _ _ parts.1)) in
          any_from_get (begins_counted word) b.objects hit.0 _ there.is hit.3

  each_both_words : (P Q R : ℕ → Type 0) → ((w : ℕ) → P w → Q w → R w) → (ws : List ℕ) → AllByRecursion P ws
      → AllByRecursion Q ws → AllByRecursion R ws
  each_both_words P Q R f [] h k = tt
  each_both_words P Q R f (w ∷ ws) h k = (f w h.0 k.0, each_both_words P Q R f ws h.1 k.1)

  tight : AllByRecursion (λ word. IsTrue (is_tight b word)) (counted_words b)
  tight =
      let Before : ℕ → Type 0 = λ word. IsTrue (is_tight a word) in
      let After : ℕ → Type 0 = λ word. IsTrue (is_tight b word) in
      let slots = flat_map counted_slots (live_objects a.objects) in
      each_append After (flat_map counted_slots (live_objects b.objects)) (counted_cell_words a)
      (each_live-of After counted_slots b.objects
      (λ i o e l.
      let w = stayed a bases i o (record { is = e; live = l }) in
      let words = each_of-live Before counted_slots a.objects
      (each_before Before slots (counted_cell_words a) good.tight) i w.before w.lived.is w.lived.live in
      subst (λ (x : Object). AllByRecursion After (counted_slots x)) w.is
      (each_both_words Before (HoldsOn a bases) After tight_on (counted_slots w.before) words
      (closed.counted_slots i w.before w.lived w.unlisted))))
      (each_both_words Before (HoldsOn a bases) After tight_on (counted_cell_words a)
      (each_after Before slots (counted_cell_words a) good.tight) closed.counted_cells)

  live_change : (o : Object) → is_live (change o) ≡ true → is_live o ≡ true
  live_change o e = (change-lives o e).0

  slots_change : (o : Object) → is_live (change o) ≡ true → counted_slots (change o) ≡ counted_slots o
  slots_change o e = ap (λ (x : Object). counted_slots x) (change-stays o (change-lives o e).1)

  piece_change : (o : Object) → is_live (change o) ≡ true → object_piece (change o) ≡ object_piece o
  piece_change o e = ap (λ (x : Object). object_piece x) (change-stays o (change-lives o e).1)

  -- counts fall at most
  pub refs-released : (base : ℕ) → refs b base ≤ refs a base
  refs-released base =
      let word : ℕ → ℕ = λ w. if w == base then 1 else 0 in
      let fewer = count_live-part change live_change (λ w. w == base) counted_slots slots_change a.objects in
      let before = sum_by-append word (flat_map counted_slots (live_objects a.objects)) (counted_cell_words a) in
      let after = sum_by-append word (flat_map counted_slots (live_objects b.objects)) (counted_cell_words a) in
      omega (arith, fewer, before, after)

  counted : (birth : ℕ) (object : Object) → Lives b birth object → IsTrue (is_counted object.kind)
      → object.sticky ≡ false → refs b object.base ≤ 254
  counted birth object h is free =
      let w = stayed a bases birth object h in
      let most = good.counted birth w.before w.lived (ap (λ (o : Object). is_counted o.kind) w.is ∙ is)
      (ap (λ (o : Object). o.sticky) w.is ∙ free) in
      let fewer = refs-released object.base in
      let same : refs a object.base ≡ refs a w.before.base = ap (λ (o : Object). refs a o.base) (sym w.is) in
      omega arith

  shaped : (birth : ℕ) (object : Object) → Lives b birth object → IsShaped object
  shaped birth object h =
      let w = stayed a bases birth object h in
      subst IsShaped w.is
      (shaped-alike w.before (record w.before { partner = unless_freed a bases w.before.partner })
      (record { extent = refl; kind = refl; finalize = refl; counted = refl; slots = refl })
      (good.shaped birth w.before w.lived))

  placed : IsPlaced b.settings.max (live_pieces b)
  placed =
      let part = part-behind (map area_piece a.areas) (map object_piece (live_objects b.objects))
      (map object_piece (live_objects a.objects))
      (map_live-part change live_change object_piece piece_change a.objects) in
      record {
        inside = each-part _ (live_pieces b) (live_pieces a) part good.placed.inside;
        apart = all_apart-part (live_pieces b) (live_pieces a) part good.placed.apart;
      }

  -- an object's partner, where neither is freed
  freed_birth-lives : (birth : ℕ) (object : Object) → Lives a birth object
      → is_freed_birth a bases birth ≡ lists bases object.base
  freed_birth-lives birth object h =
      ap (λ found. option_map_or (is_freed bases) found false) h.is
      ∙ ap (λ c. c && lists bases object.base) h.live

  paired : (birth : ℕ) (object : Object) → Lives b birth object → IfSome object.partner (IsPaired b birth object)
  paired birth object h =
      let w = stayed a bases birth object h in
      subst (λ (o : Object). IfSome o.partner (IsPaired b birth o)) w.is
      (split w.before.partner w.before w.lived w.unlisted (good.paired birth w.before w.lived))
    where
      stay : (before : Object) → Lives a birth before → lists bases before.base ≡ false → (other : ℕ)
          → IsPaired a birth before other → (c : Bool) → is_freed_birth a bases other ≡ c
          → IfSome (if c then None else Some other)
          (IsPaired b birth (record before { partner = unless_freed a bases before.partner }))
      stay before lived unlisted other p true e = tt
      stay before lived unlisted other p false e =
          let there : lists bases p.partner.base ≡ false = sym (freed_birth-lives other p.partner p.lives) ∙ e in
          let back : unless_freed a bases p.partner.partner ≡ Some birth =
          ap (unless_freed a bases) p.back
          ∙ ap (λ c. if c then None else Some birth) (freed_birth-lives birth before lived ∙ unlisted) in
          record {
            partner = record p.partner { partner = unless_freed a bases p.partner.partner };
            lives = stays_lives a bases other p.partner p.lives there;
            back = back;
            one_weak = p.one_weak;
          }

      split : (partner : Option ℕ) → (before : Object) → Lives a birth before → lists bases before.base ≡ false
          → IfSome partner (IsPaired a birth before)
          → IfSome (unless_freed a bases partner)
          (IsPaired b birth (record before { partner = unless_freed a bases before.partner }))
      split None before lived unlisted p = tt
      split (Some other) before lived unlisted p =
          stay before lived unlisted other p (is_freed_birth a bases other) refl

  module _ (cycle : Cycle) (coloured : IsColoured a cycle) where
    no_white : (words : List ℕ) → NamesNoWhite a cycle words → NamesNoWhite b (cycle_left a bases cycle) words
    no_white words f birth object h white named =
        let w = stayed a bases birth object h in
        f birth w.before w.lived white (ap (λ (o : Object). names words o) w.is ∙ named)

    partly_scanned : (found : Option PartlyScanned) → IfSome found (IsPartlyScanned a cycle)
        → IfSome (partly_scanned_left a bases found) (IsPartlyScanned b (cycle_left a bases cycle))
    partly_scanned None h = tt
    partly_scanned (Some p) h = split (is_freed_birth a bases p.object) refl
      where
        split : (c : Bool) → is_freed_birth a bases p.object ≡ c
            → IfSome (if c then None else Some p) (IsPartlyScanned b (cycle_left a bases cycle))
        split true e = tt
        split false e =
            record {
              object = record h.object { partner = unless_freed a bases h.object.partner };
              lives = stays_lives a bases p.object h.object h.lives
                  (sym (freed_birth-lives p.object h.object h.lives) ∙ e);
              gray = h.gray;
              some_done = h.some_done;
              some_left = h.some_left;
              names = no_white (take p.slots_done (scanned_slots h.object)) h.names;
            }

    cycle_coloured : IsColoured b (cycle_left a bases cycle)
    cycle_coloured =
        record {
          each = coloured.each ∙ sym (length-map a.objects change);
          black = λ birth object h black.
              let w = stayed a bases birth object h in
              subst (λ (o : Object). NamesNoWhite b (cycle_left a bases cycle) (scanned_slots o)) w.is
              (no_white (scanned_slots w.before) (coloured.black birth w.before w.lived black));
          partly_scanned = partly_scanned cycle.partly_scanned coloured.partly_scanned;
        }

  coloured_left : (cycle : Option Cycle) → IfSome cycle (IsColoured a)
      → IfSome (option_map (cycle_left a bases) cycle) (IsColoured b)
  coloured_left None h = tt
  coloured_left (Some cycle) h = cycle_coloured cycle h

  -- The state without the objects at these bases is good.
  pub released_is_good : IsGood b
  released_is_good =
      record {
        growing = good.growing;
        placed = placed;
        shaped = shaped;
        areas_shaped = good.areas_shaped;
        numbered = good.numbered;
        referred = referred;
        tight = tight;
        counted = counted;
        paired = paired;
        coloured = coloured_left a.cycle good.coloured;
      }
