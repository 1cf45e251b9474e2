-- Which changes keep the queue tidy, and how many entries are stale afterwards.
use Rattle.std.proofs.Common.{◌≡◌, ◌≢◌, ℕ, suc, ◌+◌, ◌-◌, ◌*◌, ◌/◌, ◌<◌, ◌≤◌, Bool, true, false, List, [], ◌∷◌, map}
use Rattle.std.proofs.Common.{length, drop, Option, Some, None, refl, sym, ap, subst, ◌∙◌, arith, eqb, eqb-true}
use Rattle.std.specs.Prelude.{slice_get, slice_index, ◌==◌, ◌||◌, if◌then◌else◌}
use Rattle.std.specs.List.{list_any, AllByRecursion, IsDistinct}
use Rattle.std.proofs.lemmas.Bool.{eq-eqb}
use Rattle.std.proofs.lemmas.List.{length-set}
use Rattle.std.proofs.lemmas.Map.Steps.{length-le_from_distinct_below}
use Rattle.std.proofs.lemmas.Option.{slice_get_within}
use Rattle.mm_model.specs.declared.object.Colour.{Colour}
use Rattle.mm_model.specs.declared.object.Colour.TheVariants.{White, Gray, Black}
use Rattle.mm_model.specs.Views.ByBase.{Begins, with_entry}
use Rattle.mm_model.specs.Views.ObjectView.{ObjectView, ObjectsByBase, holds_base}
use Rattle.mm_model.specs.Sets.Marking.{is_gray}
use Rattle.mm_model.specs.Views.View.{PartlyScannedView}
use Rattle.mm_model.proofs.Lists.Replaced.{get-set_other}
use Rattle.mm_model.proofs.Lists.Truth.{no_other}
use Rattle.mm_model.proofs.Lists.Keyed.{refuted}
use Rattle.mm_model.proofs.View.ByBase.Entries.{begins_same}
use Rattle.mm_mark.specs.Marker.{Marker, IsNoted}
use Rattle.mm_mark.specs.Marker.{is_gray_entry, has_gray}
use Rattle.mm_mark.specs.Stale.{stale_in, IsPlace, AreDistinctPlaces, known_bases, IsTidy, HasFewStale}
use Rattle.mm_mark.proofs.Reading.{white_not_gray, black_not_white}
use Rattle.mm_mark.proofs.Advancing.{entry-here, entry-apart}

-- a base that isn't held isn't the first, and isn't held by the rest
pub not_first : (b : ℕ) (bs : List ℕ) (x : ℕ) → holds_base (b ∷ bs) x ≡ false → x ≢ b
not_first b bs x e same =
    no_other e (ap (λ (t : Bool). t || holds_base bs x) (eq-eqb b x (sym same)))

pub not_rest : (b : ℕ) (bs : List ℕ) (x : ℕ) → holds_base (b ∷ bs) x ≡ false → holds_base bs x ≡ false
not_rest b bs x e = split (b == x) e
  where
    split : (t : Bool) → (t || holds_base bs x) ≡ false → holds_base bs x ≡ false
    split true h = cc
    split false h = h

not_held : (b : ℕ) (bs : List ℕ) (x : ℕ) → x ≢ b → holds_base bs x ≡ false → holds_base (b ∷ bs) x ≡ false
not_held b bs x apart e =
    ap (λ (t : Bool). t || holds_base bs x) (refuted (b == x) (λ h. apart (sym (eqb-true b x h)))) ∙ e

-- the number of a place, from the second page on
abbrev key : ℕ → ℕ
key base = base / 16 - 256

length-keys : (bs : List ℕ) → length (map key bs) ≡ length bs
length-keys [] = refl
length-keys (b ∷ bs) = ap suc (length-keys bs)

place_key : (entries b : ℕ) → IsPlace entries b → key b < entries - 256
place_key entries b p = let at = p.aligned in let from = p.from in let below = p.below in omega arith

same_key : (entries b x : ℕ) → IsPlace entries b → IsPlace entries x → key b ≡ key x → x ≡ b
same_key entries b x p q e =
    let at = p.aligned in let there = q.aligned in
    let from = p.from in let low = q.from in
    omega arith

keys-differ : (entries b : ℕ) (bs : List ℕ) → IsPlace entries b → AreDistinctPlaces entries bs → holds_base bs b ≡ false
    → AllByRecursion (λ y. eqb (key b) y ≡ false) (map key bs)
keys-differ entries b [] p places e = tt
keys-differ entries b (x ∷ bs) p places e = (
  refuted (eqb (key b) (key x))
      (λ h. not_first x bs b e (sym (same_key entries b x p places.0 (eqb-true (key b) (key x) h)))),
  keys-differ entries b bs p places.2 (not_rest x bs b e),
)

keys-distinct : (entries : ℕ) (bs : List ℕ) → AreDistinctPlaces entries bs → IsDistinct eqb (map key bs)
unfolding IsDistinct
keys-distinct entries [] places = tt
keys-distinct entries (b ∷ bs) places =
    (keys-differ entries b bs places.0 places.2 places.1, keys-distinct entries bs places.2)

keys-below : (entries : ℕ) (bs : List ℕ) → AreDistinctPlaces entries bs → (q : ℕ)
    → list_any (eqb q) (map key bs) ≡ true → q < entries - 256
keys-below entries [] places q e = absurd (no_other refl e)
keys-below entries (b ∷ bs) places q e = split (eqb q (key b)) refl e (keys-below entries bs places.2 q)
  where
    split : (t : Bool) → eqb q (key b) ≡ t → (t || list_any (eqb q) (map key bs)) ≡ true
        → (list_any (eqb q) (map key bs) ≡ true → q < entries - 256) → q < entries - 256
    split true f h rest =
        let same : q ≡ key b = eqb-true q (key b) f in
        subst (λ (n : ℕ). n < entries - 256) (sym same) (place_key entries b places.0)
    split false f h rest = rest h

-- so many places there are for bases that differ
pub length-places : (entries : ℕ) (bases : List ℕ) → AreDistinctPlaces entries bases → length bases ≤ entries - 256
length-places entries bases places =
    let same = length-keys bases in
    let most = length-le_from_distinct_below (map key bases) (entries - 256) (keys-distinct entries bases places)
    (keys-below entries bases places) in
    omega arith

-- what is told of the entries of a list by base at other places than one that changes
pub stale-elsewhere : (objects : ObjectsByBase) (entries base : ℕ) (new : Option ObjectView) (queue : List ℕ)
    → IsPlace entries base → AreDistinctPlaces entries queue → holds_base queue base ≡ false
    → stale_in (with_entry base new objects) queue ≡ stale_in objects queue
stale-elsewhere objects entries base new [] p places e = refl
stale-elsewhere objects entries base new (b ∷ bs) p places e =
    ap (λ (o : Option (Option ObjectView)). (if is_gray_entry o then 0 else 1) + stale_in
    (with_entry base new objects) bs)
    (get-set_other objects (base / 16) (b / 16) new (apart places.0))
    ∙ ap (λ (n : ℕ). (if has_gray objects b then 0 else 1) + n)
    (stale-elsewhere objects entries base new bs p places.2 (not_rest b bs base e))
  where
    apart : IsPlace entries b → b / 16 ≢ base / 16
    apart q same =
        let at = p.aligned in let there = q.aligned in
        not_first b bs base e (omega arith)

-- a gray object is told there
pub gray-entry : (objects : ObjectsByBase) (base : ℕ) (object : ObjectView) → Begins objects base object
    → object.colour ≡ Gray → has_gray objects base ≡ true
gray-entry objects base object begins gray =
    let at = begins.aligned in
    let place : base / 16 ≡ begins.grain = omega arith in
    ap (λ (n : ℕ). is_gray_entry (slice_get objects n)) place ∙ ap is_gray_entry begins.is ∙ ap is_gray gray

-- and where none begins, none is told
pub none-entry : (objects : ObjectsByBase) (entries base : ℕ) → IsPlace entries base
    → ((object : ObjectView) → Begins objects base object → object.colour ≢ Gray) → has_gray objects base ≡ false
none-entry objects entries base p none = split (slice_get objects (base / 16)) refl
  where
    split : (e : Option (Option ObjectView)) → slice_get objects (base / 16) ≡ e → has_gray objects base ≡ false
    split None f = ap is_gray_entry f
    split (Some None) f = ap is_gray_entry f
    split (Some (Some object)) f =
        let at = p.aligned in
        let whole : base ≡ 16 * (base / 16) = omega arith in
        ap is_gray_entry f ∙ dark object.colour (none object (record { grain = base / 16; aligned = whole; is = f }))
      where
        dark : (c : Colour) → c ≢ Gray → is_gray c ≡ false
        dark White d = refl
        dark Gray d = absurd (d refl)
        dark Black d = refl

-- A white object becomes gray and is noted.
module _ (old new : Marker) (objects : ObjectsByBase) (base : ℕ) (object : ObjectView)
    (begins : Begins objects base object) (white : object.colour ≡ White) (noted : IsNoted old new base)
    (from : 4096 ≤ base) (t : IsTidy (record { marker = old; objects = objects })) where
  abbrev gray : ObjectView
  gray = record object { colour = Gray }

  abbrev after : ObjectsByBase
  after = with_entry base (Some gray) objects

  unheld : holds_base (known_bases old.partly old.queue) base ≡ false
  unheld = t.unwhite base object begins white

  place : IsPlace (length objects) base
  place =
      let at = begins.aligned in
      let within = slice_get_within objects begins.grain (Some object) begins.is in
      record { aligned = omega arith; from = from; below = omega arith }

  size : length after ≡ length objects
  size = length-set objects (base / 16) (Some gray)

  more : (p : Option PartlyScannedView) (queue : List ℕ) → holds_base (known_bases p queue) base ≡ false
      → AreDistinctPlaces (length objects) (known_bases p queue)
      → AreDistinctPlaces (length objects) (known_bases p (base ∷ queue))
  more None queue e places = (place, e, places)
  more (Some p) queue e places = (
    places.0,
    not_held base queue p.base (λ same. not_first p.base queue base e (sym same)) places.1,
    (place, not_rest p.base queue base e, places.2),
  )

  queue-unheld : (p : Option PartlyScannedView) (queue : List ℕ) → holds_base (known_bases p queue) base ≡ false
      → holds_base queue base ≡ false
  queue-unheld None queue e = e
  queue-unheld (Some p) queue e = not_rest p.base queue base e

  queue-distinct : (p : Option PartlyScannedView) (queue : List ℕ)
      → AreDistinctPlaces (length objects) (known_bases p queue) → AreDistinctPlaces (length objects) queue
  queue-distinct None queue places = places
  queue-distinct (Some p) queue places = places.2

  still : (p : Option PartlyScannedView) (queue : List ℕ) (x : ℕ) → x ≢ base
      → holds_base (known_bases p queue) x ≡ false → holds_base (known_bases p (base ∷ queue)) x ≡ false
  still None queue x apart e = not_held base queue x apart e
  still (Some p) queue x apart e =
      not_held p.base (base ∷ queue) x (not_first p.base queue x e)
      (not_held base queue x apart (not_rest p.base queue x e))

  whites : (x : ℕ) (o : ObjectView) → Begins after x o → o.colour ≡ White
      → holds_base (known_bases old.partly (base ∷ old.queue)) x ≡ false
  whites x o there is =
      let apart : x ≢ base = λ e.
      white_not_gray (sym is ∙ ap (λ (v : ObjectView). v.colour)
      (begins_same after base o gray (subst (λ (b : ℕ). Begins after b o) e there)
      (entry-here objects base object gray begins))) in
      still old.partly old.queue x apart (t.unwhite x o (entry-apart objects base x object gray o begins there apart)
      is)

  queued : Marker
  queued = record old { queue = base ∷ old.queue }

  -- the queue has room
  roomy : length old.queue ≡ old.room → ⊥
  roomy full =
      let places = queue-distinct None (base ∷ old.queue)
      (place, queue-unheld old.partly old.queue unheld, queue-distinct old.partly old.queue t.distinct) in
      let most = length-places (length objects) (base ∷ old.queue) places in
      let room = t.room in
      let from = place.from in
      let below = place.below in
      absurd (omega arith)

  tidy-queued : IsTidy (record { marker = record old { queue = base ∷ old.queue }; objects = after })
  tidy-queued = record {
    room = let room = t.room in let same = size in omega arith;
    whole = t.whole;
    distinct =
        subst (λ (n : ℕ). AreDistinctPlaces n (known_bases old.partly (base ∷ old.queue))) (sym size)
        (more old.partly old.queue unheld t.distinct);
    unwhite = whites;
  }

  stale-queued : stale_in after (base ∷ old.queue) ≡ stale_in objects old.queue
  stale-queued =
      let told = gray-entry after base gray (entry-here objects base object gray begins) refl in
      let none : 0 + stale_in objects old.queue ≡ stale_in objects old.queue = omega arith in
      ap (λ (b : Bool). (if b then 0 else 1) + stale_in after old.queue) told
      ∙ ap (λ (n : ℕ). 0 + n)
      (stale-elsewhere objects (length objects) base (Some gray) old.queue place
      (queue-distinct old.partly old.queue t.distinct) (queue-unheld old.partly old.queue unheld)) ∙ none

  pub noted-tidy : IsTidy (record { marker = new; objects = after })
  noted-tidy = split noted
    where
      split : IsNoted old new base → IsTidy (record { marker = new; objects = after })
      split (IsNoted.Is_newest e) = subst (λ (m : Marker). IsTidy (record { marker = m; objects = after }))
          (sym e) tidy-queued
      split (IsNoted.Is_left_out full e) = absurd (roomy full)

  pub noted-stale : stale_in after new.queue ≡ stale_in objects old.queue
  noted-stale = split noted
    where
      split : IsNoted old new base → stale_in after new.queue ≡ stale_in objects old.queue
      split (IsNoted.Is_newest e) = ap (λ (m : Marker). stale_in after m.queue) e ∙ stale-queued
      split (IsNoted.Is_left_out full e) = absurd (roomy full)

-- An entry is taken.
module _ (old new : Marker) (objects : ObjectsByBase) (entry : ℕ) (none : old.partly ≡ None)
    (some : 0 < length old.queue) (first : entry ≡ slice_index old.queue 0)
    (rest : new ≡ record old { queue = drop 1 old.queue }) (t : IsTidy (record { marker = old; objects = objects }))
  where
    whole-queue : old.queue ≡ entry ∷ drop 1 old.queue
    whole-queue = split old.queue some first
      where
        split : (queue : List ℕ) → 0 < length queue → entry ≡ slice_index queue 0 → queue ≡ entry ∷ drop 1 queue
        split [] h e = absurd (omega arith)
        split (x ∷ xs) h e = ap (λ (n : ℕ). n ∷ xs) (sym e)

    distinct-queue : AreDistinctPlaces (length objects) (entry ∷ drop 1 old.queue)
    distinct-queue =
        subst (AreDistinctPlaces (length objects)) whole-queue
        (subst (λ (p : Option PartlyScannedView). AreDistinctPlaces (length objects) (known_bases p old.queue)) none
        t.distinct)

    unwhite-queue : (base : ℕ) (object : ObjectView) → Begins objects base object → object.colour ≡ White
        → holds_base (entry ∷ drop 1 old.queue) base ≡ false
    unwhite-queue base object begins white =
        subst (λ (q : List ℕ). holds_base q base ≡ false) whole-queue
        (subst (λ (p : Option PartlyScannedView). holds_base (known_bases p old.queue) base ≡ false) none
        (t.unwhite base object begins white))

    -- without it the queue is tidy
    pub dropped-tidy : IsTidy (record { marker = new; objects = objects })
    dropped-tidy =
        subst (λ (m : Marker). IsTidy (record { marker = m; objects = objects })) (sym rest)
        (record {
          room = t.room;
          whole = t.whole;
          distinct =
              subst (λ (p : Option PartlyScannedView). AreDistinctPlaces (length objects)
              (known_bases p (drop 1 old.queue)))
              (sym none) distinct-queue.2;
          unwhite = λ base object begins white.
              subst (λ (p : Option PartlyScannedView). holds_base (known_bases p (drop 1 old.queue)) base ≡ false)
              (sym none)
              (not_rest entry (drop 1 old.queue) base (unwhite-queue base object begins white));
        })

    -- and so it is once the entry's object is scanned in part
    pub taken-tidy : (slots : ℕ) → IsTidy (record {
      marker = record new
          { partly = Some (record { base = entry; slots_done = slots }) };
      objects = objects;
    })
    taken-tidy slots =
        subst (λ (m : Marker). IsTidy (record {
          marker = record m
              { partly = Some (record { base = entry; slots_done = slots }) };
          objects = objects;
        }))
        (sym rest)
        (record { room = t.room; whole = t.whole; distinct = distinct-queue; unwhite = unwhite-queue })

    stale-first : (b : Bool) → has_gray objects entry ≡ b
        → stale_in objects old.queue ≡ (if b then 0 else 1) + stale_in objects new.queue
    stale-first b told =
        ap (stale_in objects) whole-queue
        ∙ ap (λ (x : Bool). (if x then 0 else 1) + stale_in objects (drop 1 old.queue)) told
        ∙ ap (λ (m : Marker). (if b then 0 else 1) + stale_in objects m.queue) (sym rest)

    -- a gray one wasn't stale
    pub taken-stale : (object : ObjectView) → Begins objects entry object → object.colour ≡ Gray
        → stale_in objects new.queue ≡ stale_in objects old.queue
    taken-stale object begins gray =
        let e = stale-first true (gray-entry objects entry object begins gray) in omega (arith, e)

    -- and any other was
    pub dropped-stale : ((object : ObjectView) → Begins objects entry object → object.colour ≢ Gray)
        → stale_in objects new.queue + 1 ≡ stale_in objects old.queue
    dropped-stale dark =
        let e = stale-first false (none-entry objects (length objects) entry distinct-queue.0 dark) in omega (arith, e)

-- What was scanned in part is black now.
module _ (old : Marker) (objects : ObjectsByBase) (p : PartlyScannedView) (object : ObjectView)
    (begins : Begins objects p.base object) (is : old.partly ≡ Some p)
    (t : IsTidy (record { marker = old; objects = objects })) where
  abbrev black : ObjectView
  black = record object { colour = Black }

  abbrev blackened : ObjectsByBase
  blackened = with_entry p.base (Some black) objects

  places-own : AreDistinctPlaces (length objects) (p.base ∷ old.queue)
  places-own =
      subst (λ (o : Option PartlyScannedView). AreDistinctPlaces (length objects) (known_bases o old.queue)) is
      t.distinct

  whites-left : (x : ℕ) (o : ObjectView) → Begins blackened x o → o.colour ≡ White → holds_base old.queue x ≡ false
  whites-left x o there white =
      let apart : x ≢ p.base = λ e.
      black_not_white (ap (λ (v : ObjectView). v.colour)
      (begins_same blackened p.base black o (entry-here objects p.base object black begins)
      (subst (λ (b : ℕ). Begins blackened b o) e there)) ∙ white) in
      not_rest p.base old.queue x
      (subst (λ (q : Option PartlyScannedView). holds_base (known_bases q old.queue) x ≡ false) is
      (t.unwhite x o (entry-apart objects p.base x object black o begins there apart) white))

  pub blackened-tidy : IsTidy (record { marker = record old { partly = None }; objects = blackened })
  blackened-tidy =
      let size : length blackened ≡ length objects = length-set objects (p.base / 16) (Some black) in
      record {
        room = let room = t.room in omega arith;
        whole = t.whole;
        distinct = subst (λ (n : ℕ). AreDistinctPlaces n old.queue) (sym size) places-own.2;
        unwhite = whites-left;
      }

  pub blackened-stale : stale_in blackened old.queue ≡ stale_in objects old.queue
  blackened-stale =
      stale-elsewhere objects (length objects) p.base (Some black) old.queue places-own.0 places-own.2 places-own.1

-- Another number of slots is done.
pub moved-tidy : (old : Marker) (objects : ObjectsByBase) (base done slots : ℕ)
    → old.partly ≡ Some (record { base = base; slots_done = done })
    → IsTidy (record { marker = old; objects = objects })
    → IsTidy (record {
      marker = record old { partly = Some (record { base = base; slots_done = slots }) };
      objects =
          objects;
    })
moved-tidy old objects base done slots is t = record {
  room = t.room;
  whole = t.whole;
  distinct =
      subst (λ (o : Option PartlyScannedView). AreDistinctPlaces (length objects) (known_bases o old.queue)) is
      t.distinct;
  unwhite = λ x o there white.
      subst (λ (q : Option PartlyScannedView). holds_base (known_bases q old.queue) x ≡ false) is
      (t.unwhite x o there white);
}

-- What was scanned in part is forgotten.
pub forgotten-tidy : (old : Marker) (objects : ObjectsByBase) → IsTidy (record { marker = old; objects = objects })
    → IsTidy (record { marker = record old { partly = None }; objects = objects })
forgotten-tidy old objects t = record {
  room = t.room;
  whole = t.whole;
  distinct = less old.partly t.distinct;
  unwhite = λ x o there white. fewer x old.partly (t.unwhite x o there white);
}
  where
    less : (p : Option PartlyScannedView) → AreDistinctPlaces (length objects) (known_bases p old.queue)
        → AreDistinctPlaces (length objects) old.queue
    less None places = places
    less (Some p) places = places.2

    fewer : (x : ℕ) (p : Option PartlyScannedView) → holds_base (known_bases p old.queue) x ≡ false
        → holds_base old.queue x ≡ false
    fewer x None e = e
    fewer x (Some p) e = not_rest p.base old.queue x e

-- an empty queue with room is tidy
pub empty-tidy : (marker : Marker) (objects : ObjectsByBase) → length objects ≤ marker.room + 256
    → marker.left_out ≡ None → marker.queue ≡ [] → marker.partly ≡ None
    → HasFewStale (record { marker = marker; objects = objects }) 0
empty-tidy marker objects room whole empty none = record {
  tidy = record {
    room = room;
    whole = whole;
    distinct =
        subst (AreDistinctPlaces (length objects))
        (sym (ap (known_bases marker.partly) empty ∙ ap (λ (p : Option PartlyScannedView). known_bases p []) none)) tt;
    unwhite = λ base object begins white.
        ap (λ (q : List ℕ). holds_base q base)
        (ap (known_bases marker.partly) empty ∙ ap (λ (p : Option PartlyScannedView). known_bases p []) none);
  };
  few = let e = ap (stale_in objects) empty in omega (arith, e);
}
