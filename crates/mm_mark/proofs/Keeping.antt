-- What callers need: which changes of the objects a marker's knowledge outlasts, and how many entries they make stale.
use Rattle.std.proofs.Common.{◌≡◌, ℕ, ◌+◌, ◌*◌, ◌/◌, ◌≤◌, Bool, true, false, List, [], ◌∷◌, length, Option, Some, None}
use Rattle.std.proofs.Common.{refl, sym, ap, subst, ◌∙◌, arith, eqb-true}
use Rattle.std.specs.Prelude.{slice_get, ◌==◌, ◌||◌, if◌then◌else◌}
use Rattle.mm_model.specs.declared.object.Colour.{Colour}
use Rattle.mm_model.specs.declared.object.Colour.TheVariants.{White, Gray, Black}
use Rattle.mm_model.specs.Views.ObjectView.{ObjectView, ObjectsByBase, holds_base}
use Rattle.mm_model.specs.Sets.Marking.{is_gray}
use Rattle.mm_model.specs.Views.View.{PartlyScannedView}
use Rattle.mm_model.proofs.Lists.Truth.{no_other}
use Rattle.mm_model.proofs.Lists.Keyed.{refuted}
use Rattle.mm_mark.specs.Marker.{Marker, AreKnown}
use Rattle.mm_mark.specs.Colours.{IsGrayAt, IsWhiteAt}
use Rattle.mm_mark.specs.Marker.{is_gray_entry, has_gray}
use Rattle.mm_mark.specs.Stale.{stale_in, IsPlace, AreDistinctPlaces, known_bases, IsTidy, HasFewStale}
use Rattle.mm_mark.proofs.Tidy.{gray-entry, not_rest, not_first}

-- gray objects stay known where each was gray before
pub known-kept : (marker : Marker) (before after : ObjectsByBase)
    → ((base : ℕ) → IsGrayAt after base → IsGrayAt before base) → AreKnown marker before → AreKnown marker after
known-kept marker before after was known base object begins gray =
    let old = was base (record { object = object; begins = begins; is = gray }) in
    known base old.object old.begins old.is

-- the queue stays tidy where each white object was white before
pub tidy-kept : (marker : Marker) (before after : ObjectsByBase) → length after ≡ length before
    → ((base : ℕ) → IsWhiteAt after base → IsWhiteAt before base)
    → IsTidy (record { marker = marker; objects = before }) → IsTidy (record { marker = marker; objects = after })
tidy-kept marker before after size was t = record {
  room = let room = t.room in omega arith;
  whole = t.whole;
  distinct =
      subst (λ (n : ℕ). AreDistinctPlaces n (known_bases marker.partly marker.queue)) (sym size) t.distinct;
  unwhite = λ base object begins white.
      let old = was base (record { object = object; begins = begins; is = white }) in
      t.unwhite base old.object old.begins old.is;
}

-- how many of some entries are among these bases
abbrev among : List ℕ → List ℕ → ℕ
among dead [] = 0
among dead (entry ∷ queue) = (if holds_base dead entry then 1 else 0) + among dead queue

-- none where no base is given
among-none : (queue : List ℕ) → among [] queue ≡ 0
among-none [] = refl
among-none (entry ∷ queue) = let rest = among-none queue in omega (arith, rest)

-- a base that isn't an entry makes no difference
among-other : (base : ℕ) (dead queue : List ℕ) → holds_base queue base ≡ false
    → among (base ∷ dead) queue ≡ among dead queue
among-other base dead [] e = refl
among-other base dead (entry ∷ queue) e =
    let rest = among-other base dead queue (not_rest entry queue base e) in
    let apart : (base == entry) ≡ false = refuted (base == entry)
    (λ h. not_first entry queue base e (eqb-true base entry h)) in
    ap (λ (b : Bool). (if b || holds_base dead entry then 1 else 0) + among (base ∷ dead) queue) apart
    ∙ ap (λ (n : ℕ). (if holds_base dead entry then 1 else 0) + n) rest

one-more : (b : Bool) (n : ℕ) → (if b then 1 else 0) + n ≤ 1 + n
one-more true n = omega arith
one-more false n = omega arith

first-counts : (b : Bool) (m n : ℕ) → m ≤ n + 1 → (if b then 1 else 0) + m ≤ (if b then 1 else 0) + n + 1
first-counts true m n h = omega arith
first-counts false m n h = omega arith

some-counts : (b : Bool) (m n : ℕ) → m ≤ n → m ≤ (if b then 1 else 0) + n
some-counts true m n h = omega arith
some-counts false m n h = omega arith

-- one base more is at most one entry more, since these differ
among-more : (entries base : ℕ) (dead queue : List ℕ) → AreDistinctPlaces entries queue
    → among (base ∷ dead) queue ≤ among dead queue + 1
among-more entries base dead [] places = omega arith
among-more entries base dead (entry ∷ queue) places = split (base == entry) refl
    (among-more entries base dead queue places.2)
  where
    split : (b : Bool) → (base == entry) ≡ b → among (base ∷ dead) queue ≤ among dead queue + 1
        → (if base == entry || holds_base dead entry then 1 else 0) + among (base ∷ dead) queue
        ≤ (if holds_base dead entry then 1 else 0) + among dead queue + 1
    split true e h =
        let same : entry ≡ base = sym (eqb-true base entry e) in
        let rest = among-other base dead queue (subst (λ (x : ℕ). holds_base queue x ≡ false) same places.1) in
        let one = one-more (base == entry || holds_base dead entry) (among (base ∷ dead) queue) in
        let more = some-counts (holds_base dead entry) (among dead queue) (among dead queue) (omega arith) in
        omega (arith, one, rest, more)
    split false e h =
        subst (λ (b : Bool). (if b || holds_base dead entry then 1 else 0) + among (base ∷ dead) queue
        ≤ (if holds_base dead entry then 1 else 0) + among dead queue + 1) (sym e)
        (first-counts (holds_base dead entry) (among (base ∷ dead) queue) (among dead queue) h)

-- so at most as many entries as there are bases
among-few : (entries : ℕ) (dead queue : List ℕ) → AreDistinctPlaces entries queue → among dead queue ≤ length dead
among-few entries [] queue places = let none = among-none queue in omega (arith, none)
among-few entries (base ∷ dead) queue places =
    let more = among-more entries base dead queue places in
    let rest = among-few entries dead queue places in
    omega (arith, more, rest)

-- an entry that was gray is stale only where its object was freed
entry-freed : (before after : ObjectsByBase) (entries : ℕ) (dead : List ℕ) (entry : ℕ) → IsPlace entries entry
    → ((base : ℕ) → IsGrayAt before base → holds_base dead base ≡ false → IsGrayAt after base)
    → (if has_gray after entry then 0 else 1) ≤ (if has_gray before entry then 0 else 1) +
    (if holds_base dead entry then 1 else 0)
entry-freed before after entries dead entry place kept =
    split (has_gray before entry) refl (holds_base dead entry) refl
  where
    at_most_one : (b : Bool) → (if b then 0 else 1) ≤ 1
    at_most_one true = omega arith
    at_most_one false = omega arith

    gray_there : (e : Option (Option ObjectView)) → slice_get before (entry / 16) ≡ e → is_gray_entry e ≡ true
        → IsGrayAt before entry
    gray_there None f h = absurd (no_other refl h)
    gray_there (Some None) f h = absurd (no_other refl h)
    gray_there (Some (Some object)) f h =
        let at = place.aligned in
        let whole : entry ≡ 16 * (entry / 16) = omega arith in
        record {
          object = object;
          begins = record { grain = entry / 16; aligned = whole; is = f };
          is =
              colour object.colour refl h;
        }
      where
        colour : (c : Colour) → object.colour ≡ c → is_gray object.colour ≡ true → object.colour ≡ Gray
        colour White e t = absurd (no_other (ap is_gray e) t)
        colour Gray e t = e
        colour Black e t = absurd (no_other (ap is_gray e) t)

    split : (g : Bool) → has_gray before entry ≡ g → (d : Bool) → holds_base dead entry ≡ d
        → (if has_gray after entry then 0 else 1) ≤ (if has_gray before entry then 0 else 1) +
        (if holds_base dead entry then 1 else 0)
    split false e d f =
        let most = at_most_one (has_gray after entry) in
        let one : ◌≡◌ {A = ℕ} (if has_gray before entry then 0 else 1) 1 = ap (λ (b : Bool). if b then 0 else 1) e in
        omega (arith, most, one)
    split true e true f =
        let most = at_most_one (has_gray after entry) in
        let one : ◌≡◌ {A = ℕ} (if holds_base dead entry then 1 else 0) 1 = ap (λ (b : Bool). if b then 1 else 0) f in
        omega (arith, most, one)
    split true e false f =
        let now = kept entry (gray_there (slice_get before (entry / 16)) refl e) f in
        let none : ◌≡◌ {A = ℕ} (if has_gray after entry then 0 else 1) 0 =
        ap (λ (b : Bool). if b then 0 else 1) (gray-entry after entry now.object now.begins now.is) in
        omega (arith, none)

freed-in : (before after : ObjectsByBase) (entries : ℕ) (dead queue : List ℕ) → AreDistinctPlaces entries queue
    → ((base : ℕ) → IsGrayAt before base → holds_base dead base ≡ false → IsGrayAt after base)
    → stale_in after queue ≤ stale_in before queue + among dead queue
freed-in before after entries dead [] places kept = omega arith
freed-in before after entries dead (entry ∷ queue) places kept =
    let first = entry-freed before after entries dead entry places.0 kept in
    let rest = freed-in before after entries dead queue places.2 kept in
    omega (arith, first, rest)

queue-places : (entries : ℕ) (p : Option PartlyScannedView) (queue : List ℕ)
    → AreDistinctPlaces entries (known_bases p queue) → AreDistinctPlaces entries queue
queue-places entries None queue places = places
queue-places entries (Some p) queue places = places.2

-- Where some objects are freed, and every other gray one stays gray, at most so many entries become stale.
pub few-freed : (marker : Marker) (before after : ObjectsByBase) (dead : List ℕ) (stale : ℕ)
    → length after ≡ length before → ((base : ℕ) → IsWhiteAt after base → IsWhiteAt before base)
    → ((base : ℕ) → IsGrayAt before base → holds_base dead base ≡ false → IsGrayAt after base)
    → HasFewStale (record { marker = marker; objects = before }) stale
    → HasFewStale (record { marker = marker; objects = after }) (stale + length dead)
few-freed marker before after dead stale size white gray h = record {
  tidy = tidy-kept marker before after size white h.tidy;
  few =
      let places = queue-places (length before) marker.partly marker.queue h.tidy.distinct in
      let more = freed-in before after (length before) dead marker.queue places gray in
      let most = among-few (length before) dead marker.queue places in
      let few = h.few in
      omega (arith, more, most, few);
}

-- and none where each gray object stays gray
pub few-kept : (marker : Marker) (before after : ObjectsByBase) (stale : ℕ) → length after ≡ length before
    → ((base : ℕ) → IsWhiteAt after base → IsWhiteAt before base)
    → ((base : ℕ) → IsGrayAt before base → IsGrayAt after base)
    → HasFewStale (record { marker = marker; objects = before }) stale
    → HasFewStale (record { marker = marker; objects = after }) stale
few-kept marker before after stale size white gray h =
    let none : stale + 0 ≡ stale = omega arith in
    subst (HasFewStale (record { marker = marker; objects = after })) none
    (few-freed marker before after [] stale size white (λ base was e. gray base was) h)
