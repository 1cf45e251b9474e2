-- What holds of a queue once one more object is found.
use Rattle.std.proofs.Common.{◌≡◌, ℕ, ◌+◌, ◌*◌, ◌/◌, ◌^◌, ◌<◌, ◌≤◌, true, false, List, [], ◌∷◌, ◌++◌, map, take, drop}
use Rattle.std.proofs.Common.{length, Option, Some, None, inl, inr, refl, sym, ap, subst, ◌∙◌, arith, eqb, eqb-true}
use Rattle.std.proofs.Common.{length-append}
use Rattle.std.proofs.Common.{get_or}
use Rattle.std.specs.Prelude.{slice_get}
use Rattle.std.specs.List.{list_any}
use Rattle.std.specs.Option.{option_map}
use Rattle.std.proofs.Math.Seq.{take-append_seam}
use Rattle.std.proofs.lemmas.List.{take-append-le, take_all, length-map}
use Rattle.std.proofs.lemmas.Option.{slice_get-map, slice_get_within, slice_get-get_or, slice_get_read}
use Rattle.std.proofs.lemmas.Map.Keys.{IsDistinct-from_apart}
use Rattle.std.proofs.lemmas.Map.Steps.{length-le_from_distinct_below}
use Rattle.mm_model.proofs.Lists.Growing.{get-front, get-push, get-last, any_get}
use Rattle.mm_model.proofs.Lists.Keyed.{refuted}
use Rattle.mm_sets.specs.Bits.{bit_of, ChangesBit}
use Rattle.std.proofs.lemmas.Bool.{cases_eq}
use Rattle.mm_why.specs.declared.hop.Via.{Via}
use Rattle.mm_why.specs.declared.hop.Via.TheVariants.{Stack, Area, Slot}
use Rattle.mm_why.specs.declared.found.Lead.{Lead}
use Rattle.mm_why.specs.declared.found.Found.{Found}
use Rattle.mm_why.specs.Queue.{Queue, empty, IsFound, IsPlace, IsLengthBy, HasLength, AreShort, IsSoundQueue}
use Rattle.mm_why.specs.Queue.{KeepsQueue}

-- what stands in a list that a function was applied to
pub mapped : {X Y : Type 0} (f : X → Y) (xs : List X) (i : ℕ) (y : Y) → slice_get (map f xs) i ≡ Some y
    → (x : X) × (slice_get xs i ≡ Some x) × (f x ≡ y)
mapped {X} {Y} f xs i y e = split (slice_get xs i) refl (sym (slice_get-map f xs i) ∙ e)
  where
    split : (found : Option X) → slice_get xs i ≡ found → option_map f (slice_get xs i) ≡ Some y
        → (x : X) × (slice_get xs i ≡ Some x) × (f x ≡ y)
    split None h g = let no : ◌≡◌ {A = Option Y} None (Some y) = sym (ap (option_map f) h) ∙ g in cc
    split (Some x) h g =
        let is : ◌≡◌ {A = Option Y} (Some (f x)) (Some y) = sym (ap (option_map f) h) ∙ g in
        (x, h, cc)

-- objects at different places are no more than the places
pub found-few : (places : ℕ) (found : List Found)
    → ((i : ℕ) (entry : Found) → slice_get found i ≡ Some entry → IsPlace places entry.base)
    → ((i j : ℕ) (entry other : Found) → slice_get found i ≡ Some entry → slice_get found j ≡ Some other
    → entry.base ≡ other.base → i ≡ j)
    → length found ≤ places
found-few places found placed apart =
    let size : length grains ≡ length found = length-map found grain in
    let few = length-le_from_distinct_below grains places (IsDistinct-from_apart eqb grains distinct) below in
    omega arith
  where
    grain : Found → ℕ
    grain entry = entry.base / 16

    grains : List ℕ
    grains = map grain found

    below : (q : ℕ) → list_any (eqb q) grains ≡ true → q < places
    below q h =
        let at = any_get (eqb q) grains h in
        let m = mapped grain found at.0 at.1 at.2 in
        let same : q ≡ at.1 = eqb-true q at.1 at.3 in
        let place = placed at.0 m.0 m.1 in
        let is = m.2 in
        omega (arith, place.below)

    distinct : (i j d : ℕ) → i < j → j < length grains → eqb (get_or grains i d) (get_or grains j d) ≡ false
    distinct i j d low high =
        let one = mapped grain found i _ (slice_get-get_or grains i d (omega arith)) in
        let two = mapped grain found j _ (slice_get-get_or grains j d high) in
        refuted _ (λ e.
        let same : get_or grains i d ≡ get_or grains j d = eqb-true _ _ e in
        let a = (placed i one.0 one.1).aligned in
        let b = (placed j two.0 two.1).aligned in
        let p = one.2 in
        let q = two.2 in
        let bases : one.0.base ≡ two.0.base = omega arith in
        let clash = apart i j one.0 two.0 one.1 two.1 bases in
        omega arith)

module _ (q : Queue) (entry : Found) (sound : IsSoundQueue q) (place : IsPlace q.places entry.base)
    (new : IsFound q.found entry.base → ⊥) where
  abbrev after : List Found
  after = q.found ++ entry ∷ []

  placed : (i : ℕ) (x : Found) → slice_get after i ≡ Some x → IsPlace q.places x.base
  placed i x h = elim (get-push q.found entry i x h) [
    | inl old ↦ sound.placed i x old
    | inr last ↦ subst (λ (e : Found). IsPlace q.places e.base) last.1 place
  ]

  apart : (i j : ℕ) (x y : Found) → slice_get after i ≡ Some x → slice_get after j ≡ Some y → x.base ≡ y.base → i ≡ j
  apart i j x y h g e = elim (get-push q.found entry i x h) [
    | inl old ↦ elim (get-push q.found entry j y g) [
      | inl other ↦ sound.apart i j x y old other e
      | inr last ↦ absurd (new (record {
        place = i;
        entry = x;
        is = old;
        at = e ∙ sym (ap (λ (f : Found). f.base) last.1);
      }))
    ]
    | inr last ↦ elim (get-push q.found entry j y g) [
      | inl other ↦ absurd (new (record {
        place = j;
        entry = y;
        is = other;
        at = sym e ∙ sym (ap (λ (f : Found). f.base) last.1);
      }))
      | inr too ↦ last.0 ∙ sym too.0
    ]
  ]

  pub pushed-few : length q.found < q.places
  pushed-few =
      let all = found-few q.places after placed apart in
      let size = length-append q.found (entry ∷ []) in
      omega arith

  module _ (has : HasLength q.found entry.lead) (short : AreShort q.found entry.lead.length) where
    lengths : (i : ℕ) (x : Found) → slice_get after i ≡ Some x → HasLength (take i after) x.lead
    lengths i x h = elim (get-push q.found entry i x h) [
      | inl old ↦
          let within = slice_get_within q.found i x old in
          subst (λ (front : List Found). HasLength front x.lead)
          (sym (take-append-le i q.found (entry ∷ []) (omega arith))) (sound.lengths i x old)
      | inr last ↦
          let front : q.found ≡ take i after =
          sym (ap (λ (n : ℕ). take n after) last.0 ∙ take-append_seam q.found (entry ∷ [])) in
          subst (λ (xs : List Found). HasLength xs x.lead) front
          (subst (λ (e : Found). HasLength q.found e.lead) last.1 has)
    ]

    -- a path is no longer than there are objects in front of its last one, and that one
    has-bounded : (count : Lead) → HasLength q.found count → count.length ≤ length q.found + 1
    has-bounded count h = split count.via refl h
      where
        split : (via : Via) → count.via ≡ via → IsLengthBy q.found via count.from count.length
            → count.length ≤ length q.found + 1
        split (Stack cell) e one = omega arith
        split (Area number cell) e one = omega arith
        split (Slot slot) e one =
            let within = slice_get_within q.found count.from one.by one.is in
            let bound = sound.bounded count.from one.by one.is in
            let longer = one.longer in
            omega arith

    bounded : (i : ℕ) (x : Found) → slice_get after i ≡ Some x → x.lead.length ≤ i + 1
    bounded i x h = elim (get-push q.found entry i x h) [
      | inl old ↦ sound.bounded i x old
      | inr last ↦
          let bound = has-bounded entry.lead has in
          let same = ap (λ (e : Found). e.lead.length) last.1 in
          let at = last.0 in
          omega arith
    ]

    ordered : (i j : ℕ) (x y : Found) → i ≤ j → slice_get after i ≡ Some x → slice_get after j ≡ Some y
        → x.lead.length ≤ y.lead.length
    ordered i j x y low h g = elim (get-push q.found entry i x h) [
      | inl old ↦ elim (get-push q.found entry j y g) [
        | inl other ↦ sound.ordered i j x y low old other
        | inr last ↦
            let bound = short i x old in
            let same = ap (λ (e : Found). e.lead.length) last.1 in
            omega arith
      ]
      | inr last ↦ elim (get-push q.found entry j y g) [
        | inl other ↦
            let within = slice_get_within q.found j y other in
            let at = last.0 in
            absurd (omega arith)
        | inr too ↦
            let same = ap (λ (e : Found). e.lead.length) (sym last.1 ∙ too.1) in
            omega arith
      ]
    ]

    pub pushed-sound : IsSoundQueue (record q { found = after })
    pushed-sound = record {
      few = sound.few;
      short =
          let few = pushed-few in
          let size = length-append q.found (entry ∷ []) in
          omega arith;
      placed = placed;
      apart = apart;
      lengths = lengths;
      bounded = bounded;
      ordered = ordered;
    }

    -- the mark of its place is set
    pub pushed-keeps : (capacity : ℕ) (words marked : List ℕ) → KeepsQueue q capacity words
        → ChangesBit words marked (entry.base / 16) 1 → length marked ≡ length words
        → KeepsQueue (record q { found = after }) capacity marked
    pushed-keeps capacity words marked keeps change size = record {
      sound = pushed-sound;
      room = keeps.room;
      bits = let bits = keeps.bits in omega arith;
      marked = λ i x h. elim (cases_eq (x.base / 16) (entry.base / 16)) [
        | inl e ↦ ap (bit_of marked) e ∙ change.here
        | inr ne ↦ elim (get-push q.found entry i x h) [
          | inl old ↦ change.other_bits _ ne ∙ keeps.marked i x old
          | inr last ↦ absurd (ne (ap (λ (f : Found). f.base / 16) (sym last.1)))
        ]
      ];
      found = λ spot below h. elim (cases_eq spot (entry.base / 16)) [
        | inl e ↦
            let aligned = place.aligned in
            record {
              place = length q.found;
              entry = entry;
              is = get-last q.found entry;
              at = omega arith;
            }
        | inr ne ↦
            let old = keeps.found spot below (sym (change.other_bits spot ne) ∙ h) in
            record {
              place = old.place;
              entry = old.entry;
              is = get-front q.found (entry ∷ []) old.place old.entry old.is;
              at = old.at;
            }
      ];
    }

-- what a slice is once its words were written through a loan
pub whole : (count : ℕ) (after before : List ℕ) → length after ≡ length before → count ≡ length before
    → take count (after ++ drop (length after) before) ≡ after
whole count after before size is =
    take-append-le count after (drop (length after) before) (omega arith) ∙ take_all count after (omega arith)

-- the object at a base was found, at this place or behind it
pub record IsFoundFrom (found : List Found) (from base : ℕ) : Type 0 where
  pub place : ℕ
  pub entry : Found
  pub is : slice_get found place ≡ Some entry
  pub at : entry.base ≡ base
  pub reached : from ≤ place

-- the marks that are left once those of the objects in front of a place were taken away
abbrev pub IsLeft : Queue → List ℕ → ℕ → Type 0
IsLeft q words from =
    (place : ℕ) → place < q.places → bit_of words place ≡ 1 → IsFoundFrom q.found from (16 * place)

pub all-left : (q : Queue) (capacity : ℕ) (words : List ℕ) → KeepsQueue q capacity words → IsLeft q words 0
all-left q capacity words keeps place below h =
    let at = keeps.found place below h in
    record { place = at.place; entry = at.entry; is = at.is; at = at.at; reached = omega arith }

pub left-cleared : (q : Queue) (words cleared : List ℕ) (i : ℕ) (entry : Found) → IsSoundQueue q → IsLeft q words i
    → slice_get q.found i ≡ Some entry → ChangesBit words cleared (entry.base / 16) 0 → IsLeft q cleared (i + 1)
left-cleared q words cleared i entry sound left is change place below h = elim (cases_eq place (entry.base / 16)) [
  | inl e ↦ let no : ◌≡◌ {A = ℕ} 1 0 = sym h ∙ ap (bit_of cleared) e ∙ change.here in cc
  | inr ne ↦
      let at = left place below (sym (change.other_bits place ne) ∙ h) in
      elim (cases_eq at.place i) [
        | inl here ↦
            let same : ◌≡◌ {A = Option Found} (Some at.entry) (Some entry) =
            sym at.is ∙ ap (slice_get q.found) here ∙ is in
            let one : at.entry ≡ entry = cc in
            let base : entry.base ≡ 16 * place = sym (ap (λ (f : Found). f.base) one) ∙ at.at in
            let spot : place ≡ entry.base / 16 = omega arith in
            absurd (ne spot)
        | inr ne_here ↦
            let reached = at.reached in
            record { place = at.place; entry = at.entry; is = at.is; at = at.at; reached = omega arith }
      ]
]

pub none-left : (q : Queue) (words : List ℕ) → IsLeft q words (length q.found) → (place : ℕ) → place < q.places
    → bit_of words place ≡ 1 → ⊥
none-left q words left place below h =
    let at = left place below h in
    let within = slice_get_within q.found at.place at.entry at.is in
    let reached = at.reached in
    omega arith

pub empty-keeps : (places capacity : ℕ) (words : List ℕ) → places ≤ 2 ^ 20 → places ≤ capacity
    → places ≤ 32 * length words → ((place : ℕ) → place < places → bit_of words place ≡ 1 → ⊥)
    → KeepsQueue (empty places) capacity words
empty-keeps places capacity words few room bits none = record {
  sound = record {
    few = few;
    short = omega arith;
    placed = λ i entry h. cc;
    apart = λ i j entry other h. cc;
    lengths = λ i entry h. cc;
    bounded = λ i entry h. cc;
    ordered = λ i j entry later low h. cc;
  };
  room = room;
  bits = bits;
  marked = λ i entry h. cc;
  found = λ place below h. absurd (none place below h);
}

pub keeps-moved : (a b : Queue) (one two : ℕ) (words others : List ℕ) → a ≡ b → one ≡ two → words ≡ others
    → KeepsQueue a one words → KeepsQueue b two others
keeps-moved a b one two words others p q r keeps =
    subst (λ (x : Queue). KeepsQueue x two others) p
    (subst (λ (n : ℕ). KeepsQueue a n others) q (subst (λ (ws : List ℕ). KeepsQueue a one ws) r keeps))

-- an entry that is read
pub read-entry : (items found : List Found) (i count : ℕ) (entry : Found) → items ≡ found → count ≡ length found
    → i < count → entry ≡ get_or items i entry → slice_get found i ≡ Some entry
read-entry items found i count entry same size below is =
    let one = ap length same in
    subst (λ (xs : List Found). slice_get xs i ≡ Some entry) same
    (slice_get_read items (length items) i entry refl (omega arith) is)
