-- Each object has its grains to itself, and what changes in the grains of one changes no other.
use Rattle.std.proofs.Common.{◌≡◌, ◌≢◌, ℕ, ◌+◌, ◌*◌, ◌/◌, ◌%◌, ◌<◌, ◌≤◌, ◌⊎◌, inl, inr, ⊎_elim, Bool, true, not, ◌&&◌}
use Rattle.std.proofs.Common.{List, length, map, Option, Some, None, refl, sym, ap, ◌∙◌, arith}
use Rattle.std.specs.Prelude.{IsTrue, is_some, slice_get, slice_set, nat_lt}
use Rattle.std.specs.Option.{option_map}
use Rattle.std.specs.List.{list_any}
use Rattle.std.proofs.lemmas.Bool.{cases_lt}
use Rattle.std.proofs.lemmas.Bool.Decides.{nat_tests}
use Rattle.std.proofs.Math.ListN.{get_or}
use Rattle.std.proofs.lemmas.List.{length-set}
use Rattle.std.proofs.lemmas.Option.{slice_get-get_or, slice_get-map}
use Rattle.mm_model.specs.Places.Place.{is_vacant, overlaps}
use Rattle.mm_model.specs.Views.ByBase.{Begins, Based, based, with_entry}
use Rattle.mm_model.specs.Views.ObjectView.{ObjectView, ObjectsByBase, piece_of_object, pieces_of_objects}
use Rattle.mm_model.proofs.Lists.Keyed.{any-map}
use Rattle.mm_model.proofs.Lists.Replaced.{get-set_same, get-set_cases, map-set}
use Rattle.mm_model.proofs.View.ByBase.Entries.{begins_any}
use Rattle.mm_audit.specs.Bits.{IsMarked}
use Rattle.mm_audit.specs.declared.header.Header.{Header}
use Rattle.mm_audit.specs.Objects.{object_with, object_in, IsRoomy, KeepsObjects}
use Rattle.mm_audit.proofs.Shown.{parts_alike}

-- one ends where the other begins, or before
abbrev pub AreBeside : ℕ → ℕ → ℕ → ℕ → Type 0
AreBeside base extent other more = (base + extent ≤ other) ⊎ (other + more ≤ base)

-- no object has a byte of vacant room
pub vacant-beside : (objects : ObjectsByBase) (base extent : ℕ)
    → IsTrue (is_vacant (pieces_of_objects objects) base extent) → (other : ℕ) (object : ObjectView)
    → Begins objects other object → AreBeside other object.extent base extent
vacant-beside objects base extent vacant other object begins =
    ⊎_elim
    (λ (low : other < base + extent).
    ⊎_elim (λ (high : base < other + object.extent). absurd (clash low high))
    (λ (ends : other + object.extent ≤ base). inl ends) (cases_lt base (other + object.extent)))
    (λ (past : base + extent ≤ other). inr past) (cases_lt other (base + extent))
  where
    test : Based ObjectView → Bool
    test o = overlaps base extent (piece_of_object o)

    none : {b : Bool} → b ≡ true → not b ≡ true → ⊥
    none e f = cc

    clash : other < base + extent → base < other + object.extent → ⊥
    clash low high =
        let first : nat_lt other (base + extent) ≡ true = grind (arith, nat_tests) in
        let second : nat_lt base (other + object.extent) ≡ true = grind (arith, nat_tests) in
        let here : test (record { base = other; value = object }) ≡ true =
        ap (λ b. b && nat_lt base (other + object.extent)) first ∙ second in
        let some : list_any test (based objects) ≡ true = begins_any test objects other object begins here in
        none (any-map piece_of_object (overlaps base extent) (based objects) ∙ some) vacant

module _ (entries : List (Option Header)) (begins words : List ℕ) (keeps : KeepsObjects entries begins words) where
  -- two objects have no grain in common
  told-beside : (grain other : ℕ) (header more : Header) → slice_get entries grain ≡ Some (Some header)
      → slice_get entries other ≡ Some (Some more) → grain < other → 16 * grain + header.extent ≤ 16 * other
  told-beside grain other header more is also below =
      ⊎_elim
      (λ (within : 16 * other < 16 * grain + header.extent).
      let room = (keeps.roomy other more also).room in
      let here = keeps.told grain header is other (omega arith) within in
      let there = keeps.told other more also other (omega arith) (omega arith) in
      let same : grain ≡ other = inside (sym here ∙ there) in
      absurd (omega arith))
      (λ (past : 16 * grain + header.extent ≤ 16 * other). past)
      (cases_lt (16 * other) (16 * grain + header.extent))
    where
      inside : ◌≡◌ {A = Option ℕ} (Some grain) (Some other) → grain ≡ other
      inside e = cc

  pub kept-beside : (grain other : ℕ) (header more : Header) → slice_get entries grain ≡ Some (Some header)
      → slice_get entries other ≡ Some (Some more) → other ≢ grain
      → AreBeside (16 * other) more.extent (16 * grain) header.extent
  kept-beside grain other header more is also differ =
      ⊎_elim (λ (below : other < grain). inl (told-beside other grain more header also is below))
      (λ (from : grain ≤ other). inr (told-beside grain other header more is also (omega (arith, differ))))
      (cases_lt other grain)

  -- the words that change lie behind the first four of a room that an object lies beside
  pub beside-alike : (after : List ℕ) (grain extent first count : ℕ) → 4 * grain + 4 ≤ first
      → 4 * first + 4 * count ≤ 16 * grain + extent
      → ((k : ℕ) → k < first → slice_get after k ≡ slice_get words k)
      → ((k : ℕ) → first + count ≤ k → slice_get after k ≡ slice_get words k)
      → (other : ℕ) (header : Header) → slice_get entries other ≡ Some (Some header)
      → AreBeside (16 * other) header.extent (16 * grain) extent
      → object_in after other header ≡ object_in words other header
  beside-alike after grain extent first count from to below above other header is beside =
      ap (λ (ws : List ℕ). object_with ws header)
      (parts_alike (4 * other + 4) header.slots after words
      (λ k low high.
      let room = (keeps.roomy other header is).room in
      ⊎_elim (λ (ends : 16 * other + header.extent ≤ 16 * grain). below k (omega arith))
      (λ (past : 16 * grain + extent ≤ 16 * other). above k (omega arith)) beside))

  -- another entry for a grain
  pub kept-set : (grain : ℕ) (entry : Option Header)
      → ((header : Header) → entry ≡ Some header → IsRoomy (length entries) grain header)
      → ((header : Header) → entry ≡ Some header → (inner : ℕ) → grain ≤ inner
      → 16 * inner < 16 * grain + header.extent → slice_get begins inner ≡ Some grain)
      → KeepsObjects (slice_set entries grain entry) begins words
  kept-set grain entry roomy told =
      let size = length-set entries grain entry in
      record {
        few = omega (arith, keeps.few);
        each_grain = keeps.each_grain ∙ sym size;
        each_word = keeps.each_word ∙ ap (λ n. 4 * n) (sym size);
        roomy = λ k header is.
            ⊎_elim
            (λ (here : (k ≡ grain) × (entry ≡ Some header)).
            let same = here.0 in
            let room = roomy header here.1 in
            let inside = room.inside in
            record { inside = omega arith; room = room.room })
            (λ (there : slice_get entries k ≡ Some (Some header)).
            let room = keeps.roomy k header there in
            let inside = room.inside in
            record { inside = omega arith; room = room.room })
            (get-set_cases entries grain k entry (Some header) is);
        told = λ k header is inner low high.
            ⊎_elim
            (λ (here : (k ≡ grain) × (entry ≡ Some header)).
            let same = here.0 in
            told header here.1 inner (omega arith) (omega arith) ∙ ap (λ (n : ℕ). Some n) (sym same))
            (λ (there : slice_get entries k ≡ Some (Some header)). keeps.told k header there inner low high)
            (get-set_cases entries grain k entry (Some header) is);
        not_behind = keeps.not_behind;
      }

-- the grains at which an object begins
pub taken-entry : (entries : List (Option Header)) (grain : ℕ) (header : Header)
    → slice_get entries grain ≡ Some (Some header) → IsMarked (map is_some entries) grain
taken-entry entries grain header is = slice_get-map is_some entries grain ∙ ap (option_map is_some) is

pub entry-taken : (entries : List (Option Header)) (grain : ℕ) → IsMarked (map is_some entries) grain
    → (header : Header) × (slice_get entries grain ≡ Some (Some header))
entry-taken entries grain marked =
    split (slice_get entries grain) refl (sym (slice_get-map is_some entries grain) ∙ marked)
  where
    split : (told : Option (Option Header)) → slice_get entries grain ≡ told → option_map is_some told ≡ Some true
        → (header : Header) × (slice_get entries grain ≡ Some (Some header))
    split None e is = cc
    split (Some None) e is = cc
    split (Some (Some header)) e is = (header, e)

pub taken-set : (entries : List (Option Header)) (taken : List Bool) → taken ≡ map is_some entries → (grain : ℕ)
    (entry : Option Header) → slice_set taken grain (is_some entry) ≡ map is_some (slice_set entries grain entry)
taken-set entries taken marks grain entry =
    ap (λ v. slice_set v grain (is_some entry)) marks ∙ sym (map-set is_some entries grain entry)

-- what was entered at a base begins there
pub entered-begins : (objects before : ObjectsByBase) (base : ℕ) (object : ObjectView)
    → objects ≡ with_entry base (Some object) before → base % 16 ≡ 0 → base < 16 * length before
    → Begins objects base object
entered-begins objects before base object is aligned inside =
    let was = slice_get-get_or before (base / 16) None (omega arith) in
    record {
      grain = base / 16;
      aligned = omega arith;
      is = ap (λ v. slice_get v (base / 16)) is
          ∙ get-set_same before (base / 16) (get_or before (base / 16) None) (Some object) was;
    }
