-- The entries of the table from a place on, once one of them is looked at.
use Rattle.std.proofs.Common.{◌≡◌, ◌≢◌, ⊎_elim, ℕ, ◌+◌, ◌-◌, ◌<◌, ◌≤◌, true, cond, List, [], length, Some, sym, ap}
use Rattle.std.proofs.Common.{◌∙◌, arith}
use Rattle.std.specs.Prelude.{slice_get, slice_index}
use Rattle.std.proofs.lemmas.Bool.{cases_eq}
use Rattle.std.proofs.lemmas.Option.{slice_get-get_or, slice_get_within}
use Rattle.mm_model.proofs.Lists.Truth.{no_other}
use Rattle.mm_object.specs.Object.{StoredObjects}
use Rattle.mm_object.specs.Heap.{Heap}
use Rattle.mm_count.specs.declared.composite.Composite.{Composite}
use Rattle.mm_count.specs.Table.{Table, with_entries, without_place, composite_of, IsCountedAt, IsEntry, IsRight}
use Rattle.mm_count.specs.Counts.{composite_at, table_left}
use Rattle.mm_count.proofs.Entries.{length-without_place, without_place_within, without_place_other, without_place_gap}
use Rattle.mm_reap.specs.Pins.{HasLeft, ListsPinned, ArePinnedFrom}
use Rattle.mm_reap.proofs.Recounted.{composite_at-begins}

-- where every entry is pinned, so is what is in the table
pub lists-pinned : (table : Table) (h : Heap) → IsRight table h → ArePinnedFrom 0 table.entries h.objects
    → ListsPinned h.objects []
lists-pinned table h right pinned base k listed unpinned =
    let is = composite_at-begins h.objects base k.object k.begins in
    let at = right.entered base k.object k.begins (sym (ap (λ (c : Composite). c.listed) is) ∙ listed) in
    absurd (no_other unpinned (pinned (composite_of k.object).place base at (omega arith)))

pub entry-at : (table : Table) (i base : ℕ) → i < length table.entries → base ≡ slice_index table.entries i
    → slice_get table.entries i ≡ Some base
entry-at table i base below is = slice_get-get_or table.entries i 0 below ∙ ap (λ (n : ℕ). Some n) (sym is)

-- the entry at the place itself is pinned too
pub pinned-from-kept : (table : Table) (h : Heap) (i base : ℕ) → i < length table.entries
    → base ≡ slice_index table.entries i → ArePinnedFrom (i + 1) table.entries h.objects
    → (composite_at h.objects base).pinned ≡ true → ArePinnedFrom i table.entries h.objects
pinned-from-kept table h i base below is pinned own place b at from =
    ⊎_elim
    (λ (same : place ≡ i).
    let one : Some b ≡ Some base = sym at ∙ ap (slice_get table.entries) same ∙ entry-at table i base below is in
    let bases : b ≡ base = cc in
    ap (λ n. (composite_at h.objects n).pinned) bases ∙ own)
    (λ (other : place ≢ i). pinned place b at (omega arith)) (cases_eq place i)

module _ (table : Table) (h : Heap) (right : IsRight table h) (i base : ℕ) (below : i < length table.entries)
    (is : base ≡ slice_index table.entries i) where
  entry : IsEntry h.objects i base
  entry = right.entries i base (entry-at table i base below is)

  pub entry-counted : IsCountedAt h.objects base
  entry-counted = record { object = entry.object; begins = entry.begins; counted = entry.counted }

  says : composite_at h.objects base ≡ composite_of entry.object
  says = composite_at-begins h.objects base entry.object entry.begins

  pub entry-listed : (composite_at h.objects base).listed ≡ true
  entry-listed = ap (λ (c : Composite). c.listed) says ∙ entry.listed

  stands : (composite_at h.objects base).place ≡ i
  stands = ap (λ (c : Composite). c.place) says ∙ entry.stands

  left-is : table_left table (composite_at h.objects base) ≡ with_entries table (without_place table.entries i)
  left-is =
      ap (λ b. cond b (with_entries table (without_place table.entries (composite_at h.objects base).place)) table)
      entry-listed
      ∙ ap (λ n. with_entries table (without_place table.entries n)) stands

  module _ (after : Table) (leaves : after ≡ table_left table (composite_at h.objects base)) where
    now : after.entries ≡ without_place table.entries i
    now = ap (λ (t : Table). t.entries) (leaves ∙ left-is)

    pub entries-left : i ≤ length after.entries
    entries-left =
        let size = ap length now in
        let less = length-without_place table.entries i in
        omega arith

    -- the last entry comes into its place, and no other from there on is new
    moved : (place b : ℕ) → slice_get after.entries place ≡ Some b → i ≤ place
        → (from : ℕ) × (i + 1 ≤ from) × (slice_get table.entries from ≡ Some b)
    moved place b at from =
        let there : slice_get (without_place table.entries i) place ≡ Some b =
        ap (λ es. slice_get es place) (sym now) ∙ at in
        let within = without_place_within table.entries i place b there in
        let last = length table.entries - 1 in
        ⊎_elim
        (λ (same : place ≡ i).
        let gap = without_place_gap table.entries i (omega arith) in
        let own : Some b ≡ Some (slice_index table.entries last) =
        sym there ∙ ap (slice_get (without_place table.entries i)) same ∙ gap in
        (last, omega arith, slice_get-get_or table.entries last 0 (omega arith) ∙ sym own))
        (λ (other : place ≢ i).
        (place, omega arith, sym (without_place_other table.entries i place within other) ∙ there))
        (cases_eq place i)

    pub pinned-from-left : ArePinnedFrom (i + 1) table.entries h.objects → (h' : Heap)
        → HasLeft h.objects h'.objects base → ArePinnedFrom i after.entries h'.objects
    pinned-from-left pinned h' has place b at from =
        let m = moved place b at from in
        let e = right.entries m.0 b m.2 in
        has.pins b (record { object = e.object; begins = e.begins; counted = e.counted }) ∙ pinned m.0 b m.2 m.1

-- there is no entry past the last one
pub pinned-past : (entries : List ℕ) (objects : StoredObjects) (from : ℕ) → length entries ≤ from
    → ArePinnedFrom from entries objects
pinned-past entries objects from past place base at later =
    let within = slice_get_within entries place base at in absurd (omega arith)
