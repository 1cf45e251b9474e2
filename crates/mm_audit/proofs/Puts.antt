-- What a `put` does to the counts of a view.
use Rattle.std.proofs.Common.{◌≡◌, ◌≢◌, ℕ, ◌<◌, ◌≤◌, Bool, true, false, not, ◌&&◌, ◌==◌, if◌then◌else◌, eqb-true, take}
use Rattle.std.proofs.Common.{List, [], ◌∷◌, Some, refl, ap, ◌∙◌, arith, sym, length, ⊎_elim, ◌||◌}
use Rattle.std.specs.List.{count_by}
use Rattle.std.specs.Prelude.{IsTrue, nat_lt, slice_get, slice_set, slice_index}
use Rattle.std.proofs.lemmas.Bool.{eqb-false, cases_eq, ne_eqb}
use Rattle.std.proofs.lemmas.Bool.Decides.{nat_tests}
use Rattle.std.proofs.lemmas.List.{take-set-le}
use Rattle.std.proofs.lemmas.Option.{get_or_from_slice_get, slice_get_within}
use Rattle.mm_model.specs.Object.{is_counted, is_scanned}
use Rattle.mm_model.specs.Sets.Marking.{is_white, is_raw}
use Rattle.mm_model.specs.Views.ByBase.{Begins, Based}
use Rattle.mm_model.specs.Views.GoodView.{IsGoodView}
use Rattle.mm_model.specs.Views.ObjectView.{ObjectView, ObjectsByBase, names_at, slot_kind_of, counted_words_of}
use Rattle.mm_model.specs.Views.SetsByBase.{grayed_at}
use Rattle.mm_model.specs.Views.View.{View}
use Rattle.mm_model.specs.Views.ViewStore.{view_with_sticky, view_recounted, view_is_passed, view_with_grayed}
use Rattle.mm_model.specs.Views.ViewStore.{view_barrier, view_with_word, view_put}
use Rattle.mm_model.specs.Views.ViewWords.{outside_references, view_refuses_word, begins_counted_in}
use Rattle.mm_model.specs.Words.{SlotKind, CountedSlot, WordSlot, RawSlot}
use Rattle.mm_model.specs.declared.object.Colour.TheVariants.{Gray}
use Rattle.mm_model.proofs.Good.Living.{each_get}
use Rattle.mm_model.proofs.Lists.Fronts.{get-take}
use Rattle.mm_model.proofs.Places.Placing.{both}
use Rattle.mm_model.proofs.View.ByBase.Entries.{any_begins}
use Rattle.mm_audit.specs.Counts.{count_of, moved, with_word, IsGrain}
use Rattle.mm_audit.specs.Parts.{view_counts}
use Rattle.mm_audit.specs.declared.count.Count.TheVariants.{Exact}
use Rattle.mm_audit.proofs.Recounts.{KeepsCounts, counts-changed, counts-kept, counts-same, counts-other, HoldsIn}
use Rattle.mm_audit.proofs.Recounts.{length-counts, held-not_zero}
use Rattle.mm_audit.proofs.References.{held_by}

-- colours don't count
pub graying-keeps : (words : List ℕ) → KeepsCounts (grayed_at words)
graying-keeps words =
    record {
      told = λ all outside base object. told all outside base object
          (is_white object.colour && names_at words base object);
      held = λ base b object. held base object (is_white object.colour && names_at words b object);
    }
  where
    told : (all : ObjectsByBase) (outside : ℕ → ℕ) (base : ℕ) (object : ObjectView) (gray : Bool)
        → count_of all outside base (if gray then record object { colour = Gray } else object)
        ≡ count_of all outside base object
    told all outside base object true = refl
    told all outside base object false = refl

    held : (base : ℕ) (object : ObjectView) (gray : Bool)
        → held_by base (Some (if gray then record object { colour = Gray } else object)) ≡ held_by base (Some object)
    held base object true = refl
    held base object false = refl

barrier-counts : (o : Based ObjectView) (slot word : ℕ) (view : View)
    → view_counts (view_barrier o slot word view) ≡ view_counts view
barrier-counts o slot word view = split (not (is_raw (slot_kind_of o.value slot)) && view_is_passed view.cycle o slot)
  where
    split : (b : Bool) → view_counts (if b then view_with_grayed (word ∷ []) view else view) ≡ view_counts view
    split true =
        counts-changed (grayed_at (word ∷ [])) (graying-keeps (word ∷ [])) view.objects (outside_references view)
    split false = refl

-- what a counted slot is
record IsCountedSlot (object : ObjectView) (slot : ℕ) : Type 0 where
  pub scanned : IsTrue (is_scanned object.kind)
  pub counted : slot < object.counted

counted_slot : (object : ObjectView) (slot : ℕ) → slot_kind_of object slot ≡ CountedSlot → IsCountedSlot object slot
counted_slot object slot is = split (is_scanned object.kind) refl (nat_lt slot object.counted) refl is
  where
    below : (m n : ℕ) → nat_lt m n ≡ true → m < n
    below m n e = grind (arith, nat_tests)

    word : ◌≡◌ {A = SlotKind} WordSlot CountedSlot → ⊥
    word e = cc

    raw : ◌≡◌ {A = SlotKind} RawSlot CountedSlot → ⊥
    raw e = cc

    split : (scanned : Bool) → is_scanned object.kind ≡ scanned → (counted : Bool)
        → nat_lt slot object.counted ≡ counted
        → (if scanned then (if counted then CountedSlot else WordSlot) else RawSlot) ≡ CountedSlot
        → IsCountedSlot object slot
    split true e true f is = record { scanned = e; counted = below slot object.counted f }
    split true e false f is = absurd (word is)
    split false e counted f is = absurd (raw is)

-- another slot is none of those whose words count
other_slot : (object : ObjectView) (slot word base : ℕ) → slot_kind_of object slot ≢ CountedSlot
    → held_by base (Some (with_word slot word object)) ≡ held_by base (Some object)
other_slot object slot word base other =
    split (is_scanned object.kind) (nat_lt slot object.counted) refl other
  where
    behind : (m n : ℕ) → nat_lt m n ≡ false → n ≤ m
    behind m n e = grind (arith, nat_tests)

    count : List ℕ → ℕ
    count words = count_by (λ w. w == base) words

    split : (scanned counted : Bool) → nat_lt slot object.counted ≡ counted
        → (if scanned then (if counted then CountedSlot else WordSlot) else RawSlot) ≢ CountedSlot
        → count (if scanned then take object.counted (slice_set object.words slot word) else [])
        ≡ count (if scanned then take object.counted object.words else [])
    split true true f other = absurd (other refl)
    split true false f other =
        ap count (take-set-le object.counted object.words slot word (behind slot object.counted f))
    split false counted f other = refl

module _ (view : View) (o : Based ObjectView) (slot word : ℕ) (begins : Begins view.objects o.base o.value) where
  abbrev stored : View
  stored = view_with_word o slot word view

  pub put-other : slot_kind_of o.value slot ≢ CountedSlot
      → view_counts (view_put view o slot word) ≡ view_counts view
  put-other other =
      barrier-counts o slot word
      (view_recounted (slot_kind_of o.value slot) (slice_index o.value.words slot) word stored)
      ∙ split (slot_kind_of o.value slot) other
      ∙ counts-kept view.objects o.base o.value slot word begins (outside_references view)
      (λ base. other_slot o.value slot word base other)
    where
      split : (kind : SlotKind) → kind ≢ CountedSlot
          → view_counts (view_recounted kind (slice_index o.value.words slot) word stored) ≡ view_counts stored
      split CountedSlot other = absurd (other refl)
      split WordSlot other = refl
      split RawSlot other = refl

  pub put-counted : IsGoodView view → (old : ℕ) → slot_kind_of o.value slot ≡ CountedSlot
      → slice_get o.value.words slot ≡ Some old
      → view_counts (view_put view o slot word) ≡ moved old word (view_counts view)
  put-counted good old kind is =
      barrier-counts o slot word
      (view_recounted (slot_kind_of o.value slot) (slice_index o.value.words slot) word stored)
      ∙ ap (λ k. view_counts (view_recounted k (slice_index o.value.words slot) word stored)) kind
      ∙ ap (λ w. view_counts (view_recounted CountedSlot w word stored))
      (get_or_from_slice_get o.value.words slot old 0 is)
      ∙ split (old == word) refl
    where
      slot_is : IsCountedSlot o.value slot
      slot_is = counted_slot o.value slot kind

      holds : HoldsIn view.objects o.base o.value slot old
      holds = record { begins = begins; scanned = slot_is.scanned; counted = slot_is.counted; is = is }

      split : (same : Bool) → (old == word) ≡ same
          → view_counts (if not same then view_with_sticky word stored else stored) ≡ moved old word (view_counts view)
      split true e =
          counts-same view.objects (outside_references view) good.counted o.base o.value slot word old holds
          (eqb-true old word e)
      split false e =
          counts-other view.objects (outside_references view) good.counted o.base o.value slot word old holds
          (eqb-false old word e)

  -- 0, or the base of a counted object
  tight-grain : (w : ℕ) → (w == 0 || begins_counted_in view.objects w) ≡ true → IsGrain (view_counts view) w
  tight-grain w tight =
      ⊎_elim nothing
      (λ (other : w ≢ 0). base (ap (λ b. b || begins_counted_in view.objects w) (sym (ne_eqb w 0 other)) ∙ tight))
      (cases_eq w 0)
    where
      size : length (view_counts view) ≡ length view.objects
      size = length-counts view.objects (outside_references view)

      nothing : w ≡ 0 → IsGrain (view_counts view) w
      nothing e =
          let some = slice_get_within view.objects begins.grain (Some o.value) begins.is in
          record { aligned = omega arith; inside = omega (arith, size) }

      base : begins_counted_in view.objects w ≡ true → IsGrain (view_counts view) w
      base e =
          let one = any_begins (λ (p : Based ObjectView). is_counted p.value.kind && p.base == w) view.objects e in
          let same = eqb-true one.base w (both (is_counted one.value.kind) (one.base == w) one.passes).1 in
          let at = one.begins.aligned in
          let within = slice_get_within view.objects one.begins.grain (Some one.value) one.begins.is in
          record { aligned = omega arith; inside = omega (arith, size) }

  pub put-new : view_refuses_word view CountedSlot word ≡ false → IsGrain (view_counts view) word
  put-new taken = tight-grain word (split (word == 0) (begins_counted_in view.objects word) taken)
    where
      split : (none named : Bool) → (true && not none && not named) ≡ false → (none || named) ≡ true
      split true named e = refl
      split false true e = refl
      split false false e = cc

  pub put-old : IsGoodView view → (old : ℕ) → slot_kind_of o.value slot ≡ CountedSlot
      → slice_get o.value.words slot ≡ Some old → IsGrain (view_counts view) old
  put-old good old kind is =
      tight-grain old
      (each_get (λ w. IsTrue (w == 0 || begins_counted_in view.objects w)) (counted_words_of o.value) slot old
      (good.tight o.base o.value begins) (held (is_scanned o.value.kind) slot_is.scanned))
    where
      slot_is : IsCountedSlot o.value slot
      slot_is = counted_slot o.value slot kind

      held : (scanned : Bool) → IsTrue scanned
          → slice_get (if scanned then take o.value.counted o.value.words else []) slot ≡ Some old
      held true h = get-take o.value.counted slot o.value.words slot_is.counted ∙ is
      held false h = cc

  pub put-held : IsGoodView view → (old : ℕ) → slot_kind_of o.value slot ≡ CountedSlot
      → slice_get o.value.words slot ≡ Some old → Begins (view_counts view) old (Exact 0) → ⊥
  put-held good old kind is =
      let slot_is = counted_slot o.value slot kind in
      held-not_zero view.objects (outside_references view) good.counted o.base o.value slot word old
      (record { begins = begins; scanned = slot_is.scanned; counted = slot_is.counted; is = is })
