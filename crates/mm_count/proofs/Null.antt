-- Nothing begins at 0, so nothing changes there.
use Rattle.std.proofs.Common.{◌≡◌, ◌≢◌, ℕ, [], ◌∷◌, Some, None, refl, sym, ap, ◌∙◌, subst, arith}
use Rattle.std.specs.Option.{option_map}
use Rattle.mm_model.specs.Views.ByBase.{Begins, with_entry}
use Rattle.mm_model.specs.Views.ObjectView.{ObjectView}
use Rattle.mm_model.proofs.View.ByBase.MappedEntries.{mapped_begins}
use Rattle.mm_object.specs.Object.{StoredObject, StoredObjects, view_of_stored, views_of}
use Rattle.mm_object.specs.Heap.{Heap, IsSound}
use Rattle.mm_count.specs.declared.composite.Composite.{Composite}
use Rattle.mm_count.specs.Composite.{composite_in}
use Rattle.mm_count.specs.Table.{Table}
use Rattle.mm_count.specs.Counts.{entry_at, composite_at, IsCountedBy, one_more, with_composite, changed_at}
use Rattle.mm_count.specs.Counts.{without_places, table_raised, table_lowered, KeepsObjects}
use Rattle.mm_count.proofs.Places.{bared}
use Rattle.mm_count.proofs.Counted.{one_more-other}

none_at-zero : (objects : StoredObjects) → ((o : StoredObject) → Begins objects 0 o → ⊥)
    → (f : Composite → Composite)
    → bared objects ≡ with_entry 0 (option_map (with_composite f) (entry_at (bared objects) 0)) (bared objects)
none_at-zero [] none f = refl
none_at-zero (None ∷ objects) none f = refl
none_at-zero (Some o ∷ objects) none f = absurd (none o (record { grain = 0; aligned = refl; is = refl }))

composite_at-none : (objects : StoredObjects) → ((o : StoredObject) → Begins objects 0 o → ⊥)
    → composite_at objects 0 ≡ composite_in 0
composite_at-none [] none = refl
composite_at-none (None ∷ objects) none = refl
composite_at-none (Some o ∷ objects) none = absurd (none o (record { grain = 0; aligned = refl; is = refl }))

module _ (h : Heap) (sound : IsSound h) where
  none : (o : StoredObject) → Begins h.objects 0 o → ⊥
  none o begins = let from = (sound.inside 0 o begins).from in omega arith

  pub changed-zero : (f : Composite → Composite) (word : ℕ) → word ≡ 0
      → without_places h ≡ changed_at f word (without_places h)
  changed-zero f word e =
      ap (λ (objects : StoredObjects). record h { objects = objects }) (none_at-zero h.objects none f)
      ∙ ap (λ n. changed_at f n (without_places h)) (sym e)

  composite_at-zero : (word : ℕ) → word ≡ 0 → composite_at h.objects word ≡ composite_in 0
  composite_at-zero word e = ap (composite_at h.objects) e ∙ composite_at-none h.objects none

  pub table_raised-zero : (table : Table) (word : ℕ) → word ≡ 0
      → table ≡ table_raised table (composite_at h.objects word)
  table_raised-zero table word e = ap (table_raised table) (sym (composite_at-zero word e))

  pub table_lowered-zero : (table : Table) (word : ℕ) → word ≡ 0
      → table ≡ table_lowered table (composite_at h.objects word) word
  table_lowered-zero table word e = ap (λ c. table_lowered table c word) (sym (composite_at-zero word e))

  pub none_begins : (word : ℕ) → word ≡ 0 → (b : ℕ) (v : ObjectView) → Begins (views_of h.objects) b v → b ≢ word
  none_begins word e b v begins same =
      let m = mapped_begins view_of_stored h.objects b v begins in
      none m.value (subst (λ n. Begins h.objects n m.value) (same ∙ e) m.begins)

  pub counted_more-zero : (word : ℕ) → word ≡ 0 → (outside : ℕ → ℕ) → IsCountedBy h.objects outside
      → IsCountedBy h.objects (one_more outside word)
  counted_more-zero word e outside right =
      record {
        exact = λ b v begins counted exact.
            let is = right.exact b v begins counted exact in
            let more = one_more-other outside word b (none_begins word e b v begins) in
            omega arith;
        few = right.few;
      }

  pub counted_less-zero : (word : ℕ) → word ≡ 0 → (outside : ℕ → ℕ) → IsCountedBy h.objects (one_more outside word)
      → IsCountedBy h.objects outside
  counted_less-zero word e outside right =
      record {
        exact = λ b v begins counted exact.
            let is = right.exact b v begins counted exact in
            let more = one_more-other outside word b (none_begins word e b v begins) in
            omega arith;
        few = right.few;
      }

pub keeps-same : (objects : StoredObjects) → KeepsObjects objects objects
keeps-same objects =
    record { to = λ b o begins. (o.composite, begins); back = λ b o begins. (o.composite, begins) }
