-- The zero-count table stays right where objects that aren't in it are freed.
use Rattle.std.proofs.Common.{◌≡◌, ℕ, ◌≤◌, Bool, true, false, List, Option, Some, None, refl, sym, ap, subst, ◌∙◌}
use Rattle.std.specs.Prelude.{slice_get, if◌then◌else◌, IsTrue}
use Rattle.mm_model.specs.Object.{is_counted}
use Rattle.mm_model.specs.Phase.{lists}
use Rattle.mm_model.specs.Views.ByBase.{Begins, changed}
use Rattle.mm_model.proofs.View.ByBase.ChangedEntries.{IsChangedFrom, changed_begins, begins_changed}
use Rattle.mm_object.specs.Object.{StoredObject, StoredObjects}
use Rattle.mm_object.specs.Heap.{Heap}
use Rattle.mm_weak.specs.Links.{unlinked}
use Rattle.mm_count.specs.Table.{Table, IsRight, IsSpelled, IsEntry, composite_of}
use Rattle.mm_count.specs.Composite.{composite_in}
use Rattle.mm_sweep.specs.Release.{after_release}

-- an object that isn't freed, as it is before and after
pub record IsKeptAs (bases : List ℕ) (objects : StoredObjects) (base : ℕ) (now : StoredObject) : Type 0 where
  pub was : StoredObject
  pub begins : Begins objects base was
  pub out : lists bases base ≡ false
  pub is : now ≡ (if lists bases was.link then unlinked was else was)

module _ (bases : List ℕ) (objects after : StoredObjects) (same : after ≡ changed (after_release bases) objects) where
  pub kept-begins : (base : ℕ) (now : StoredObject) → Begins after base now → IsKeptAs bases objects base now
  kept-begins base now begins =
      let from = changed_begins (after_release bases) objects base now
      (subst (λ (os : StoredObjects). Begins os base now) same begins) in
      split from (lists bases base) refl
    where
      split : IsChangedFrom (after_release bases) objects base now → (b : Bool) → lists bases base ≡ b
          → IsKeptAs bases objects base now
      split from true e =
          let gone : ◌≡◌ {A = Option StoredObject} None (Some now) =
          sym (ap (λ (b : Bool). if b then None else Some
          (if lists bases from.before.link then unlinked from.before else from.before)) e)
          ∙ from.is in
          absurd (cc)
      split from false e =
          let both : ◌≡◌ {A = Option StoredObject}
          (Some (if lists bases from.before.link then unlinked from.before else from.before)) (Some now) =
          sym (ap (λ (b : Bool). if b then None else Some
          (if lists bases from.before.link then unlinked from.before else from.before)) e)
          ∙ from.is in
          record { was = from.before; begins = from.begins; out = e; is = own both }
        where
          own : {x y : StoredObject} → ◌≡◌ {A = Option StoredObject} (Some x) (Some y) → y ≡ x
          own e = cc

  pub begins-kept : (base : ℕ) (was : StoredObject) → Begins objects base was → lists bases base ≡ false
      → Begins after base (if lists bases was.link then unlinked was else was)
  begins-kept base was begins out =
      subst (λ (os : StoredObjects). Begins os base (if lists bases was.link then unlinked was else was)) (sym same)
      (begins_changed (after_release bases) objects base was _ begins
      (ap (λ (b : Bool). if b then None else Some (if lists bases was.link then unlinked was else was)) out))

-- what doesn't look at links and flags
pub either-kept : (P : StoredObject → Type 0) (cut : Bool) (object : StoredObject) → P object → P (unlinked object)
    → P (if cut then unlinked object else object)
either-kept P true object own other = other
either-kept P false object own other = own

pub kept-composite : (cut : Bool) (object : StoredObject) → (if cut then unlinked object else object).composite
    ≡ object.composite
kept-composite true object = refl
kept-composite false object = refl

pub kept-kind : (cut : Bool) (object : StoredObject) → (if cut then unlinked object else object).kind ≡ object.kind
kept-kind true object = refl
kept-kind false object = refl

spelled-unlinked : (object : StoredObject) → IsSpelled object → IsSpelled (unlinked object)
spelled-unlinked object is = record { word = is.word; counted = is.counted; other = is.other }

pub right-released : (bases : List ℕ) (h after : Heap) (table : Table)
    → after ≡ record h { objects = after.objects; runs = after.runs; raw = after.raw }
    → after.objects ≡ changed (after_release bases) h.objects
    → ((base : ℕ) (object : StoredObject) → Begins h.objects base object → IsTrue (lists bases base)
    → (composite_of object).listed ≡ false)
    → IsRight table h → IsRight table after
right-released bases h after table rest same left right =
    record {
      pages = subst (λ (n : ℕ). n ≤ table.pages) (sym (ap (λ (x : Heap). x.pages) rest)) right.pages;
      spelled = λ base object begins.
          let kept = kept-begins bases h.objects after.objects same base object begins in
          let was = right.spelled base kept.was kept.begins in
          subst IsSpelled (sym kept.is)
          (either-kept IsSpelled (lists bases kept.was.link) kept.was was (spelled-unlinked kept.was was));
      entered = λ base object begins listed.
          let kept = kept-begins bases h.objects after.objects same base object begins in
          let composite : composite_of object ≡ composite_of kept.was =
          ap composite_of kept.is ∙ ap composite_in (kept-composite (lists bases kept.was.link) kept.was) in
          ap (λ c. slice_get table.entries c.place) composite
          ∙ right.entered base kept.was kept.begins (sym (ap (λ c. c.listed) composite) ∙ listed);
      entries = λ place base is. entry (right.entries place base is);
    }
  where
    clash : {A : Type 0} → false ≡ true → A
    clash e = absurd (let no : ⊥ = cc in no)

    out : (base : ℕ) (object : StoredObject) → Begins h.objects base object → (composite_of object).listed ≡ true
        → (b : Bool) → lists bases base ≡ b → lists bases base ≡ false
    out base object begins listed true e =
        clash (sym (left base object begins e) ∙ listed)
    out base object begins listed false e = e

    entry : {place base : ℕ} → IsEntry h.objects place base → IsEntry after.objects place base
    entry {place} {base} is =
        let apart = out base is.object is.begins is.listed (lists bases base) refl in
        let cut = lists bases is.object.link in
        let composite : composite_of (if cut then unlinked is.object else is.object) ≡ composite_of is.object =
        ap composite_in (kept-composite cut is.object) in
        record {
          object = if cut then unlinked is.object else is.object;
          begins = begins-kept bases h.objects after.objects same base is.object is.begins apart;
          counted = subst (λ k. IsTrue (is_counted k)) (sym (kept-kind cut is.object)) is.counted;
          listed = ap (λ c. c.listed) composite ∙ is.listed;
          stands = ap (λ c. c.place) composite ∙ is.stands;
        }
