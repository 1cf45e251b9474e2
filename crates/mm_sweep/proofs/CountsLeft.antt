-- Counts are right for the objects that a release leaves.
use Rattle.std.proofs.Common.{◌≡◌, ℕ, ◌/◌, ◌≤◌, Bool, true, false, List, Option, Some, None, refl}
use Rattle.std.proofs.Common.{sym, ap, subst, ◌∙◌, arith}
use Rattle.std.specs.Prelude.{slice_get, if◌then◌else◌, IsTrue}
use Rattle.std.specs.Option.{option_and_then}
use Rattle.mm_model.specs.Object.{is_counted}
use Rattle.mm_model.specs.Phase.{lists}
use Rattle.mm_model.specs.Views.ByBase.{Begins, changed}
use Rattle.mm_model.specs.Views.ObjectView.{ObjectView, references_in}
use Rattle.mm_model.specs.Views.SetsByBase.{count_at}
use Rattle.mm_model.proofs.View.ByBase.MappedEntries.{mapped_begins}
use Rattle.mm_object.specs.Object.{StoredObject, StoredObjects, view_of_stored, views_of}
use Rattle.mm_weak.specs.Links.{unlinked}
use Rattle.mm_count.specs.declared.composite.Composite.{Composite}
use Rattle.mm_count.specs.Composite.{composite_in}
use Rattle.mm_count.specs.Table.{composite_of}
use Rattle.mm_count.specs.Counts.{composite_told, counts_of, IsCountedBy}
use Rattle.mm_count.specs.Listed.{AllListed, NonePinned}
use Rattle.mm_count.specs.Apart.{unless_dead, without_dead, AreCountsApart}
use Rattle.mm_count.specs.DeadApart.{AreDeadApart}
use Rattle.mm_sweep.specs.Release.{after_release}
use Rattle.mm_sweep.proofs.CountedWords.{words_told, references-alike}
use Rattle.mm_sweep.proofs.Right.{IsKeptAs, kept-begins, kept-composite, kept-kind}

told-alike : (gone cut : Bool) (object : StoredObject)
    → words_told (if gone then None else Some (if cut then unlinked object else object))
    ≡ words_told (if gone then None else Some object)
told-alike true cut object = refl
told-alike false true object = refl
told-alike false false object = refl

references-released : (bases : List ℕ) (objects : StoredObjects) (base : ℕ)
    → references_in (views_of (changed (after_release bases) objects)) base
    ≡ references_in (views_of (without_dead bases objects)) base
references-released bases objects base =
    references-alike (after_release bases) (unless_dead bases)
    (λ at object. told-alike (lists bases at) (lists bases object.link) object) objects base

pub counts_of-object : (objects : StoredObjects) (base : ℕ) (object : StoredObject) → Begins objects base object
    → counts_of objects base ≡ (composite_of object).count
counts_of-object objects base object begins =
    let at = begins.aligned in
    let grain : base / 16 ≡ begins.grain = omega arith in
    ap (λ (e : Option (Option StoredObject)). (composite_told (option_and_then (λ entry. entry) e)).count)
    (ap (slice_get objects) grain ∙ begins.is)

module _ (bases : List ℕ) (objects after : StoredObjects) (same : after ≡ changed (after_release bases) objects) where
  composite-kept : (base : ℕ) (now : StoredObject) (kept : IsKeptAs bases objects base now)
      → composite_of now ≡ composite_of kept.was
  composite-kept base now kept =
      ap composite_of kept.is ∙ ap composite_in (kept-composite (lists bases kept.was.link) kept.was)

  kind-kept : (base : ℕ) (now : StoredObject) (kept : IsKeptAs bases objects base now) → IsTrue (is_counted now.kind)
      → IsTrue (is_counted kept.was.kind)
  kind-kept base now kept counted =
      subst (λ k. IsTrue (is_counted k))
      (ap (λ (o : StoredObject). o.kind) kept.is ∙ kept-kind (lists bases kept.was.link) kept.was) counted

  module _ (outside : ℕ → ℕ) (apart : AreCountsApart bases objects outside) where
    record IsCount (base : ℕ) : Type 0 where
      exact : counts_of after base ≡ count_at (views_of after) outside base
      few : counts_of after base ≤ 254

    count : (base : ℕ) (now : StoredObject) → Begins after base now → IsTrue (is_counted now.kind)
        → (composite_of now).sticky ≡ false → IsCount base
    count base now begins counted exact =
        let kept = kept-begins bases objects after same base now begins in
        let says = composite-kept base now kept in
        let counts = kind-kept base now kept counted in
        let sticky = sym (ap (λ (c : Composite). c.sticky) says) ∙ exact in
        let is = counts_of-object after base now begins ∙ ap (λ (c : Composite). c.count) says in
        let total = apart.exact base kept.was kept.begins counts sticky in
        let most = apart.few base kept.was kept.begins counts sticky in
        let views : references_in (views_of after) base ≡ references_in (views_of (without_dead bases objects)) base =
        ap (λ (os : StoredObjects). references_in (views_of os) base) same ∙ references-released bases objects base in
        record { exact = omega arith; few = omega arith }

    count-seen : (base : ℕ) (v : ObjectView) → Begins (views_of after) base v → IsTrue (is_counted v.kind)
        → v.sticky ≡ false → IsCount base
    count-seen base v begins counted exact =
        let s = mapped_begins view_of_stored after base v begins in
        count base s.value s.begins
        (subst (λ k. IsTrue (is_counted k)) (ap (λ (o : ObjectView). o.kind) (sym s.is)) counted)
        (ap (λ (o : ObjectView). o.sticky) s.is ∙ exact)

    pub counted-released : IsCountedBy after outside
    counted-released =
        record {
          exact = λ base v begins counted exact. (count-seen base v begins counted exact).exact;
          few = λ base v begins counted exact. (count-seen base v begins counted exact).few;
        }

  pub listed-released : AreDeadApart bases objects → AllListed after
  listed-released dead =
      record {
        listed = λ base now begins counted exact zero.
            let kept = kept-begins bases objects after same base now begins in
            let says = composite-kept base now kept in
            ap (λ (c : Composite). c.listed) says
            ∙ dead.listed base kept.was kept.begins (kind-kept base now kept counted)
            (sym (ap (λ (c : Composite). c.sticky) says) ∙ exact) (sym (ap (λ (c : Composite). c.count) says) ∙ zero)
            kept.out;
      }

  pub unpinned-released : NonePinned objects → NonePinned after
  unpinned-released none =
      record {
        unpinned = λ base now begins.
            let kept = kept-begins bases objects after same base now begins in
            ap (λ (c : Composite). c.pinned) (composite-kept base now kept)
            ∙ none.unpinned base kept.was kept.begins;
      }
