-- The counts stay right, for other places outside, where one object's count changes.
use Rattle.std.proofs.Common.{◌≡◌, ◌≢◌, ⊎_elim, ℕ, ◌+◌, ◌-◌, ◌/◌, ◌≤◌, Bool, true, false, cond, [], ◌∷◌, Option, Some}
use Rattle.std.proofs.Common.{None, refl, sym, ap, ◌∙◌, subst, arith}
use Rattle.std.specs.Prelude.{◌==◌, IsTrue}
use Rattle.std.specs.Option.{option_map}
use Rattle.mm_model.specs.Object.{is_counted}
use Rattle.mm_model.specs.Views.ByBase.{Begins, with_entry}
use Rattle.mm_model.specs.Views.ObjectView.{ObjectView, ObjectsByBase, references_in}
use Rattle.mm_model.specs.Views.SetsByBase.{count_at}
use Rattle.mm_model.proofs.Lists.Replaced.{map-set}
use Rattle.mm_model.proofs.View.ByBase.MappedEntries.{begins_mapped, mapped_begins}
use Rattle.mm_object.specs.Object.{StoredObject, StoredObjects, view_of_stored, views_of}
use Rattle.mm_object.specs.Heap.{Heap}
use Rattle.mm_count.specs.declared.composite.Composite.{Composite}
use Rattle.mm_count.specs.Composite.{FitsWord, IsComposite}
use Rattle.mm_count.specs.Table.{composite_of}
use Rattle.mm_count.specs.Counts.{composite_told, counts_of, IsCountedBy, one_more, raised, lowered, entered, left}
use Rattle.mm_count.specs.Counts.{with_pin, changed_at, unplaced, without_places}
use Rattle.mm_count.proofs.Entries.{entry_at-begins}
use Rattle.mm_count.proofs.References.{references_of, references-with_entry}
use Rattle.mm_count.proofs.Places.{bare, bared, composite_of-bare, new, bared-is, cases, IsOwn, IsOther}
use Rattle.mm_count.proofs.Places.{composite_of-own, composite_of-other}
use Rattle.mm_count.proofs.Composites.{clash, differs, decides, refutes, one_above}

pub counts_of-begins : (objects : StoredObjects) (b : ℕ) (x : StoredObject) → Begins objects b x
    → counts_of objects b ≡ (composite_of x).count
counts_of-begins objects b x begins =
    ap (λ (e : Option StoredObject). (composite_told e).count) (entry_at-begins objects b x begins)

view-bare : (x : StoredObject) → view_of_stored (bare x) ≡ view_of_stored x
view-bare x =
    ap (λ (b : Bool). record (view_of_stored x) { sticky = b })
    (ap (λ (c : Composite). c.sticky) (composite_of-bare x))

seen-bare : (objects : StoredObjects) → views_of (bared objects) ≡ views_of objects
seen-bare [] = refl
seen-bare (None ∷ objects) = ap (λ (vs : ObjectsByBase). None ∷ vs) (seen-bare objects)
seen-bare (Some x ∷ objects) =
    ap (λ (v : ObjectView). Some v ∷ views_of (bared objects)) (view-bare x)
    ∙ ap (λ (vs : ObjectsByBase). Some (view_of_stored x) ∷ vs) (seen-bare objects)

-- a count and the places outside change alike
pub record IsStep (before after : ℕ → ℕ) (base : ℕ) (c c' : Composite) : Type 0 where
  pub was : c.sticky ≡ false
  pub total : c'.count + before base ≡ c.count + after base
  pub few : c.count ≤ 254 → c'.count ≤ 254

module _ (h h' : Heap) (f : Composite → Composite) (base : ℕ) (o : StoredObject) (begins : Begins h.objects base o)
    (e : without_places h' ≡ changed_at f base (without_places h)) where
  abbrev now : Composite
  now = f (unplaced (composite_of o))

  pub views-is : views_of h'.objects
      ≡ with_entry base (Some (view_of_stored (new h h' f base o begins e))) (views_of h.objects)
  views-is =
      let n = new h h' f base o begins e in
      sym (seen-bare h'.objects) ∙ ap views_of (bared-is h h' f base o begins e)
      ∙ map-set (option_map view_of_stored) (bared h.objects) (base / 16) (Some n)
      ∙ ap (λ (vs : ObjectsByBase). with_entry base (Some (view_of_stored n)) vs) (seen-bare h.objects)

  references-is : (b : ℕ) → references_in (views_of h'.objects) b ≡ references_in (views_of h.objects) b
  references-is b =
      let n = new h h' f base o begins e in
      let sums = references-with_entry (views_of h.objects) base (view_of_stored o) (view_of_stored n)
      (begins_mapped view_of_stored h.objects base o begins) b in
      let same : references_of (view_of_stored n) b ≡ references_of (view_of_stored o) b = refl in
      let after : references_in (views_of h'.objects) b
      ≡ references_in (with_entry base (Some (view_of_stored n)) (views_of h.objects)) b =
      ap (λ (vs : ObjectsByBase). references_in vs b) views-is in
      omega arith

  module _ (fits : FitsWord now) (before after : ℕ → ℕ) (others : (b : ℕ) → b ≢ base → after b ≡ before b)
      (step : now.sticky ≡ false → IsStep before after base (composite_of o) now) (right : IsCountedBy h.objects
      before) where
    record IsCount (b : ℕ) : Type 0 where
      exact : counts_of h'.objects b ≡ count_at (views_of h'.objects) after b
      few : counts_of h'.objects b ≤ 254

    count-own : (b : ℕ) (x : StoredObject) → Begins h'.objects b x → IsTrue (is_counted x.kind)
        → (composite_of x).sticky ≡ false → b ≡ base → bare x ≡ new h h' f base o begins e → IsCount b
    count-own b x there counted exact at is =
        let c = composite_of-own h h' f base o begins e x fits is in
        let sticky : now.sticky ≡ false = sym (ap (λ (c : Composite). c.sticky) c) ∙ exact in
        let count : (composite_of x).count ≡ now.count = ap (λ (c : Composite). c.count) c in
        let s = step sticky in
        let kind : x.kind ≡ o.kind = ap (λ (z : StoredObject). z.kind) is in
        let own = begins_mapped view_of_stored h.objects base o begins in
        let tells = subst (λ k. IsTrue (is_counted k)) kind counted in
        let old = right.exact base (view_of_stored o) own tells s.was in
        let limit = right.few base (view_of_stored o) own tells s.was in
        let was = counts_of-begins h.objects base o begins in
        let is_now = counts_of-begins h'.objects b x there in
        let total = s.total in
        let refs = references-is b in
        let same : references_in (views_of h.objects) b ≡ references_in (views_of h.objects) base =
        ap (references_in (views_of h.objects)) at in
        let outside : after b ≡ after base = ap after at in
        let most = s.few (omega arith) in
        record { exact = omega arith; few = omega arith }

    count-other : (b : ℕ) (x : StoredObject) → Begins h'.objects b x → IsTrue (is_counted x.kind)
        → (composite_of x).sticky ≡ false → IsOther h h' f base o begins e b x → IsCount b
    count-other b x there counted exact k =
        let c = composite_of-other h h' f base o begins e k.object x k.is in
        let sticky : (composite_of k.object).sticky ≡ false = ap (λ (c : Composite). c.sticky) c ∙ exact in
        let count : (composite_of k.object).count ≡ (composite_of x).count = ap (λ (c : Composite). c.count) c in
        let kind : x.kind ≡ k.object.kind = ap (λ (z : StoredObject). z.kind) (sym k.is) in
        let own = begins_mapped view_of_stored h.objects b k.object k.begun in
        let tells = subst (λ k. IsTrue (is_counted k)) kind counted in
        let old = right.exact b (view_of_stored k.object) own tells sticky in
        let limit = right.few b (view_of_stored k.object) own tells sticky in
        let was = counts_of-begins h.objects b k.object k.begun in
        let is_now = counts_of-begins h'.objects b x there in
        let refs = references-is b in
        let outside = others b k.apart in
        record { exact = omega arith; few = omega arith }

    count-now : (b : ℕ) (v : ObjectView) → Begins (views_of h'.objects) b v → IsTrue (is_counted v.kind)
        → v.sticky ≡ false → IsCount b
    count-now b v there counted exact =
        let m = mapped_begins view_of_stored h'.objects b v there in
        let kind : m.value.kind ≡ v.kind = ap (λ (z : ObjectView). z.kind) m.is in
        let sticky : (composite_of m.value).sticky ≡ false = ap (λ (z : ObjectView). z.sticky) m.is ∙ exact in
        let tells = subst (λ k. IsTrue (is_counted k)) (sym kind) counted in
        ⊎_elim
        (λ (c : IsOwn h h' f base o begins e b m.value). count-own b m.value m.begins tells sticky c.at c.is)
        (λ (c : IsOther h h' f base o begins e b m.value). count-other b m.value m.begins tells sticky c)
        (cases h h' f base o begins e b m.value m.begins)

    pub counted : IsCountedBy h'.objects after
    counted =
        record {
          exact = λ b v there tells exact. (count-now b v there tells exact).exact;
          few = λ b v there tells exact. (count-now b v there tells exact).few;
        }

pub one_more-here : (outside : ℕ → ℕ) (base : ℕ) → one_more outside base base ≡ outside base + 1
one_more-here outside base = ap (λ b. cond b (outside base + 1) (outside base)) (decides base base refl)

pub one_more-other : (outside : ℕ → ℕ) (base b : ℕ) → b ≢ base → one_more outside base b ≡ outside b
one_more-other outside base b other = ap (λ t. cond t (outside b + 1) (outside b)) (refutes b base other)

module _ (h h' : Heap) (base : ℕ) (o : StoredObject) (begins : Begins h.objects base o)
    (is : IsComposite (composite_of o)) where
  abbrev c : Composite
  c = composite_of o

  pub fits-raised : FitsWord (raised (unplaced c))
  fits-raised = split c.sticky refl
    where
      split : (b : Bool) → c.sticky ≡ b → FitsWord (cond b (unplaced c) (one_above (unplaced c)))
      split true e = let n = is.sticky e in record { count = omega arith; place = omega arith }
      split false e = let n = is.exact e in record { count = omega arith; place = omega arith }

  step-raised : (outside : ℕ → ℕ) → (raised (unplaced c)).sticky ≡ false
      → IsStep outside (one_more outside base) base c (raised (unplaced c))
  step-raised outside = split c.sticky refl
    where
      split : (b : Bool) → c.sticky ≡ b → (cond b (unplaced c) (one_above (unplaced c))).sticky ≡ false
          → IsStep outside (one_more outside base) base c (cond b (unplaced c) (one_above (unplaced c)))
      split true e exact = clash (sym exact ∙ e)
      split false e exact =
          let more = one_more-here outside base in
          let ne = differs c.count 254 exact in
          record { was = e; total = omega arith; few = λ most. omega arith }

  pub counted-raised : without_places h' ≡ changed_at raised base (without_places h) → (outside : ℕ → ℕ)
      → IsCountedBy h.objects outside → IsCountedBy h'.objects (one_more outside base)
  counted-raised e outside =
      counted h h' raised base o begins e fits-raised outside (one_more outside base)
      (λ b other. one_more-other outside base b other) (step-raised outside)

  abbrev pub less : Composite
  less = record (unplaced c) { count = c.count - 1; listed = c.count == 1 }

  pub fits-lowered : FitsWord (lowered (unplaced c))
  fits-lowered = split c.sticky refl
    where
      split : (b : Bool) → c.sticky ≡ b → FitsWord (cond b (unplaced c) less)
      split true e = let n = is.sticky e in record { count = omega arith; place = omega arith }
      split false e = let n = is.exact e in record { count = omega arith; place = omega arith }

  pub counted-lowered : (c.sticky ≡ false → c.count ≢ 0)
      → without_places h' ≡ changed_at lowered base (without_places h) → (outside : ℕ → ℕ)
      → IsCountedBy h.objects (one_more outside base) → IsCountedBy h'.objects outside
  counted-lowered some e outside =
      counted h h' lowered base o begins e fits-lowered (one_more outside base) outside
      (λ b other. sym (one_more-other outside base b other)) (split c.sticky refl)
    where
      split : (b : Bool) → c.sticky ≡ b → (cond b (unplaced c) less).sticky ≡ false
          → IsStep (one_more outside base) outside base c (cond b (unplaced c) less)
      split true e exact = clash (sym exact ∙ e)
      split false e exact =
          let more = one_more-here outside base in
          let ne = some e in
          record { was = e; total = omega arith; few = λ most. omega arith }

  pub fits-now : FitsWord (unplaced c)
  fits-now = split c.sticky refl
    where
      split : (b : Bool) → c.sticky ≡ b → FitsWord (unplaced c)
      split true e = let n = is.sticky e in record { count = omega arith; place = omega arith }
      split false e = let n = is.exact e in record { count = omega arith; place = omega arith }

  -- where neither the count nor the mark changes
  pub counted-entered : without_places h' ≡ changed_at entered base (without_places h) → (outside : ℕ → ℕ)
      → IsCountedBy h.objects outside → IsCountedBy h'.objects outside
  counted-entered e outside =
      let fits : FitsWord (entered (unplaced c)) = record { count = fits-now.count; place = fits-now.place } in
      counted h h' entered base o begins e fits outside outside (λ b other. refl)
      (λ exact. record { was = exact; total = refl; few = λ most. most })

  pub counted-left : without_places h' ≡ changed_at left base (without_places h) → (outside : ℕ → ℕ)
      → IsCountedBy h.objects outside → IsCountedBy h'.objects outside
  counted-left e outside =
      let fits : FitsWord (left (unplaced c)) = record { count = fits-now.count; place = fits-now.place } in
      counted h h' left base o begins e fits outside outside (λ b other. refl)
      (λ exact. record { was = exact; total = refl; few = λ most. most })

  pub counted-pinned : (pinned : Bool) → without_places h' ≡ changed_at (with_pin pinned) base (without_places h)
      → (outside : ℕ → ℕ) → IsCountedBy h.objects outside → IsCountedBy h'.objects outside
  counted-pinned pinned e outside =
      let fits : FitsWord (with_pin pinned (unplaced c)) = record { count = fits-now.count; place = fits-now.place } in
      counted h h' (with_pin pinned) base o begins e fits outside outside (λ b other. refl)
      (λ exact. record { was = exact; total = refl; few = λ most. most })
