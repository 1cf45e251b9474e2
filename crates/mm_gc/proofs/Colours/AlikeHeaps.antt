-- What doesn't depend on the colours of the objects of a heap.
use Rattle.std.proofs.Common.{◌≡◌, ℕ, ◌+◌, ◌≤◌, [], ◌∷◌, Some, None, refl, sym, ap, ◌∙◌, subst}
use Rattle.std.specs.Prelude.{IsTrue}
use Rattle.mm_model.specs.declared.object.Colour.{Colour}
use Rattle.mm_model.specs.Views.ByBase.{Begins}
use Rattle.mm_model.specs.Views.ObjectView.{ObjectView}
use Rattle.mm_model.specs.Views.GoodView.{AreWhite}
use Rattle.mm_model.specs.Object.{is_counted}
use Rattle.mm_model.proofs.View.ByBase.MappedEntries.{begins_mapped, mapped_begins}
use Rattle.mm_object.specs.Object.{StoredObject, StoredObjects, view_of_stored, views_of}
use Rattle.mm_object.specs.Heap.{Heap}
use Rattle.mm_object.specs.Colours.{white_object, all_whitened}
use Rattle.mm_weak.specs.Links.{IsLinked}
use Rattle.mm_count.specs.Table.{Table, IsRight}
use Rattle.mm_count.specs.Counts.{IsCountedBy}
use Rattle.mm_count.proofs.Counted.{counts_of-begins}
use Rattle.mm_mark.specs.Colours.{IsSameButColours}
use Rattle.mm_sweep.proofs.Whitened.{whitened, whitened-begins, views-whitened}
use Rattle.mm_gc.specs.Counts.{HasCounts}
use Rattle.mm_gc.proofs.Colours.Alike.{AreAlike, references-alike, paired-alike, white-all_white}

-- once all is white, all is white
pub whitened-white : (h : Heap) → AreWhite (views_of (all_whitened h).objects)
whitened-white h = subst AreWhite (sym (views-whitened h.objects)) (white-all_white (views_of h.objects))

pub whitened-twice : (h : Heap) → all_whitened (all_whitened h) ≡ all_whitened h
whitened-twice h = ap (λ (os : StoredObjects). record h { objects = os }) (each h.objects)
  where
    each : (objects : StoredObjects) → whitened (whitened objects) ≡ whitened objects
    each [] = refl
    each (None ∷ objects) = ap (λ (os : StoredObjects). None ∷ os) (each objects)
    each (Some o ∷ objects) = ap (λ (os : StoredObjects). Some (white_object o) ∷ os) (each objects)

module _ (a b : Heap) (same : IsSameButColours a b) where
  pub views-alike : AreAlike (views_of a.objects) (views_of b.objects)
  views-alike =
      sym (views-whitened a.objects) ∙ ap (λ (h : Heap). views_of h.objects) (sym same) ∙ views-whitened b.objects

  -- all but objects is the same
  pub rest-alike : b ≡ record a { objects = b.objects }
  rest-alike = ap (λ (h : Heap). record h { objects = b.objects }) same

  begins-stored : (base : ℕ) (y : StoredObject) → Begins b.objects base y
      → (colour : Colour) × Begins a.objects base (record y { colour = colour })
  begins-stored base y begins =
      let white : Begins (whitened a.objects) base (white_object y) =
      subst (λ (h : Heap). Begins h.objects base (white_object y)) same
      (begins_mapped white_object b.objects base y begins) in
      let w = whitened-begins a.objects base (white_object y) white in (
        w.was.colour,
        subst (λ (o : StoredObject). Begins a.objects base o)
            (sym (ap (λ (o : StoredObject). record o { colour = w.was.colour }) w.is)) w.begins,
      )

  stored-begins : (base : ℕ) (y : StoredObject) → Begins a.objects base y
      → (colour : Colour) × Begins b.objects base (record y { colour = colour })
  stored-begins base y begins =
      let white : Begins (whitened b.objects) base (white_object y) =
      subst (λ (h : Heap). Begins h.objects base (white_object y)) (sym same)
      (begins_mapped white_object a.objects base y begins) in
      let w = whitened-begins b.objects base (white_object y) white in (
        w.was.colour,
        subst (λ (o : StoredObject). Begins b.objects base o)
            (sym (ap (λ (o : StoredObject). record o { colour = w.was.colour }) w.is)) w.begins,
      )

  right-alike : (table : Table) → IsRight table a → IsRight table b
  right-alike table right =
      record {
        pages = subst (λ (n : ℕ). n ≤ table.pages) (ap (λ (h : Heap). h.pages) (sym same)) right.pages;
        spelled = λ base o begins.
            let one = begins-stored base o begins in
            let was = right.spelled base (record o { colour = one.0 }) one.1 in
            record { word = was.word; counted = was.counted; other = was.other };
        entered = λ base o begins listed.
            let one = begins-stored base o begins in
            right.entered base (record o { colour = one.0 }) one.1 listed;
        entries = λ place base is.
            let e = right.entries place base is in
            let one = stored-begins base e.object e.begins in
            record {
              object = record e.object { colour = one.0 };
              begins = one.1;
              counted = e.counted;
              listed = e.listed;
              stands = e.stands;
            };
      }

  counted-alike : (outside : ℕ → ℕ) → IsCountedBy a.objects outside → IsCountedBy b.objects outside
  counted-alike outside right =
      record {
        exact = λ base view begins counted free.
            let s = mapped_begins view_of_stored b.objects base view begins in
            let one = begins-stored base s.value s.begins in
            let before = begins_mapped view_of_stored a.objects base (record s.value { colour = one.0 }) one.1 in
            counts_of-begins b.objects base s.value s.begins
            ∙ sym (counts_of-begins a.objects base (record s.value { colour = one.0 }) one.1)
            ∙ right.exact base (view_of_stored (record s.value { colour = one.0 })) before
            (subst (λ (v : ObjectView). IsTrue (is_counted v.kind)) (sym s.is) counted)
            (ap (λ (v : ObjectView). v.sticky) s.is ∙ free)
            ∙ ap (λ (n : ℕ). n + outside base)
            (references-alike (views_of a.objects) (views_of b.objects) views-alike base);
        few = λ base view begins counted free.
            let s = mapped_begins view_of_stored b.objects base view begins in
            let one = begins-stored base s.value s.begins in
            let before = begins_mapped view_of_stored a.objects base (record s.value { colour = one.0 }) one.1 in
            subst (λ (n : ℕ). n ≤ 254)
            (counts_of-begins a.objects base (record s.value { colour = one.0 }) one.1
            ∙ sym (counts_of-begins b.objects base s.value s.begins))
            (right.few base (view_of_stored (record s.value { colour = one.0 })) before
            (subst (λ (v : ObjectView). IsTrue (is_counted v.kind)) (sym s.is) counted)
            (ap (λ (v : ObjectView). v.sticky) s.is ∙ free));
      }

  linked-alike : IsLinked a → IsLinked b
  linked-alike linked =
      record {
        paired = paired-alike (views_of a.objects) (views_of b.objects) views-alike linked.paired;
        flagged = λ base o begins.
            let one = begins-stored base o begins in
            linked.flagged base (record o { colour = one.0 }) one.1;
      }

  pub counts-alike : (table : Table) (outside : ℕ → ℕ) → HasCounts table a outside → HasCounts table b outside
  counts-alike table outside h =
      record {
        right = right-alike table h.right;
        counted = counted-alike outside h.counted;
        listed = record {
          listed = λ base o begins.
              let one = begins-stored base o begins in
              h.listed.listed base (record o { colour = one.0 }) one.1;
        };
        unpinned = record {
          unpinned = λ base o begins.
              let one = begins-stored base o begins in
              h.unpinned.unpinned base (record o { colour = one.0 }) one.1;
        };
        linked = linked-alike h.linked;
      }
