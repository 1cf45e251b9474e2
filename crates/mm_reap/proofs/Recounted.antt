-- What stays where counting changes composite words.
use Rattle.std.proofs.Common.{◌≡◌, ℕ, refl, sym, ap, ◌∙◌, subst}
use Rattle.mm_model.specs.Views.ByBase.{Begins}
use Rattle.mm_model.specs.Views.ObjectView.{ObjectView, ObjectsByBase}
use Rattle.mm_model.proofs.View.ByBase.Entries.{begins_same}
use Rattle.mm_model.proofs.View.ByBase.MappedEntries.{begins_mapped, mapped_begins}
use Rattle.mm_object.specs.Object.{StoredObject, StoredObjects, view_of_stored, views_of}
use Rattle.mm_object.specs.Heap.{Heap}
use Rattle.mm_count.specs.declared.composite.Composite.{Composite}
use Rattle.mm_count.specs.Table.{composite_of, IsCountedAt}
use Rattle.mm_count.specs.Counts.{composite_told, composite_at, KeepsObjects}
use Rattle.mm_count.specs.DeadApart.{IsRecounted}
use Rattle.mm_count.proofs.Entries.{entry_at-begins}
use Rattle.mm_count.proofs.Null.{keeps-same}

pub composite_at-begins : (objects : StoredObjects) (base : ℕ) (o : StoredObject) → Begins objects base o
    → composite_at objects base ≡ composite_of o
composite_at-begins objects base o begins = ap composite_told (entry_at-begins objects base o begins)

pub view-begins : (objects : StoredObjects) (base : ℕ) (o : StoredObject) → Begins objects base o
    → Begins (views_of objects) base (view_of_stored o)
view-begins objects base o begins = begins_mapped view_of_stored objects base o begins

-- what the model sees at a base is seen of an object
pub record IsSeen (objects : StoredObjects) (base : ℕ) (v : ObjectView) : Type 0 where
  pub object : StoredObject
  pub begins : Begins objects base object
  pub is : view_of_stored object ≡ v

pub seen : (objects : StoredObjects) (base : ℕ) (v : ObjectView) → Begins (views_of objects) base v
    → IsSeen objects base v
seen objects base v begins =
    let m = mapped_begins view_of_stored objects base v begins in
    record { object = m.value; begins = m.begins; is = m.is }

module _ (a b : StoredObjects) (keeps : KeepsObjects a b) where
  abbrev pub counted-to : (base : ℕ) → IsCountedAt a base → IsCountedAt b base
  counted-to base k =
      let now = keeps.to base k.object k.begins in
      record { object = record k.object { composite = now.0 }; begins = now.1; counted = k.counted }

  abbrev pub counted-back : (base : ℕ) → IsCountedAt b base → IsCountedAt a base
  counted-back base k =
      let was = keeps.back base k.object k.begins in
      record { object = record k.object { composite = was.0 }; begins = was.1; counted = k.counted }

  module _ (views : views_of b ≡ views_of a) where
    pub view-same : (base : ℕ) (o p : StoredObject) → Begins a base o → Begins b base p
        → view_of_stored p ≡ view_of_stored o
    view-same base o p here there =
        begins_same (views_of a) base (view_of_stored p) (view_of_stored o)
        (subst (λ (vs : ObjectsByBase). Begins vs base (view_of_stored p)) views (view-begins b base p there))
        (view-begins a base o here)

    pub sticky-same : (base : ℕ) → IsCountedAt a base
        → (composite_at b base).sticky ≡ (composite_at a base).sticky
    sticky-same base k =
        let now = counted-to base k in
        ap (λ (c : Composite). c.sticky) (composite_at-begins b base now.object now.begins)
        ∙ ap (λ (v : ObjectView). v.sticky) (view-same base k.object now.object k.begins now.begins)
        ∙ sym (ap (λ (c : Composite). c.sticky) (composite_at-begins a base k.object k.begins))

pub keeps-both : (a b c : StoredObjects) → KeepsObjects a b → KeepsObjects b c → KeepsObjects a c
keeps-both a b c p q =
    record {
      to = λ base o begins.
          let mid = p.to base o begins in q.to base (record o { composite = mid.0 }) mid.1;
      back = λ base o begins.
          let mid = q.back base o begins in p.back base (record o { composite = mid.0 }) mid.1;
    }

pub recounted-by : {a b : Heap} → views_of b.objects ≡ views_of a.objects → KeepsObjects a.objects b.objects
    → b ≡ record a { objects = b.objects } → IsRecounted a b
recounted-by views objects rest = record { views = views; objects = objects; rest = rest }

pub recounted-same : (h : Heap) → IsRecounted h h
recounted-same h = record { views = refl; objects = keeps-same h.objects; rest = refl }

pub recounted-both : (a b c : Heap) → IsRecounted a b → IsRecounted b c → IsRecounted a c
recounted-both a b c p q =
    record {
      views = q.views ∙ p.views;
      objects = keeps-both a.objects b.objects c.objects p.objects q.objects;
      rest = q.rest ∙ ap (λ (m : Heap). record m { objects = c.objects }) p.rest;
    }

pub pages-same : (a b : Heap) → IsRecounted a b → b.pages ≡ a.pages
pages-same a b p = ap (λ (m : Heap). m.pages) p.rest
