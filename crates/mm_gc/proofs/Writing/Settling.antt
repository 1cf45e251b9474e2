-- A region whose objects change while none comes or goes keeps what it has.
use Rattle.std.proofs.Common.{◌≡◌, ℕ, List, Option, refl, sym, ap, ◌∙◌, subst, arith}
use Rattle.mm_model.specs.Views.ObjectView.{pieces_of_objects}
use Rattle.mm_object.specs.Object.{StoredObjects, views_of}
use Rattle.mm_object.specs.Heap.{Heap, IsSound}
use Rattle.mm_gc.specs.Gc.{Region, objects_in, areas_in}
use Rattle.mm_gc.specs.Kept.{IsSettled}
use Rattle.mm_gc.specs.Regions.{IsSameRegion}
use Rattle.mm_gc.proofs.Regions.Rewritten.{settled-rewritten}

module _ (r : Region) (objects : StoredObjects) where
  abbrev pub recoloured : Region
  recoloured = record r { heap = record r.heap { objects = objects } }

  same-here : IsSameRegion r recoloured
  same-here =
      record {
        name = refl;
        out = omega arith;
        pages = refl;
        cells = refl;
        fixed = refl;
        areas = refl;
        least = refl;
        most = refl;
        heap_pages = refl;
      }

module _ (r : Region) (h : Heap) (rest : h ≡ record r.heap { objects = h.objects }) where
  pub settled-objects : IsSettled r → pieces_of_objects (views_of h.objects) ≡ pieces_of_objects (objects_in r)
      → IsSound h → IsSettled (record r { heap = h })
  settled-objects settled pieces sound =
      settled-rewritten r h
      (rest ∙ ap (λ (raw : List (Option ℕ)). record r.heap { objects = h.objects; raw = raw })
      (sym (ap (λ (x : Heap). x.raw) rest))) pieces sound settled

  pub same_region-objects : IsSameRegion r (record r { heap = h })
  same_region-objects =
      subst (λ (x : Heap). IsSameRegion r (record r { heap = x })) (sym rest) (same-here r h.objects)

  pub areas-objects : areas_in (record r { heap = h }) ≡ areas_in r
  areas-objects = ap (λ (x : Heap). areas_in (record r { heap = x })) rest

-- one change after the other
pub same_region-then : (a b c : Region) → IsSameRegion a b → IsSameRegion b c → IsSameRegion a c
same_region-then a b c first next =
    let p = first.out in
    let q = next.out in
    record {
      name = next.name ∙ first.name;
      out = omega (arith, p, q);
      pages = next.pages ∙ first.pages;
      cells = next.cells ∙ first.cells;
      fixed = next.fixed ∙ first.fixed;
      areas = next.areas ∙ first.areas;
      least = next.least ∙ first.least;
      most = next.most ∙ first.most;
      heap_pages = next.heap_pages ∙ first.heap_pages;
    }
