-- Objects that are freed one after another.
use Rattle.std.proofs.Common.{◌≡◌, ℕ, Bool, false, List, [], ◌++◌, Some, None, refl, sym, ap, subst, ◌∙◌}
use Rattle.std.specs.Prelude.{if◌then◌else◌}
use Rattle.mm_model.specs.Phase.{lists}
use Rattle.mm_model.specs.Views.ByBase.{Begins, changed}
use Rattle.mm_model.proofs.View.ByBase.ChangedEntries.{begins_changed}
use Rattle.mm_pages.specs.Pages.{Pages}
use Rattle.mm_object.specs.Object.{StoredObject, StoredObjects}
use Rattle.mm_object.specs.Heap.{Heap, IsObject}
use Rattle.mm_weak.specs.Links.{unlinked}
use Rattle.mm_sweep.specs.Release.{after_release, Frees}
use Rattle.mm_sweep.proofs.Released.{released-twice, released-none}

pub frees-none : (h : Heap) (pages : Pages) → Frees [] h h pages pages
frees-none h pages =
    record {
      objects = sym (released-none h.objects);
      rest = refl;
      raw = λ place word is. is;
      pages_rest = refl;
      apart = λ runs apart. apart;
      others = λ runs apart are. are;
      all_parked = λ others all. all;
      pages_sound = λ sound. sound;
    }

pub frees-more : (bases more : List ℕ) (h m f : Heap) (p q r : Pages) → Frees bases h m p q → Frees more m f q r
    → Frees (bases ++ more) h f p r
frees-more bases more h m f p q r first next =
    record {
      objects =
          next.objects ∙ ap (changed (after_release more)) first.objects ∙ released-twice bases more h.objects;
      rest =
          next.rest
          ∙ ap (λ (x : Heap). record x { objects = f.objects; runs = f.runs; raw = f.raw }) first.rest;
      raw = λ place word is. next.raw place word (first.raw place word is);
      pages_rest = next.pages_rest ∙ ap (λ (x : Pages). record x { parked = r.parked }) first.pages_rest;
      apart = λ runs apart. next.apart runs (first.apart runs apart);
      others = λ runs apart are. next.others runs (first.apart runs apart) (first.others runs apart are);
      all_parked = λ others all. next.all_parked others (first.all_parked others all);
      pages_sound = λ sound. next.pages_sound (first.pages_sound sound);
    }

-- an object that isn't freed begins where it began
pub stays-object : (bases : List ℕ) (base : ℕ) (h after : Heap) → after.objects
    ≡ changed (after_release bases) h.objects
    → lists bases base ≡ false → IsObject h base → IsObject after base
stays-object bases base h after same out object = (
  left,
  subst (λ (os : StoredObjects). Begins os base left) (sym same)
      (begins_changed (after_release bases) h.objects base object.0 left object.1
      (ap (λ (b : Bool). if b then None else Some left) out)),
)
  where
    left : StoredObject
    left = if lists bases object.0.link then unlinked object.0 else object.0
