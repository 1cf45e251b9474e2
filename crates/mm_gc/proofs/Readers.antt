-- What is told of the object in which a word falls is what the view has of it.
use Rattle.std.proofs.Common.{◌≡◌, ℕ, ◌<◌, ◌≤◌, Some, None, sym, ap, ◌∙◌, subst}
use Rattle.std.specs.Prelude.{slice_index}
use Rattle.std.specs.Option.{option_map}
use Rattle.mm_model.specs.declared.object.Shape.{Shape}
use Rattle.mm_model.specs.Views.ViewWords.{resolved_in}
use Rattle.mm_object.specs.declared.heap.Found.{Found}
use Rattle.mm_object.specs.Object.{StoredObject, view_of_stored, shape_of}
use Rattle.mm_object.specs.Heap.{Covers, FallsInNone}
use Rattle.mm_gc.specs.declared.describing.Described.{Described}
use Rattle.mm_gc.specs.Describing.{described, IsSlotWord, HasNoSlotThere}
use Rattle.mm_gc.specs.Gc.{Gc, view_of_gc}
use Rattle.mm_gc.specs.Showing.{IsShowing}
use Rattle.mm_gc.proofs.Meaning.{resolved_in-covers, resolved_in-none, cell_get}

-- as it is put together from its parts
abbrev told : ℕ → Shape → ℕ → Described
told base shape extent =
    record {
      base = base;
      kind = shape.kind;
      finalize = shape.finalize;
      extent = extent;
      counted = shape.counted;
      slots = shape.slots;
    }

module _ (gc : Gc) (word : ℕ) (shown : IsShowing (view_of_gc gc)) (found : Found) (object : StoredObject)
    (covers : Covers gc.region.heap word found.base object) (shape : found.shape ≡ shape_of object) where
  pub described-found : (extent : ℕ) → extent ≡ object.extent
      → Some (told found.base found.shape extent) ≡ option_map described (resolved_in (view_of_gc gc).objects word)
  described-found extent is =
      ap (λ (own : Shape). Some (told found.base own extent)) shape
      ∙ ap (λ (bytes : ℕ). Some (told found.base (shape_of object) bytes)) is
      ∙ sym (ap (option_map described) (resolved_in-covers gc word found.base object shown covers))

  pub slot-past : (s : ℕ) → found.shape.slots ≤ s → HasNoSlotThere (view_of_gc gc) word s
  slot-past s past =
      record {
        object = record { base = found.base; value = view_of_stored object };
        resolved = resolved_in-covers gc word found.base object shown covers;
        past = subst (λ (own : Shape). own.slots ≤ s) shape past;
      }

  pub slot-found : (s value : ℕ) → s < found.shape.slots → value ≡ slice_index object.words s
      → IsSlotWord (view_of_gc gc) word s value
  slot-found s value inside is =
      record {
        object = record { base = found.base; value = view_of_stored object };
        resolved = resolved_in-covers gc word found.base object shown covers;
        holds = cell_get object.words s value (subst (λ (own : Shape). s < own.slots) shape inside) is;
      }

pub described-none : (gc : Gc) (word : ℕ) → FallsInNone gc.region.heap word
    → None ≡ option_map described (resolved_in (view_of_gc gc).objects word)
described-none gc word none = sym (ap (option_map described) (resolved_in-none gc word none))
