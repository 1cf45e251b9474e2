-- What is told of the live object in which a word falls.
use Rattle.std.specs.Prelude.{◌≡◌, ℕ, ◌≤◌, length, Some, None, Result, Ok, Err, slice_get}
use Rattle.mm_model.specs.declared.refusal.Refusal.{Refusal}
use Rattle.mm_model.specs.declared.refusal.Refusal.TheVariants as refusals
use Rattle.mm_model.specs.Views.ByBase.{Based}
use Rattle.mm_model.specs.Views.ObjectView.{ObjectView}
use Rattle.mm_model.specs.Views.View.{View}
use Rattle.mm_model.specs.Views.ViewWords.{resolved_in}
use Rattle.mm_gc.specs.declared.describing.Described.{Described}

-- all of an object that doesn't change as long as it lives, but for its partner
abbrev pub described : Based ObjectView → Described
described o =
    record {
      base = o.base;
      kind = o.value.kind;
      finalize = o.value.finalize;
      extent = o.value.extent;
      counted = o.value.counted;
      slots = length o.value.words;
    }

-- the word falls in an object, whose slot holds this
pub record IsSlotWord (view : View) (word s value : ℕ) : Type 0 where
  pub object : Based ObjectView
  pub resolved : resolved_in view.objects word ≡ Some object
  pub holds : slice_get object.value.words s ≡ Some value

-- it falls in one that has no such slot
pub record HasNoSlotThere (view : View) (word s : ℕ) : Type 0 where
  pub object : Based ObjectView
  pub resolved : resolved_in view.objects word ≡ Some object
  pub past : length object.value.words ≤ s

abbrev pub SlotAnswer : View → ℕ → ℕ → Result ℕ Refusal → Type 0
SlotAnswer view word s (Ok value) = IsSlotWord view word s value
SlotAnswer view word s (Err refusals.Nothing) = resolved_in view.objects word ≡ None
SlotAnswer view word s (Err refusals.NoSlot) = HasNoSlotThere view word s
SlotAnswer view word s (Err because) = ⊥
