-- What a heap is once a weak object was made in it and linked.
use Rattle.std.proofs.Common.{◌≡◌, ℕ, ◌*◌, ◌/◌, false, Option, Some, None, sym, ap, subst, ◌∙◌, arith}
use Rattle.std.specs.Prelude.{slice_get, slice_set}
use Rattle.mm_model.specs.declared.object.Colour.{Colour}
use Rattle.mm_model.specs.Places.SizeClass.{size_of, extent_of}
use Rattle.mm_model.specs.Effect.{weak_shape}
use Rattle.mm_model.specs.Object.{is_weak}
use Rattle.mm_model.specs.Views.ByBase.{Begins, with_entry}
use Rattle.mm_pages.specs.Pages.{Pages}
use Rattle.mm_cells.specs.Placing.{IsPlaceFor}
use Rattle.mm_object.specs.Object.{StoredObject, newly_stored}
use Rattle.mm_object.specs.Heap.{Heap, cells_in, IsSound, FitsHeap, TakesWords}
use Rattle.mm_weak.specs.Links.{IsLinked, IsWeakMade, with_weak, newly_weak, with_partners}
use Rattle.mm_weak.proofs.Entries.{begins-entry, begins-other_entry, with_entry-twice}
use Rattle.mm_weak.proofs.Places.{extent-weak, place-grain}
use Rattle.mm_weak.proofs.Couples.{IsLinked-made}

-- a weak object was made, and isn't linked yet
pub record IsBorn (before after : Heap) (w : ℕ) (colour : Colour) : Type 0 where
  pub heap : Pages
  pub place : IsPlaceFor (cells_in before) heap (size_of 16) (Some w)
  pub was_none : slice_get before.objects (w / 16) ≡ Some None
  pub created : after ≡ record before {
    objects = with_entry w (Some (newly_stored weak_shape colour)) before.objects;
    runs = slice_set before.runs (w / 4096) 1;
    raw = after.raw;
  }

module _ (h m : Heap) (w : ℕ) (colour : Colour) (born : IsBorn h m w colour) where
  grain : (j : ℕ) × (w ≡ 16 * j)
  grain = place-grain (cells_in h) born.heap w born.place

  was_none : slice_get h.objects grain.0 ≡ Some None
  was_none =
      let at = grain.1 in
      let whole : grain.0 ≡ w / 16 = omega arith in
      ap (slice_get h.objects) whole ∙ born.was_none

  objects-born : m.objects ≡ with_entry w (Some (newly_stored weak_shape colour)) h.objects
  objects-born = ap (λ (x : Heap). x.objects) born.created

  pub begins-born : Begins m.objects w (newly_stored weak_shape colour)
  begins-born =
      subst (λ objects. Begins objects w (newly_stored weak_shape colour)) (sym objects-born)
      (begins-entry h.objects w grain.0 None (newly_stored weak_shape colour) grain.1 was_none)

  module _ (base : ℕ) (target : StoredObject) (begins : Begins h.objects base target) where
    pub born-apart : base ≡ w → ⊥
    born-apart same =
        let aligned = begins.aligned in
        let at = grain.1 in
        let one : grain.0 ≡ begins.grain = omega arith in
        empty (sym was_none ∙ ap (slice_get h.objects) one ∙ begins.is)
      where
        empty : {x : StoredObject} → ◌≡◌ {A = Option (Option StoredObject)} (Some None) (Some (Some x)) → ⊥
        empty e = cc

    pub begins-target : Begins m.objects base target
    begins-target =
        subst (λ objects. Begins objects base target) (sym objects-born)
        (begins-other_entry h.objects w grain.0 (Some (newly_stored weak_shape colour)) base target grain.1 begins
        born-apart)

    module _ (f : Heap) (joined : f ≡ with_partners m base (with_weak w target) w (newly_weak base colour)) where
      objects-joined : f.objects ≡ with_entry base (Some (with_weak w target))
          (with_entry w (Some (newly_weak base colour)) h.objects)
      objects-joined =
          ap (λ (x : Heap). x.objects) joined
          ∙ ap (λ objects. with_entry base (Some (with_weak w target))
          (with_entry w (Some (newly_weak base colour)) objects)) objects-born
          ∙ ap (λ objects. with_entry base (Some (with_weak w target)) objects)
          (with_entry-twice h.objects w (Some (newly_weak base colour)) (Some (newly_stored weak_shape colour)))

      raw-joined : f.raw ≡ m.raw
      raw-joined = ap (λ (x : Heap). x.raw) joined

      same-joined : f ≡ record h {
        objects = with_entry base (Some (with_weak w target)) (with_entry w (Some (newly_weak base colour)) h.objects);
        runs = slice_set h.runs (w / 4096) 1;
        raw = f.raw;
      }
      same-joined =
          joined
          ∙ ap (λ (x : Heap). with_partners x base (with_weak w target) w (newly_weak base colour)) born.created
          ∙ ap (λ objects. record h {
            objects = with_entry base (Some (with_weak w target)) objects;
            runs = slice_set h.runs (w / 4096) 1;
            raw = m.raw;
          })
          (with_entry-twice h.objects w (Some (newly_weak base colour)) (Some (newly_stored weak_shape colour)))
          ∙ ap (λ raw. record h {
            objects = with_entry base (Some (with_weak w target))
                (with_entry w (Some (newly_weak base colour)) h.objects);
            runs = slice_set h.runs (w / 4096) 1;
            raw = raw;
          })
          (sym raw-joined)

      pub made-joined : TakesWords h.raw m.raw w (extent_of 16) → IsWeakMade h base colour w f
      made-joined raw =
          record {
            target = target;
            begins = begins;
            was_none = born.was_none;
            same = same-joined;
            raw =
                subst (λ words. TakesWords h.raw words w 16) (sym raw-joined)
                (subst (λ (extent : ℕ). TakesWords h.raw m.raw w extent) extent-weak raw);
          }

      pub fits-joined : (heap : Pages) → FitsHeap m heap → FitsHeap f heap
      fits-joined heap fits =
          subst (λ (x : Heap). FitsHeap x heap) (sym joined) (record { parked = fits.parked; memory = fits.memory })

      pub linked-joined : IsLinked h → is_weak target.kind ≡ false → target.link ≡ 0 → IsSound m → IsLinked f
      linked-joined linked kind alone sound =
          let target_inside = (sound.inside base target begins-target).from in
          let weak_inside = (sound.inside w (newly_stored weak_shape colour) begins-born).from in
          IsLinked-made h f base w grain.0 colour target linked begins kind alone (λ zero. omega arith)
          (λ zero. omega arith) born-apart grain.1 was_none objects-joined
