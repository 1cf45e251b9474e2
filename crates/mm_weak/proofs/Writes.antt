-- What writing the links and the flag of a couple does to a heap.
use Rattle.std.proofs.Common.{◌≡◌, ℕ, Bool, Some, sym, ap, subst, ◌∙◌}
use Rattle.mm_model.specs.Views.ByBase.{Begins}
use Rattle.mm_object.specs.Object.{StoredObject}
use Rattle.mm_object.specs.Heap.{Heap, with_object}
use Rattle.mm_weak.specs.Links.{with_partners}
use Rattle.mm_weak.proofs.Entries.{begins-entry, begins-other_entry, with_entry-twice}

-- an object at its base once it's another
pub begins-with_object : (h : Heap) (base : ℕ) (old new : StoredObject) → Begins h.objects base old
    → Begins (with_object h base (Some new)).objects base new
begins-with_object h base old new begins =
    begins-entry h.objects base begins.grain (Some old) new begins.aligned begins.is

-- an object at another base
pub begins-with_other : (h : Heap) (w : ℕ) (weak new : StoredObject) (base : ℕ) (object : StoredObject)
    → Begins h.objects w weak → Begins h.objects base object → (base ≡ w → ⊥)
    → Begins (with_object h w (Some new)).objects base object
begins-with_other h w weak new base object at begins apart =
    begins-other_entry h.objects w at.grain (Some new) base object at.aligned begins apart

-- the heap after each of three writes
pub record Writes (h first second third : Heap) (base w target_link weak_link : ℕ) (has_weak : Bool) : Type 0 where
  pub on_weak : (object : StoredObject) → Begins h.objects w object
      → first ≡ with_object h w (Some (record object { link = weak_link }))
  pub on_target : (object : StoredObject) → Begins first.objects base object
      → second ≡ with_object first base (Some (record object { link = target_link }))
  pub on_flag : (object : StoredObject) → Begins second.objects base object
      → third ≡ with_object second base (Some (record object { has_weak = has_weak }))

module _ (h first second : Heap) (base w target_link weak_link : ℕ) (target weak : StoredObject)
    (begins : Begins h.objects base target) (at : Begins h.objects w weak) (apart : base ≡ w → ⊥)
    (on_weak : (object : StoredObject) → Begins h.objects w object
    → first ≡ with_object h w (Some (record object { link = weak_link }))) where
  pub begins-first : Begins first.objects base target
  begins-first =
      subst (λ (x : Heap). Begins x.objects base target) (sym (on_weak weak at))
      (begins-with_other h w weak (record weak { link = weak_link }) base target at begins apart)

  pub begins-second : ((object : StoredObject) → Begins first.objects base object
      → second ≡ with_object first base (Some (record object { link = target_link })))
      → Begins second.objects base (record target { link = target_link })
  begins-second on_target =
      subst (λ (x : Heap). Begins x.objects base (record target { link = target_link }))
      (sym (on_target target begins-first))
      (begins-with_object first base target (record target { link = target_link }) begins-first)

pub writes-partners : (h first second third : Heap) (base w target_link weak_link : ℕ) (has_weak : Bool)
    (target weak : StoredObject) → Writes h first second third base w target_link weak_link has_weak
    → Begins h.objects base target → Begins h.objects w weak → (base ≡ w → ⊥)
    → third ≡ with_partners h base (record target { link = target_link; has_weak = has_weak }) w
    (record weak { link = weak_link })
writes-partners h first second third base w target_link weak_link has_weak target weak writes begins at apart =
    let linked = begins-first h first second base w target_link weak_link target weak begins at apart writes.on_weak in
    let flagged =
    begins-second h first second base w target_link weak_link target weak begins at apart writes.on_weak
    writes.on_target in
    let last : StoredObject = record target { link = target_link; has_weak = has_weak } in
    writes.on_flag (record target { link = target_link }) flagged
    ∙ ap (λ (x : Heap). with_object x base (Some last)) (writes.on_target target linked)
    ∙ ap (λ objects. record first { objects = objects })
    (with_entry-twice first.objects base (Some last) (Some (record target { link = target_link })))
    ∙ ap (λ (x : Heap). with_object x base (Some last)) (writes.on_weak weak at)
