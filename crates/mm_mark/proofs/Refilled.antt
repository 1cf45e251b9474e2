-- A walk that fills the queue again: which gray objects are known on the way.
use Rattle.std.proofs.Common.{◌≡◌, ℕ, ◌+◌, ◌≤◌, Bool, true, false, [], ◌∷◌, Option, Some}
use Rattle.std.proofs.Common.{None, inl, inr, refl, sym, ap, subst, ◌∙◌, arith}
use Rattle.std.specs.Prelude.{IsTrue, ◌||◌, ◌==◌}
use Rattle.std.specs.List.{list_any}
use Rattle.std.proofs.lemmas.Bool.{cases_eq, eq-eqb}
use Rattle.mm_model.specs.declared.object.Colour.TheVariants.{Gray}
use Rattle.mm_model.specs.Views.View.{PartlyScannedView}
use Rattle.mm_object.specs.Object.{views_of}
use Rattle.mm_object.specs.Heap.{Heap}
use Rattle.mm_object.specs.Colours.{IsNextOf, NoneOfFrom}
use Rattle.mm_mark.specs.Marker.{Marker, AreKnown}
use Rattle.mm_mark.specs.Parts.{IsKnown, AreOthersKnown, NoneIsGray}
use Rattle.mm_mark.specs.Refill.{NoneGrayBefore}
use Rattle.mm_mark.proofs.Known.{told-known}
use Rattle.mm_mark.proofs.Reading.{seen-coloured}

-- a marker that walks from a base on
abbrev pub walking : Marker → ℕ → Marker
walking marker from = record marker { left_out = Some from }

-- with an empty queue and nothing scanned in part, what is known begins where objects are left out
left-known : (marker : Marker) (next base : ℕ) → marker.queue ≡ [] → marker.partly ≡ None
    → marker.left_out ≡ Some next → IsKnown marker base → next ≤ base
left-known marker next base empty none left (IsKnown.Is_queued q) =
    let no : ◌≡◌ {A = Bool} false true = sym (ap (list_any (λ entry. entry == base)) empty) ∙ q in
    cc
left-known marker next base empty none left (IsKnown.Is_partly_scanned p is at) =
    let no : ◌≡◌ {A = Option PartlyScannedView} None (Some p) = sym none ∙ is in
    cc
left-known marker next base empty none left (IsKnown.Is_left_out n is from) =
    let both : ◌≡◌ {A = Option ℕ} (Some next) (Some n) = sym left ∙ is in
    let same : next ≡ n = cc in
    omega arith

module _ (h : Heap) (marker : Marker) (next : ℕ) (empty : marker.queue ≡ []) (none : marker.partly ≡ None)
    (left : marker.left_out ≡ Some next) (known : AreKnown marker (views_of h.objects)) where
  -- where a walk finds none, there is none
  pub walked-none : NoneOfFrom h Gray next → NoneIsGray (views_of h.objects)
  walked-none over base object begins gray =
      let has = seen-coloured h base object begins in
      let from = left-known marker next base empty none left (told-known marker base (known base object begins gray)) in
      let below = over base has.object has.begins (has.is ∙ gray) in
      omega arith

  -- what it finds first is the first
  pub walked-first : (first : ℕ) → IsNextOf h Gray next first → NoneGrayBefore (views_of h.objects) first
  walked-first first found base object begins gray =
      let has = seen-coloured h base object begins in
      let from = left-known marker next base empty none left (told-known marker base (known base object begins gray)) in
      found.least base has.object has.begins (has.is ∙ gray) from

-- it goes on behind the first
pub walk-begins : (h : Heap) (marker : Marker) (first : ℕ) → NoneGrayBefore (views_of h.objects) first
    → AreOthersKnown (walking marker (first + 1)) (views_of h.objects) first
walk-begins h marker first before other object begins gray apart =
    let from = before other object begins gray in
    IsKnown.Is_left_out (first + 1) refl (omega arith)

module _ (h : Heap) (marker : Marker) (first from : ℕ)
    (others : AreOthersKnown (walking marker from) (views_of h.objects) first) where
  -- the next one goes into the queue
  pub walk-queues : (new : Marker) (base : ℕ) → IsNextOf h Gray from base
      → new ≡ record marker { queue = base ∷ marker.queue }
      → AreOthersKnown (walking new (base + 1)) (views_of h.objects) first
  walk-queues new base found is other object begins gray apart =
      subst (λ (m : Marker). IsKnown (walking m (base + 1)) other) (sym is)
      (split (others other object begins gray apart))
    where
      later : (own : Bool) → IsTrue (list_any (λ entry. entry == other) marker.queue)
          → IsTrue (own || list_any (λ entry. entry == other) marker.queue)
      later true h = refl
      later false h = h

      split : IsKnown (walking marker from) other
          → IsKnown (walking (record marker { queue = base ∷ marker.queue }) (base + 1)) other
      split (IsKnown.Is_queued q) = IsKnown.Is_queued (later (base == other) q)
      split (IsKnown.Is_partly_scanned p e at) = IsKnown.Is_partly_scanned p e at
      split (IsKnown.Is_left_out n e reached) = elim (cases_eq base other) [
        | inl same ↦
            IsKnown.Is_queued (subst (λ (x : Bool). IsTrue (x || list_any (λ entry. entry == other) marker.queue))
            (sym (eq-eqb base other same)) refl)
        | inr d ↦
            let both : ◌≡◌ {A = Option ℕ} (Some from) (Some n) = e in
            let this : from ≡ n = cc in
            let has = seen-coloured h other object begins in
            let least = found.least other has.object has.begins (has.is ∙ gray) (omega arith) in
            IsKnown.Is_left_out (base + 1) refl (omega arith)
      ]

  -- or is left out, and all behind it
  pub walk-stops : (base : ℕ) → IsNextOf h Gray from base →
      AreOthersKnown (walking marker base) (views_of h.objects) first
  walk-stops base found other object begins gray apart = split (others other object begins gray apart)
    where
      split : IsKnown (walking marker from) other → IsKnown (walking marker base) other
      split (IsKnown.Is_queued q) = IsKnown.Is_queued q
      split (IsKnown.Is_partly_scanned p e at) = IsKnown.Is_partly_scanned p e at
      split (IsKnown.Is_left_out n e reached) =
          let both : ◌≡◌ {A = Option ℕ} (Some from) (Some n) = e in
          let this : from ≡ n = cc in
          let has = seen-coloured h other object begins in
          IsKnown.Is_left_out base refl (found.least other has.object has.begins (has.is ∙ gray) (omega arith))

  -- where none is left, nothing is left out any more
  pub walk-ends : NoneOfFrom h Gray from
      → AreOthersKnown (record marker { left_out = None }) (views_of h.objects) first
  walk-ends over other object begins gray apart = split (others other object begins gray apart)
    where
      split : IsKnown (walking marker from) other → IsKnown (record marker { left_out = None }) other
      split (IsKnown.Is_queued q) = IsKnown.Is_queued q
      split (IsKnown.Is_partly_scanned p e at) = IsKnown.Is_partly_scanned p e at
      split (IsKnown.Is_left_out n e reached) =
          let both : ◌≡◌ {A = Option ℕ} (Some from) (Some n) = e in
          let this : from ≡ n = cc in
          let has = seen-coloured h other object begins in
          let below = over other has.object has.begins (has.is ∙ gray) in
          absurd (omega arith)
