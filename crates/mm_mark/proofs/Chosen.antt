-- Which gray object is taken, and that the others stay known.
use Rattle.std.proofs.Common.{◌≡◌, ◌≢◌, ℕ, ◌<◌, Bool, true, false, List, [], ◌∷◌, length, drop, Option, Some, None, inl}
use Rattle.std.proofs.Common.{inr, refl, sym, ap, subst, ◌∙◌, arith, eqb-true}
use Rattle.std.specs.Prelude.{IfSome, IsTrue, ◌||◌, ◌==◌, if◌then◌else◌, slice_index}
use Rattle.std.specs.List.{list_any}
use Rattle.std.proofs.lemmas.Bool.{cases_eq, eq-eqb}
use Rattle.mm_model.specs.declared.object.Colour.TheVariants.{Gray}
use Rattle.mm_model.specs.Views.ByBase.{Begins}
use Rattle.mm_model.specs.Views.ObjectView.{ObjectsByBase}
use Rattle.mm_model.specs.Views.View.{PartlyScannedView}
use Rattle.mm_model.specs.Views.ViewStep.{slots_done_of, may_go_on}
use Rattle.mm_object.specs.Object.{view_of_stored, views_of}
use Rattle.mm_object.specs.Heap.{Heap}
use Rattle.mm_mark.specs.Marker.{Marker, IsUnderScan, AreKnown}
use Rattle.mm_mark.specs.Parts.{IsKnown, UnderScan}
use Rattle.mm_mark.proofs.Known.{known-told, told-known, told-under}
use Rattle.mm_mark.specs.Colours.{HasColour, IsNoneGrayAt}
use Rattle.mm_mark.specs.Parts.{NoneIsGray, AreOthersKnown, IsTaken, IsChosen}
use Rattle.mm_mark.proofs.Told.{stored-viewed}
use Rattle.mm_mark.proofs.Reading.{seen-coloured}

-- where the queue is empty, nothing is scanned in part and no entry was left out, nothing is known
pub none-known : (marker : Marker) (base : ℕ) → marker.queue ≡ [] → marker.partly ≡ None
    → marker.left_out ≡ None → IsKnown marker base → ⊥
none-known marker base empty none whole (IsKnown.Is_queued q) =
    let no : ◌≡◌ {A = Bool} false true = sym (ap (list_any (λ entry. entry == base)) empty) ∙ q in
    cc
none-known marker base empty none whole (IsKnown.Is_partly_scanned p is at) =
    let no : ◌≡◌ {A = Option PartlyScannedView} None (Some p) = sym none ∙ is in
    cc
none-known marker base empty none whole (IsKnown.Is_left_out next is from) =
    let no : ◌≡◌ {A = Option ℕ} None (Some next) = sym whole ∙ is in
    cc

pub none-gray_known : (marker : Marker) (objects : ObjectsByBase) → marker.queue ≡ [] → marker.partly ≡ None
    → marker.left_out ≡ None → AreKnown marker objects → NoneIsGray objects
none-gray_known marker objects empty none whole known base object begins gray =
    none-known marker base empty none whole (told-known marker base (known base object begins gray))

module _ (old new : Marker) (entry : ℕ) (some : 0 < length old.queue) (first : entry ≡ slice_index old.queue 0)
    (rest : new ≡ record old { queue = drop 1 old.queue }) where
  -- what is known by another entry than the newest is so without it
  others-known : (base : ℕ) → base ≢ entry → IsKnown old base → IsKnown new base
  others-known base apart (IsKnown.Is_queued q) =
      subst (λ (m : Marker). IsKnown m base) (sym rest) (IsKnown.Is_queued (split old.queue some first q))
    where
      later : (b : Bool) (xs : List ℕ) → (b ≡ true → ⊥) → IsTrue (b || list_any (λ e. e == base) xs)
          → IsTrue (list_any (λ e. e == base) xs)
      later true xs apart t = absurd (apart refl)
      later false xs apart t = t

      split : (queue : List ℕ) → 0 < length queue → entry ≡ slice_index queue 0
          → IsTrue (list_any (λ e. e == base) queue) → IsTrue (list_any (λ e. e == base) (drop 1 queue))
      split [] h f t = absurd (omega arith)
      split (x ∷ xs) h f t = later (x == base) xs (λ e. apart (sym (eqb-true x base e) ∙ sym f)) t
  others-known base apart (IsKnown.Is_partly_scanned p is at) =
      subst (λ (m : Marker). IsKnown m base) (sym rest) (IsKnown.Is_partly_scanned p is at)
  others-known base apart (IsKnown.Is_left_out next is from) =
      subst (λ (m : Marker). IsKnown m base) (sym rest) (IsKnown.Is_left_out next is from)

  -- the newest entry is taken off the queue, and a gray object begins there
  pub entry-taken : (h : Heap) → HasColour h entry Gray → AreKnown old (views_of h.objects) → IsTaken h new entry
  entry-taken h gray known = record {
    gray = gray;
    others = λ base object begins is apart. others-known base apart (told-known old base (known base object begins is));
  }

  -- or none does
  pub entry-dropped : (h : Heap) → IsNoneGrayAt h entry → AreKnown old (views_of h.objects)
      → AreKnown new (views_of h.objects)
  entry-dropped h none known base object begins is =
      let has = seen-coloured h base object begins in
      known-told new base
      (others-known base (λ e. none has.object (subst (λ (b : ℕ). Begins h.objects b has.object) e has.begins)
      (has.is ∙ is)) (told-known old base (known base object begins is)))

-- the object that is scanned in part goes on
pub partly-chosen : (before : Marker) (objects : ObjectsByBase) (p : PartlyScannedView) → before.partly ≡ Some p
    → IfSome before.partly (IsUnderScan objects) → IsChosen before objects p
partly-chosen before objects p is scan = record {
  object = under.object;
  begins = under.begins;
  gray = under.gray;
  done = sym (ap (λ (o : Option PartlyScannedView). slots_done_of o p.base) is
      ∙ ap (λ (b : Bool). if b then p.slots_done else 0) own);
  turn = ap (λ (o : Option PartlyScannedView). may_go_on o p.base) is ∙ own;
  fits = let left = under.some_left in omega arith;
}
  where
    own : (p.base == p.base) ≡ true
    own = eq-eqb p.base p.base refl

    under : UnderScan objects p
    under = told-under objects p (subst (λ (o : Option PartlyScannedView). IfSome o (IsUnderScan objects)) is scan)

-- or a gray object of which no slot is done
pub taken-chosen : (h : Heap) (before marker : Marker) (base : ℕ) → before.partly ≡ None → IsTaken h marker base
    → IsChosen before (views_of h.objects) (record { base = base; slots_done = 0 })
taken-chosen h before marker base none taken = record {
  object = view_of_stored taken.gray.object;
  begins = stored-viewed h.objects base taken.gray.object taken.gray.begins;
  gray = taken.gray.is;
  done = sym (ap (λ (o : Option PartlyScannedView). slots_done_of o base) none);
  turn = ap (λ (o : Option PartlyScannedView). may_go_on o base) none;
  fits = omega arith;
}

-- what a marker knows stays known where it is scanned in part from now on, or isn't what was
pub known-elsewhere : (old new : Marker) (base : ℕ) → new.queue ≡ old.queue → new.left_out ≡ old.left_out
    → IfSome old.partly (λ p. p.base ≡ base) → (other : ℕ) → other ≢ base → IsKnown old other → IsKnown new other
known-elsewhere old new base queue left own other apart (IsKnown.Is_queued q) =
    IsKnown.Is_queued (ap (list_any (λ e. e == other)) queue ∙ q)
known-elsewhere old new base queue left own other apart (IsKnown.Is_partly_scanned p is at) =
    let same : p.base ≡ base = subst (λ (o : Option PartlyScannedView). IfSome o (λ p. p.base ≡ base)) is own in
    absurd (apart (sym at ∙ same))
known-elsewhere old new base queue left own other apart (IsKnown.Is_left_out next is from) =
    IsKnown.Is_left_out next (left ∙ is) from

-- a marker knows all once it knows the others and scans this one in part
pub known-once_partly : (marker : Marker) (objects : ObjectsByBase) (p : PartlyScannedView) → marker.partly ≡ Some p
    → AreOthersKnown marker objects p.base → AreKnown marker objects
known-once_partly marker objects p is others base object begins gray = elim (cases_eq base p.base) [
  | inl e ↦ known-told marker base (IsKnown.Is_partly_scanned p is (sym e))
  | inr d ↦ known-told marker base (others base object begins gray d)
]

-- the same of one that is taken
pub known-once_taken : (h : Heap) (old new : Marker) (p : PartlyScannedView) → old.partly ≡ None
    → new.queue ≡ old.queue → new.left_out ≡ old.left_out → new.partly ≡ Some p → IsTaken h old p.base
    → AreKnown new (views_of h.objects)
known-once_taken h old new p none queue left is taken =
    known-once_partly new (views_of h.objects) p is
    (λ other object begins gray apart. known-elsewhere old new p.base queue left
    (subst (λ (o : Option PartlyScannedView). IfSome o (λ q. q.base ≡ p.base)) (sym none) tt) other apart
    (taken.others other object begins gray apart))
