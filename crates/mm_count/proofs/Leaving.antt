-- What stays of the counts without the slots of some objects, of the table's members and of the pins where an object's
-- composite changes but for its count.
use Rattle.std.proofs.Common.{◌≡◌, ⊎_elim, ℕ, Bool, List, sym, ap, ◌∙◌, arith, refl}
use Rattle.std.specs.Prelude.{IsTrue}
use Rattle.std.proofs.lemmas.Bool.{cases_eq}
use Rattle.mm_model.specs.Object.{is_counted}
use Rattle.mm_model.specs.Views.ByBase.{Begins}
use Rattle.mm_model.specs.Views.ObjectView.{ObjectsByBase}
use Rattle.mm_model.specs.Views.SetsByBase.{count_at}
use Rattle.mm_object.specs.Object.{StoredObject, views_of}
use Rattle.mm_object.specs.Heap.{Heap}
use Rattle.mm_count.specs.declared.composite.Composite.{Composite}
use Rattle.mm_count.specs.Composite.{FitsWord, IsComposite}
use Rattle.mm_count.specs.Table.{composite_of}
use Rattle.mm_count.specs.Counts.{left, with_pin, changed_at, unplaced, without_places}
use Rattle.mm_count.specs.Listed.{AllListed, KeepsPins, ListsOthers, PinsOne}
use Rattle.mm_count.specs.Apart.{without_dead, AreCountsApart}
use Rattle.mm_count.proofs.Places.{keeps}
use Rattle.mm_count.proofs.Counted.{fits-now}
use Rattle.mm_count.proofs.Views.{said, views-kept, keeps-pins, all-listed, listed-but}
use Rattle.mm_count.proofs.Apart.{views_without, views_of-without_dead}

module _ (h h' : Heap) (f : Composite → Composite) (base : ℕ) (o : StoredObject) (begins : Begins h.objects base o)
    (e : without_places h' ≡ changed_at f base (without_places h)) (fits : FitsWord (f (unplaced (composite_of o))))
    (count : (c : Composite) → (f c).count ≡ c.count) (sticky : (c : Composite) → (f c).sticky ≡ c.sticky) where
  -- an object before with the count and the mark of one now
  record IsOld (b : ℕ) (x : StoredObject) : Type 0 where
    word : ℕ
    begun : Begins h.objects b (record x { composite = word })
    counts : (composite_of x).count ≡ (composite_of (record x { composite = word })).count
    mark : (composite_of x).sticky ≡ (composite_of (record x { composite = word })).sticky

  old : (b : ℕ) (x : StoredObject) → Begins h'.objects b x → IsOld b x
  old b x there =
      let k = (keeps h h' f base o begins e).back b x there in
      let was = record x { composite = k.0 } in
      let s = said h h' f base o begins e fits b was x k.1 there in
      ⊎_elim
      (λ (at : b ≡ base).
      record {
        word = k.0;
        begun = k.1;
        counts = ap (λ (c : Composite). c.count) (s.own at) ∙ count (unplaced (composite_of was));
        mark = ap (λ (c : Composite). c.sticky) (s.own at) ∙ sticky (unplaced (composite_of was));
      })
      (λ (n : b ≡ base → ⊥).
      record {
        word = k.0;
        begun = k.1;
        counts = ap (λ (c : Composite). c.count) (s.other n);
        mark = ap (λ (c : Composite). c.sticky) (s.other n);
      })
      (cases_eq b base)

  pub apart-kept : (dropped : List ℕ) (outside : ℕ → ℕ) → AreCountsApart dropped h.objects outside
      → AreCountsApart dropped h'.objects outside
  apart-kept dropped outside apart =
      let same : views_of (without_dead dropped h'.objects) ≡ views_of (without_dead dropped h.objects) =
      views_of-without_dead dropped h'.objects
      ∙ ap (views_without dropped) (views-kept h h' f base o begins e fits (sticky (unplaced (composite_of o))))
      ∙ sym (views_of-without_dead dropped h.objects) in
      record {
        exact = λ b x there counted exact.
            let k = old b x there in
            k.counts
            ∙ apart.exact b (record x { composite = k.word }) k.begun counted (sym k.mark ∙ exact)
            ∙ ap (λ (vs : ObjectsByBase). count_at vs outside b) (sym same);
        few = λ b x there counted exact.
            let k = old b x there in
            let most = apart.few b (record x { composite = k.word }) k.begun counted (sym k.mark ∙ exact) in
            let is = k.counts in
            omega arith;
      }

module _ (h h' : Heap) (base : ℕ) (o : StoredObject) (begins : Begins h.objects base o)
    (is : IsComposite (composite_of o)) where
  module _ (e : without_places h' ≡ changed_at left base (without_places h)) where
    fits-out : FitsWord (left (unplaced (composite_of o)))
    fits-out = let fits = fits-now h h' base o begins is in record { count = fits.count; place = fits.place }

    pub left-apart : (dropped : List ℕ) (outside : ℕ → ℕ) → AreCountsApart dropped h.objects outside
        → AreCountsApart dropped h'.objects outside
    left-apart dropped outside =
        apart-kept h h' left base o begins e fits-out (λ c. refl) (λ c. refl) dropped outside

    pub left-pins : KeepsPins h.objects h'.objects
    left-pins = keeps-pins h h' left base o begins e fits-out (λ c. refl)

    pub left-others : ListsOthers base h.objects h'.objects
    left-others =
        record {
          own = λ x there.
              let k = (keeps h h' left base o begins e).back base x there in
              let s = said h h' left base o begins e fits-out base (record x { composite = k.0 }) x k.1 there in
              ap (λ (c : Composite). c.listed) (s.own refl);
          others = λ b x x' other was there.
              ap (λ (c : Composite). c.listed)
              ((said h h' left base o begins e fits-out b x x' was there).other other);
        }

  module _ (pinned : Bool) (e : without_places h' ≡ changed_at (with_pin pinned) base (without_places h)) where
    fits-pinned : FitsWord (with_pin pinned (unplaced (composite_of o)))
    fits-pinned = let fits = fits-now h h' base o begins is in record { count = fits.count; place = fits.place }

    pub pinned-apart : (dropped : List ℕ) (outside : ℕ → ℕ) → AreCountsApart dropped h.objects outside
        → AreCountsApart dropped h'.objects outside
    pinned-apart dropped outside =
        apart-kept h h' (with_pin pinned) base o begins e fits-pinned (λ c. refl) (λ c. refl) dropped outside

    pub pinned-one : PinsOne base pinned h.objects h'.objects
    pinned-one =
        record {
          own = λ x there.
              let k = (keeps h h' (with_pin pinned) base o begins e).back base x there in
              let s = said h h' (with_pin pinned) base o begins e fits-pinned base (record x { composite = k.0 }) x k.1
              there in
              ap (λ (c : Composite). c.pinned) (s.own refl);
          others = λ b x x' other was there.
              ap (λ (c : Composite). c.pinned)
              ((said h h' (with_pin pinned) base o begins e fits-pinned b x x' was there).other other);
        }

    pub pinned-listed : IsTrue (is_counted o.kind) → AllListed h.objects → AllListed h'.objects
    pinned-listed counted all =
        all-listed h h' (with_pin pinned) base o begins e fits-pinned
        (λ exact none. all.listed base o begins counted exact none) (listed-but base h.objects all)
