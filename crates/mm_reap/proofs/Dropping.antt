-- What was found once the slots of one object of it hold no counts any more.
use Rattle.std.proofs.Common.{◌≡◌, ◌⊎◌, ⊎_elim, inl, inr, ℕ, ◌+◌, ◌<◌, ◌≤◌, Bool, true, false, List, [], ◌∷◌, ◌++◌}
use Rattle.std.proofs.Common.{length, take, refl, sym, ap, ◌∙◌, subst, arith}
use Rattle.std.specs.Prelude.{◌||◌, ◌==◌, slice_index}
use Rattle.std.proofs.lemmas.List.{take_more, length-take-le, get_or-take, take-take}
use Rattle.std.proofs.lemmas.Option.{get_or_from_slice_get}
use Rattle.mm_model.specs.Phase.{lists}
use Rattle.mm_model.specs.Views.ByBase.{Begins}
use Rattle.mm_model.specs.Views.ObjectView.{ObjectView, ObjectsByBase, counted_words_of, holds_base, references_in}
use Rattle.mm_model.specs.Views.SetsByBase.{IsReapableAt}
use Rattle.mm_model.proofs.Lists.Growing.{any_get}
use Rattle.mm_model.proofs.Lists.Tests.{same_tests}
use Rattle.mm_model.proofs.Lists.Truth.{no_other, or_true}
use Rattle.mm_model.proofs.View.ByBase.Entries.{begins_same}
use Rattle.mm_model.proofs.Lists.Fronts.{get-take, get-take_within}
use Rattle.mm_object.specs.Object.{StoredObjects, view_of_stored, views_of}
use Rattle.mm_object.specs.Heap.{Heap}
use Rattle.mm_count.specs.declared.composite.Composite.{Composite}
use Rattle.mm_count.specs.Table.{composite_of, IsCountedAt}
use Rattle.mm_count.specs.Counts.{composite_at, counts_of}
use Rattle.mm_count.specs.Listed.{KeepsPins, ListsNamed}
use Rattle.mm_count.specs.Apart.{AreCountsApart}
use Rattle.mm_count.specs.DeadApart.{IsRecounted}
use Rattle.mm_reap.specs.Pins.{ListsPinned, ListsPinnedOrNamed}
use Rattle.mm_reap.specs.Found.{AreFound, AreReapable}
use Rattle.mm_reap.proofs.Apart.{apart-exact, apart-alike}
use Rattle.mm_reap.proofs.Holders.{without, begins-without, without-begins, none-holds, no-references}
use Rattle.mm_reap.proofs.Lists.{lists-more, lists-before, lists-last, not-lists, true-same, same-true}
use Rattle.mm_reap.proofs.Recounted.{composite_at-begins, view-begins, counted-to, counted-back, sticky-same}
use Rattle.mm_reap.proofs.Room.{StandsOnce, lists-at, once-places}

-- what stands at a place doesn't stand before it
once-before : (bases : List ℕ) → StandsOnce bases → (i : ℕ) → i < length bases
    → lists (take i bases) (slice_index bases i) ≡ false
once-before bases once i below = not-lists (take i bases) (slice_index bases i) twice
  where
    twice : lists (take i bases) (slice_index bases i) ≡ true → ⊥
    twice e =
        let one = any_get (λ b. b == slice_index bases i) (take i bases) e in
        let within = get-take_within i one.0 bases one.1 one.2 in
        let here = sym (get-take i one.0 bases within) ∙ one.2 in
        let is = get_or_from_slice_get bases one.0 one.1 0 here in
        let same = once-places bases once one.0 i (omega arith) below
        (is ∙ same-true one.1 (slice_index bases i) one.3) in
        omega arith

module _ (words : List ℕ) (i k base : ℕ) (below : i < k) (within : k ≤ length words)
    (is : base ≡ slice_index words i) where
  at-front : slice_index (take k words) i ≡ base
  at-front = get_or-take k words i 0 below ∙ sym is

  front-below : i < length (take k words)
  front-below = let size = length-take-le k words within in omega arith

  pub front-found : lists (take k words) base ≡ true
  front-found = ap (lists (take k words)) (sym at-front) ∙ lists-at (take k words) i front-below

  pub front-out : StandsOnce (take k words) → lists (take i words) base ≡ false
  front-out once =
      ap (λ (ws : List ℕ). lists ws base) (sym (take-take i k words (omega arith)))
      ∙ ap (lists (take i (take k words))) (sym at-front) ∙ once-before (take k words) once i front-below

  pub front-more : (b : ℕ) → lists (take (i + 1) words) b ≡ lists (base ∷ take i words) b
  front-more b =
      ap (λ (ws : List ℕ). lists ws b)
      (take_more words i 0 (omega arith) ∙ ap (λ (w : ℕ). take i words ++ w ∷ []) (sym is))
      ∙ same_tests (lists (take i words ++ base ∷ []) b) (lists (base ∷ take i words) b)
      (λ e. ⊎_elim (λ (p : lists (take i words) b ≡ true). or_true (base == b) (lists (take i words) b) p)
      (λ (p : b ≡ base). ap (λ x. x || lists (take i words) b) (true-same base b (sym p)))
      (lists-more (take i words) base b e))
      (λ e. first (base == b) refl e)
    where
      first : (t : Bool) → (base == b) ≡ t → (t || lists (take i words) b) ≡ true
          → lists (take i words ++ base ∷ []) b ≡ true
      first true t e =
          ap (lists (take i words ++ base ∷ [])) (sym (same-true base b t)) ∙ lists-last (take i words) base
      first false t e = lists-before (take i words) base b e

-- all of an object's holders were dropped where its count is 0
module _ (objects : StoredObjects) (stack dropped found : List ℕ) (outside : ℕ → ℕ) (was : AreFound objects found)
    (r : AreReapable objects stack dropped found outside) (b : ℕ) (e : lists found b ≡ true) where
  none-apart : references_in (without dropped (views_of objects)) b + outside b ≡ 0
  none-apart =
      sym (apart-exact dropped objects outside r.counts b (was.counted b e) (was.exact b e)) ∙ was.zero b e

  pub holder-dropped : (by : ℕ) (holder : ObjectView) → Begins (views_of objects) by holder
      → holds_base (counted_words_of holder) b ≡ true → lists dropped by ≡ true
  holder-dropped by holder begins held = split (lists dropped by) refl
    where
      split : (t : Bool) → lists dropped by ≡ t → t ≡ true
      split true t = refl
      split false t =
          let zero : references_in (without dropped (views_of objects)) b ≡ 0 = let all = none-apart in omega arith in
          absurd (no_other
          (none-holds (without dropped (views_of objects)) b zero by holder
          (begins-without dropped (views_of objects) by holder begins t)) held)

module _ (h h' : Heap) (base : ℕ) (k : IsCountedAt h.objects base) (recounted : IsRecounted h h')
    (pins : KeepsPins h.objects h'.objects)
    (named : ListsNamed (counted_words_of (view_of_stored k.object)) h.objects h'.objects) where
  to : (b : ℕ) → IsCountedAt h.objects b → IsCountedAt h'.objects b
  to = counted-to h.objects h'.objects recounted.objects

  back : (b : ℕ) → IsCountedAt h'.objects b → IsCountedAt h.objects b
  back = counted-back h.objects h'.objects recounted.objects

  before : (b : ℕ) (j : IsCountedAt h.objects b) → composite_at h.objects b ≡ composite_of j.object
  before b j = composite_at-begins h.objects b j.object j.begins

  after : (b : ℕ) (j : IsCountedAt h.objects b) → composite_at h'.objects b ≡ composite_of (to b j).object
  after b j = composite_at-begins h'.objects b (to b j).object (to b j).begins

  pin-same : (b : ℕ) → IsCountedAt h.objects b
      → (composite_at h'.objects b).pinned ≡ (composite_at h.objects b).pinned
  pin-same b j =
      ap (λ (c : Composite). c.pinned) (after b j)
      ∙ pins.same b j.object (to b j).object j.begins (to b j).begins
      ∙ sym (ap (λ (c : Composite). c.pinned) (before b j))

  only-at : (b : ℕ) → IsCountedAt h.objects b → (composite_at h'.objects b).listed ≡ true
      → ((composite_at h.objects b).listed ≡ true)
      ⊎ (holds_base (counted_words_of (view_of_stored k.object)) b ≡ true)
  only-at b j listed =
      ⊎_elim
      (λ (was : (composite_of j.object).listed ≡ true). inl (ap (λ (c : Composite). c.listed) (before b j) ∙ was))
      (λ (held : holds_base (counted_words_of (view_of_stored k.object)) b ≡ true). inr held)
      (named.only b j.object (to b j).object j.begins (to b j).begins
      (sym (ap (λ (c : Composite). c.listed) (after b j)) ∙ listed))

  still-at : (b : ℕ) → IsCountedAt h.objects b → (composite_at h.objects b).listed ≡ true
      → (composite_at h'.objects b).listed ≡ true
  still-at b j listed =
      ap (λ (c : Composite). c.listed) (after b j)
      ∙ named.still b j.object (to b j).object j.begins (to b j).begins
      (sym (ap (λ (c : Composite). c.listed) (before b j)) ∙ listed)

  zeros-at : (b : ℕ) → IsCountedAt h.objects b → counts_of h'.objects b ≡ 0
      → (counts_of h.objects b ≡ 0) ⊎ ((composite_at h'.objects b).listed ≡ true)
  zeros-at b j none =
      ⊎_elim
      (λ (was : (composite_of j.object).count ≡ 0). inl (ap (λ (c : Composite). c.count) (before b j) ∙ was))
      (λ (listed : (composite_of (to b j).object).listed ≡ true).
      inr (ap (λ (c : Composite). c.listed) (after b j) ∙ listed))
      (named.zeros b j.object (to b j).object j.begins (to b j).begins
      (sym (ap (λ (c : Composite). c.count) (after b j)) ∙ none))

  -- what isn't pinned in the table is named by the slots
  pub dropped-pinned : ListsPinned h.objects [] → ListsPinnedOrNamed h'.objects base 0
  dropped-pinned pinned holder begins b j listed unpinned =
      let was = back b j in
      let there = subst (λ (vs : ObjectsByBase). Begins vs base holder) recounted.views begins in
      let same = begins_same (views_of h.objects) base holder (view_of_stored k.object) there
      (view-begins h.objects base k.object k.begins) in
      ap (λ (v : ObjectView). holds_base (counted_words_of v) b) same
      ∙ ⊎_elim
      (λ (old : (composite_at h.objects b).listed ≡ true).
      absurd (no_other refl (pinned b was old (sym (pin-same b was) ∙ unpinned))))
      (λ (held : holds_base (counted_words_of (view_of_stored k.object)) b ≡ true). held)
      (only-at b was listed)

  module _ (stack dropped found : List ℕ) (outside : ℕ → ℕ) (was : AreFound h.objects found)
      (r : AreReapable h.objects stack dropped found outside)
      (apart : AreCountsApart (base ∷ dropped) h'.objects outside) where
    exact-now : (b : ℕ) → lists found b ≡ true → (composite_at h'.objects b).sticky ≡ false
    exact-now b e =
        sticky-same h.objects h'.objects recounted.objects recounted.views b (was.counted b e) ∙ was.exact b e

    none-now : (b : ℕ) → lists found b ≡ true
        → references_in (without (base ∷ dropped) (views_of h'.objects)) b ≡ 0
    none-now b e =
        no-references (without (base ∷ dropped) (views_of h'.objects)) b
        (λ by holder begins.
        let there = without-begins (base ∷ dropped) (views_of h'.objects) by holder begins in
        let old = subst (λ (vs : ObjectsByBase). Begins vs by holder) recounted.views there.1 in
        split (holds_base (counted_words_of holder) b) refl by holder there.0 old)
      where
        split : (t : Bool) → t ≡ t → (by : ℕ) (holder : ObjectView) → lists (base ∷ dropped) by ≡ false
            → Begins (views_of h.objects) by holder → holds_base (counted_words_of holder) b ≡ false
        split t same by holder out begins =
            not-holds (holds_base (counted_words_of holder) b) refl
          where
            not-holds : (t : Bool) → holds_base (counted_words_of holder) b ≡ t → t ≡ false
            not-holds false t = refl
            not-holds true t =
                absurd (no_other out (or_true (base == by) (lists dropped by)
                (holder-dropped h.objects stack dropped found outside was r b e by holder begins t)))

    pub dropped-found : lists dropped base ≡ false → AreFound h'.objects found
    dropped-found out =
        record {
          counted = λ b e. to b (was.counted b e);
          left = λ b e. left b e (composite_at h'.objects b).listed refl;
          exact = exact-now;
          zero = λ b e.
              let held = none-now b e in
              let none = none-apart h.objects stack dropped found outside was r b e in
              let now = apart-exact (base ∷ dropped) h'.objects outside apart b
              (to b (was.counted b e)) (exact-now b e) in
              omega arith;
          once = was.once;
          others = λ b j sticky zero none.
              let old = back b j in
              ⊎_elim
              (λ (z : counts_of h.objects b ≡ 0).
              still-at b old (was.others b old
              (sym (sticky-same h.objects h'.objects recounted.objects recounted.views b old) ∙ sticky) z none))
              (λ (listed : (composite_at h'.objects b).listed ≡ true). listed) (zeros-at b old zero);
        }
      where
        left : (b : ℕ) → lists found b ≡ true → (t : Bool) → (composite_at h'.objects b).listed ≡ t → t ≡ false
        left b e false t = refl
        left b e true t =
            ⊎_elim (λ (old : (composite_at h.objects b).listed ≡ true). absurd (no_other (was.left b e) old))
            (λ (held : holds_base (counted_words_of (view_of_stored k.object)) b ≡ true).
            absurd (no_other out (holder-dropped h.objects stack dropped found outside was r b e base
            (view_of_stored k.object) (view-begins h.objects base k.object k.begins) held)))
            (only-at b (was.counted b e) t)

    pub dropped-reapable : (more : List ℕ) → ((b : ℕ) → lists more b ≡ lists (base ∷ dropped) b)
        → lists found base ≡ true → AreReapable h'.objects stack more found outside
    dropped-reapable more same own =
        record {
          pins = λ b o begins counted.
              let past = recounted.objects.back b o begins in
              let x = record o { composite = past.0 } in
              sym (ap (λ (c : Composite). c.pinned) (composite_at-begins h'.objects b o begins))
              ∙ pin-same b (record { object = x; begins = past.1; counted = counted })
              ∙ ap (λ (c : Composite). c.pinned) (composite_at-begins h.objects b x past.1)
              ∙ r.pins b x past.1 counted;
          counts = apart-alike (base ∷ dropped) more h'.objects outside same apart;
          within = λ b e. within b (base == b) refl (sym (same b) ∙ e);
          reapable = λ b e.
              subst (λ (vs : ObjectsByBase). IsReapableAt vs stack outside b) (sym recounted.views) (r.reapable b e);
        }
      where
        within : (b : ℕ) → (t : Bool) → (base == b) ≡ t → (t || lists dropped b) ≡ true → lists found b ≡ true
        within b true t e = ap (lists found) (sym (same-true base b t)) ∙ own
        within b false t e = r.within b e
