-- What a reap finds, from its beginning to its end.
use Rattle.std.proofs.Common.{◌≡◌, ◌≢◌, cond, ℕ, suc, ◌<◌, ◌≤◌, Bool, true, false, List, [], ◌∷◌, refl, sym, ap, ◌∙◌}
use Rattle.std.proofs.Common.{subst, arith}
use Rattle.std.specs.Prelude.{not, ◌&&◌, ◌||◌, ◌==◌, slice_index_or, IsPermutation}
use Rattle.std.specs.List.{AllByRecursion}
use Rattle.std.specs.List.Sorted.{IsNonDecreasing}
use Rattle.std.proofs.lemmas.Option.{slice_get_within, get_or_from_slice_get}
use Rattle.std.proofs.lemmas.List.Sorted.{list_any-IsPermutation, sum_by-IsPermutation}
use Rattle.mm_model.specs.Object.{is_counted}
use Rattle.mm_model.specs.Phase.{lists, IsAscending}
use Rattle.mm_model.specs.Views.ByBase.{Begins}
use Rattle.mm_model.specs.Views.ObjectView.{ObjectView, ObjectsByBase, counted_words_of, holds_base, names_at}
use Rattle.mm_model.specs.Views.ObjectView.{references_in}
use Rattle.mm_model.specs.Views.SetsByBase.{only_slots_hold_at, IsReapableAt, AreBasesAt}
use Rattle.mm_model.proofs.Lists.Growing.{any_get}
use Rattle.mm_model.proofs.Lists.Truth.{no_other, or_true}
use Rattle.mm_object.specs.Object.{StoredObjects, view_of_stored, views_of}
use Rattle.mm_object.specs.Heap.{Heap}
use Rattle.mm_count.specs.declared.composite.Composite.{Composite}
use Rattle.mm_count.specs.Table.{IsCountedAt}
use Rattle.mm_count.specs.Counts.{composite_at, counts_of, IsCountedBy}
use Rattle.mm_count.specs.Listed.{AllListed, NonePinned}
use Rattle.mm_count.specs.Apart.{AreCountsApart}
use Rattle.mm_count.specs.DeadApart.{AreDeadApart, IsRecounted}
use Rattle.mm_reap.specs.Pins.{ArePinned, ListsPinned}
use Rattle.mm_reap.specs.Found.{AreFound, AreReapable}
use Rattle.mm_reap.proofs.Apart.{apart-exact, apart-same, apart-alike, apart-none}
use Rattle.mm_reap.proofs.Holders.{without, without-begins, no-references}
use Rattle.mm_reap.proofs.Lists.{lists-none, same-true, true-same}
use Rattle.mm_reap.proofs.Pinned.{names-pinned}
use Rattle.mm_reap.proofs.Recounted.{composite_at-begins, view-begins, seen, counted-back, sticky-same}
use Rattle.mm_reap.proofs.Room.{StandsOnce, fewer, first-once}

-- before anything is found
module _ (h h' : Heap) (stack : List ℕ) (recounted : IsRecounted h h')
    (p : ArePinned h.objects h'.objects stack true) where
  pub start-reapable : NonePinned h.objects → (outside : ℕ → ℕ) → IsCountedBy h.objects outside
      → AreReapable h'.objects stack [] [] outside
  start-reapable none outside right =
      record {
        pins = names-pinned h.objects h'.objects stack recounted.objects none p;
        counts = apart-same [] h.objects h'.objects outside recounted.objects recounted.views p.counts
            (apart-none h.objects outside right);
        within = λ b e. e;
        reapable = λ b e. absurd (lists-none b e);
      }

  pub start-found : AllListed h.objects → AreFound h'.objects []
  start-found all =
      record {
        counted = λ b e. absurd (lists-none b e);
        left = λ b e. absurd (lists-none b e);
        exact = λ b e. absurd (lists-none b e);
        zero = λ b e. absurd (lists-none b e);
        once = λ b. omega arith;
        others = λ b j sticky zero out.
            let k = counted-back h.objects h'.objects recounted.objects b j in
            let is = composite_at-begins h.objects b k.object k.begins in
            p.listed b k ∙ ap (λ (c : Composite). c.listed) is
            ∙ all.listed b k.object k.begins k.counted
            (sym (ap (λ (c : Composite). c.sticky) is)
            ∙ sym (sticky-same h.objects h'.objects recounted.objects recounted.views b k) ∙ sticky)
            (sym (ap (λ (c : Composite). c.count) is) ∙ sym (p.counts b k) ∙ zero);
      }

first-of : (a b : Bool) → (a && b) ≡ true → a ≡ true
first-of true b e = refl
first-of false b e = e

second-of : (a b : Bool) → (a && b) ≡ true → b ≡ true
second-of true b e = e
second-of false b e = absurd (no_other refl e)

never : (b : Bool) → not b ≡ true → b ≡ false
never true e = absurd (no_other refl e)
never false e = refl

-- Where all that was found was dropped, and what is in the table is pinned, no reapable object is missing.
module _ (objects : StoredObjects) (stack found : List ℕ) (outside : ℕ → ℕ) (was : AreFound objects found)
    (pinned : ListsPinned objects []) (r : AreReapable objects stack found found outside) where
  found-if : (b : ℕ) (v : ObjectView) → Begins (views_of objects) b v
      → only_slots_hold_at stack outside b v ≡ true
      → ((by : ℕ) (holder : ObjectView) → Begins (views_of objects) by holder
      → holds_base (counted_words_of holder) b ≡ true → lists found by ≡ true) → lists found b ≡ true
  found-if b v begins only holders = split (lists found b) refl
    where
      three : (is_counted v.kind && not v.sticky && not (names_at stack b v)) ≡ true
      three = first-of (is_counted v.kind && not v.sticky && not (names_at stack b v)) (outside b == 0) only

      two : (is_counted v.kind && not v.sticky) ≡ true
      two = first-of (is_counted v.kind && not v.sticky) (not (names_at stack b v)) three

      counted : is_counted v.kind ≡ true
      counted = first-of (is_counted v.kind) (not v.sticky) two

      exact : v.sticky ≡ false
      exact = never v.sticky (second-of (is_counted v.kind) (not v.sticky) two)

      unnamed : names_at stack b v ≡ false
      unnamed =
          never (names_at stack b v) (second-of (is_counted v.kind && not v.sticky) (not (names_at stack b v)) three)

      none-outside : outside b ≡ 0
      none-outside =
          same-true (outside b) 0
          (second-of (is_counted v.kind && not v.sticky && not (names_at stack b v)) (outside b == 0) only)

      none-hold : references_in (without found (views_of objects)) b ≡ 0
      none-hold =
          no-references (without found (views_of objects)) b
          (λ by holder there.
          let one = without-begins found (views_of objects) by holder there in
          unheld by holder one.0 one.1 (holds_base (counted_words_of holder) b) refl)
        where
          unheld : (by : ℕ) (holder : ObjectView) → lists found by ≡ false → Begins (views_of objects) by holder
              → (t : Bool) → holds_base (counted_words_of holder) b ≡ t → t ≡ false
          unheld by holder out there false t = refl
          unheld by holder out there true t = absurd (no_other out (holders by holder there t))

      split : (t : Bool) → lists found b ≡ t → t ≡ true
      split true t = refl
      split false t =
          let o = seen objects b v begins in
          let k : IsCountedAt objects b =
          record {
            object = o.object;
            begins = o.begins;
            counted = ap (λ (w : ObjectView). is_counted w.kind) o.is ∙ counted;
          } in
          let is = composite_at-begins objects b o.object o.begins in
          let sticky : (composite_at objects b).sticky ≡ false =
          ap (λ (c : Composite). c.sticky) is ∙ ap (λ (w : ObjectView). w.sticky) o.is ∙ exact in
          let total = apart-exact found objects outside r.counts b k sticky in
          let one = none-hold in
          let two = none-outside in
          let zero : counts_of objects b ≡ 0 = omega arith in
          let listed = was.others b k sticky zero t in
          let unpinned : (composite_at objects b).pinned ≡ false =
          ap (λ (c : Composite). c.pinned) is ∙ r.pins b o.object o.begins k.counted
          ∙ ap (names_at stack b) o.is ∙ unnamed in
          absurd (no_other refl (pinned b k listed unpinned))

  pub reapable-found : (b : ℕ) → IsReapableAt (views_of objects) stack outside b → lists found b ≡ true
  reapable-found b (IsReapableAt.Reapable number v begins only holders) =
      found-if b v begins only (λ by holder there held. reapable-found by (holders by holder there held))

all-listed : (P : ℕ → Type 0) (bases : List ℕ) → ((b : ℕ) → lists bases b ≡ true → P b) → AllByRecursion P bases
all-listed P [] each = tt
all-listed P (x ∷ bases) each = (
  each x (ap (λ t. t || lists bases x) (true-same x x refl)),
  all-listed P bases (λ b e. each b (or_true (x == b) (lists bases b) e)),
)

ascending : (bases : List ℕ) → IsNonDecreasing bases → StandsOnce bases → IsAscending bases
ascending [] up once = tt
ascending (x ∷ bases) up once = (
  all-listed (λ next. x < next) bases
      (λ b e.
      let at = any_get (λ c. c == b) bases e in
      let within = slice_get_within bases at.0 at.1 at.2 in
      let is = get_or_from_slice_get bases at.0 at.1 0 at.2 ∙ same-true at.1 b at.3 in
      let le : x ≤ slice_index_or bases at.0 0 = up 0 (suc at.0) 0 (omega arith) (omega arith) in
      let other : x ≢ b = λ same. first-once x bases once (ap (lists bases) same ∙ e) in
      below x b (omega arith) other),
  ascending bases (λ i j d p q. up (suc i) (suc j) d (omega arith) (omega arith)) (fewer x bases once),
)
  where
    below : (x b : ℕ) → x ≤ b → x ≢ b → x < b
    below x b le other = omega arith

-- once the pins are taken off, and the bases are sorted
module _ (h h' : Heap) (stack found sorted : List ℕ) (recounted : IsRecounted h h')
    (p : ArePinned h.objects h'.objects stack false) (was : AreFound h.objects found)
    (same : IsPermutation found sorted) where
  lists-same : (b : ℕ) → lists sorted b ≡ lists found b
  lists-same b = sym (list_any-IsPermutation (λ c. c == b) found sorted same)

  pub end-counts : (outside : ℕ → ℕ) → AreReapable h.objects stack found found outside
      → AreCountsApart sorted h'.objects outside
  end-counts outside r =
      apart-alike found sorted h'.objects outside lists-same
      (apart-same found h.objects h'.objects outside recounted.objects recounted.views p.counts r.counts)

  pub end-apart : AreDeadApart sorted h'.objects
  end-apart =
      record {
        left = λ b o begins e.
            let out = sym (lists-same b) ∙ e in
            sym (ap (λ (c : Composite). c.listed) (composite_at-begins h'.objects b o begins))
            ∙ p.listed b (was.counted b out) ∙ was.left b out;
        listed = λ b o begins counted exact zero out.
            let is = composite_at-begins h'.objects b o begins in
            let j : IsCountedAt h'.objects b = record { object = o; begins = begins; counted = counted } in
            let k = counted-back h.objects h'.objects recounted.objects b j in
            sym (ap (λ (c : Composite). c.listed) is) ∙ p.listed b k
            ∙ was.others b k
            (sym (sticky-same h.objects h'.objects recounted.objects recounted.views b k)
            ∙ ap (λ (c : Composite). c.sticky) is ∙ exact)
            (sym (p.counts b k) ∙ ap (λ (c : Composite). c.count) is ∙ zero) (sym (lists-same b) ∙ out);
      }

  once-sorted : StandsOnce sorted
  once-sorted b =
      let total = sum_by-IsPermutation (λ c. cond (c == b) 1 0) found sorted same in
      let once = was.once b in
      omega arith

  pub end-bases : (objects : ObjectsByBase) → views_of h.objects ≡ objects → ListsPinned h.objects []
      → IsNonDecreasing sorted → (outside : ℕ → ℕ) → AreReapable h.objects stack found found outside
      → AreBasesAt objects (IsReapableAt objects stack outside) sorted
  end-bases objects views pinned up outside r =
      record {
        ascending = ascending sorted up once-sorted;
        only = all-listed (λ b. (v : ObjectView) × Begins objects b v × IsReapableAt objects stack outside b) sorted
            (λ b e.
            let out = sym (lists-same b) ∙ e in
            let k = was.counted b out in (
              view_of_stored k.object,
              subst (λ (vs : ObjectsByBase). Begins vs b (view_of_stored k.object)) views
                  (view-begins h.objects b k.object k.begins),
              subst (λ (vs : ObjectsByBase). IsReapableAt vs stack outside b) views (r.reapable b out),
            ));
        all = λ b v begins dead.
            lists-same b
            ∙ reapable-found h.objects stack found outside was pinned r b
            (subst (λ (vs : ObjectsByBase). IsReapableAt vs stack outside b) (sym views) dead);
      }
