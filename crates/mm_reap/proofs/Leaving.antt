-- What was found once one more object has left the table.
use Rattle.std.proofs.Common.{◌≡◌, ⊎_elim, ℕ, ◌+◌, ◌-◌, ◌*◌, ◌≤◌, Bool, true, false, List, [], ◌∷◌, ◌++◌, length}
use Rattle.std.proofs.Common.{refl, sym, ap, ◌∙◌, subst, length-append, arith}
use Rattle.std.specs.Prelude.{not, ◌&&◌, ◌==◌}
use Rattle.mm_model.specs.Object.{is_counted}
use Rattle.mm_model.specs.Phase.{lists}
use Rattle.mm_model.specs.Views.ByBase.{Begins}
use Rattle.mm_model.specs.Views.ObjectView.{ObjectView, ObjectsByBase, counted_words_of, holds_base, names_at}
use Rattle.mm_model.specs.Views.ObjectView.{references_in}
use Rattle.mm_model.specs.Views.SetsByBase.{only_slots_hold_at, IsReapableAt}
use Rattle.mm_model.proofs.Lists.Truth.{no_other}
use Rattle.mm_object.specs.Object.{StoredObject, view_of_stored, views_of}
use Rattle.mm_object.specs.Heap.{Heap, IsSound}
use Rattle.mm_count.specs.declared.composite.Composite.{Composite}
use Rattle.mm_count.specs.Composite.{IsComposite}
use Rattle.mm_count.specs.Table.{Table, composite_of, IsCountedAt, IsRight}
use Rattle.mm_count.specs.Counts.{composite_at, counts_of}
use Rattle.mm_count.specs.DeadApart.{IsRecounted}
use Rattle.mm_reap.specs.Pins.{HasLeft, IsUnpinnedEntry}
use Rattle.mm_reap.specs.Found.{AreFound, AreReapable}
use Rattle.mm_reap.proofs.Apart.{held_apart, apart-exact, apart-same}
use Rattle.mm_reap.proofs.Holders.{without, begins-without, none-holds}
use Rattle.mm_reap.proofs.Lists.{lists-more, lists-before, none-before, none-last, once-more, not-lists, true-same}
use Rattle.mm_reap.proofs.Recounted.{composite_at-begins, view-begins, counted-to, counted-back, sticky-same}
use Rattle.mm_reap.proofs.Room.{bases-fit}

four : (a b c d : Bool) → a ≡ true → b ≡ false → c ≡ false → d ≡ true → (a && not b && not c && d) ≡ true
four a b c d p q r s =
    ap (λ x. x && not b && not c && d) p ∙ ap (λ x. not x && not c && d) q ∙ ap (λ x. not x && d) r ∙ s

-- what is in the table is counted exactly, and has the count 0
module _ (table : Table) (h : Heap) (right : IsRight table h) (base : ℕ) (k : IsCountedAt h.objects base)
    (listed : (composite_at h.objects base).listed ≡ true) where
  is : IsComposite (composite_at h.objects base)
  is =
      subst IsComposite (sym (composite_at-begins h.objects base k.object k.begins))
      ((right.spelled base k.object k.begins).counted k.counted)

  pub listed-zero : counts_of h.objects base ≡ 0
  listed-zero = is.listed listed

  pub listed-exact : (composite_at h.objects base).sticky ≡ false
  listed-exact = split (composite_at h.objects base).sticky refl
    where
      split : (b : Bool) → (composite_at h.objects base).sticky ≡ b → b ≡ false
      split false e = refl
      split true e = let full = is.sticky e in let none = listed-zero in absurd (omega arith)

module _ (table : Table) (h h' : Heap) (base : ℕ) (found : List ℕ) (entry : IsUnpinnedEntry h.objects base)
    (right : IsRight table h) (recounted : IsRecounted h h') (has : HasLeft h.objects h'.objects base)
    (was : AreFound h.objects found) where
  abbrev more : List ℕ
  more = found ++ base ∷ []

  not-found : lists found base ≡ false
  not-found = not-lists found base (λ e. no_other (was.left base e) entry.listed)

  counted-more : (b : ℕ) → lists more b ≡ true → IsCountedAt h.objects b
  counted-more b e =
      ⊎_elim (λ (p : lists found b ≡ true). was.counted b p)
      (λ (q : b ≡ base). subst (IsCountedAt h.objects) (sym q) entry.counted) (lists-more found base b e)

  pub found-more : AreFound h'.objects more
  found-more =
      record {
        counted = λ b e. counted-to h.objects h'.objects recounted.objects b (counted-more b e);
        left = λ b e.
            ⊎_elim
            (λ (p : lists found b ≡ true).
            has.others b (was.counted b p)
            (λ same. no_other (was.left b p) (ap (λ n. (composite_at h.objects n).listed) same ∙ entry.listed))
            ∙ was.left b p)
            (λ (q : b ≡ base). ap (λ n. (composite_at h'.objects n).listed) q ∙ has.own) (lists-more found base b e);
        exact = λ b e.
            sticky-same h.objects h'.objects recounted.objects recounted.views b (counted-more b e)
            ∙ ⊎_elim (λ (p : lists found b ≡ true). was.exact b p)
            (λ (q : b ≡ base). ap (λ n. (composite_at h.objects n).sticky) q
            ∙ listed-exact table h right base entry.counted entry.listed) (lists-more found base b e);
        zero = λ b e.
            has.counts b (counted-more b e)
            ∙ ⊎_elim (λ (p : lists found b ≡ true). was.zero b p)
            (λ (q : b ≡ base). ap (counts_of h.objects) q
            ∙ listed-zero table h right base entry.counted entry.listed) (lists-more found base b e);
        once = once-more found base not-found was.once;
        others = λ b k sticky zero out.
            let j = counted-back h.objects h'.objects recounted.objects b k in
            has.others b j (none-last found base b out)
            ∙ was.others b j (sym (sticky-same h.objects h'.objects recounted.objects recounted.views b j) ∙ sticky)
            (sym (has.counts b j) ∙ zero) (none-before found base b out);
      }

  module _ (stack dropped : List ℕ) (outside : ℕ → ℕ) (r : AreReapable h.objects stack dropped found outside) where
    abbrev own : StoredObject
    own = entry.counted.object

    none-held : held_apart dropped h.objects outside base ≡ 0
    none-held =
        sym (apart-exact dropped h.objects outside r.counts base entry.counted
        (listed-exact table h right base entry.counted entry.listed))
        ∙ listed-zero table h right base entry.counted entry.listed

    holders : (by : ℕ) (holder : ObjectView) → Begins (views_of h.objects) by holder
        → holds_base (counted_words_of holder) base ≡ true → lists dropped by ≡ true
    holders by holder begins held = split (lists dropped by) refl
      where
        split : (b : Bool) → lists dropped by ≡ b → b ≡ true
        split true e = refl
        split false e =
            let zero : references_in (without dropped (views_of h.objects)) base ≡ 0 =
            let all = none-held in omega arith in
            absurd (no_other
            (none-holds (without dropped (views_of h.objects)) base zero by holder
            (begins-without dropped (views_of h.objects) by holder begins e)) held)

    only : only_slots_hold_at stack outside base (view_of_stored own) ≡ true
    only =
        let is = composite_at-begins h.objects base own entry.counted.begins in
        four (is_counted own.kind) (composite_of own).sticky (names_at stack base (view_of_stored own))
        (outside base == 0)
        entry.counted.counted
        (sym (ap (λ (c : Composite). c.sticky) is) ∙ listed-exact table h right base entry.counted entry.listed)
        (sym (r.pins base own entry.counted.begins entry.counted.counted)
        ∙ sym (ap (λ (c : Composite). c.pinned) is) ∙ entry.unpinned)
        (true-same (outside base) 0 (let all = none-held in omega arith))

    reapable-now : IsReapableAt (views_of h.objects) stack outside base
    reapable-now =
        IsReapableAt.Reapable base (view_of_stored own) (view-begins h.objects base own entry.counted.begins) only
        (λ by holder begins held. r.reapable by (r.within by (holders by holder begins held)))

    pub reapable-more : AreReapable h'.objects stack dropped more outside
    reapable-more =
        record {
          pins = λ b o begins counted.
              let back = recounted.objects.back b o begins in
              let x = record o { composite = back.0 } in
              sym (ap (λ (c : Composite). c.pinned) (composite_at-begins h'.objects b o begins))
              ∙ has.pins b (record { object = x; begins = back.1; counted = counted })
              ∙ ap (λ (c : Composite). c.pinned) (composite_at-begins h.objects b x back.1)
              ∙ r.pins b x back.1 counted;
          counts = apart-same dropped h.objects h'.objects outside
              recounted.objects recounted.views has.counts r.counts;
          within = λ b e. lists-before found base b (r.within b e);
          reapable = λ b e.
              subst (λ (vs : ObjectsByBase). IsReapableAt vs stack outside b) (sym recounted.views)
              (⊎_elim (λ (p : lists found b ≡ true). r.reapable b p)
              (λ (q : b ≡ base). subst (IsReapableAt (views_of h.objects) stack outside) (sym q) reapable-now)
              (lists-more found base b e));
        }

  -- and there was room for its base
  pub found-fit : IsSound h → length found + 1 ≤ 256 * (h.size - 1)
  found-fit sound =
      let size = length-append found (base ∷ []) in
      let fit = bases-fit h sound more (once-more found base not-found was.once) counted-more in
      omega arith
