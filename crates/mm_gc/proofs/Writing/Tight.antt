-- Which words a counted slot or cell takes, and which are kept uncounted, by the object in which a word falls.
use Rattle.std.proofs.Common.{◌≡◌, ◌≢◌, ℕ, Bool, true, false, refl, sym, ap, ◌∙◌, subst, arith, eqb-true}
use Rattle.std.proofs.lemmas.Bool.{eq-eqb}
use Rattle.std.specs.Prelude.{◌==◌, ◌&&◌}
use Rattle.mm_model.specs.Object.{is_counted}
use Rattle.mm_model.specs.Words.{falls}
use Rattle.mm_model.specs.Views.ByBase.{Begins, Based}
use Rattle.mm_model.specs.Views.ObjectView.{ObjectView}
use Rattle.mm_model.specs.Views.ViewWords.{begins_counted_in, falls_in_counted_of}
use Rattle.mm_model.proofs.Lists.Truth.{together}
use Rattle.mm_model.proofs.Places.Falling.{falls_from, falls_within}
use Rattle.mm_model.proofs.Places.Placing.{both}
use Rattle.mm_model.proofs.View.ByBase.Entries.{any_begins, begins_any, begins_same}
use Rattle.mm_model.proofs.View.GoodWords.{begins_counted_from, begins_counted_to}
use Rattle.mm_model.proofs.View.ByBase.MappedEntries.{begins_mapped, mapped_begins}
use Rattle.mm_object.specs.Object.{StoredObject, view_of_stored, views_of}
use Rattle.mm_object.specs.Heap.{Heap, Covers, FallsInNone, IsSound}
use Rattle.mm_mark.proofs.Told.{one_covering, covers_at_base}

same_truth : (a b : Bool) → (a ≡ true → b ≡ true) → (b ≡ true → a ≡ true) → a ≡ b
same_truth true true to from = refl
same_truth true false to from = sym (to refl)
same_truth false true to from = from refl
same_truth false false to from = refl

not_true : (b : Bool) → (b ≡ true → ⊥) → b ≡ false
not_true true never = absurd (never refl)
not_true false never = refl

-- a counted object in which a word falls
record CoversCounted (h : Heap) (word : ℕ) : Type 0 where
  base : ℕ
  object : StoredObject
  covers : Covers h word base object
  counted : is_counted object.kind ≡ true

falls_from_counted : (h : Heap) (word : ℕ) → falls_in_counted_of (views_of h.objects) word ≡ true
    → CoversCounted h word
falls_from_counted h word e =
    let one = any_begins (λ (o : Based ObjectView). is_counted o.value.kind && falls word o.base o.value.extent)
    (views_of h.objects) e in
    let parts = both _ _ one.passes in
    let m = mapped_begins view_of_stored h.objects one.base one.value one.begins in
    let within = falls_from word one.base one.value.extent parts.1 in
    let extent : m.value.extent ≡ one.value.extent = ap (λ (v : ObjectView). v.extent) m.is in
    record {
      base = one.base;
      object = m.value;
      covers = record { begins = m.begins; from = within.0; to = omega (arith, within.1, extent) };
      counted = ap (λ (v : ObjectView). is_counted v.kind) m.is ∙ parts.0;
    }

falls_to_counted : (h : Heap) (word base : ℕ) (object : StoredObject) → Covers h word base object
    → is_counted object.kind ≡ true → falls_in_counted_of (views_of h.objects) word ≡ true
falls_to_counted h word base object covers counted =
    begins_any (λ (o : Based ObjectView). is_counted o.value.kind && falls word o.base o.value.extent)
    (views_of h.objects) base (view_of_stored object)
    (begins_mapped view_of_stored h.objects base object covers.begins)
    (together _ _ counted (falls_within word base object.extent covers.from covers.to))

module _ (h : Heap) (word : ℕ) (none : FallsInNone h word) where
  pub falls_in_counted-none : falls_in_counted_of (views_of h.objects) word ≡ false
  falls_in_counted-none =
      not_true _ (λ e. let one = falls_from_counted h word e in none one.base one.object one.covers)

  pub begins_counted-none : IsSound h → begins_counted_in (views_of h.objects) word ≡ false
  begins_counted-none sound =
      not_true _ (λ e.
      let one = begins_counted_from (views_of h.objects) word e in
      let m = mapped_begins view_of_stored h.objects word one.object one.begins in
      none word m.value (covers_at_base h sound word m.value m.begins))

-- the word falls in this object, and in no other
module _ (h : Heap) (sound : IsSound h) (word base : ℕ) (object : StoredObject)
    (covers : Covers h word base object) where
  same_object : (other_base : ℕ) (other : StoredObject) → Covers h word other_base other → other ≡ object
  same_object other_base other there =
      let same = one_covering h sound word other_base base other object there covers in
      begins_same h.objects base other object (subst (λ n. Begins h.objects n other) same there.begins) covers.begins

  pub falls_in_counted-covers : falls_in_counted_of (views_of h.objects) word ≡ is_counted object.kind
  falls_in_counted-covers =
      same_truth _ _
      (λ e.
      let one = falls_from_counted h word e in
      sym (ap (λ (o : StoredObject). is_counted o.kind) (same_object one.base one.object one.covers)) ∙ one.counted)
      (falls_to_counted h word base object covers)

  pub begins_counted-covers : begins_counted_in (views_of h.objects) word ≡ (base == word && is_counted object.kind)
  begins_counted-covers = same_truth _ _ to from
    where
      to : begins_counted_in (views_of h.objects) word ≡ true → (base == word && is_counted object.kind) ≡ true
      to e =
          let one = begins_counted_from (views_of h.objects) word e in
          let m = mapped_begins view_of_stored h.objects word one.object one.begins in
          let there = covers_at_base h sound word m.value m.begins in
          let at : base ≡ word = sym (one_covering h sound word word base m.value object there covers) in
          together _ _ (eq-eqb base word at)
          (sym (ap (λ (o : StoredObject). is_counted o.kind) (same_object word m.value there))
          ∙ ap (λ (v : ObjectView). is_counted v.kind) m.is ∙ one.counted)

      from : (base == word && is_counted object.kind) ≡ true → begins_counted_in (views_of h.objects) word ≡ true
      from e =
          let parts = both _ _ e in
          let at : base ≡ word = eqb-true base word parts.0 in
          begins_counted_to (views_of h.objects) word
          (record {
            object = view_of_stored object;
            begins = subst (λ n. Begins (views_of h.objects) n (view_of_stored object)) at
                (begins_mapped view_of_stored h.objects base object covers.begins);
            counted = parts.1;
          })

  pub begins_counted-at : base ≡ word → begins_counted_in (views_of h.objects) word ≡ is_counted object.kind
  begins_counted-at at =
      begins_counted-covers ∙ ap (λ b. b && is_counted object.kind) (eq-eqb base word at)

  pub begins_counted-inside : base ≢ word → (base == word) ≡ begins_counted_in (views_of h.objects) word
  begins_counted-inside other =
      let no : (base == word) ≡ false = not_true (base == word) (λ e. other (eqb-true base word e)) in
      no ∙ sym (begins_counted-covers ∙ ap (λ b. b && is_counted object.kind) no)
