-- The words of an object's counted slots, one after the other.
use Rattle.std.proofs.Common.{◌≡◌, ◌≢◌, ◌⊎◌, ⊎_elim, inl, inr, ℕ, ◌+◌, ◌<◌, ◌≤◌, Bool, true, false, cond, List, []}
use Rattle.std.proofs.Common.{◌∷◌, length, take, drop, Some, refl, sym, ap, ◌∙◌, subst, eqb-true, arith}
use Rattle.std.specs.Prelude.{IsTrue, ◌||◌, ◌==◌, nat_lt, slice_index}
use Rattle.std.proofs.lemmas.Option.{slice_get-get_or}
use Rattle.std.proofs.lemmas.List.{drop_more, drop_all, length-take, get_or-take}
use Rattle.mm_model.specs.declared.object.Kind.{Kind}
use Rattle.mm_model.specs.declared.object.Kind.TheVariants.{Traced, Leaf, Counted, Weak}
use Rattle.mm_model.specs.Object.{is_scanned, is_counted}
use Rattle.mm_model.specs.Words.{CountedSlot, WordSlot, slot_kind_at}
use Rattle.mm_model.specs.Views.ByBase.{Begins}
use Rattle.mm_model.specs.Views.ObjectView.{ObjectView, ObjectsByBase, counted_words_of, holds_base}
use Rattle.mm_model.specs.Views.GoodView.{HoldTight}
use Rattle.mm_model.specs.Views.ViewWords.{begins_counted_in}
use Rattle.mm_model.proofs.Good.Living.{each_get}
use Rattle.mm_model.proofs.Lists.Truth.{no_other}
use Rattle.mm_model.proofs.View.ByBase.Entries.{begins_same}
use Rattle.mm_model.proofs.View.GoodWords.{begins_counted_from}
use Rattle.mm_object.specs.Object.{StoredObject, StoredObjects, view_of_stored, views_of}
use Rattle.mm_object.specs.Heap.{Heap, IsSound}
use Rattle.mm_count.specs.Table.{IsCountedAt}
use Rattle.mm_count.specs.Counts.{composite_at, HasCountedSlot}
use Rattle.mm_count.specs.DeadApart.{IsRecounted}
use Rattle.std.proofs.lemmas.Bool.Decides.{nat_tests}
use Rattle.mm_count.proofs.Entries.{entry_at-begins}
use Rattle.mm_count.proofs.Stores.Stored.{counted-slot}
use Rattle.mm_reap.specs.Slots.{counted_slots_told, counted_slots_at}
use Rattle.mm_reap.specs.Pins.{ListsPinned, ListsPinnedOrNamed, HasLeft, IsUnpinnedEntry}
use Rattle.mm_reap.proofs.Recounted.{view-begins, seen, counted-back}

-- nothing begins at 0
pub none-at-zero : (h : Heap) → IsSound h → (word : ℕ) → word ≡ 0 → IsCountedAt h.objects word → ⊥
none-at-zero h sound word e k = let from = (sound.inside word k.object k.begins).from in omega arith

module _ (objects : StoredObjects) (base s word : ℕ) (slot : HasCountedSlot objects base s)
    (is : word ≡ slice_index slot.object.words s) where
  words-are : counted_words_of (view_of_stored slot.object) ≡ take slot.object.counted slot.object.words
  words-are =
      ap (λ b. cond b (take slot.object.counted slot.object.words) [])
      (counted-slot (is_scanned slot.object.kind) slot.object.counted s slot.kind).0

  module _ (holder : ObjectView) (begins : Begins (views_of objects) base holder) where
    held : counted_words_of holder ≡ take slot.object.counted slot.object.words
    held =
        ap counted_words_of
        (begins_same (views_of objects) base holder (view_of_stored slot.object) begins
        (view-begins objects base slot.object slot.begins))
        ∙ words-are

    within : s < length (counted_words_of holder)
    within =
        let size = ap length held in
        let part = length-take slot.object.counted slot.object.words in
        let a = slot.within in
        let b = (counted-slot (is_scanned slot.object.kind) slot.object.counted s slot.kind).1 in
        omega arith

    word-is : slice_index (counted_words_of holder) s ≡ word
    word-is =
        let b = (counted-slot (is_scanned slot.object.kind) slot.object.counted s slot.kind).1 in
        ap (λ (words : List ℕ). slice_index words s) held
        ∙ get_or-take slot.object.counted slot.object.words s 0 b ∙ sym is

    next : drop s (counted_words_of holder) ≡ word ∷ drop (s + 1) (counted_words_of holder)
    next =
        drop_more (counted_words_of holder) s 0 within
        ∙ ap (λ (w : ℕ). w ∷ drop (s + 1) (counted_words_of holder)) word-is

    -- what the slots from this one on name, it names, or those behind it do
    pub named-next : (b : ℕ) → holds_base (drop s (counted_words_of holder)) b ≡ true
        → (b ≡ word) ⊎ (holds_base (drop (s + 1) (counted_words_of holder)) b ≡ true)
    named-next b e =
        split (word == b) refl (sym (ap (λ (ws : List ℕ). holds_base ws b) next) ∙ e)
      where
        split : (t : Bool) → (word == b) ≡ t
            → ((word == b) || holds_base (drop (s + 1) (counted_words_of holder)) b) ≡ true
            → (b ≡ word) ⊎ (holds_base (drop (s + 1) (counted_words_of holder)) b ≡ true)
        split true t e = inl (sym (eqb-true word b t))
        split false t e = inr (sym (ap (λ x. x || holds_base (drop (s + 1) (counted_words_of holder)) b) t) ∙ e)

    -- it names a counted object, or is 0
    names-counted : HoldTight (views_of objects) → (word ≡ 0 → ⊥) → IsCountedAt objects word
    names-counted tight some =
        let at = slice_get-get_or (counted_words_of holder) s 0 within ∙ ap (λ (w : ℕ). Some w) word-is in
        split (word == 0) refl
        (each_get (λ w. IsTrue (w == 0 || begins_counted_in (views_of objects) w)) (counted_words_of holder) s word
        (tight base holder begins) at)
      where
        split : (t : Bool) → (word == 0) ≡ t → (t || begins_counted_in (views_of objects) word) ≡ true
            → IsCountedAt objects word
        split true t e = absurd (some (eqb-true word 0 t))
        split false t e =
            let one = begins_counted_from (views_of objects) word e in
            let o = seen objects word one.object one.begins in
            record {
              object = o.object;
              begins = o.begins;
              counted = ap (λ (v : ObjectView). is_counted v.kind) o.is ∙ one.counted;
            }

  pub slot-counted : HoldTight (views_of objects) → word ≢ 0 → IsCountedAt objects word
  slot-counted tight some =
      names-counted (view_of_stored slot.object) (view-begins objects base slot.object slot.begins) tight some

  -- a word that names no entry that isn't pinned can be passed over
  pub passed-over : (IsUnpinnedEntry objects word → ⊥) → ListsPinnedOrNamed objects base s
      → ListsPinnedOrNamed objects base (s + 1)
  passed-over none pinned holder begins b k listed unpinned =
      ⊎_elim
      (λ (same : b ≡ word). absurd (none (subst (IsUnpinnedEntry objects) same
      (record { counted = k; listed = listed; unpinned = unpinned }))))
      (λ (e : holds_base (drop (s + 1) (counted_words_of holder)) b ≡ true). e)
      (named-next holder begins b (pinned holder begins b k listed unpinned))

module _ (h h' : Heap) (base s word : ℕ) (slot : HasCountedSlot h.objects base s)
    (is : word ≡ slice_index slot.object.words s) (recounted : IsRecounted h h')
    (has : HasLeft h.objects h'.objects word) where
  -- the object that it names has left the table
  pub taken-out : ListsPinnedOrNamed h.objects base s → ListsPinnedOrNamed h'.objects base (s + 1)
  taken-out pinned holder begins b k listed unpinned =
      let there = subst (λ (vs : ObjectsByBase). Begins vs base holder) recounted.views begins in
      let j = counted-back h.objects h'.objects recounted.objects b k in
      let other : b ≢ word = λ same. no_other (ap (λ n. (composite_at h'.objects n).listed) same ∙ has.own) listed in
      ⊎_elim (λ (same : b ≡ word). absurd (other same))
      (λ (e : holds_base (drop (s + 1) (counted_words_of holder)) b ≡ true). e)
      (named-next h.objects base s word slot is holder there b
      (pinned holder there b j (sym (has.others b j other) ∙ listed) (sym (has.pins b j) ∙ unpinned)))

scanned-counted : (kind : Kind) → IsTrue (is_counted kind) → is_scanned kind ≡ true
scanned-counted Traced e = absurd (no_other refl e)
scanned-counted Leaf e = absurd (no_other refl e)
scanned-counted Counted e = refl
scanned-counted Weak e = absurd (no_other refl e)

-- the slots of a counted object, of which the first ones are counted
module _ (h : Heap) (sound : IsSound h) (base : ℕ) (k : IsCountedAt h.objects base) where
  abbrev o : StoredObject
  o = k.object

  most : o.counted ≤ length o.words
  most = (sound.shape base o k.begins).counted

  words-of : counted_words_of (view_of_stored o) ≡ take o.counted o.words
  words-of = ap (λ b. cond b (take o.counted o.words) []) (scanned-counted o.kind k.counted)

  pub length-words : length (counted_words_of (view_of_stored o)) ≡ o.counted
  length-words =
      let size = ap length words-of in
      let part = length-take o.counted o.words in
      let all = most in
      omega arith

  pub slots-at : counted_slots_at (views_of h.objects) base ≡ o.counted
  slots-at =
      ap counted_slots_told
      (entry_at-begins (views_of h.objects) base (view_of_stored o) (view-begins h.objects base o k.begins))
      ∙ length-words

  pub slot-at : (s : ℕ) → s < o.counted → HasCountedSlot h.objects base s
  slot-at s below =
      record {
        object = o;
        begins = k.begins;
        kind = ap (λ b. slot_kind_at b o.counted s) (scanned-counted o.kind k.counted)
            ∙ ap (λ b. cond b CountedSlot WordSlot) (lt-true s o.counted below);
        within = let all = most in omega arith;
      }
    where
      lt-true : (a b : ℕ) → a < b → nat_lt a b ≡ true
      lt-true a b lt = grind (arith, nat_tests)

  -- none is left
  pub none-named : (s : ℕ) → o.counted ≤ s → ListsPinnedOrNamed h.objects base s → ListsPinned h.objects []
  none-named s past pinned b j listed unpinned =
      let v = view_of_stored o in
      let size = length-words in
      let none : drop s (counted_words_of v) ≡ [] = drop_all s (counted_words_of v) (omega arith) in
      sym (ap (λ (ws : List ℕ). holds_base ws b) none)
      ∙ pinned v (view-begins h.objects base o k.begins) b j listed unpinned
