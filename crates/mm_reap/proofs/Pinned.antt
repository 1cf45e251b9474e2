-- Which objects are pinned once some words were gone through.
use Rattle.std.proofs.Common.{◌≡◌, ◌≢◌, ⊎_elim, ℕ, ◌+◌, ◌<◌, ◌≤◌, Bool, true, false, List, [], ◌∷◌, take, length}
use Rattle.std.proofs.Common.{reverse, refl, sym, ap, ◌∙◌, subst, arith}
use Rattle.std.specs.Prelude.{IsTrue, not, ◌||◌, slice_index_or}
use Rattle.std.proofs.lemmas.Bool.{cases_eq}
use Rattle.std.proofs.lemmas.List.Folds.{list_any_more}
use Rattle.std.proofs.lemmas.List.Sorted.{list_any-IsPermutation, IsPermutation-reverse}
use Rattle.mm_model.specs.Object.{is_counted}
use Rattle.mm_model.specs.Words.{falls}
use Rattle.mm_model.specs.Views.ByBase.{Begins}
use Rattle.mm_model.specs.Views.ObjectView.{ObjectView, names_at}
use Rattle.mm_model.proofs.View.ByBase.Entries.{begins_same}
use Rattle.mm_model.proofs.Places.Falling.{falls_from, falls_within}
use Rattle.mm_model.proofs.Lists.Truth.{no_other}
use Rattle.mm_object.specs.Object.{StoredObject, StoredObjects, view_of_stored}
use Rattle.mm_object.specs.Heap.{Heap, Covers, IsSound}
use Rattle.mm_count.specs.declared.composite.Composite.{Composite}
use Rattle.mm_count.specs.Composite.{composite_in}
use Rattle.mm_count.specs.Table.{Table, composite_of, IsCountedAt, IsRight}
use Rattle.mm_count.specs.Counts.{composite_at, with_pin, changed_at, without_places, KeepsObjects}
use Rattle.mm_count.specs.Listed.{NonePinned}
use Rattle.mm_reap.specs.Pins.{ArePinned, PinsName, NamesNoCounted}
use Rattle.mm_reap.proofs.Recounted.{composite_at-begins, counted-to}
use Rattle.mm_reap.proofs.Changes.{pinned-own, pinned-other, pinned-listed, pinned-counts}

-- one word falls in an object exactly where the list of it alone names it
one_falls : (word base : ℕ) (v : ObjectView) → names_at (word ∷ []) base v ≡ true → falls word base v.extent ≡ true
one_falls word base v e = split (falls word base v.extent) e
  where
    split : (b : Bool) → (b || false) ≡ true → b ≡ true
    split true e = refl
    split false e = e

falls_one : (word base : ℕ) (v : ObjectView) → falls word base v.extent ≡ true → names_at (word ∷ []) base v ≡ true
falls_one word base v e = ap (λ b. b || false) e

covers-falls : (h : Heap) (word base : ℕ) (o : StoredObject) → Covers h word base o
    → names_at (word ∷ []) base (view_of_stored o) ≡ true
covers-falls h word base o c = falls_one word base (view_of_stored o) (falls_within word base o.extent c.from c.to)

falls-covers : (h : Heap) (word base : ℕ) (o : StoredObject) → Begins h.objects base o
    → names_at (word ∷ []) base (view_of_stored o) ≡ true → Covers h word base o
falls-covers h word base o begins e =
    let in_it = falls_from word base o.extent (one_falls word base (view_of_stored o) e) in
    record { begins = begins; from = in_it.0; to = in_it.1 }

-- two objects in which a word falls are one
covers-once : (h : Heap) → IsSound h → (word x y : ℕ) (o p : StoredObject) → Covers h word x o → Covers h word y p
    → x ≡ y
covers-once h sound word x y o p c d =
    ⊎_elim (λ (same : x ≡ y). same)
    (λ (other : x ≢ y). absurd (
    let apart = sound.apart x y o p c.begins d.begins other in
    let a = c.from in let b = c.to in let a' = d.from in let b' = d.to in
    ⊎_elim (λ (below : x + o.extent ≤ y). let no : ⊥ = omega arith in no)
    (λ (below : y + p.extent ≤ x). let no : ⊥ = omega arith in no) apart.disjoint
    ))
    (cases_eq x y)

pub pinned-none : (h : Heap) (word : ℕ) (pinned : Bool) → NamesNoCounted h word
    → ArePinned h.objects h.objects (word ∷ []) pinned
pinned-none h word pinned none =
    record {
      named = λ base o begins counted e. absurd (none base o (falls-covers h word base o begins e) counted);
      others = λ base o begins counted e. refl;
      listed = λ base k. refl;
      counts = λ base k. refl;
    }

pub pinned-one : (h h' : Heap) → IsSound h → (word base : ℕ) (pinned : Bool) (o : StoredObject) → Covers h word base o
    → IsTrue (is_counted o.kind) → without_places h' ≡ changed_at (with_pin pinned) base (without_places h)
    → KeepsObjects h.objects h'.objects → ArePinned h.objects h'.objects (word ∷ []) pinned
pinned-one h h' sound word base pinned o covers counted e keeps =
    let k : IsCountedAt h.objects base = record { object = o; begins = covers.begins; counted = counted } in
    record {
      named = λ b p begins tells falls.
          let same = covers-once h sound word b base p o (falls-covers h word b p begins falls) covers in
          ap (λ n. (composite_at h'.objects n).pinned) same ∙ pinned-own h h' pinned base k e keeps;
      others = λ b p begins tells none.
          let j : IsCountedAt h.objects b = record { object = p; begins = begins; counted = tells } in
          pinned-other h h' pinned base k e keeps b j
          (λ same. no_other none (covers-falls h word b p
          (record { begins = begins; from = (here same p begins).0; to = (here same p begins).1 })));
      listed = λ b j. pinned-listed h h' pinned base k e keeps b j;
      counts = λ b j. pinned-counts h h' pinned base k e keeps b j;
    }
  where
    here : {b : ℕ} → b ≡ base → (p : StoredObject) → Begins h.objects b p → (b ≤ word) × (word < b + p.extent)
    here {b} same p begins =
        let is : p ≡ o = begins_same h.objects base p o (subst (λ n. Begins h.objects n p) same begins) covers.begins in
        let a = covers.from in let c = covers.to in
        let ext : p.extent ≡ o.extent = ap (λ (x : StoredObject). x.extent) is in
        (omega arith, omega arith)

module _ (a b c : StoredObjects) (keeps : KeepsObjects a b) (words more : List ℕ) (word : ℕ) (pinned : Bool)
    (names : (base : ℕ) (v : ObjectView) → names_at more base v ≡ (names_at words base v || falls word base v.extent))
    (p : ArePinned a b words pinned) (q : ArePinned b c (word ∷ []) pinned) where
  pub pinned-more : ArePinned a c more pinned
  pinned-more =
      record {
        named = λ base o begins counted e. either base o begins counted (falls word base o.extent) refl e;
        others = λ base o begins counted e.
            let k = counted-to a b keeps base (record { object = o; begins = begins; counted = counted }) in
            neither base o begins counted (falls word base o.extent) refl
            (names_at words base (view_of_stored o)) refl e;
        listed = λ base k. q.listed base (counted-to a b keeps base k) ∙ p.listed base k;
        counts = λ base k. q.counts base (counted-to a b keeps base k) ∙ p.counts base k;
      }
    where
      moved : (base : ℕ) (o : StoredObject) → Begins a base o
          → (word : ℕ) × Begins b base (record o { composite = word })
      moved base o begins = keeps.to base o begins

      last : (base : ℕ) (o : StoredObject) (t : Bool) → falls word base o.extent ≡ t
          → names_at (word ∷ []) base (view_of_stored o) ≡ t
      last base o true e = ap (λ b. b || false) e
      last base o false e = ap (λ b. b || false) e

      either : (base : ℕ) (o : StoredObject) → Begins a base o → IsTrue (is_counted o.kind) → (t : Bool)
          → falls word base o.extent ≡ t → names_at more base (view_of_stored o) ≡ true
          → (composite_at c base).pinned ≡ pinned
      either base o begins counted true t e =
          let m = moved base o begins in
          q.named base (record o { composite = m.0 }) m.1 counted (last base o true t)
      either base o begins counted false t e =
          let m = moved base o begins in
          let before : names_at words base (view_of_stored o) ≡ true =
          one_of (names_at words base (view_of_stored o))
          (sym (ap (λ b. names_at words base (view_of_stored o) || b) t)
          ∙ sym (names base (view_of_stored o)) ∙ e) in
          q.others base (record o { composite = m.0 }) m.1 counted (last base o false t)
          ∙ p.named base o begins counted before
        where
          one_of : (x : Bool) → (x || false) ≡ true → x ≡ true
          one_of true e = refl
          one_of false e = e

      neither : (base : ℕ) (o : StoredObject) → Begins a base o → IsTrue (is_counted o.kind) → (t : Bool)
          → falls word base o.extent ≡ t → (s : Bool) → names_at words base (view_of_stored o) ≡ s
          → names_at more base (view_of_stored o) ≡ false
          → (composite_at c base).pinned ≡ (composite_at a base).pinned
      neither base o begins counted t falls s named e =
          let both : (s || t) ≡ false =
          sym (ap (λ x. x || t) named) ∙ sym (ap (λ x. names_at words base (view_of_stored o) || x) falls)
          ∙ sym (names base (view_of_stored o)) ∙ e in
          let m = moved base o begins in
          q.others base (record o { composite = m.0 }) m.1 counted (last base o t falls ∙ second s t both)
          ∙ p.others base o begins counted (named ∙ first s t both)
        where
          first : (s t : Bool) → (s || t) ≡ false → s ≡ false
          first true t e = e
          first false t e = refl

          second : (s t : Bool) → (s || t) ≡ false → t ≡ false
          second true true e = e
          second true false e = refl
          second false t e = e

pub pinned-start : (a : StoredObjects) (pinned : Bool) → ArePinned a a [] pinned
pinned-start a pinned =
    record {
      named = λ base o begins counted e. absurd (no_other refl e);
      others = λ base o begins counted e. refl;
      listed = λ base k. refl;
      counts = λ base k. refl;
    }

pub names-more : (words : List ℕ) (i : ℕ) → i < length words → (base : ℕ) (v : ObjectView)
    → names_at (take (i + 1) words) base v
    ≡ (names_at (take i words) base v || falls (slice_index_or words i 0) base v.extent)
names-more words i below base v = list_any_more (λ word. falls word base v.extent) words i 0 below

-- words in another order pin the same objects
pub pinned-alike : (a b : StoredObjects) (words others : List ℕ) (pinned : Bool)
    → ((base : ℕ) (v : ObjectView) → names_at words base v ≡ names_at others base v)
    → ArePinned a b words pinned → ArePinned a b others pinned
pinned-alike a b words others pinned same p =
    record {
      named = λ base o begins counted e. p.named base o begins counted (same base (view_of_stored o) ∙ e);
      others = λ base o begins counted e. p.others base o begins counted (same base (view_of_stored o) ∙ e);
      listed = p.listed;
      counts = p.counts;
    }

names-reverse : (words : List ℕ) (base : ℕ) (v : ObjectView) → names_at (reverse words) base v ≡ names_at words base v
names-reverse words base v =
    sym (list_any-IsPermutation (λ word. falls word base v.extent) words (reverse words) (IsPermutation-reverse words))

pub pinned-reverse : (a b : StoredObjects) (words : List ℕ) (pinned : Bool) → ArePinned a b (reverse words) pinned
    → ArePinned a b words pinned
pinned-reverse a b words pinned p = pinned-alike a b (reverse words) words pinned (names-reverse words) p

-- exactly what the words name is pinned, where nothing was
pub names-pinned : (a b : StoredObjects) (words : List ℕ) → KeepsObjects a b → NonePinned a
    → ArePinned a b words true → PinsName b words
names-pinned a b words keeps none p base o begins counted =
    let was = keeps.back base o begins in
    let x = record o { composite = was.0 } in
    sym (ap (λ (c : Composite). c.pinned) (composite_at-begins b base o begins))
    ∙ split (names_at words base (view_of_stored o)) refl was.0 was.1
  where
    split : (t : Bool) → names_at words base (view_of_stored o) ≡ t → (word : ℕ)
        → Begins a base (record o { composite = word })
        → (composite_at b base).pinned ≡ names_at words base (view_of_stored o)
    split true e word there = p.named base (record o { composite = word }) there counted e ∙ sym e
    split false e word there =
        let x = record o { composite = word } in
        p.others base x there counted e
        ∙ ap (λ (c : Composite). c.pinned) (composite_at-begins a base x there)
        ∙ none.unpinned base x there ∙ sym e

-- and nothing is once the pins are taken off again
pub none-pinned : (table : Table) (h : Heap) (a : StoredObjects) (words : List ℕ) → KeepsObjects a h.objects
    → IsRight table h → PinsName a words → ArePinned a h.objects words false → NonePinned h.objects
none-pinned table h a words keeps right names p =
    record { unpinned = λ base o begins. split base o begins (is_counted o.kind) refl }
  where
    named : (base : ℕ) (o : StoredObject) → Begins h.objects base o → (t : Bool)
        → names_at words base (view_of_stored o) ≡ t → IsTrue (is_counted o.kind)
        → (composite_at h.objects base).pinned ≡ false
    named base o begins true e counted =
        let there = keeps.back base o begins in
        p.named base (record o { composite = there.0 }) there.1 counted e
    named base o begins false e counted =
        let there = keeps.back base o begins in
        let x = record o { composite = there.0 } in
        p.others base x there.1 counted e
        ∙ ap (λ (c : Composite). c.pinned) (composite_at-begins a base x there.1)
        ∙ names base x there.1 counted ∙ e

    split : (base : ℕ) (o : StoredObject) → Begins h.objects base o → (t : Bool) → is_counted o.kind ≡ t
        → (composite_of o).pinned ≡ false
    split base o begins true e =
        sym (ap (λ (c : Composite). c.pinned) (composite_at-begins h.objects base o begins))
        ∙ named base o begins (names_at words base (view_of_stored o)) refl e
    split base o begins false e =
        let zero = (right.spelled base o begins).other (ap not e) in
        ap (λ n. (composite_in n).pinned) zero

-- the word falls in an object that isn't counted, and so in no other
pub names-other : (h : Heap) → IsSound h → (word base : ℕ) (o : StoredObject) → Covers h word base o
    → is_counted o.kind ≡ false → NamesNoCounted h word
names-other h sound word base o covers other b p there counted =
    let same = covers-once h sound word b base p o there covers in
    let is : p ≡ o = begins_same h.objects base p o
    (subst (λ n. Begins h.objects n p) same there.begins) covers.begins in
    no_other (ap (λ (x : StoredObject). is_counted x.kind) is ∙ other) counted
