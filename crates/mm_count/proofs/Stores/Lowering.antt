-- What lowering what the counted slots of an object name leaves, one after the other.
use Rattle.std.proofs.Common.{◌≡◌, ◌≢◌, ⊎_elim, inl, inr, ℕ, ◌+◌, ◌-◌, ◌<◌, ◌≤◌, Bool, true, false, cond, List, []}
use Rattle.std.proofs.Common.{◌∷◌, ◌++◌, take, length, Some, refl, sym, ap, ◌∙◌, subst, arith}
use Rattle.std.specs.Prelude.{slice_get, slice_index, nat_lt, ◌==◌, ◌||◌, IsTrue, if◌then◌else◌}
use Rattle.std.specs.List.{count_by}
use Rattle.std.proofs.lemmas.Bool.Decides.{nat_tests}
use Rattle.std.proofs.lemmas.Option.{slice_get-get_or}
use Rattle.std.proofs.lemmas.List.{take_more, get_or-take, length-take}
use Rattle.std.proofs.lemmas.List.Folds.{list_any-append}
use Rattle.std.proofs.lemmas.List.Sums.{sum_by-cons, sum_by-append, sum_by-take-le}
use Rattle.mm_model.specs.declared.object.Kind.{Kind}
use Rattle.mm_model.specs.declared.object.Kind.TheVariants.{Traced, Leaf, Counted, Weak}
use Rattle.mm_model.specs.Object.{is_counted, is_scanned}
use Rattle.mm_model.specs.Words.{CountedSlot, WordSlot, slot_kind_at}
use Rattle.mm_model.specs.Phase.{lists}
use Rattle.mm_model.specs.Views.ByBase.{Begins}
use Rattle.mm_model.specs.Views.ObjectView.{ObjectView, ObjectsByBase, counted_words_of, holds_base, references_in}
use Rattle.mm_model.specs.Views.SetsByBase.{count_at}
use Rattle.mm_model.specs.Views.GoodView.{HoldTight}
use Rattle.mm_model.specs.Views.ViewWords.{begins_counted_in}
use Rattle.mm_model.proofs.Good.Living.{each_get}
use Rattle.mm_model.proofs.View.ByBase.Entries.{begins_same}
use Rattle.mm_model.proofs.View.GoodWords.{begins_counted_from}
use Rattle.mm_model.proofs.View.ByBase.MappedEntries.{begins_mapped, mapped_begins}
use Rattle.mm_object.specs.Object.{StoredObject, StoredObjects, view_of_stored, views_of, shape_of}
use Rattle.mm_object.specs.Heap.{Heap, IsSound}
use Rattle.mm_object.specs.Header.{IsShape}
use Rattle.mm_count.specs.declared.composite.Composite.{Composite}
use Rattle.mm_count.specs.Composite.{IsComposite}
use Rattle.mm_count.specs.Table.{composite_of}
use Rattle.mm_count.specs.Counts.{lowered, changed_at, unplaced, without_places, KeepsObjects, NamesCounted}
use Rattle.mm_count.specs.Counts.{HasCountedSlot, HasReference}
use Rattle.mm_count.specs.Listed.{KeepsPins, ListsNamed}
use Rattle.mm_count.specs.Apart.{without_dead, AreCountsApart}
use Rattle.mm_count.specs.Kept.{AreTotals, AreLowered}
use Rattle.mm_count.proofs.Composites.{clash, decides, refutes}
use Rattle.mm_count.proofs.Places.{cases, IsOwn, IsOther, composite_of-own, composite_of-other}
use Rattle.mm_count.proofs.Stores.Changes.{composite_at-counted}
use Rattle.mm_count.proofs.Counted.{fits-lowered}
use Rattle.mm_count.proofs.Null.{none_begins, keeps-same}
use Rattle.mm_count.proofs.Stores.Stored.{one_if, kept-counted}
use Rattle.mm_count.proofs.Stores.Writing.{keeps-then}
use Rattle.mm_count.proofs.Apart.{views_without, views_of-without_dead, references-dropped}

-- how many of some words are a base
abbrev pub among : List ℕ → ℕ → ℕ
among words base = count_by (λ word. word == base) words

among-one : (word base : ℕ) → among (word ∷ []) base ≡ one_if (word == base)
among-one word base = let one = sum_by-cons (λ (w : ℕ). one_if (w == base)) word [] in omega arith

among-same : (base : ℕ) → among (base ∷ []) base ≡ 1
among-same base = among-one base base ∙ ap one_if (decides base base refl)

among-other : (word base : ℕ) → base ≢ word → among (word ∷ []) base ≡ 0
among-other word base other = among-one word base ∙ ap one_if (refutes word base (λ e. other (sym e)))

among-append : (xs ys : List ℕ) (base : ℕ) → among (xs ++ ys) base ≡ among xs base + among ys base
among-append xs ys base = sum_by-append (λ (w : ℕ). one_if (w == base)) xs ys

pub totals-alike : (objects : StoredObjects) (s t : ℕ → ℕ) → ((base : ℕ) → s base ≡ t base) → AreTotals objects s
    → AreTotals objects t
totals-alike objects s t same is =
    record { exact = λ base o begins counted exact. is.exact base o begins counted exact ∙ same base; few = is.few }

-- the count of the object that is lowered falls with its total
module _ (h h' : Heap) (base : ℕ) (o : StoredObject) (begins : Begins h.objects base o)
    (is : IsComposite (composite_of o)) (counted : IsTrue (is_counted o.kind))
    (e : without_places h' ≡ changed_at lowered base (without_places h)) (total : ℕ → ℕ)
    (before : AreTotals h.objects (λ b. total b + among (base ∷ []) b)) where
  abbrev c : Composite
  c = composite_of o

  abbrev less : Composite
  less = record (unplaced c) { count = c.count - 1; listed = c.count == 1 }

  record IsTotal (b : ℕ) (x : StoredObject) : Type 0 where
    exact : (composite_of x).count ≡ total b
    few : (composite_of x).count ≤ 254

  total-own : (b : ℕ) (x : StoredObject) → (composite_of x).sticky ≡ false → IsOwn h h' lowered base o begins e b x
      → IsTotal b x
  total-own b x exact own = split c.sticky refl
      (composite_of-own h h' lowered base o begins e x (fits-lowered h h' base o begins is) own.is)
    where
      split : (s : Bool) → c.sticky ≡ s → unplaced (composite_of x) ≡ cond s (unplaced c) less → IsTotal b x
      split true s says = clash (sym exact ∙ ap (λ (d : Composite). d.sticky) says ∙ s)
      split false s says =
          let count : (composite_of x).count ≡ c.count - 1 = ap (λ (d : Composite). d.count) says in
          let was = before.exact base o begins counted s in
          let one = among-same base in
          let most = before.few base o begins counted s in
          let at : total b ≡ total base = ap total own.at in
          record { exact = omega arith; few = omega arith }

  total-other : (b : ℕ) (x : StoredObject) → IsTrue (is_counted x.kind) → (composite_of x).sticky ≡ false
      → IsOther h h' lowered base o begins e b x → IsTotal b x
  total-other b x tells exact other =
      let says = composite_of-other h h' lowered base o begins e other.object x other.is in
      let kind : x.kind ≡ other.object.kind = ap (λ (z : StoredObject). z.kind) (sym other.is) in
      let sticky : (composite_of other.object).sticky ≡ false = ap (λ (d : Composite). d.sticky) says ∙ exact in
      let count : (composite_of other.object).count ≡ (composite_of x).count = ap (λ (d : Composite). d.count) says in
      let own = subst (λ k. IsTrue (is_counted k)) kind tells in
      let was = before.exact b other.object other.begun own sticky in
      let most = before.few b other.object other.begun own sticky in
      let none = among-other base b other.apart in
      record { exact = omega arith; few = omega arith }

  total-now : (b : ℕ) (x : StoredObject) → Begins h'.objects b x → IsTrue (is_counted x.kind)
      → (composite_of x).sticky ≡ false → IsTotal b x
  total-now b x there tells exact =
      ⊎_elim (λ (own : IsOwn h h' lowered base o begins e b x). total-own b x exact own)
      (λ (other : IsOther h h' lowered base o begins e b x). total-other b x tells exact other)
      (cases h h' lowered base o begins e b x there)

  pub totals-lowered : AreTotals h'.objects total
  totals-lowered =
      record {
        exact = λ b x there tells exact. (total-now b x there tells exact).exact;
        few = λ b x there tells exact. (total-now b x there tells exact).few;
      }

same-composite : (objects : StoredObjects) (base : ℕ) (o x : StoredObject) → Begins objects base o
    → Begins objects base x → composite_of x ≡ composite_of o
same-composite objects base o x p q = ap composite_of (begins_same objects base x o q p)

-- nothing is lowered
still-pins : (objects : StoredObjects) → KeepsPins objects objects
still-pins objects =
    record { same = λ b o x p q. ap (λ (c : Composite). c.pinned) (same-composite objects b o x p q) }

still-listed : (words : List ℕ) (objects : StoredObjects) → ListsNamed words objects objects
still-listed words objects =
    record {
      still = λ b o x p q listed. ap (λ (c : Composite). c.listed) (same-composite objects b o x p q) ∙ listed;
      only = λ b o x p q listed.
          inl (sym (ap (λ (c : Composite). c.listed) (same-composite objects b o x p q)) ∙ listed);
      zeros = λ b o x p q none.
          inl (sym (ap (λ (c : Composite). c.count) (same-composite objects b o x p q)) ∙ none);
    }

pub lowered-none : (h : Heap) → AreLowered h h []
lowered-none h =
    record {
      rest = refl;
      views = refl;
      objects = keeps-same h.objects;
      pins = still-pins h.objects;
      entered = still-listed [] h.objects;
      totals = λ total is. totals-alike h.objects (λ b. total b + among [] b) total (λ b. omega arith) is;
    }

-- 0 names nothing
pub lowered-zero : (h : Heap) → IsSound h → (word : ℕ) → word ≡ 0 → AreLowered h h (word ∷ [])
lowered-zero h sound word e =
    record {
      rest = refl;
      views = refl;
      objects = keeps-same h.objects;
      pins = still-pins h.objects;
      entered = still-listed (word ∷ []) h.objects;
      totals = λ total is.
          record {
            exact = λ b o begins counted exact.
                let was = is.exact b o begins counted exact in
                let none = among-other word b
                (none_begins h sound word e b (view_of_stored o) (begins_mapped view_of_stored h.objects b o begins)) in
                omega arith;
            few = is.few;
          };
    }

-- one after the other
lists-then : (xs ys : List ℕ) (a b c : StoredObjects) → KeepsObjects a b → ListsNamed xs a b → ListsNamed ys b c
    → ListsNamed (xs ++ ys) a c
lists-then xs ys a b c keeps one two =
    record {
      still = λ base o x p q listed.
          let k = keeps.to base o p in
          let mid = record o { composite = k.0 } in
          two.still base mid x k.1 q (one.still base o mid p k.1 listed);
      only = λ base o x p q listed.
          let k = keeps.to base o p in
          let mid = record o { composite = k.0 } in
          ⊎_elim
          (λ (was : (composite_of mid).listed ≡ true).
          ⊎_elim (λ (first : (composite_of o).listed ≡ true). inl first)
          (λ (named : IsTrue (holds_base xs base)).
          inr (list_any-append (λ word. word == base) xs ys ∙ left (holds_base xs base) (holds_base ys base) named))
          (one.only base o mid p k.1 was))
          (λ (named : IsTrue (holds_base ys base)).
          inr (list_any-append (λ word. word == base) xs ys ∙ right (holds_base xs base) (holds_base ys base) named))
          (two.only base mid x k.1 q listed);
      zeros = λ base o x p q none.
          let k = keeps.to base o p in
          let mid = record o { composite = k.0 } in
          ⊎_elim
          (λ (was : (composite_of mid).count ≡ 0).
          ⊎_elim (λ (first : (composite_of o).count ≡ 0). inl first)
          (λ (listed : (composite_of mid).listed ≡ true). inr (two.still base mid x k.1 q listed))
          (one.zeros base o mid p k.1 was))
          (λ (listed : (composite_of x).listed ≡ true). inr listed) (two.zeros base mid x k.1 q none);
    }
  where
    left : (p q : Bool) → p ≡ true → (p || q) ≡ true
    left true q e = refl
    left false q e = clash e

    right : (p q : Bool) → q ≡ true → (p || q) ≡ true
    right true q e = refl
    right false q e = e

pins-then : (a b c : StoredObjects) → KeepsObjects a b → KeepsPins a b → KeepsPins b c → KeepsPins a c
pins-then a b c keeps one two =
    record {
      same = λ base o x p q.
          let k = keeps.to base o p in
          let mid = record o { composite = k.0 } in
          two.same base mid x k.1 q ∙ one.same base o mid p k.1;
    }

pub lowered-then : (a b c : Heap) (xs ys : List ℕ) → AreLowered a b xs → AreLowered b c ys → AreLowered a c (xs ++ ys)
lowered-then a b c xs ys one two =
    record {
      rest = two.rest ∙ ap (λ (h : Heap). record h { objects = c.objects }) one.rest;
      views = two.views ∙ one.views;
      objects = keeps-then a.objects b.objects c.objects one.objects two.objects;
      pins = pins-then a.objects b.objects c.objects one.objects one.pins two.pins;
      entered = lists-then xs ys a.objects b.objects c.objects one.objects one.entered two.entered;
      totals = λ total is.
          two.totals total
          (one.totals (λ base. total base + among ys base)
          (totals-alike a.objects (λ base. total base + among (xs ++ ys) base)
          (λ base. total base + among ys base + among xs base)
          (λ base. let sum = among-append xs ys base in omega arith) is));
    }

-- how many hold a base, with and without the slots of one object
drop-one : (start : Heap) (base : ℕ) (o : StoredObject) → Begins start.objects base o → (dropped : List ℕ)
    → lists dropped base ≡ false → (b : ℕ)
    → references_in (views_of (without_dead dropped start.objects)) b
    ≡ references_in (views_of (without_dead (base ∷ dropped) start.objects)) b
    + among (counted_words_of (view_of_stored o)) b
drop-one start base o begins dropped out b =
    let sums = references-dropped base dropped (views_of start.objects) (view_of_stored o)
    (begins_mapped view_of_stored start.objects base o begins) out b in
    let with_it = ap (λ (vs : ObjectsByBase). references_in vs b) (views_of-without_dead dropped start.objects) in
    let without = ap (λ (vs : ObjectsByBase). references_in vs b)
    (views_of-without_dead (base ∷ dropped) start.objects) in
    omega arith

-- a slot among the counted ones
counted-kind : (counted s : ℕ) → s < counted → slot_kind_at true counted s ≡ CountedSlot
counted-kind counted s below = ap (λ b. if b then CountedSlot else WordSlot) (less below)
  where
    less : s < counted → nat_lt s counted ≡ true
    less h = grind (arith, nat_tests)

-- The counted slots of an object, of which the first are lowered.
module _ (start now : Heap) (base : ℕ) (o : StoredObject) (begins : Begins start.objects base o)
    (sound : IsSound start) where
  abbrev pub words : List ℕ
  words = counted_words_of (view_of_stored o)

  has-counted : (s : ℕ) → s < o.counted → is_scanned o.kind ≡ true
  has-counted s below = split o.kind refl
    where
      shape : IsShape (shape_of o)
      shape = sound.shape base o begins

      split : (k : Kind) → o.kind ≡ k → is_scanned k ≡ true
      split Traced e = refl
      split Counted e = refl
      split Leaf e = absurd (let none = shape.leaf e in omega arith)
      split Weak e = absurd (let none = (shape.weak e).0 in let most = shape.counted in omega arith)

  words-scanned : is_scanned o.kind ≡ true → words ≡ take o.counted o.words
  words-scanned scanned = ap (λ b. cond b (take o.counted o.words) []) scanned

  pub length-words : length words ≡ o.counted
  length-words = split o.kind refl
    where
      shape : IsShape (shape_of o)
      shape = sound.shape base o begins

      all : is_scanned o.kind ≡ true → length words ≡ o.counted
      all scanned =
          let most = shape.counted in
          ap length (words-scanned scanned) ∙ (omega (arith, length-take o.counted o.words))

      none : is_scanned o.kind ≡ false → o.counted ≡ 0 → length words ≡ o.counted
      none out zero = ap (λ b. length (cond b (take o.counted o.words) [])) out ∙ sym zero

      split : (k : Kind) → o.kind ≡ k → length words ≡ o.counted
      split Traced e = all (ap is_scanned e)
      split Counted e = all (ap is_scanned e)
      split Leaf e = none (ap is_scanned e) (shape.leaf e)
      split Weak e = none (ap is_scanned e)
          (let zero = (shape.weak e).0 in let most = shape.counted in omega arith)

  module _ (s : ℕ) (below : s < o.counted) where
    abbrev pub word : ℕ
    word = slice_index o.words s

    word-is : slice_index words s ≡ word
    word-is =
        ap (λ ws. slice_index ws s) (words-scanned (has-counted s below))
        ∙ get_or-take o.counted o.words s 0 below

    word-get : slice_get words s ≡ Some word
    word-get =
        let size = length-words in
        slice_get-get_or words s 0 (omega arith) ∙ ap (λ (w : ℕ). Some w) word-is

    pub words-more : take (s + 1) words ≡ take s words ++ word ∷ []
    words-more =
        let size = length-words in
        take_more words s 0 (omega arith) ∙ ap (λ (w : ℕ). take s words ++ w ∷ []) word-is

    named-start : HoldTight (views_of start.objects) → NamesCounted start.objects word
    named-start tight some =
        let one = each_get (λ w. IsTrue (w == 0 || begins_counted_in (views_of start.objects) w)) words s word
        (tight base (view_of_stored o) (begins_mapped view_of_stored start.objects base o begins)) word-get in
        let is = begins_counted_from (views_of start.objects) word
        (sym (ap (λ b. b || begins_counted_in (views_of start.objects) word) (refutes word 0 some)) ∙ one) in
        let m = mapped_begins view_of_stored start.objects word is.object is.begins in
        record {
          object = m.value;
          begins = m.begins;
          counted = subst (λ k. IsTrue (is_counted k)) (sym (ap (λ (z : ObjectView). z.kind) m.is)) is.counted;
        }

    module _ (lowers : AreLowered start now (take s words)) where
      -- what is told of the slot now
      pub slot-now : HasCountedSlot now.objects base s
      slot-now =
          let k = lowers.objects.to base o begins in
          let most = (sound.shape base o begins).counted in
          record {
            object = record o { composite = k.0 };
            begins = k.1;
            kind = ap (λ b. slot_kind_at b o.counted s) (has-counted s below) ∙ counted-kind o.counted s below;
            within = omega arith;
          }

      pub word-now : (x : StoredObject) → Begins now.objects base x → slice_index x.words s ≡ word
      word-now x there =
          let k = lowers.objects.to base o begins in
          ap (λ (y : StoredObject). slice_index y.words s)
          (begins_same now.objects base x (record o { composite = k.0 }) there k.1)

      pub named-now : HoldTight (views_of start.objects) → NamesCounted now.objects word
      named-now tight some =
          kept-counted start.objects now.objects lowers.objects word (named-start tight some)

      module _ (dropped : List ℕ) (outside : ℕ → ℕ) (out : lists dropped base ≡ false)
          (apart : AreCountsApart dropped start.objects outside) (tight : HoldTight (views_of start.objects)) where
        -- how often the others hold a base
        abbrev others : ℕ → ℕ
        others b = count_at (views_of (without_dead (base ∷ dropped) start.objects)) outside b

        abbrev left : ℕ → ℕ
        left b = others b + (among words b - among (take s words) b)

        totals-start : AreTotals start.objects (λ b. left b + among (take s words) b)
        totals-start =
            totals-alike start.objects (count_at (views_of (without_dead dropped start.objects)) outside)
            (λ b. left b + among (take s words) b)
            (λ b.
            let few = sum_by-take-le (λ (w : ℕ). one_if (w == b)) words s in
            let sums = drop-one start base o begins dropped out b in
            omega arith)
            (record { exact = apart.exact; few = apart.few })

        pub reference-now : word ≢ 0 → HasReference now.objects word
        reference-now some exact none =
            let k = named-now tight some in
            let told = composite_at-counted now.objects word k in
            let totals = lowers.totals left totals-start in
            let is = totals.exact word k.object k.begins k.counted (sym (ap (λ (c : Composite). c.sticky) told) ∙
            exact) in
            let zero : (composite_of k.object).count ≡ 0 = sym (ap (λ (c : Composite). c.count) told) ∙ none in
            let more : among (take (s + 1) words) word ≡ among (take s words) word + among (word ∷ []) word =
            ap (λ ws. among ws word) words-more ∙ among-append (take s words) (word ∷ []) word in
            let one = among-same word in
            let most = sum_by-take-le (λ (w : ℕ). one_if (w == word)) words (s + 1) in
            omega arith

-- once all are lowered
pub apart-lowered : (start now : Heap) (base : ℕ) (o : StoredObject) → Begins start.objects base o
    → AreLowered start now (counted_words_of (view_of_stored o)) → (dropped : List ℕ) (outside : ℕ → ℕ)
    → lists dropped base ≡ false → AreCountsApart dropped start.objects outside
    → AreCountsApart (base ∷ dropped) now.objects outside
apart-lowered start now base o begins lowers dropped outside out apart =
    let others : ℕ → ℕ = λ b. count_at (views_of (without_dead (base ∷ dropped) start.objects)) outside b in
    let totals = lowers.totals others
    (totals-alike start.objects (count_at (views_of (without_dead dropped start.objects)) outside)
    (λ b. others b + among (counted_words_of (view_of_stored o)) b)
    (λ b. let sums = drop-one start base o begins dropped out b in omega arith)
    (record { exact = apart.exact; few = apart.few })) in
    let same : views_of (without_dead (base ∷ dropped) now.objects)
    ≡ views_of (without_dead (base ∷ dropped) start.objects) =
    views_of-without_dead (base ∷ dropped) now.objects ∙ ap (views_without (base ∷ dropped)) lowers.views
    ∙ sym (views_of-without_dead (base ∷ dropped) start.objects) in
    record {
      exact = λ b x there counted exact.
          totals.exact b x there counted exact ∙ ap (λ (vs : ObjectsByBase). count_at vs outside b) (sym same);
      few = totals.few;
    }
