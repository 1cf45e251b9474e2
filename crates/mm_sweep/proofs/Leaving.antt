-- What an object's leaving the zero-count table makes of what objects say of their counts.
use Rattle.std.proofs.Common.{◌≡◌, ⊎_elim, ℕ, ◌≤◌, Bool, true, false, List, [], ◌∷◌, ◌++◌, inl, inr, refl, sym, ap}
use Rattle.std.proofs.Common.{subst, ◌∙◌, arith}
use Rattle.std.specs.Prelude.{◌||◌, IsTrue}
use Rattle.std.proofs.lemmas.Bool.{cases_eq}
use Rattle.mm_model.specs.Object.{is_counted}
use Rattle.mm_model.specs.Phase.{lists}
use Rattle.mm_model.specs.Views.ByBase.{Begins}
use Rattle.mm_model.specs.Views.ObjectView.{ObjectsByBase}
use Rattle.mm_model.specs.Views.SetsByBase.{count_at}
use Rattle.mm_model.proofs.View.ByBase.Entries.{begins_same}
use Rattle.mm_object.specs.Object.{StoredObject, StoredObjects, views_of}
use Rattle.mm_object.specs.Heap.{Heap}
use Rattle.mm_count.specs.declared.composite.Composite.{Composite}
use Rattle.mm_count.specs.Composite.{FitsWord, composite_in}
use Rattle.mm_count.specs.Table.{composite_of}
use Rattle.mm_count.specs.Counts.{left, changed_at, unplaced, without_places}
use Rattle.mm_count.specs.Apart.{without_dead, AreCountsApart}
use Rattle.mm_count.specs.DeadApart.{AreDeadApart, IsRecounted}
use Rattle.mm_count.proofs.Apart.{views_without, views_of-without_dead}
use Rattle.mm_count.proofs.Null.{keeps-same}
use Rattle.mm_count.proofs.Places.{cases, IsOwn, IsOther, composite_of-own, composite_of-other}
use Rattle.mm_count.proofs.Words.{fits-composite_in}
use Rattle.mm_count.proofs.Stores.Writing.{keeps-then}
use Rattle.mm_sweep.proofs.Released.{lists-append, lists_one-same, lists_one-other}

-- the counts are as they were, and only the object at a base isn't in the table any more
pub record Says (objects : StoredObjects) (base b : ℕ) (x : StoredObject) : Type 0 where
  pub was : StoredObject
  pub begins : Begins objects b was
  pub kind : x.kind ≡ was.kind
  pub count : (composite_of x).count ≡ (composite_of was).count
  pub sticky : (composite_of x).sticky ≡ (composite_of was).sticky
  pub listed : (b ≡ base → ⊥) → (composite_of x).listed ≡ (composite_of was).listed
  pub own : b ≡ base → (composite_of x).listed ≡ false

abbrev pub Leaves : StoredObjects → StoredObjects → ℕ → Type 0
Leaves before after base = (b : ℕ) (x : StoredObject) → Begins after b x → Says before base b x

pub leaves-counted : (h after : Heap) (base : ℕ) (o : StoredObject) → Begins h.objects base o
    → without_places after ≡ changed_at left base (without_places h) → Leaves h.objects after.objects base
leaves-counted h after base o begins e b x there =
    ⊎_elim
    (λ (c : IsOwn h after left base o begins e b x).
    let says = composite_of-own h after left base o begins e x fits c.is in
    record {
      was = o;
      begins = subst (λ (n : ℕ). Begins h.objects n o) (sym c.at) begins;
      kind = ap (λ (z : StoredObject). z.kind) c.is;
      count = ap (λ (d : Composite). d.count) says;
      sticky = ap (λ (d : Composite). d.sticky) says;
      listed = λ apart. absurd (apart c.at);
      own = λ at. ap (λ (d : Composite). d.listed) says;
    })
    (λ (c : IsOther h after left base o begins e b x).
    let says = sym (composite_of-other h after left base o begins e c.object x c.is) in
    record {
      was = c.object;
      begins = c.begun;
      kind = ap (λ (z : StoredObject). z.kind) (sym c.is);
      count = ap (λ (d : Composite). d.count) says;
      sticky = ap (λ (d : Composite). d.sticky) says;
      listed = λ apart. ap (λ (d : Composite). d.listed) says;
      own = λ at. absurd (c.apart at);
    })
    (cases h after left base o begins e b x there)
  where
    fits : FitsWord (left (unplaced (composite_of o)))
    fits = let f = fits-composite_in o.composite in let n = f.count in record { count = n; place = omega arith }

-- what isn't counted is never in the table
pub leaves-other : (objects : StoredObjects) (base : ℕ) (o : StoredObject) → Begins objects base o
    → o.composite ≡ 0 → Leaves objects objects base
leaves-other objects base o begins none b x there =
    record {
      was = x;
      begins = there;
      kind = refl;
      count = refl;
      sticky = refl;
      listed = λ apart. refl;
      own = λ at.
          let same = begins_same objects base x o (subst (λ (n : ℕ). Begins objects n x) at there) begins in
          ap (λ (z : StoredObject). (composite_of z).listed) same ∙ ap (λ (w : ℕ). (composite_in w).listed) none;
    }

none-left : (a b : Bool) → (a || b) ≡ false → a ≡ false
none-left true b e = e
none-left false b e = refl

either : (a b : Bool) → (a || b) ≡ true → b ≡ false → a ≡ true
either true b e none = refl
either false b e none = absurd (let no : ⊥ = cc in no)

clash : true ≡ false → ⊥
clash e = cc

module _ (before after : StoredObjects) (base : ℕ) (leaves : Leaves before after base) where
  pub dead-more : (bases : List ℕ) → AreDeadApart bases before → AreDeadApart (bases ++ base ∷ []) after
  dead-more bases dead =
      record {
        left = λ b x there listed.
            let says = leaves b x there in
            elim (cases_eq b base) [
              | inl own ↦ says.own own
              | inr other ↦
                  says.listed other
                  ∙ dead.left b says.was says.begins
                  (either (lists bases b) (lists (base ∷ []) b) (sym (lists-append bases (base ∷ []) b) ∙ listed)
                  (lists_one-other base b other))
            ];
        listed = λ b x there counted exact zero out.
            let says = leaves b x there in
            let none = sym (lists-append bases (base ∷ []) b) ∙ out in
            let other : b ≡ base → ⊥ = λ own. in_it bases b own none in
            says.listed other
            ∙ dead.listed b says.was says.begins (subst (λ k. IsTrue (is_counted k)) says.kind counted)
            (sym says.sticky ∙ exact) (sym says.count ∙ zero) (none-left (lists bases b) (lists (base ∷ []) b) none);
      }
    where
      last : (a c : Bool) → c ≡ true → (a || c) ≡ false → ⊥
      last true c e none = clash none
      last false c e none = clash (sym e ∙ none)

      in_it : (bases : List ℕ) (b : ℕ) → b ≡ base → (lists bases b || lists (base ∷ []) b) ≡ false → ⊥
      in_it bases b own none = last (lists bases b) (lists (base ∷ []) b) (lists_one-same base b own) none

  pub counts-more : views_of after ≡ views_of before → (dropped : List ℕ) (outside : ℕ → ℕ)
      → AreCountsApart dropped before outside → AreCountsApart dropped after outside
  counts-more views dropped outside apart =
      record {
        exact = λ b x there counted exact.
            let says = leaves b x there in
            says.count
            ∙ apart.exact b says.was says.begins (subst (λ k. IsTrue (is_counted k)) says.kind counted)
            (sym says.sticky ∙ exact)
            ∙ ap (λ (vs : ObjectsByBase). count_at vs outside b) same;
        few = λ b x there counted exact.
            let says = leaves b x there in
            subst (λ (n : ℕ). n ≤ 254) (sym says.count)
            (apart.few b says.was says.begins (subst (λ k. IsTrue (is_counted k)) says.kind counted)
            (sym says.sticky ∙ exact));
      }
    where
      same : views_of (without_dead dropped before) ≡ views_of (without_dead dropped after)
      same =
          views_of-without_dead dropped before ∙ ap (views_without dropped) (sym views)
          ∙ sym (views_of-without_dead dropped after)

-- composites that change alone, one after the other
pub recounted-same : (h : Heap) → IsRecounted h h
recounted-same h = record { views = refl; objects = keeps-same h.objects; rest = refl }

pub recounted-then : (a b c : Heap) → IsRecounted a b → IsRecounted b c → IsRecounted a c
recounted-then a b c one two =
    record {
      views = two.views ∙ one.views;
      objects = keeps-then a.objects b.objects c.objects one.objects two.objects;
      rest = two.rest ∙ ap (λ (h : Heap). record h { objects = c.objects }) one.rest;
    }
