-- What a new composite of one object makes of a heap without its places.
use Rattle.std.proofs.Common.{◌≡◌, ◌≢◌, ◌⊎◌, ⊎_elim, inl, inr, ℕ, zero, suc, ◌/◌, List, [], ◌∷◌, map, Option, Some}
use Rattle.std.proofs.Common.{refl, sym, ap, ◌∙◌, subst, arith}
use Rattle.std.specs.Prelude.{slice_get, slice_set}
use Rattle.std.specs.Option.{option_map}
use Rattle.std.proofs.lemmas.Bool.{cases_eq}
use Rattle.mm_model.specs.Views.ByBase.{Begins, with_entry}
use Rattle.mm_model.proofs.Lists.Replaced.{map-set, map-set_alike}
use Rattle.mm_model.proofs.View.ByBase.Entries.{begins_same}
use Rattle.mm_model.proofs.View.ByBase.ReplacedEntries.{begins_get, begins_here, begins_there, begins_cases}
use Rattle.mm_model.proofs.View.ByBase.MappedEntries.{begins_mapped, mapped_begins}
use Rattle.mm_object.specs.Object.{StoredObject, StoredObjects}
use Rattle.mm_object.specs.Heap.{Heap}
use Rattle.mm_count.specs.declared.composite.Composite.{Composite}
use Rattle.mm_count.specs.Composite.{composite_in, word_of, FitsWord}
use Rattle.mm_count.specs.Table.{composite_of}
use Rattle.mm_count.specs.Counts.{with_composite, changed_at, unplaced, without_places, KeepsObjects}
use Rattle.mm_count.specs.Kept.{gives}
use Rattle.mm_count.proofs.Words.{composite_in-word_of, fits-composite_in}
use Rattle.mm_count.proofs.Entries.{entry_at-begins}

pub set_same : {X : Type 0} (xs : List X) (i : ℕ) (x : X) → slice_get xs i ≡ Some x → slice_set xs i x ≡ xs
set_same [] i x e = refl
set_same {X} (y ∷ xs) zero x e = let same : x ≡ y = cc in ap (λ (z : X). z ∷ xs) same
set_same {X} (y ∷ xs) (suc i) x e = ap (λ (zs : List X). y ∷ zs) (set_same xs i x e)

abbrev pub bare : StoredObject → StoredObject
bare = with_composite unplaced

abbrev pub bared : StoredObjects → StoredObjects
bared objects = map (option_map bare) objects

fits-unplaced : (c : Composite) → FitsWord c → FitsWord (unplaced c)
fits-unplaced c fits = let h = fits.count in record { count = h; place = omega arith }

-- the composite of a bare object
pub composite_of-bare : (o : StoredObject) → composite_of (bare o) ≡ unplaced (composite_of o)
composite_of-bare o =
    composite_in-word_of (unplaced (composite_of o))
    (fits-unplaced (composite_of o) (fits-composite_in o.composite))

module _ (h : Heap) (base : ℕ) (o : StoredObject) (begins : Begins h.objects base o) where
  changed-is : (f : Composite → Composite)
      → (changed_at f base (without_places h)).objects
      ≡ with_entry base (Some (with_composite f (bare o))) (bared h.objects)
  changed-is f =
      ap (λ (e : Option StoredObject). with_entry base (option_map (with_composite f) e) (bared h.objects))
      (entry_at-begins (bared h.objects) base (bare o) (begins_mapped bare h.objects base o begins))

  changed-bare : (f : Composite → Composite)
      → with_composite f (bare o) ≡ record o { composite = word_of (f (unplaced (composite_of o))) }
  changed-bare f =
      ap (λ (c : Composite). record o { composite = word_of (f c) }) (composite_of-bare o)

  -- the object says something else
  pub gives-changed : (f : Composite → Composite) (c : Composite) → FitsWord c
      → unplaced c ≡ f (unplaced (composite_of o))
      → without_places (gives h base c o) ≡ changed_at f base (without_places h)
  gives-changed f c fits same =
      let new = record o { composite = word_of c } in
      let own : bare new ≡ with_composite f (bare o) =
      ap (λ (c : Composite). record o { composite = word_of (unplaced c) }) (composite_in-word_of c fits)
      ∙ ap (λ (c : Composite). record o { composite = word_of c }) same ∙ sym (changed-bare f) in
      ap (λ (objects : StoredObjects). record h { objects = objects })
      (map-set (option_map bare) h.objects (base / 16) (Some new)
      ∙ ap (λ (x : StoredObject). with_entry base (Some x) (bared h.objects)) own ∙ sym (changed-is f))

  -- it says the same
  pub kept-changed : (f : Composite → Composite) → unplaced (composite_of o) ≡ f (unplaced (composite_of o))
      → without_places h ≡ changed_at f base (without_places h)
  kept-changed f same =
      let own : bare o ≡ with_composite f (bare o) =
      ap (λ (c : Composite). record o { composite = word_of c }) same ∙ sym (changed-bare f) in
      ap (λ (objects : StoredObjects). record h { objects = objects })
      (sym (set_same (bared h.objects) (base / 16) (Some (bare o))
      (begins_get (bared h.objects) base (bare o) (begins_mapped bare h.objects base o begins)))
      ∙ ap (λ (x : StoredObject). with_entry base (Some x) (bared h.objects)) own ∙ sym (changed-is f))

  -- it has another place
  pub gives-same : (c : Composite) → FitsWord c → unplaced c ≡ unplaced (composite_of o)
      → without_places (gives h base c o) ≡ without_places h
  gives-same c fits same =
      let new = record o { composite = word_of c } in
      let own : bare new ≡ bare o =
      ap (λ (c : Composite). record o { composite = word_of (unplaced c) }) (composite_in-word_of c fits)
      ∙ ap (λ (c : Composite). record o { composite = word_of c }) same in
      ap (λ (objects : StoredObjects). record h { objects = objects })
      (map-set_alike (option_map bare) h.objects (base / 16) (Some o) (Some new)
      (begins_get h.objects base o begins) (ap (λ (x : StoredObject). Some x) own))

-- two objects that are one but for their composites
pub same_but : (x y : StoredObject) → bare x ≡ bare y → y ≡ record x { composite = y.composite }
same_but x y e = sym (ap (λ (z : StoredObject). record z { composite = y.composite }) e)

-- What the heap is once one object was given another composite, by base.
module _ (h h' : Heap) (f : Composite → Composite) (base : ℕ) (o : StoredObject) (begins : Begins h.objects base o)
    (e : without_places h' ≡ changed_at f base (without_places h)) where
  abbrev pub new : StoredObject
  new = with_composite f (bare o)

  pub bared-is : bared h'.objects ≡ with_entry base (Some new) (bared h.objects)
  bared-is = ap (λ (g : Heap). g.objects) e ∙ changed-is h base o begins f

  begins-bare : Begins (bared h.objects) base (bare o)
  begins-bare = begins_mapped bare h.objects base o begins

  -- what begins at a base now
  pub record IsOwn (b : ℕ) (x : StoredObject) : Type 0 where
    pub at : b ≡ base
    pub is : bare x ≡ new

  pub record IsOther (b : ℕ) (x : StoredObject) : Type 0 where
    pub apart : b ≢ base
    pub object : StoredObject
    pub begun : Begins h.objects b object
    pub is : bare object ≡ bare x

  pub cases : (b : ℕ) (x : StoredObject) → Begins h'.objects b x → IsOwn b x ⊎ IsOther b x
  cases b x there =
      let after = subst (λ objects. Begins objects b (bare x)) bared-is (begins_mapped bare h'.objects b x there) in
      ⊎_elim (λ (c : (b ≡ base) × (bare x ≡ new)). inl (record { at = c.0; is = c.1 }))
      (λ (c : (b ≢ base) × Begins (bared h.objects) b (bare x)).
      let old = mapped_begins bare h.objects b (bare x) c.1 in
      inr (record { apart = c.0; object = old.value; begun = old.begins; is = old.is }))
      (begins_cases (bared h.objects) base (bare o) new begins-bare b (bare x) after)

  own-but : (x : StoredObject) → bare x ≡ new → x ≡ record o { composite = x.composite }
  own-but x is = sym (ap (λ (z : StoredObject). record z { composite = x.composite }) (sym is))

  -- what is told of the object itself now
  pub composite_of-own : (x : StoredObject) → FitsWord (f (unplaced (composite_of o))) → bare x ≡ new
      → unplaced (composite_of x) ≡ f (unplaced (composite_of o))
  composite_of-own x fits is =
      sym (composite_of-bare x) ∙ ap composite_of is
      ∙ ap (λ (c : Composite). composite_in (word_of (f c))) (composite_of-bare o)
      ∙ composite_in-word_of (f (unplaced (composite_of o))) fits

  pub composite_of-other : (x y : StoredObject) → bare x ≡ bare y
      → unplaced (composite_of x) ≡ unplaced (composite_of y)
  composite_of-other x y is = sym (composite_of-bare x) ∙ ap composite_of is ∙ composite_of-bare y

  there-now : (b : ℕ) (x : StoredObject) → Begins (bared h'.objects) b (bare x)
      → (word : ℕ) × Begins h'.objects b (record x { composite = word })
  there-now b x k =
      let m = mapped_begins bare h'.objects b (bare x) k in
      (m.value.composite, subst (Begins h'.objects b) (same_but x m.value (sym m.is)) m.begins)

  own-now : (word : ℕ) × Begins h'.objects base (record o { composite = word })
  own-now =
      let k = subst (λ objects. Begins objects base new) (sym bared-is)
      (begins_here (bared h.objects) base (bare o) new begins-bare) in
      let m = mapped_begins bare h'.objects base new k in
      (m.value.composite, subst (Begins h'.objects base) (own-but m.value m.is) m.begins)

  pub keeps : KeepsObjects h.objects h'.objects
  keeps =
      record {
        to = λ b x there.
            ⊎_elim
            (λ (same : b ≡ base).
            let is : x ≡ o = begins_same h.objects b x o there (subst (λ n. Begins h.objects n o) (sym same) begins) in
            subst (λ (y : StoredObject). (word : ℕ) × Begins h'.objects b (record y { composite = word })) (sym is)
            (subst (λ n. (word : ℕ) × Begins h'.objects n (record o { composite = word })) (sym same) own-now))
            (λ (other : b ≢ base).
            there-now b x
            (subst (λ objects. Begins objects b (bare x)) (sym bared-is)
            (begins_there (bared h.objects) base (bare o) new begins-bare b (bare x) other
            (begins_mapped bare h.objects b x there))))
            (cases_eq b base);
        back = λ b x there.
            ⊎_elim
            (λ (c : IsOwn b x). (
              o.composite,
              subst (λ n. Begins h.objects n (record x { composite = o.composite })) (sym c.at)
                  (subst (Begins h.objects base)
                  (ap (λ (z : StoredObject). record z { composite = o.composite }) (sym (own-but x c.is))) begins),
            ))
            (λ (c : IsOther b x). (
              c.object.composite,
              subst (Begins h.objects b)
                  (same_but x c.object (sym c.is)) c.begun,
            ))
            (cases b x there);
      }
