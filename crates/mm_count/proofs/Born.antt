-- The table stays right where an object is made whose composite word is 0.
use Rattle.std.proofs.Common.{◌≡◌, ◌≢◌, ⊎_elim, ℕ, ◌/◌, true, Some, None, Option, refl, sym, ap, ◌∙◌}
use Rattle.std.proofs.Common.{subst, arith}
use Rattle.std.specs.Prelude.{slice_get, slice_set}
use Rattle.std.proofs.lemmas.Bool.{cases_eq}
use Rattle.mm_model.specs.Views.ByBase.{Begins, with_entry}
use Rattle.mm_model.proofs.Lists.Replaced.{get-set_same, get-set_other}
use Rattle.mm_object.specs.Object.{StoredObject, StoredObjects}
use Rattle.mm_object.specs.Heap.{Heap}
use Rattle.mm_count.specs.Composite.{IsComposite, composite_in}
use Rattle.mm_count.specs.Table.{Table, composite_of, IsSpelled, IsRight}
use Rattle.mm_count.proofs.Composites.{clash}

blank-composite : IsComposite (composite_in 0)
blank-composite =
    record { sticky = λ e. clash e; exact = λ e. omega arith; listed = λ e. clash e; unlisted = λ e. refl }

pub spelled-blank : (o : StoredObject) → o.composite ≡ 0 → IsSpelled o
spelled-blank o zero =
    subst (λ (word : ℕ). IsSpelled (record o { composite = word })) (sym zero)
    (record { word = refl; counted = λ _. blank-composite; other = λ _. refl })

module _ (h h' : Heap) (base : ℕ) (o : StoredObject) (none : slice_get h.objects (base / 16) ≡ Some None)
    (objects : h'.objects ≡ with_entry base (Some o) h.objects) (zero : o.composite ≡ 0) where
  -- the new object, or what was there
  data IsBorn (b : ℕ) (x : StoredObject) : Type 0 where
    newborn : x ≡ o → IsBorn b x
    there : Begins h.objects b x → IsBorn b x

  born : (b : ℕ) (x : StoredObject) → Begins h'.objects b x → IsBorn b x
  born b x begins =
      let is = ap (λ (os : StoredObjects). slice_get os begins.grain) (sym objects) ∙ begins.is in
      ⊎_elim
      (λ (e : begins.grain ≡ base / 16).
      let now = get-set_same h.objects (base / 16) None (Some o) none in
      let same : ◌≡◌ {A = Option (Option StoredObject)} (Some (Some x)) (Some (Some o)) =
      sym is ∙ ap (slice_get (slice_set h.objects (base / 16) (Some o))) e ∙ now in
      newborn (cc))
      (λ (n : begins.grain ≡ base / 16 → ⊥).
      there (record {
        grain = begins.grain;
        aligned = begins.aligned;
        is = sym (get-set_other h.objects (base / 16) begins.grain (Some o) n) ∙ is;
      }))
      (cases_eq begins.grain (base / 16))

  stays : (b : ℕ) (x : StoredObject) → Begins h.objects b x → Begins h'.objects b x
  stays b x begins =
      let other : begins.grain ≢ base / 16 = λ e.
      (let no : ◌≡◌ {A = Option (Option StoredObject)} (Some (Some x)) (Some None) =
      sym begins.is ∙ ap (slice_get h.objects) e ∙ none in
      cc) in
      record {
        grain = begins.grain;
        aligned = begins.aligned;
        is = ap (λ (os : StoredObjects). slice_get os begins.grain) objects
            ∙ get-set_other h.objects (base / 16) begins.grain (Some o) other ∙ begins.is;
      }

  pub right-born : (table : Table) → h'.pages ≡ h.pages → IsRight table h → IsRight table h'
  right-born table pages right =
      record {
        pages = let few = right.pages in omega arith;
        spelled = λ b x begins. spelled b x (born b x begins);
        entered = λ b x begins listed. entered b x (born b x begins) listed;
        entries = λ place b is.
            let e = right.entries place b is in
            record {
              object = e.object;
              begins = stays b e.object e.begins;
              counted = e.counted;
              listed = e.listed;
              stands = e.stands;
            };
      }
    where
      spelled : (b : ℕ) (x : StoredObject) → IsBorn b x → IsSpelled x
      spelled b x (newborn e) = subst IsSpelled (sym e) (spelled-blank o zero)
      spelled b x (there begins) = right.spelled b x begins

      entered : (b : ℕ) (x : StoredObject) → IsBorn b x → (composite_of x).listed ≡ true
          → slice_get table.entries (composite_of x).place ≡ Some b
      entered b x (newborn e) listed =
          clash (sym (ap (λ (y : StoredObject). (composite_of y).listed) e
          ∙ ap (λ (word : ℕ). (composite_in word).listed) zero) ∙ listed)
      entered b x (there begins) listed = right.entered b x begins listed
