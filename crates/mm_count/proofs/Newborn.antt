-- A new object is one that nothing counted holds, so counts stay right.
use Rattle.std.proofs.Common.{◌≡◌, ◌≢◌, ⊎_elim, ℕ, zero, suc, ◌/◌, ◌≤◌, Bool, true, false}
use Rattle.std.proofs.Common.{List, [], ◌∷◌, take, replicate, Option, Some, None, refl, sym, ap, ◌∙◌, subst}
use Rattle.std.proofs.Common.{IsTrue, arith}
use Rattle.std.specs.Prelude.{◌==◌, slice_get, slice_set, slice_index, if◌then◌else◌}
use Rattle.std.specs.List.{count_by}
use Rattle.std.specs.Option.{option_map}
use Rattle.std.proofs.lemmas.Bool.{cases_eq}
use Rattle.std.proofs.lemmas.Option.{slice_get-map}
use Rattle.mm_model.specs.Object.{is_counted, is_scanned}
use Rattle.mm_model.specs.Views.ByBase.{Begins, with_entry}
use Rattle.mm_model.specs.Views.ObjectView.{ObjectView, ObjectsByBase, references_in}
use Rattle.mm_model.specs.Views.SetsByBase.{count_at}
use Rattle.mm_model.proofs.Lists.Replaced.{get-set_other, get-set_cases, map-set}
use Rattle.mm_model.proofs.View.ByBase.Entries.{begins_same}
use Rattle.mm_model.proofs.View.ByBase.MappedEntries.{begins_mapped, mapped_begins}
use Rattle.mm_object.specs.Object.{StoredObject, StoredObjects, view_of_stored, views_of}
use Rattle.mm_count.specs.Composite.{composite_in}
use Rattle.mm_count.specs.Table.{composite_of}
use Rattle.mm_count.specs.Counts.{counts_of, IsCountedBy, NamesCounted}
use Rattle.mm_count.specs.Listed.{IsListedAtZero, AllListed, AllListedBut, NonePinned}
use Rattle.mm_count.proofs.Counted.{counts_of-begins}
use Rattle.mm_count.proofs.References.{references_of, count-other, references-cleared}

-- an entry that was replaced is put back
set-back : {X : Type 0} (xs : List X) (k : ℕ) (x y : X) → slice_get xs k ≡ Some x
    → slice_set (slice_set xs k y) k x ≡ xs
set-back [] k x y e = cc
set-back (z ∷ xs) zero x y e = let same : z ≡ x = cc in ap (λ w. w ∷ xs) (sym same)
set-back (z ∷ xs) (suc k) x y e = ap (λ ws. z ∷ ws) (set-back xs k x y e)

take-zero : (k count : ℕ) (n word : ℕ) → slice_get (take k (replicate count 0)) n ≡ Some word → word ≡ 0
take-zero zero count n word e = cc
take-zero (suc k) zero n word e = cc
take-zero (suc k) (suc count) zero word e = cc
take-zero (suc k) (suc count) (suc n) word e = take-zero k count n word e

pub counted-zero : (scanned : Bool) (k count : ℕ) (n word : ℕ)
    → slice_get (if scanned then take k (replicate count 0) else []) n ≡ Some word → word ≡ 0
counted-zero true k count n word e = take-zero k count n word e
counted-zero false k count n word e = cc

blank-word : (slots s : ℕ) → slice_index (replicate slots 0) s ≡ 0
blank-word zero s = refl
blank-word (suc slots) zero = refl
blank-word (suc slots) (suc s) = blank-word slots s

-- what an object is as it is made: each slot is 0, and so is its composite word
pub record IsBlank (object : StoredObject) : Type 0 where
  pub slots : ℕ
  pub words : object.words ≡ replicate slots 0
  pub composite : object.composite ≡ 0

pub references_of-blank : (object : StoredObject) → IsBlank object → (base : ℕ) → base ≢ 0
    → references_of (view_of_stored object) base ≡ 0
references_of-blank object blank base some =
    ap
    (λ (words : List ℕ). count_by (λ word. word == base)
    (if is_scanned object.kind then take object.counted words else [])) blank.words
    ∙ count-other (if is_scanned object.kind then take object.counted (replicate blank.slots 0) else []) base
    (λ n word e same. some (sym same ∙ counted-zero (is_scanned object.kind) object.counted blank.slots n word e))

clash : false ≡ true → ⊥
clash e = cc

-- an object that isn't counted needn't be in the table
pub listed-uncounted : (objects : StoredObjects) (base : ℕ) (object : StoredObject) → Begins objects base object
    → is_counted object.kind ≡ false → AllListedBut base objects → AllListed objects
listed-uncounted objects base object begins uncounted but = record {
  listed = λ b x there counted exact none.
      ⊎_elim
      (λ (e : b ≡ base).
      let same = begins_same objects base x object (subst (λ n. Begins objects n x) e there) begins in
      absurd (clash (sym uncounted ∙ ap (λ (o : StoredObject). is_counted o.kind) (sym same) ∙ counted)))
      (λ (ne : b ≢ base). but.listed b x ne there counted exact none) (cases_eq b base);
}

module _ (objects : StoredObjects) (base : ℕ) (o : StoredObject) (none : slice_get objects (base / 16) ≡ Some None)
    (begins : Begins (with_entry base (Some o) objects) base o) (blank : IsBlank o) where
  abbrev after : StoredObjects
  after = with_entry base (Some o) objects

  -- the new object, or what was there
  pub data IsBornOr (b : ℕ) (x : StoredObject) : Type 0 where
    Newborn : b ≡ base → x ≡ o → IsBornOr b x
    There : Begins objects b x → IsBornOr b x

  pub born-or : (b : ℕ) (x : StoredObject) → Begins after b x → IsBornOr b x
  born-or b x there =
      ⊎_elim
      (λ (own : (there.grain ≡ base / 16) × (Some o ≡ Some x)).
      let a = begins.aligned in
      let k = there.aligned in
      let at = own.0 in
      let same : o ≡ x = cc in
      IsBornOr.Newborn (omega arith) (sym same))
      (λ (old : slice_get objects there.grain ≡ Some (Some x)).
      IsBornOr.There (record { grain = there.grain; aligned = there.aligned; is = old }))
      (get-set_cases objects (base / 16) there.grain (Some o) (Some x) there.is)

  pub begins-still : (b : ℕ) (x : StoredObject) → Begins objects b x → Begins after b x
  begins-still b x there =
      record {
        grain = there.grain;
        aligned = there.aligned;
        is = get-set_other objects (base / 16) there.grain (Some o)
            (λ e.
            let no : ◌≡◌ {A = Option (Option StoredObject)} (Some (Some x)) (Some None) =
            sym there.is ∙ ap (slice_get objects) e ∙ none in
            cc)
            ∙ there.is;
      }

  pub views-born : views_of after ≡ with_entry base (Some (view_of_stored o)) (views_of objects)
  views-born = map-set (option_map view_of_stored) objects (base / 16) (Some o)

  still : (w : ℕ) → NamesCounted objects w → NamesCounted after w
  still w old some =
      let k = old some in
      record { object = k.object; begins = begins-still w k.object k.begins; counted = k.counted }

  -- words name counted objects alone
  pub named-born : ((b s : ℕ) (x : StoredObject) → Begins objects b x → NamesCounted objects (slice_index x.words s))
      → (b s : ℕ) (x : StoredObject) → Begins after b x → NamesCounted after (slice_index x.words s)
  named-born named b s x there = old (born-or b x there)
    where
      old : IsBornOr b x → NamesCounted after (slice_index x.words s)
      old (IsBornOr.Newborn at is) some =
          absurd (some (ap (λ (y : StoredObject). slice_index y.words s) is
          ∙ ap (λ (words : List ℕ). slice_index words s) blank.words ∙ blank-word blank.slots s))
      old (IsBornOr.There was) some = still (slice_index x.words s) (named b s x was) some

  none-seen : slice_get (views_of objects) (base / 16) ≡ Some None
  none-seen = slice_get-map (option_map view_of_stored) objects (base / 16) ∙ ap (option_map (option_map
      view_of_stored)) none

  references-born : (b : ℕ) → b ≢ 0 → references_in (views_of after) b ≡ references_in (views_of objects) b
  references-born b some =
      let cleared = references-cleared (views_of after) base (view_of_stored o)
      (begins_mapped view_of_stored after base o begins) b in
      let back : with_entry base None (views_of after) ≡ views_of objects =
      ap (λ (vs : ObjectsByBase). with_entry base None vs) views-born
      ∙ set-back (views_of objects) (base / 16) None (Some (view_of_stored o)) none-seen in
      let own = references_of-blank o blank b some in
      let same : references_in (with_entry base None (views_of after)) b ≡ references_in (views_of objects) b =
      ap (λ (vs : ObjectsByBase). references_in vs b) back in
      omega (arith, cleared, own, same)

  module _ (outside : ℕ → ℕ) (right : IsCountedBy objects outside)
      (bases : (b : ℕ) (x : StoredObject) → Begins after b x → b ≢ 0)
      (unnamed : references_in (views_of objects) base ≡ 0) (unheld : outside base ≡ 0) where
    record IsCount (b : ℕ) : Type 0 where
      exact : counts_of after b ≡ count_at (views_of after) outside b
      few : counts_of after b ≤ 254

    count-now : (b : ℕ) (x : StoredObject) → Begins after b x → IsTrue (is_counted x.kind)
        → (composite_of x).sticky ≡ false → IsBornOr b x → IsCount b
    count-now b x there counted exact (IsBornOr.Newborn at is) =
        let own : counts_of after b ≡ 0 =
        counts_of-begins after b x there ∙ ap (λ (y : StoredObject). (composite_of y).count) is
        ∙ ap (λ (word : ℕ). (composite_in word).count) blank.composite in
        let refs = references-born b (bases b x there) in
        let named : references_in (views_of objects) b ≡ 0 = ap (references_in (views_of objects)) at ∙ unnamed in
        let held : outside b ≡ 0 = ap outside at ∙ unheld in
        record { exact = omega (arith, own, refs, named, held); few = omega (arith, own) }
    count-now b x there counted exact (IsBornOr.There was) =
        let now = counts_of-begins after b x there in
        let was_told = counts_of-begins objects b x was in
        let seen = begins_mapped view_of_stored objects b x was in
        let old = right.exact b (view_of_stored x) seen counted exact in
        let most = right.few b (view_of_stored x) seen counted exact in
        let refs = references-born b (bases b x there) in
        record { exact = omega (arith, now, was_told, old, refs); few = omega (arith, now, was_told, most) }

    count-seen : (b : ℕ) (v : ObjectView) → Begins (views_of after) b v → IsTrue (is_counted v.kind)
        → v.sticky ≡ false → IsCount b
    count-seen b v there counted exact =
        let m = mapped_begins view_of_stored after b v there in
        let kind : m.value.kind ≡ v.kind = ap (λ (z : ObjectView). z.kind) m.is in
        let sticky : (composite_of m.value).sticky ≡ false = ap (λ (z : ObjectView). z.sticky) m.is ∙ exact in
        count-now b m.value m.begins (subst (λ k. IsTrue (is_counted k)) (sym kind) counted) sticky
        (born-or b m.value m.begins)

    -- counts stay right
    pub counted-born : IsCountedBy after outside
    counted-born =
        record {
          exact = λ b v there counted exact. (count-seen b v there counted exact).exact;
          few = λ b v there counted exact. (count-seen b v there counted exact).few;
        }

  -- every object but the new one is in the table as before
  pub listed-born : AllListed objects → AllListedBut base after
  listed-born all = record {
    listed = λ b x other there. old b x other (born-or b x there);
  }
    where
      old : (b : ℕ) (x : StoredObject) → b ≢ base → IsBornOr b x → IsListedAtZero x
      old b x other (IsBornOr.Newborn at is) = absurd (other at)
      old b x other (IsBornOr.There was) = all.listed b x was

  pub unpinned-born : NonePinned objects → NonePinned after
  unpinned-born all = record { unpinned = λ b x there. old b x (born-or b x there) }
    where
      old : (b : ℕ) (x : StoredObject) → IsBornOr b x → (composite_of x).pinned ≡ false
      old b x (IsBornOr.Newborn at is) =
          ap (λ (y : StoredObject). (composite_of y).pinned) is
          ∙ ap (λ (word : ℕ). (composite_in word).pinned) blank.composite
      old b x (IsBornOr.There was) = all.unpinned b x was
