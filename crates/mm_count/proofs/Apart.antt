-- Counts without the slots of some objects.
use Rattle.std.proofs.Common.{◌≡◌, ◌≢◌, ⊎_elim, ℕ, ◌+◌, ◌*◌, ◌/◌, Bool, true, false, cond, List, [], ◌∷◌, Option}
use Rattle.std.proofs.Common.{Some, None, refl, sym, ap, ◌∙◌, subst, arith}
use Rattle.std.specs.Prelude.{slice_get, slice_set, ◌||◌, IsTrue}
use Rattle.std.specs.Option.{option_map}
use Rattle.std.proofs.lemmas.Bool.{cases_eq}
use Rattle.mm_model.specs.Object.{is_counted}
use Rattle.mm_model.specs.Phase.{lists}
use Rattle.mm_model.specs.Views.ByBase.{Begins, with_entry, changed}
use Rattle.mm_model.specs.Views.ObjectView.{ObjectView, ObjectsByBase, references_in}
use Rattle.mm_model.specs.Views.SetsByBase.{count_at}
use Rattle.mm_model.proofs.Lists.Replaced.{get-set_same, get-set_other}
use Rattle.mm_model.proofs.View.ByBase.Entries.{get-changed, same_entries}
use Rattle.mm_model.proofs.View.ByBase.ReplacedEntries.{begins_get}
use Rattle.mm_model.proofs.View.ByBase.MappedEntries.{begins_mapped, mapped_begins}
use Rattle.mm_model.proofs.View.ByBase.ChangedEntries.{change_told, changed-none, map-changed}
use Rattle.mm_object.specs.Object.{StoredObject, StoredObjects, view_of_stored, views_of}
use Rattle.mm_count.specs.Table.{composite_of}
use Rattle.mm_count.specs.Counts.{IsCountedBy}
use Rattle.mm_count.specs.Apart.{unless_dead, without_dead, AreCountsApart}
use Rattle.mm_count.proofs.Composites.{decides, refutes}
use Rattle.mm_count.proofs.Counted.{counts_of-begins}
use Rattle.mm_count.proofs.References.{references_of, references-cleared}

-- the views but for those at some bases
abbrev pub views_without : List ℕ → ObjectsByBase → ObjectsByBase
views_without bases views = changed (unless_dead bases) views

pub views_of-without_dead : (bases : List ℕ) (objects : StoredObjects)
    → views_of (without_dead bases objects) ≡ views_without bases (views_of objects)
views_of-without_dead bases objects =
    map-changed view_of_stored (unless_dead bases) (unless_dead bases) (λ base x. split x (lists bases base)) objects
  where
    split : (x : StoredObject) (b : Bool)
        → option_map view_of_stored (cond b None (Some x)) ≡ cond b None (Some (view_of_stored x))
    split x true = refl
    split x false = refl

-- nothing is left out
pub without_dead-none : (objects : StoredObjects) → without_dead [] objects ≡ objects
without_dead-none objects = changed-none (unless_dead []) objects (λ base x begins. refl)

pub apart-none : (objects : StoredObjects) (outside : ℕ → ℕ) → IsCountedBy objects outside
    → AreCountsApart [] objects outside
apart-none objects outside right =
    record {
      exact = λ base o begins counted exact.
          sym (counts_of-begins objects base o begins)
          ∙ right.exact base (view_of_stored o) (begins_mapped view_of_stored objects base o begins) counted exact
          ∙ sym (ap (λ os. count_at (views_of os) outside base) (without_dead-none objects));
      few = λ base o begins counted exact.
          let most = right.few base (view_of_stored o) (begins_mapped view_of_stored objects base o begins) counted
          exact
          in
          let is = counts_of-begins objects base o begins in
          omega arith;
    }

-- the stored object of a view
record IsSeen (objects : StoredObjects) (base : ℕ) (v : ObjectView) : Type 0 where
  object : StoredObject
  begins : Begins objects base object
  counted : IsTrue (is_counted v.kind) → IsTrue (is_counted object.kind)
  exact : v.sticky ≡ false → (composite_of object).sticky ≡ false

seen : (objects : StoredObjects) (base : ℕ) (v : ObjectView) → Begins (views_of objects) base v → IsSeen objects base v
seen objects base v begins =
    let m = mapped_begins view_of_stored objects base v begins in
    record {
      object = m.value;
      begins = m.begins;
      counted = subst (λ k. IsTrue (is_counted k)) (sym (ap (λ (z : ObjectView). z.kind) m.is));
      exact = λ e. ap (λ (z : ObjectView). z.sticky) m.is ∙ e;
    }

pub counted-none : (objects : StoredObjects) (outside : ℕ → ℕ) → AreCountsApart [] objects outside
    → IsCountedBy objects outside
counted-none objects outside apart =
    record {
      exact = λ base v begins counted exact.
          let t = seen objects base v begins in
          counts_of-begins objects base t.object t.begins
          ∙ apart.exact base t.object t.begins (t.counted counted) (t.exact exact)
          ∙ ap (λ os. count_at (views_of os) outside base) (without_dead-none objects);
      few = λ base v begins counted exact.
          let t = seen objects base v begins in
          let is = counts_of-begins objects base t.object t.begins in
          let most = apart.few base t.object t.begins (t.counted counted) (t.exact exact) in
          omega arith;
    }

-- what is left began there
left_begins : {X : Type 0} (bases : List ℕ) (entries : List (Option X)) (base : ℕ) (x : X)
    → Begins (changed (unless_dead bases) entries) base x → Begins entries base x
left_begins {X} bases entries base x begins =
    record {
      grain = begins.grain;
      aligned = begins.aligned;
      is = split (slice_get entries begins.grain)
          (sym (get-changed (unless_dead bases) entries begins.grain) ∙ begins.is);
    }
  where
    inner : (y : X) (b : Bool) → ◌≡◌ {A = Option (Option X)} (Some (cond b None (Some y))) (Some (Some x))
        → ◌≡◌ {A = Option (Option X)} (Some (Some y)) (Some (Some x))
    inner y true e = cc
    inner y false e = e

    split : (e : Option (Option X)) → change_told (unless_dead bases) begins.grain e ≡ Some (Some x) → e ≡ Some (Some x)
    split None e = cc
    split (Some None) e = cc
    split (Some (Some y)) e = inner y (lists bases (16 * begins.grain)) e

-- once they are gone, the counts are right
pub counted-without_dead : (dead : List ℕ) (objects : StoredObjects) (outside : ℕ → ℕ)
    → AreCountsApart dead objects outside → IsCountedBy (without_dead dead objects) outside
counted-without_dead dead objects outside apart =
    record {
      exact = λ base v begins counted exact.
          let t = seen (without_dead dead objects) base v begins in
          counts_of-begins (without_dead dead objects) base t.object t.begins
          ∙ apart.exact base t.object (left_begins dead objects base t.object t.begins) (t.counted counted)
          (t.exact exact);
      few = λ base v begins counted exact.
          let t = seen (without_dead dead objects) base v begins in
          let is = counts_of-begins (without_dead dead objects) base t.object t.begins in
          let most = apart.few base t.object (left_begins dead objects base t.object t.begins) (t.counted counted)
          (t.exact exact) in
          omega arith;
    }

-- one more is left out
without-more : {X : Type 0} (base : ℕ) (bases : List ℕ) (entries : List (Option X)) (x : X) → Begins entries base x
    → changed (unless_dead (base ∷ bases)) entries ≡ with_entry base None (changed (unless_dead bases) entries)
without-more {X} base bases entries x begins =
    same_entries (changed (unless_dead (base ∷ bases)) entries)
    (with_entry base None (changed (unless_dead bases) entries))
    (λ k. get-changed (unless_dead (base ∷ bases)) entries k ∙ ⊎_elim (here k) (there k) (cases_eq k (base / 16)))
  where
    is : slice_get entries (base / 16) ≡ Some (Some x)
    is = begins_get entries base x begins

    here : (k : ℕ) → k ≡ base / 16
        → change_told (unless_dead (base ∷ bases)) k (slice_get entries k)
        ≡ slice_get (slice_set (changed (unless_dead bases) entries) (base / 16) None) k
    here k e =
        let a = begins.aligned in
        let at : base ≡ 16 * k = omega arith in
        let old = get-changed (unless_dead bases) entries (base / 16)
        ∙ ap (change_told (unless_dead bases) (base / 16)) is in
        ap (change_told (unless_dead (base ∷ bases)) k) (ap (slice_get entries) e ∙ is)
        ∙ ap (λ (b : Bool). Some (cond (b || lists bases (16 * k)) None (Some x))) (decides base (16 * k) at)
        ∙ sym (get-set_same (changed (unless_dead bases) entries) (base / 16)
        (unless_dead bases (16 * (base / 16)) x) None old)
        ∙ ap (slice_get (slice_set (changed (unless_dead bases) entries) (base / 16) None)) (sym e)

    kept : (k : ℕ) → k ≢ base / 16 → (told : Option (Option X))
        → change_told (unless_dead (base ∷ bases)) k told ≡ change_told (unless_dead bases) k told
    kept k other None = refl
    kept k other (Some None) = refl
    kept k other (Some (Some y)) =
        let a = begins.aligned in
        ap (λ (b : Bool). Some (cond (b || lists bases (16 * k)) None (Some y)))
        (refutes base (16 * k) (λ e. other (omega arith)))

    there : (k : ℕ) → k ≢ base / 16
        → change_told (unless_dead (base ∷ bases)) k (slice_get entries k)
        ≡ slice_get (slice_set (changed (unless_dead bases) entries) (base / 16) None) k
    there k other =
        kept k other (slice_get entries k) ∙ sym (get-changed (unless_dead bases) entries k)
        ∙ sym (get-set_other (changed (unless_dead bases) entries) (base / 16) k None other)

-- what isn't left out begins there still
pub kept_begins : {X : Type 0} (bases : List ℕ) (entries : List (Option X)) (base : ℕ) (x : X) → Begins entries base x
    → lists bases base ≡ false → Begins (changed (unless_dead bases) entries) base x
kept_begins {X} bases entries base x begins out =
    record {
      grain = begins.grain;
      aligned = begins.aligned;
      is = get-changed (unless_dead bases) entries begins.grain ∙ ap (change_told (unless_dead bases) begins.grain)
          begins.is
          ∙ ap (λ (n : ℕ). Some (cond (lists bases n) None (Some x))) (sym begins.aligned)
          ∙ ap (λ (b : Bool). Some (cond b None (Some x))) out;
    }

-- how many hold a base without the slots of one more
pub references-dropped : (base : ℕ) (bases : List ℕ) (views : ObjectsByBase) (x : ObjectView) → Begins views base x
    → lists bases base ≡ false → (b : ℕ)
    → references_in (views_without (base ∷ bases) views) b + references_of x b ≡ references_in (views_without bases
    views) b
references-dropped base bases views x begins out b =
    let cleared = references-cleared (views_without bases views) base x (kept_begins bases views base x begins out) b in
    let same : references_in (views_without (base ∷ bases) views) b
    ≡ references_in (with_entry base None (views_without bases views)) b =
    ap (λ (vs : ObjectsByBase). references_in vs b) (without-more base bases views x begins) in
    omega arith
