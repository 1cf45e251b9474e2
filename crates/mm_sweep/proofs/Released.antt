-- What a release makes of each object.
use Rattle.std.proofs.Common.{◌≡◌, ℕ, Bool, true, false, List, [], ◌∷◌, ◌++◌, Option, Some, None, refl, sym, ap, ◌∙◌}
use Rattle.std.proofs.Common.{arith}
use Rattle.std.specs.Prelude.{◌==◌, ◌||◌, if◌then◌else◌}
use Rattle.std.specs.Option.{option_map, option_and_then}
use Rattle.std.proofs.lemmas.Bool.Decides.{nat_tests}
use Rattle.std.proofs.lemmas.List.Folds.{list_any-append}
use Rattle.mm_model.specs.Phase.{lists}
use Rattle.mm_model.specs.Views.ByBase.{changed}
use Rattle.mm_model.specs.Views.ObjectView.{ObjectView}
use Rattle.mm_model.specs.Views.ViewPhase.{unless_listed, view_after_release}
use Rattle.mm_model.proofs.View.ByBase.ChangedEntries.{changed-changed, changed-alike, changed-none, map-changed}
use Rattle.mm_object.specs.Object.{StoredObject, StoredObjects, view_of_stored, views_of}
use Rattle.mm_weak.specs.Links.{unlinked}
use Rattle.mm_sweep.specs.Release.{after_release}

-- the same by two tests
abbrev after_with : Bool → Bool → StoredObject → Option StoredObject
after_with gone cut object = if gone then None else Some (if cut then unlinked object else object)

unlinked-twice : (cut : Bool) (object : StoredObject) → after_with false cut (unlinked object) ≡ Some (unlinked object)
unlinked-twice true object = refl
unlinked-twice false object = refl

after_with-twice : (test : ℕ → Bool) (gone last cut : Bool) (object : StoredObject)
    → option_and_then (λ (o : StoredObject). after_with last (test o.link) o) (after_with gone cut object)
    ≡ after_with (gone || last) (cut || test object.link) object
after_with-twice test true last cut object = refl
after_with-twice test false true true object = refl
after_with-twice test false true false object = refl
after_with-twice test false false true object = unlinked-twice (test 0) object
after_with-twice test false false false object = refl

pub lists-append : (bases more : List ℕ) (base : ℕ) → lists (bases ++ more) base ≡ (lists bases base || lists more base)
lists-append bases more base = list_any-append (λ b. b == base) bases more

after_release-twice : (bases more : List ℕ) (base : ℕ) (object : StoredObject)
    → option_and_then (after_release more base) (after_release bases base object)
    ≡ after_release (bases ++ more) base object
after_release-twice bases more base object =
    after_with-twice (lists more) (lists bases base) (lists more base) (lists bases object.link) object
    ∙ ap (λ (b : Bool). after_with b (lists bases object.link || lists more object.link) object)
    (sym (lists-append bases more base))
    ∙ ap (λ (b : Bool). after_with (lists (bases ++ more) base) b object) (sym (lists-append bases more object.link))

-- one release after another
pub released-twice : (bases more : List ℕ) (objects : StoredObjects)
    → changed (after_release more) (changed (after_release bases) objects)
    ≡ changed (after_release (bases ++ more)) objects
released-twice bases more objects =
    changed-changed (after_release more) (after_release bases) objects
    ∙ changed-alike _ (after_release (bases ++ more)) objects
    (λ base object _. after_release-twice bases more base object)

pub released-none : (objects : StoredObjects) → changed (after_release []) objects ≡ objects
released-none objects = changed-none (after_release []) objects (λ base object _. refl)

-- what is seen of it
partner-released : (bases : List ℕ) (link : ℕ) (none cut : Bool) → lists bases link ≡ cut
    → (if cut then None else (if none then None else Some link))
    ≡ unless_listed bases (if none then None else Some link)
partner-released bases link true true e = refl
partner-released bases link true false e = refl
partner-released bases link false cut e = ap (λ (b : Bool). if b then None else Some link) (sym e)

view-cut : (cut : Bool) (object : StoredObject) → view_of_stored (if cut then unlinked object else object)
    ≡ record (view_of_stored object) { partner = if cut then None else (view_of_stored object).partner }
view-cut true object = refl
view-cut false object = refl

seen-released : (bases : List ℕ) (base : ℕ) (object : StoredObject)
    → option_map view_of_stored (after_release bases base object) ≡ view_after_release bases base
    (view_of_stored object)
seen-released bases base object =
    gone (lists bases base)
    ∙ ap (λ (partner : Option ℕ). if lists bases base then None else Some
    (record (view_of_stored object) { partner = partner }))
    (partner-released bases object.link (object.link == 0) (lists bases object.link) refl)
  where
    gone : (b : Bool) → option_map view_of_stored (after_with b (lists bases object.link) object)
        ≡ (if b then None else Some (record (view_of_stored object) {
          partner = if lists bases object.link then None else (view_of_stored object).partner;
        }))
    gone true = refl
    gone false = ap (λ (v : ObjectView). Some v) (view-cut (lists bases object.link) object)

pub views-released : (bases : List ℕ) (objects : StoredObjects)
    → views_of (changed (after_release bases) objects) ≡ changed (view_after_release bases) (views_of objects)
views-released bases objects =
    map-changed view_of_stored (after_release bases) (view_after_release bases) (seen-released bases) objects

-- whether one base is another
pub lists_one-same : (base other : ℕ) → other ≡ base → lists (base ∷ []) other ≡ true
lists_one-same base other e = same (base == other) (grind (arith, nat_tests))
  where
    same : (b : Bool) → b ≡ true → (b || false) ≡ true
    same true is = refl
    same false is = is

pub lists_one-other : (base other : ℕ) → (other ≡ base → ⊥) → lists (base ∷ []) other ≡ false
lists_one-other base other ne = differ (base == other) (let apart : other ≡ base → ⊥ = ne in grind (arith, nat_tests))
  where
    differ : (b : Bool) → b ≡ false → (b || false) ≡ false
    differ true is = is
    differ false is = refl

-- a freed object, one whose partner is freed, and any other
pub released-gone : (base at : ℕ) (object : StoredObject) → at ≡ base → after_release (base ∷ []) at object ≡ None
released-gone base at object e =
    ap (λ (b : Bool). after_with b (lists (base ∷ []) object.link) object) (lists_one-same base at e)

pub released-cut : (base at : ℕ) (object : StoredObject) → (at ≡ base → ⊥) → object.link ≡ base
    → after_release (base ∷ []) at object ≡ Some (unlinked object)
released-cut base at object ne e =
    ap (λ (b : Bool). after_with b (lists (base ∷ []) object.link) object) (lists_one-other base at ne)
    ∙ ap (λ (b : Bool). after_with false b object) (lists_one-same base object.link e)

pub released-kept : (base at : ℕ) (object : StoredObject) → (at ≡ base → ⊥) → (object.link ≡ base → ⊥)
    → after_release (base ∷ []) at object ≡ Some object
released-kept base at object ne other =
    ap (λ (b : Bool). after_with b (lists (base ∷ []) object.link) object) (lists_one-other base at ne)
    ∙ ap (λ (b : Bool). after_with false b object) (lists_one-other base object.link other)
