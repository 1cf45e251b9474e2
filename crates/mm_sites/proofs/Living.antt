-- Where the live objects of a state are entered, the totals of the entries are those of the state.
use Rattle.std.proofs.Common.{◌≡◌, ℕ, zero, suc, ◌+◌, Bool, true, false, cond, List, [], ◌∷◌, map, length, Option, Some}
use Rattle.std.proofs.Common.{None, refl, sym, ap, ◌∙◌, subst, arith, eqb-true}
use Rattle.std.proofs.lemmas.Bool.{eq-eqb}
use Rattle.std.proofs.lemmas.List.Sums.{sum_by-cons, length-filter}
use Rattle.std.specs.Prelude.{◌==◌, ◌&&◌, nat_eq, slice_get}
use Rattle.std.specs.List.{filter, find, sum_by, zip, IsDistinct}
use Rattle.std.specs.Option.{option_map}
use Rattle.mm_model.specs.Object.{Object, is_live, live_objects}
use Rattle.mm_model.specs.State.{State, Lives}
use Rattle.mm_model.specs.Places.Place.{live_pieces}
use Rattle.mm_model.specs.Good.{IsPlaced}
use Rattle.mm_model.specs.Views.ByBase.{Based, based}
use Rattle.mm_model.proofs.Lists.Growing.{find-Some, find-only}
use Rattle.mm_model.proofs.Lists.Keyed.{at, IsKeyed, keyed-get}
use Rattle.mm_model.proofs.Lists.KeyedSums.{sums_alike}
use Rattle.mm_model.proofs.Lists.Truth.{together}
use Rattle.mm_model.proofs.Places.Placing.{both}
use Rattle.mm_model.proofs.Good.LiveLists.{keyed-lives, one_birth}
use Rattle.mm_model.proofs.View.ByBase.Entries.{based_at, begins_at, keyed-based}
use Rattle.mm_sites.specs.declared.entry.Entry.{Entry}
use Rattle.mm_sites.specs.Entries.{EntriesByBase, total_of}
use Rattle.mm_sites.specs.Births.{total_in}
use Rattle.mm_sites.specs.Living.{entry_with, LivesWith, AreEntered}

-- an object with its site
abbrev Sited : Type 0
Sited = Object × ℕ

abbrev base_of : Sited → ℕ
base_of p = p.0.base

abbrev entry_of : Sited → Entry
entry_of p = entry_with p.0 p.1

abbrev key : Based Entry → ℕ
key e = e.base

abbrev lives : Sited → Bool
lives p = is_live p.0

sum_by-filter : {X : Type 0} (f : X → ℕ) (p : X → Bool) (xs : List X)
    → sum_by f (filter p xs) ≡ sum_by (λ x. cond (p x) (f x) 0) xs
sum_by-filter f p [] = refl
sum_by-filter {X} f p (x ∷ xs) =
    let rest = sum_by-filter f p xs in
    let split : (b : Bool) → sum_by f (cond b (x ∷ filter p xs) (filter p xs))
    ≡ cond b (f x) 0 + sum_by (λ y. cond (p y) (f y) 0) xs =
    elim [
      | true ↦ let own = sum_by-cons f x (filter p xs) in omega arith
      | false ↦ omega arith
    ] in
    split (p x) ∙ sym (sum_by-cons (λ y. cond (p y) (f y) 0) x xs)

-- a sum over what passes two tests
sum_by-both : {X : Type 0} (f : X → ℕ) (p q : X → Bool) (xs : List X)
    → sum_by f (filter (λ x. p x && q x) xs) ≡ sum_by (λ x. cond (q x) (f x) 0) (filter p xs)
sum_by-both {X} f p q xs =
    sum_by-filter f (λ x. p x && q x) xs
    ∙ (λ i. sum_by (λ x. each (p x) (q x) (f x) i) xs)
    ∙ sym (sum_by-filter (λ x. cond (q x) (f x) 0) p xs)
  where
    each : (a b : Bool) (n : ℕ) → cond (a && b) n 0 ≡ cond a (cond b n 0) 0
    each true b n = refl
    each false b n = refl

ones : {X : Type 0} (p : X → Bool) (xs : List X) → length (filter p xs) ≡ sum_by (λ _. 1) (filter p xs)
ones p xs = length-filter p xs ∙ sym (sum_by-filter (λ _. 1) p xs)

-- an element of a list with what stands beside it
get-zip : {A B : Type 0} (xs : List A) (ys : List B) (i : ℕ) (x : A) (y : B) → slice_get xs i ≡ Some x
    → slice_get ys i ≡ Some y → slice_get (zip xs ys) i ≡ Some (x, y)
get-zip [] ys i x y e h = cc
get-zip (a ∷ xs) [] i x y e h = cc
get-zip {A} {B} (a ∷ xs) (b ∷ ys) zero x y e h =
    let first : a ≡ x = cc in
    let second : b ≡ y = cc in
    λ i. Some (first i, second i)
get-zip (a ∷ xs) (b ∷ ys) (suc i) x y e h = get-zip xs ys i x y e h

zip-get : {A B : Type 0} (xs : List A) (ys : List B) (i : ℕ) (p : A × B) → slice_get (zip xs ys) i ≡ Some p
    → (slice_get xs i ≡ Some p.0) × (slice_get ys i ≡ Some p.1)
zip-get [] ys i p e = cc
zip-get (a ∷ xs) [] i p e = cc
zip-get {A} {B} (a ∷ xs) (b ∷ ys) zero p e =
    let same : (a, b) ≡ p = cc in
    (ap (λ (q : A × B). Some q.0) same, ap (λ (q : A × B). Some q.1) same)
zip-get (a ∷ xs) (b ∷ ys) (suc i) p e = zip-get xs ys i p e

find-filter : (p q : Sited → Bool) (xs : List Sited) → find q (filter p xs) ≡ find (λ x. p x && q x) xs
find-filter p q [] = refl
find-filter p q (x ∷ xs) =
    let rest = find-filter p q xs in
    let split : (b : Bool) → find q (cond b (x ∷ filter p xs) (filter p xs))
    ≡ cond (b && q x) (Some x) (find (λ x. p x && q x) xs) =
    elim [ true ↦ ap (cond (q x) (Some x)) rest | false ↦ rest ] in
    split (p x)

bases-zip : (objects : List Object) (sites : List ℕ) → length sites ≡ length objects
    → map base_of (filter lives (zip objects sites)) ≡ map (λ (o : Object). o.base) (live_objects objects)
bases-zip [] sites same = refl
bases-zip (object ∷ objects) [] same = cc
bases-zip (object ∷ objects) (site ∷ sites) same =
    let rest = bases-zip objects sites cc in
    let split : (b : Bool) → map base_of (cond b ((object, site) ∷ filter lives (zip objects sites))
    (filter lives (zip objects sites)))
    ≡ map (λ (o : Object). o.base) (cond b (object ∷ live_objects objects) (live_objects objects)) =
    elim [ true ↦ ap (λ bases. object.base ∷ bases) rest | false ↦ rest ] in
    split (is_live object)

module _ (a : State) (placed : IsPlaced a.settings.max (live_pieces a)) (sites : List ℕ)
    (beside : length sites ≡ length a.objects) (entries : EntriesByBase) (entered : AreEntered a sites entries) where
  abbrev all_sited : List Sited
  all_sited = zip a.objects sites

  abbrev living : List Sited
  living = filter lives all_sited

  keyed : IsKeyed base_of living
  keyed = subst (IsDistinct nat_eq) (sym (bases-zip a.objects sites beside)) (keyed-lives a placed)

  -- what is found among the living lives, with its site
  found-lives : (base : ℕ) (p : Sited) → at base_of living base ≡ Some p
      → (birth : ℕ) × LivesWith a sites birth p.0 p.1 × (p.0.base ≡ base)
  found-lives base p e =
      let found = find-Some (λ x. lives x && nat_eq (base_of x) base) all_sited p
      (sym (find-filter lives (λ x. nat_eq (base_of x) base) all_sited) ∙ e) in
      let parts = zip-get a.objects sites found.place p found.is in
      let passes = both _ _ found.passes in (
        found.place,
        record { lives = record { is = parts.0; live = passes.0 }; site_is = parts.1 },
        eqb-true _ _ passes.1,
      )

  lives-found : (birth : ℕ) (object : Object) (site : ℕ) → LivesWith a sites birth object site
      → at base_of living object.base ≡ Some (object, site)
  lives-found birth object site with_site =
      let here = get-zip a.objects sites birth object site with_site.lives.is with_site.site_is in
      find-filter lives (λ x. nat_eq (base_of x) object.base) all_sited
      ∙ find-only (λ x. lives x && nat_eq (base_of x) object.base) all_sited birth (object, site) here
      (together _ _ with_site.lives.live (eq-eqb object.base object.base refl))
      (λ j q is passes.
      let parts = zip-get a.objects sites j q is in
      let tests = both _ _ passes in
      let other : Lives a j q.0 = record { is = parts.0; live = tests.0 } in
      let same = one_birth a placed j birth q.0 object other with_site.lives (eqb-true _ _ tests.1) in
      let there : slice_get all_sited birth ≡ Some q = ap (slice_get all_sited) (sym same) ∙ is in
      cc)

  alike : (base : ℕ) → option_map (λ (e : Based Entry). e.value) (at (λ (e : Based Entry). e.base) (based entries) base)
      ≡ option_map entry_of (at base_of living base)
  alike base = split (at key (based entries) base) refl (at base_of living base) refl
    where
      split : (found : Option (Based Entry)) → at key (based entries) base ≡ found
          → (other : Option Sited) → at base_of living base ≡ other
          → option_map (λ (e : Based Entry). e.value) found ≡ option_map entry_of other
      split None e None h = refl
      split None e (Some p) h =
          let one = found-lives base p h in
          let begins = entered.all one.0 p.0 p.1 one.1 in
          let place = based_at entries p.0.base (entry_of p) begins in
          let there = keyed-get key (based entries) (keyed-based entries) place.0
          (record { base = p.0.base; value = entry_of p }) place.1 in
          let here = ap (at key (based entries)) (sym one.2) ∙ there in
          cc
      split (Some x) e other h =
          let found = find-Some (λ y. nat_eq (key y) base) (based entries) x e in
          let begins = begins_at entries found.place x found.is in
          let is_base : x.base ≡ base = eqb-true _ _ found.passes in
          let one = entered.only x.base x.value begins in
          let there : at base_of living base ≡ Some (one.object, one.site) =
          ap (at base_of living) (sym is_base) ∙ ap (at base_of living) (sym one.at)
          ∙ lives-found one.birth one.object one.site one.lives in
          ap (λ (v : Entry). Some v) one.is ∙ ap (option_map entry_of) (sym there ∙ h)

  sums : (h : Entry → ℕ) → sum_by (λ (e : Based Entry). h e.value) (based entries)
      ≡ sum_by (λ (p : Sited). h (entry_of p)) living
  sums h =
      sums_alike (λ (e : Based Entry). e.base) base_of (λ (e : Based Entry). e.value) entry_of (based entries) living
      (keyed-based entries) keyed alike h

  pub totals-living : (site : ℕ) → total_of entries site ≡ total_in a sites site
  totals-living site =
      let objects : (total_of entries site).objects ≡ (total_in a sites site).objects =
      ones (λ (e : Based Entry). e.value.site == site) (based entries)
      ∙ sum_by-filter (λ _. 1) (λ (e : Based Entry). e.value.site == site) (based entries)
      ∙ sums (λ e. cond (e.site == site) 1 0)
      ∙ sym (sum_by-both (λ _. 1) lives (λ p. p.1 == site) all_sited)
      ∙ sym (ones (λ p. lives p && p.1 == site) all_sited) in
      let bytes : (total_of entries site).bytes ≡ (total_in a sites site).bytes =
      sum_by-filter (λ (e : Based Entry). e.value.extent) (λ (e : Based Entry). e.value.site == site) (based entries)
      ∙ sums (λ e. cond (e.site == site) e.extent 0)
      ∙ sym (sum_by-both (λ (p : Sited). p.0.extent) lives (λ p. p.1 == site) all_sited) in
      λ i. record { objects = objects i; bytes = bytes i }
