-- Lists by base: what stands at each entry, and the list of what begins somewhere.
use Rattle.std.proofs.Common.{◌≡◌, ℕ, zero, suc, ◌+◌, ◌*◌, ◌/◌, ◌<◌, ◌≤◌, Bool, true, false, cond, eqb-true, List, []}
use Rattle.std.proofs.Common.{◌∷◌, map, length, Option, Some, None, refl, sym, ap, ◌∙◌, arith}
use Rattle.std.proofs.lemmas.Bool.Decides.{nat_tests}
use Rattle.std.specs.Prelude.{slice_get, slice_set, nat_eq, ◌==◌, if◌then◌else◌}
use Rattle.std.specs.List.{list_any, AllByRecursion, IsDistinct}
use Rattle.std.specs.Option.{option_map, option_and_then}
use Rattle.mm_model.specs.Phase.{IsAscending}
use Rattle.mm_model.specs.Views.ByBase.{Begins, Based, with_entry, based_from, based, changed_from, changed}
use Rattle.mm_model.proofs.Lists.Growing.{any_get, any_from_get}
use Rattle.mm_model.proofs.Lists.Keyed.{IsKeyed}
use Rattle.mm_model.proofs.Lists.Replaced.{get-set_same, get-set_other}

get-changed_from : {X : Type 0} (f : ℕ → X → Option X) (low : ℕ) (entries : List (Option X)) (k : ℕ)
    → slice_get (changed_from f low entries) k ≡ option_map (option_and_then (f (low + 16 * k))) (slice_get entries k)
get-changed_from f low [] k = refl
get-changed_from f low (None ∷ entries) zero = refl
get-changed_from f low (None ∷ entries) (suc k) =
    let next : low + 16 + 16 * k ≡ low + 16 * suc k = omega arith in
    get-changed_from f (low + 16) entries k
    ∙ ap (λ n. option_map (option_and_then (f n)) (slice_get entries k)) next
get-changed_from {X} f low (Some x ∷ entries) zero =
    let here : low ≡ low + 16 * 0 = omega arith in ap (λ (n : ℕ). Some (f n x)) here
get-changed_from f low (Some x ∷ entries) (suc k) =
    let next : low + 16 + 16 * k ≡ low + 16 * suc k = omega arith in
    get-changed_from f (low + 16) entries k
    ∙ ap (λ n. option_map (option_and_then (f n)) (slice_get entries k)) next

pub get-changed : {X : Type 0} (f : ℕ → X → Option X) (entries : List (Option X)) (k : ℕ)
    → slice_get (changed f entries) k ≡ option_map (option_and_then (f (16 * k))) (slice_get entries k)
get-changed f entries k =
    let same : 0 + 16 * k ≡ 16 * k = omega arith in
    get-changed_from f 0 entries k ∙ ap (λ n. option_map (option_and_then (f n)) (slice_get entries k)) same

pub length-changed : {X : Type 0} (f : ℕ → X → Option X) (entries : List (Option X))
    → length (changed f entries) ≡ length entries
length-changed {X} f entries = from 0 entries
  where
    from : (low : ℕ) (entries : List (Option X)) → length (changed_from f low entries) ≡ length entries
    from low [] = refl
    from low (None ∷ entries) = ap suc (from (low + 16) entries)
    from low (Some x ∷ entries) = ap suc (from (low + 16) entries)

get_within : {X : Type 0} (xs : List X) (i : ℕ) → i < length xs → (x : X) × (slice_get xs i ≡ Some x)
get_within [] i h = absurd (omega arith)
get_within (x ∷ xs) zero h = (x, refl)
get_within (x ∷ xs) (suc i) h = get_within xs i (omega arith)

pub get-with_entry : {X : Type 0} (entries : List (Option X)) (grain : ℕ) (entry : Option X) (k : ℕ)
    → grain < length entries
    → slice_get (with_entry (16 * grain) entry entries) k ≡ (if k == grain then Some entry else slice_get entries k)
get-with_entry {X} entries grain entry k below =
    let whole : 16 * grain / 16 ≡ grain = omega arith in
    ap (λ n. slice_get (slice_set entries n entry) k) whole ∙ split (k == grain) refl
  where
    split : (b : Bool) → (k == grain) ≡ b
        → slice_get (slice_set entries grain entry) k ≡ cond b (Some entry) (slice_get entries k)
    split true e =
        let old = get_within entries grain below in
        ap (slice_get (slice_set entries grain entry)) (eqb-true k grain e)
        ∙ get-set_same entries grain old.0 entry old.1
    split false e = get-set_other entries grain k entry (λ same. apart same e)
      where
        apart : k ≡ grain → (k == grain) ≡ false → ⊥
        apart same e = grind (arith, nat_tests)

-- lists that have the same at each place are one
pub same_entries : {X : Type 0} (xs ys : List (Option X)) → ((k : ℕ) → slice_get xs k ≡ slice_get ys k) → xs ≡ ys
same_entries [] [] same = refl
same_entries [] (y ∷ ys) same = let none = same 0 in cc
same_entries (x ∷ xs) [] same = let none = same 0 in cc
same_entries {X} (x ∷ xs) (y ∷ ys) same =
    let first : x ≡ y = heads (same 0) in
    ap (λ z. z ∷ xs) first ∙ ap (λ zs. y ∷ zs) (same_entries xs ys (λ k. same (suc k)))
  where
    heads : ◌≡◌ {A = Option (Option X)} (Some x) (Some y) → x ≡ y
    heads e = cc

based_from-get : {X : Type 0} (low : ℕ) (entries : List (Option X)) (k : ℕ) (x : X)
    → slice_get entries k ≡ Some (Some x)
    → (n : ℕ) × (slice_get (based_from low entries) n ≡ Some (record { base = low + 16 * k; value = x }))
based_from-get low [] k x e = cc
based_from-get low (None ∷ entries) zero x e = cc
based_from-get {X} low (None ∷ entries) (suc k) x e =
    let next : low + 16 + 16 * k ≡ low + 16 * suc k = omega arith in
    let rest = based_from-get (low + 16) entries k x e in
    (rest.0, rest.1 ∙ ap (λ base. Some (record { base = base; value = x })) next)
based_from-get {X} low (Some y ∷ entries) zero x e =
    let same : y ≡ x = cc in
    let here : low ≡ low + 16 * 0 = omega arith in
    let value = ap (λ z. Some (record { base = low; value = z })) same in
    (0, value ∙ ap (λ base. Some (record { base = base; value = x })) here)
based_from-get {X} low (Some y ∷ entries) (suc k) x e =
    let next : low + 16 + 16 * k ≡ low + 16 * suc k = omega arith in
    let rest = based_from-get (low + 16) entries k x e in
    (suc rest.0, rest.1 ∙ ap (λ base. Some (record { base = base; value = x })) next)

-- what begins at a base stands in the list
pub based_at : {X : Type 0} (entries : List (Option X)) (base : ℕ) (x : X) → Begins entries base x
    → (n : ℕ) × (slice_get (based entries) n ≡ Some (record { base = base; value = x }))
based_at {X} entries base x h =
    let one = based_from-get 0 entries h.grain x h.is in
    let same : 0 + 16 * h.grain ≡ base = let is = h.aligned in omega arith in
    (one.0, one.1 ∙ ap (λ b. Some (record { base = b; value = x })) same)

begins_from : {X : Type 0} (low : ℕ) (entries : List (Option X)) (n : ℕ) (o : Based X)
    → slice_get (based_from low entries) n ≡ Some o
    → (k : ℕ) × (o.base ≡ low + 16 * k) × (slice_get entries k ≡ Some (Some o.value))
begins_from low [] n o e = cc
begins_from low (None ∷ entries) n o e =
    let rest = begins_from (low + 16) entries n o e in
    let at = rest.1 in
    (suc rest.0, omega arith, rest.2)
begins_from {X} low (Some x ∷ entries) zero o e =
    let same : record { base = low; value = x } ≡ o = cc in
    let base : low ≡ o.base = ap (λ (p : Based X). p.base) same in
    (0, omega arith, ap (λ (p : Based X). Some (Some p.value)) same)
begins_from low (Some x ∷ entries) (suc n) o e =
    let rest = begins_from (low + 16) entries n o e in
    let at = rest.1 in
    (suc rest.0, omega arith, rest.2)

-- and what stands in the list begins at its base
pub begins_at : {X : Type 0} (entries : List (Option X)) (n : ℕ) (o : Based X) → slice_get (based entries) n ≡ Some o
    → Begins entries o.base o.value
begins_at entries n o e =
    let one = begins_from 0 entries n o e in
    let at = one.1 in
    record { grain = one.0; aligned = omega arith; is = one.2 }

-- one thing alone begins at a base
pub begins_same : {X : Type 0} (entries : List (Option X)) (base : ℕ) (x y : X) → Begins entries base x
    → Begins entries base y → x ≡ y
begins_same {X} entries base x y h k =
    let p = h.aligned in
    let q = k.aligned in
    let same : h.grain ≡ k.grain = omega arith in
    let f : ◌≡◌ {A = Option (Option X)} (Some (Some x)) (Some (Some y)) =
    sym h.is ∙ ap (slice_get entries) same ∙ k.is in
    cc

bases_from : {X : Type 0} (low : ℕ) (entries : List (Option X)) (least : ℕ) → least ≤ low
    → AllByRecursion (λ base. least ≤ base) (map (λ o. o.base) (based_from low entries))
bases_from low [] least h = tt
bases_from low (None ∷ entries) least h = bases_from (low + 16) entries least (omega arith)
bases_from low (Some x ∷ entries) least h = (h, bases_from (low + 16) entries least (omega arith))

pub ascending-based : {X : Type 0} (entries : List (Option X)) → IsAscending (map (λ o. o.base) (based entries))
ascending-based {X} entries = from 0 entries
  where
    past : (low : ℕ) (bases : List ℕ) → AllByRecursion (λ base. low + 16 ≤ base) bases
        → AllByRecursion (λ base. low < base) bases
    past low [] h = tt
    past low (b ∷ bs) h = let here = h.0 in (omega arith, past low bs h.1)

    from : (low : ℕ) (entries : List (Option X)) → IsAscending (map (λ o. o.base) (based_from low entries))
    from low [] = tt
    from low (None ∷ entries) = from (low + 16) entries
    from low (Some x ∷ entries) =
        (past low _ (bases_from (low + 16) entries (low + 16) (omega arith)), from (low + 16) entries)

ascending_distinct : (bases : List ℕ) → IsAscending bases → IsDistinct nat_eq bases
unfolding IsDistinct
ascending_distinct [] h = tt
ascending_distinct (b ∷ bs) h = (others bs h.0, ascending_distinct bs h.1)
  where
    apart : (m n : ℕ) → m < n → nat_eq m n ≡ false
    apart m n less = grind (arith, nat_tests)

    others : (bases : List ℕ) → AllByRecursion (λ next. b < next) bases
        → AllByRecursion (λ n. nat_eq b n ≡ false) bases
    others [] h = tt
    others (c ∷ cs) h = (apart b c h.0, others cs h.1)

-- each base stands once
pub keyed-based : {X : Type 0} (entries : List (Option X)) → IsKeyed (λ o. o.base) (based entries)
keyed-based entries = ascending_distinct (map (λ o. o.base) (based entries)) (ascending-based entries)

-- something that begins passes the test
pub record AnyBegins {X : Type 0} (test : Based X → Bool) (entries : List (Option X)) : Type 0 where
  pub base : ℕ
  pub value : X
  pub begins : Begins entries base value
  pub passes : test (record { base = base; value = value }) ≡ true

pub any_begins : {X : Type 0} (test : Based X → Bool) (entries : List (Option X))
    → list_any test (based entries) ≡ true → AnyBegins test entries
any_begins test entries e =
    let one = any_get test (based entries) e in
    record {
      base = one.1.base;
      value = one.1.value;
      begins = begins_at entries one.0 one.1 one.2;
      passes = one.3;
    }

pub begins_any : {X : Type 0} (test : Based X → Bool) (entries : List (Option X)) (base : ℕ) (x : X)
    → Begins entries base x → test (record { base = base; value = x }) ≡ true → list_any test (based entries) ≡ true
begins_any test entries base x h passes =
    let one = based_at entries base x h in
    any_from_get test (based entries) one.0 (record { base = base; value = x }) one.1 passes
