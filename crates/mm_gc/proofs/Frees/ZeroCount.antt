-- The entries of the zero-count table are as many as there are zero-count objects.
use Rattle.std.proofs.Common.{◌≡◌, ℕ, suc, Bool, true, false, ◌&&◌, not, cond, eqb-true, List, [], ◌∷◌, map, length}
use Rattle.std.proofs.Common.{Option, Some, None, refl, sym, ap, ◌∙◌, subst, arith}
use Rattle.std.proofs.lemmas.Bool.{eq-eqb}
use Rattle.std.proofs.lemmas.List.Sums.{sum_by-cons, length-filter}
use Rattle.std.specs.Prelude.{nat_eq, slice_get, ◌==◌, if◌then◌else◌}
use Rattle.std.specs.List.{filter, sum_by, AllByRecursion, IsDistinct}
use Rattle.std.specs.Option.{option_map}
use Rattle.mm_model.specs.Object.{is_counted}
use Rattle.mm_model.specs.Views.ByBase.{Begins, Based, based}
use Rattle.mm_model.specs.Views.ObjectView.{ObjectView, ObjectsByBase}
use Rattle.mm_model.specs.Views.SetsByBase.{count_at, is_zero_count_at, zero_count_of}
use Rattle.mm_model.proofs.Lists.Keyed.{at, IsKeyed, refuted, keyed-get, found_key}
use Rattle.mm_model.proofs.Lists.KeyedSums.{sums_alike}
use Rattle.mm_model.proofs.View.ByBase.Entries.{based_at, begins_at, begins_same, keyed-based}
use Rattle.mm_object.specs.Object.{StoredObject, view_of_stored, views_of}
use Rattle.mm_object.specs.Heap.{Heap}
use Rattle.mm_count.specs.Table.{Table, composite_of, IsRight}
use Rattle.mm_count.specs.Counts.{IsCountedBy}
use Rattle.mm_count.specs.Listed.{AllListed}
use Rattle.mm_model.proofs.Lists.Growing.{find-Some}
use Rattle.mm_model.proofs.Lists.Truth.{together, not-false}
use Rattle.mm_model.proofs.Places.Placing.{both}
use Rattle.mm_model.proofs.View.ByBase.MappedEntries.{begins_mapped, mapped_begins}
use Rattle.mm_count.proofs.Counted.{counts_of-begins}
use Rattle.mm_count.proofs.Composites.{not-true_is}

module _ {X : Type 0} (key : X → ℕ) (test : X → Bool) where
  -- what passes of what stands under a number
  abbrev passing : Option X → Option X
  passing None = None
  passing (Some x) = if test x then Some x else None

  at-none : (xs : List X) (k : ℕ) → AllByRecursion (λ n. nat_eq k n ≡ false) (map key xs)
      → at key (filter test xs) k ≡ None
  at-none [] k h = refl
  at-none (x ∷ xs) k h =
      let rest = at-none xs k h.1 in
      let other : nat_eq (key x) k ≡ false = refuted (nat_eq (key x) k)
      (λ e. clash (sym h.0 ∙ eq-eqb k (key x) (sym (eqb-true (key x) k e)))) in
      let split : (b : Bool) → at key (cond b (x ∷ filter test xs) (filter test xs)) k ≡ None =
      elim [ true ↦ ap (λ b. cond b (Some x) (at key (filter test xs) k)) other ∙ rest | false ↦ rest ] in
      split (test x)
    where
      clash : false ≡ true → ⊥
      clash e = cc

  at-filter : (xs : List X) (k : ℕ) → IsKeyed key xs → at key (filter test xs) k ≡ passing (at key xs k)
  unfolding IsDistinct
  at-filter [] k d = refl
  at-filter (x ∷ xs) k d =
      split (at-filter xs k d.1) (test x) (nat_eq (key x) k) refl refl
    where
      split : at key (filter test xs) k ≡ passing (at key xs k) → (t b : Bool) → test x ≡ t → nat_eq (key x) k ≡ b
          → at key (cond t (x ∷ filter test xs) (filter test xs)) k ≡ passing (cond b (Some x) (at key xs k))
      split rest true true p q = ap (λ b. cond b (Some x) (at key (filter test xs) k)) q
          ∙ sym (ap (λ b. if b then Some x else None) p)
      split rest true false p q = ap (λ b. cond b (Some x) (at key (filter test xs) k)) q ∙ rest
      split rest false true p q =
          at-none xs k (subst (λ n. AllByRecursion (λ m. nat_eq n m ≡ false) (map key xs)) (eqb-true (key x) k q) d.0)
          ∙ sym (ap (λ b. if b then Some x else None) p)
      split rest false false p q = rest

-- as many as there are
sum-ones : {X : Type 0} (xs : List X) → sum_by (λ x. 1) xs ≡ length xs
sum-ones [] = refl
sum-ones (x ∷ xs) =
    let first = sum_by-cons (λ y. 1) x xs in
    let rest = sum-ones xs in
    omega (arith, first, rest)

module _ {X : Type 0} (key : X → ℕ) (test : X → Bool) where
  each-filter : (P : ℕ → Type 0) (xs : List X) → AllByRecursion P (map key xs)
      → AllByRecursion P (map key (filter test xs))
  each-filter P [] h = tt
  each-filter P (x ∷ xs) h =
      let rest = each-filter P xs h.1 in
      let split : (b : Bool) → AllByRecursion P (map key (cond b (x ∷ filter test xs) (filter test xs))) =
      elim [ true ↦ (h.0, rest) | false ↦ rest ] in
      split (test x)

  keyed-filter : (xs : List X) → IsKeyed key xs → IsKeyed key (filter test xs)
  unfolding IsDistinct
  keyed-filter [] d = tt
  keyed-filter (x ∷ xs) d =
      let rest = keyed-filter xs d.1 in
      let others = each-filter (λ n. nat_eq (key x) n ≡ false) xs d.0 in
      let split : (b : Bool) → IsKeyed key (cond b (x ∷ filter test xs) (filter test xs)) =
      elim [ true ↦ (others, rest) | false ↦ rest ] in
      split (test x)

-- each counts as one
tick : ℕ
tick = 1

-- what is found under a number is one thing or the other
both_or_neither : {X Y : Type 0} (a : Option X) (b : Option Y) → ((x : X) → a ≡ Some x → (y : Y) × (b ≡ Some y))
    → ((y : Y) → b ≡ Some y → (x : X) × (a ≡ Some x))
    → option_map (λ x. tick) a ≡ option_map (λ y. tick) b
both_or_neither None None f g = refl
both_or_neither None (Some y) f g = let other = (g y refl).1 in cc
both_or_neither (Some x) None f g = let other = (f x refl).1 in cc
both_or_neither (Some x) (Some y) f g = refl

distinct_from : (xs : List ℕ) → ((p q n : ℕ) → slice_get xs p ≡ Some n → slice_get xs q ≡ Some n → p ≡ q)
    → IsKeyed (λ (n : ℕ). n) xs
unfolding IsDistinct
distinct_from [] once = tt
distinct_from (x ∷ xs) once =
    (others xs (λ p e. once 0 (suc p) x refl e), distinct_from xs (λ p q n e f. less (once (suc p) (suc q) n e f)))
  where
    less : {p q : ℕ} → suc p ≡ suc q → p ≡ q
    less e = omega arith

    others : (ys : List ℕ) → ((p : ℕ) → slice_get ys p ≡ Some x → 0 ≡ suc p)
        → AllByRecursion (λ n. nat_eq x n ≡ false) (map (λ (n : ℕ). n) ys)
    others [] f = tt
    others (y ∷ ys) f = (
      refuted (nat_eq x y) (λ e. let same = eqb-true x y e in let none = f 0 (ap (λ (n : ℕ). Some n) (sym same)) in
          omega arith),
      others ys (λ p e. let none = f (suc p) e in omega arith),
    )

same_some : {X : Type 0} {x y : X} → ◌≡◌ {A = Option X} (Some x) (Some y) → x ≡ y
same_some e = cc

module _ (table : Table) (h : Heap) (outside : ℕ → ℕ) (right : IsRight table h) (listed : AllListed h.objects)
    (counted : IsCountedBy h.objects outside) where
  objects : ObjectsByBase
  objects = views_of h.objects

  test : Based ObjectView → Bool
  test o = is_zero_count_at objects outside o.base o.value

  keyed-entries : IsKeyed (λ (n : ℕ). n) table.entries
  keyed-entries = distinct_from table.entries once
    where
      once : (p q n : ℕ) → slice_get table.entries p ≡ Some n → slice_get table.entries q ≡ Some n → p ≡ q
      once p q n e f =
          let one = right.entries p n e in
          let other = right.entries q n f in
          let same = begins_same h.objects n one.object other.object one.begins other.begins in
          sym one.stands ∙ ap (λ x. (composite_of x).place) same ∙ other.stands

  -- the test of a counted object whose count is told
  is_zero : (base : ℕ) (object : StoredObject) → Begins h.objects base object → is_counted object.kind ≡ true
      → (composite_of object).sticky ≡ false → (composite_of object).count ≡ 0
      → test (record { base = base; value = view_of_stored object }) ≡ true
  unfolding objects test
  is_zero base object begins kind exact none =
      let seen = begins_mapped view_of_stored h.objects base object begins in
      let same = counted.exact base (view_of_stored object) seen kind exact in
      let told = counts_of-begins h.objects base object begins in
      let zero : count_at (views_of h.objects) outside base ≡ 0 = sym same ∙ told ∙ none in
      together (is_counted object.kind && not (view_of_stored object).sticky)
      (count_at (views_of h.objects) outside base == 0)
      (together (is_counted object.kind) (not (view_of_stored object).sticky) kind
      (not-false (view_of_stored object).sticky exact))
      (eq-eqb (count_at (views_of h.objects) outside base) 0 zero)

  entry_is_zero : (place base : ℕ) → slice_get table.entries place ≡ Some base
      → (o : Based ObjectView) × (at (λ o. o.base) (filter test (based objects)) base ≡ Some o)
  unfolding objects test
  entry_is_zero place base e =
      let entry = right.entries place base e in
      let spelled = right.spelled base entry.object entry.begins in
      let composite = spelled.counted entry.counted in
      let none = composite.listed entry.listed in
      let exact : (composite_of entry.object).sticky ≡ false =
      refuted (composite_of entry.object).sticky (λ sticky. let most = composite.sticky sticky in omega arith) in
      let seen = begins_mapped view_of_stored h.objects base entry.object entry.begins in
      let place = based_at (views_of h.objects) base (view_of_stored entry.object) seen in
      let there = keyed-get (λ (o : Based ObjectView). o.base) (based (views_of h.objects))
      (keyed-based (views_of h.objects))
      place.0 (record { base = base; value = view_of_stored entry.object }) place.1 in
      let passes = is_zero base entry.object entry.begins entry.counted exact none in (
        record { base = base; value = view_of_stored entry.object },
        at-filter (λ (o : Based ObjectView). o.base) test (based (views_of h.objects)) base
            (keyed-based (views_of h.objects))
            ∙ ap (passing (λ (o : Based ObjectView). o.base) test) there
            ∙ ap (λ b. if b then Some (record { base = base; value = view_of_stored entry.object }) else None) passes,
      )

  passes_of : (found : Option (Based ObjectView)) (o : Based ObjectView)
      → passing (λ (o : Based ObjectView). o.base) test found ≡ Some o → (found ≡ Some o) × (test o ≡ true)
  passes_of None o e = cc
  passes_of (Some p) o e = split (test p) refl e
    where
      split : (b : Bool) → test p ≡ b → (if b then Some p else None) ≡ Some o → (Some p ≡ Some o) × (test o ≡ true)
      split true t f = (f, subst (λ q. test q ≡ true) (same_some f) t)
      split false t f = cc

  zero_is_entry : (k : ℕ) (o : Based ObjectView) → at (λ o. o.base) (filter test (based objects)) k ≡ Some o
      → (base : ℕ) × (at (λ (n : ℕ). n) table.entries k ≡ Some base)
  unfolding objects test
  zero_is_entry k o e =
      let found = passes_of (at (λ (o : Based ObjectView). o.base) (based (views_of h.objects)) k) o
      (sym (at-filter (λ (o : Based ObjectView). o.base) test (based (views_of h.objects)) k
      (keyed-based (views_of h.objects)))
      ∙ e) in
      let key = found_key (λ (o : Based ObjectView). o.base) (based (views_of h.objects)) k o found.0 in
      let place = find-Some (λ (o : Based ObjectView). nat_eq o.base k) (based (views_of h.objects)) o found.0 in
      let begins = begins_at (views_of h.objects) place.place o place.is in
      let stored = mapped_begins view_of_stored h.objects o.base o.value begins in
      let kind_and = both (is_counted o.value.kind && not o.value.sticky)
      (count_at (views_of h.objects) outside o.base == 0) found.1 in
      let kind = both (is_counted o.value.kind) (not o.value.sticky) kind_and.0 in
      let counted_kind : is_counted stored.value.kind ≡ true = ap (λ (v : ObjectView). is_counted v.kind) stored.is
      ∙ kind.0 in
      let exact : (composite_of stored.value).sticky ≡ false =
      ap (λ (v : ObjectView). v.sticky) stored.is ∙ not-true_is o.value.sticky kind.1 in
      let seen = begins_mapped view_of_stored h.objects o.base stored.value stored.begins in
      let same = counted.exact o.base (view_of_stored stored.value) seen counted_kind exact in
      let told = counts_of-begins h.objects o.base stored.value stored.begins in
      let none : (composite_of stored.value).count ≡ 0 =
      sym told ∙ same ∙ eqb-true (count_at (views_of h.objects) outside o.base) 0 kind_and.1 in
      let is = listed.listed o.base stored.value stored.begins counted_kind exact none in
      let entered = right.entered o.base stored.value stored.begins is in (
        o.base,
        subst (λ n. at (λ (n : ℕ). n) table.entries n ≡ Some o.base) key
            (keyed-get (λ (n : ℕ). n) table.entries keyed-entries (composite_of stored.value).place o.base entered),
      )

  -- what stands under a number in the table is a zero-count object
  listed-zero : (k base : ℕ) → at (λ (n : ℕ). n) table.entries k ≡ Some base
      → (o : Based ObjectView) × (at (λ o. o.base) (filter test (based objects)) k ≡ Some o)
  listed-zero k base e =
      let found = find-Some (λ (n : ℕ). nat_eq n k) table.entries base e in
      let key = found_key (λ (n : ℕ). n) table.entries k base e in
      subst (λ n. (o : Based ObjectView) × (at (λ o. o.base) (filter test (based objects)) n ≡ Some o)) key
      (entry_is_zero found.place base found.is)

  -- the table has as many entries as there are zero-count objects
  pub entries_are_zero_count : length table.entries ≡ zero_count_of (views_of h.objects) outside
  unfolding objects test tick IsDistinct
  entries_are_zero_count =
      let xs = filter test (based (views_of h.objects)) in
      let base : Based ObjectView → ℕ = λ o. o.base in
      sym (sum-ones table.entries)
      ∙ sums_alike (λ (n : ℕ). n) base (λ n. tick) (λ o. tick) table.entries xs keyed-entries
      (keyed-filter base test (based (views_of h.objects)) (keyed-based (views_of h.objects)))
      (λ k. both_or_neither (at (λ (n : ℕ). n) table.entries k) (at base xs k) (listed-zero k) (zero_is_entry k))
      (λ n. n)
      ∙ sum-ones xs ∙ length-filter test (based (views_of h.objects))
