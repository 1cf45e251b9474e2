-- The words of all counted places, place by place, and how their counts change where one object or area does.
use Rattle.std.proofs.Common.{◌≡◌, ℕ, zero, suc, ◌+◌, ◌<◌, ◌≤◌, Bool, true, false, not, cond, eqb-true, List, [], ◌∷◌}
use Rattle.std.proofs.Common.{length, take, get_or, Some, refl, sym, ap, ◌∙◌, subst, arith}
use Rattle.std.proofs.lemmas.Bool.Decides.{nat_tests}
use Rattle.std.proofs.lemmas.List.{take-set-le}
use Rattle.std.proofs.lemmas.List.Sums.{sum_by-cons, sum_by-append, sum_by-set}
use Rattle.std.proofs.lemmas.Option.{slice_get_within, slice_get-get_or, slice_get-map, get_or_from_slice_get}
use Rattle.std.specs.Prelude.{slice_get, slice_set, slice_index, nat_lt, ◌&&◌, ◌==◌, if◌then◌else◌}
use Rattle.std.specs.List.{AllByRecursion, filter, flat_map, sum_by, count_by}
use Rattle.std.specs.Option.{option_map}
use Rattle.mm_model.specs.Value.{Value, integer, words_of}
use Rattle.mm_model.specs.Object.{Object, is_live, live_objects}
use Rattle.mm_model.specs.State.{State, Area, Lives}
use Rattle.mm_model.specs.Words.{SlotKind, CountedSlot, WordSlot, slot_kind_at, if_scanned, counted_slots}
use Rattle.mm_model.specs.Words.{counted_cells, counted_cell_words, counted_words}
use Rattle.mm_model.specs.Count.{refs}
use Rattle.mm_model.specs.Store.{is_counted_slot}
use Rattle.mm_model.proofs.Lists.KeyedSums.{count-flat_map}
use Rattle.mm_model.proofs.Good.Living.{each_before, each_after, each_append}

-- what stands in a filtered list stands in the whole one and passes, and the other way round
pub get-filter : {X : Type 0} (test : X → Bool) (xs : List X) (k : ℕ) (x : X) → slice_get (filter test xs) k ≡ Some x
    → (i : ℕ) × (slice_get xs i ≡ Some x) × (test x ≡ true)
get-filter test [] k x e = cc
get-filter {X} test (y ∷ ys) k x e =
    split (λ m f. let rest = get-filter test ys m x f in (suc rest.0, rest.1, rest.2)) (test y) refl k e
  where
    split : ((m : ℕ) → slice_get (filter test ys) m ≡ Some x
        → (i : ℕ) × (slice_get (y ∷ ys) i ≡ Some x) × (test x ≡ true)) → (b : Bool) → test y ≡ b → (k : ℕ)
        → slice_get (cond b (y ∷ filter test ys) (filter test ys)) k ≡ Some x
        → (i : ℕ) × (slice_get (y ∷ ys) i ≡ Some x) × (test x ≡ true)
    split later true p zero e = let same : y ≡ x = cc in (0, e, subst (λ z. test z ≡ true) same p)
    split later true p (suc k) e = later k e
    split later false p k e = later k e

pub filter-get : {X : Type 0} (test : X → Bool) (xs : List X) (i : ℕ) (x : X) → slice_get xs i ≡ Some x
    → test x ≡ true → (k : ℕ) × (slice_get (filter test xs) k ≡ Some x)
filter-get test [] i x e t = cc
filter-get {X} test (y ∷ ys) zero x e t =
    let same : x ≡ y = cc in
    (0, ap (λ b. slice_get (cond b (y ∷ filter test ys) (filter test ys)) 0) (subst (λ z. test z ≡ true) same t) ∙ e)
filter-get {X} test (y ∷ ys) (suc i) x e t =
    let rest = filter-get test ys i x e t in
    let split : (b : Bool) → (k : ℕ) × (slice_get (cond b (y ∷ filter test ys) (filter test ys)) k ≡ Some x) =
    elim [ true ↦ (suc rest.0, rest.1) | false ↦ rest ] in
    split (test y)

-- what holds of each word of joined lists holds of each word of each, and the other way round
pub each_flat_get : {X : Type 0} (P : ℕ → Type 0) (f : X → List ℕ) (xs : List X) (i : ℕ) (x : X)
    → AllByRecursion P (flat_map f xs) → slice_get xs i ≡ Some x → AllByRecursion P (f x)
each_flat_get P f [] i x h e = cc
each_flat_get P f (y ∷ ys) zero x h e =
    let same : y ≡ x = cc in subst (λ z. AllByRecursion P (f z)) same (each_before P (f y) (flat_map f ys) h)
each_flat_get P f (y ∷ ys) (suc i) x h e = each_flat_get P f ys i x (each_after P (f y) (flat_map f ys) h) e

pub each_flat_from_get : {X : Type 0} (P : ℕ → Type 0) (f : X → List ℕ) (xs : List X)
    → ((i : ℕ) (x : X) → slice_get xs i ≡ Some x → AllByRecursion P (f x)) → AllByRecursion P (flat_map f xs)
each_flat_from_get P f [] h = tt
each_flat_from_get P f (x ∷ xs) h =
    each_append P (f x) (flat_map f xs) (h 0 x refl) (each_flat_from_get P f xs (λ i. h (suc i)))

module _ (P : ℕ → Type 0) (a : State) where
  pub each_counted_slot : AllByRecursion P (counted_words a) → (birth : ℕ) (object : Object) → Lives a birth object
      → AllByRecursion P (counted_slots object)
  each_counted_slot h birth object lives =
      let at = filter-get is_live a.objects birth object lives.is lives.live in
      each_flat_get P counted_slots (live_objects a.objects) at.0 object
      (each_before P (flat_map counted_slots (live_objects a.objects)) (counted_cell_words a) h) at.1

  pub each_counted_cell : AllByRecursion P (counted_words a) → (n : ℕ) (area : Area) → slice_get a.areas n ≡ Some area
      → AllByRecursion P (counted_cells area)
  each_counted_cell h n area is =
      each_flat_get P counted_cells a.areas n area
      (each_after P (flat_map counted_slots (live_objects a.objects)) (counted_cell_words a) h) is

  pub each_counted_word : ((birth : ℕ) (object : Object) → Lives a birth object
      → AllByRecursion P (counted_slots object))
      → ((n : ℕ) (area : Area) → slice_get a.areas n ≡ Some area → AllByRecursion P (counted_cells area))
      → AllByRecursion P (counted_words a)
  each_counted_word slots cells =
      each_append P (flat_map counted_slots (live_objects a.objects)) (counted_cell_words a)
      (each_flat_from_get P counted_slots (live_objects a.objects)
      (λ k object e.
      let from = get-filter is_live a.objects k object e in
      slots from.0 object (record { is = from.1; live = from.2 })))
      (each_flat_from_get P counted_cells a.areas cells)

-- how many of the words are the base
abbrev pub count_in : ℕ → List ℕ → ℕ
count_in base words = count_by (λ word. word == base) words

-- what the word of one place adds to the count of a base
abbrev pub adds : SlotKind → ℕ → ℕ → ℕ
adds kind base word = if is_counted_slot kind then (if word == base then 1 else 0) else 0

pub adds-other : (kind : SlotKind) (base word : ℕ) → (base ≡ word → ⊥) → adds kind base word ≡ 0
adds-other kind base word other = split (is_counted_slot kind) (word == base) refl
  where
    split : (counted same : Bool) → (word == base) ≡ same
        → ◌≡◌ {A = ℕ} (if counted then (if same then 1 else 0) else 0) 0
    split true true e = absurd (other (sym (eqb-true _ _ e)))
    split true false e = refl
    split false same e = refl

-- a place that isn't counted, or that keeps its word, changes no count
pub adds-same : (kind : SlotKind) (base old new : ℕ) → (is_counted_slot kind && not (old == new)) ≡ false
    → adds kind base old ≡ adds kind base new
adds-same kind base old new e = split (is_counted_slot kind) (old == new) refl e
  where
    split : (counted same : Bool) → (old == new) ≡ same → (counted && not same) ≡ false
        → ◌≡◌ {A = ℕ} (if counted then (if old == base then 1 else 0) else 0)
        (if counted then (if new == base then 1 else 0) else 0)
    split true true p q =
        let is : old ≡ new = eqb-true _ _ p in ap (λ (word : ℕ). if word == base then 1 else 0) is
    split true false p q = cc
    split false same p q = refl

-- a counted place is scanned and stands before the others
pub counted_place : (scanned : Bool) (counted s : ℕ) → is_counted_slot (slot_kind_at scanned counted s) ≡ true
    → (scanned ≡ true) × (s < counted)
counted_place false counted s e = cc
counted_place true counted s e = (refl, split (nat_lt s counted) refl e)
  where
    split : (b : Bool) → nat_lt s counted ≡ b → is_counted_slot (if b then CountedSlot else WordSlot) ≡ true
        → s < counted
    split true p q = grind (arith, nat_tests)
    split false p q = cc

-- another one is not, or stands behind them
pub uncounted_place : (scanned : Bool) (counted s : ℕ) (values : List Value) (value : Value)
    → is_counted_slot (slot_kind_at scanned counted s) ≡ false
    → if_scanned scanned (take counted (slice_set values s value)) ≡ if_scanned scanned (take counted values)
uncounted_place false counted s values value e = refl
uncounted_place true counted s values value e = split (nat_lt s counted) refl e
  where
    split : (b : Bool) → nat_lt s counted ≡ b → is_counted_slot (if b then CountedSlot else WordSlot) ≡ false
        → words_of (take counted (slice_set values s value)) ≡ words_of (take counted values)
    split true p q = cc
    split false p q =
        let past : counted ≤ s = grind (arith, nat_tests) in
        ap words_of (take-set-le counted values s value past)

-- the value that stands at a place, with its word
pub old_value : (values : List Value) (s : ℕ) → s < length values
    → (old : Value) × (slice_get values s ≡ Some old) × (old.word ≡ slice_index (words_of values) s)
old_value values s less =
    let old = get_or values s (integer 0) in
    let is = slice_get-get_or values s (integer 0) less in (
      old,
      is,
      sym (get_or_from_slice_get (words_of values) s old.word 0
          (slice_get-map (λ (v : Value). v.word) values s ∙ ap (option_map (λ (v : Value). v.word)) is)),
    )

pub sum-set : {X : Type 0} (f : X → ℕ) (xs : List X) (i : ℕ) (x y : X) → slice_get xs i ≡ Some x
    → sum_by f (slice_set xs i y) + f x ≡ sum_by f xs + f y
sum-set f xs i x y e =
    ap (λ z. sum_by f (slice_set xs i y) + f z) (sym (get_or_from_slice_get xs i x x e))
    ∙ sum_by-set f xs i y x (slice_get_within xs i x e)

sum_words-take_set : (f : ℕ → ℕ) (count : ℕ) (values : List Value) (s : ℕ) (old new : Value)
    → slice_get values s ≡ Some old → s < count
    → sum_by f (words_of (take count (slice_set values s new))) + f old.word
    ≡ sum_by f (words_of (take count values)) + f new.word
sum_words-take_set f zero values s old new e less = absurd (omega arith)
sum_words-take_set f (suc count) [] s old new e less = cc
sum_words-take_set f (suc count) (v ∷ vs) zero old new e less =
    let same : v ≡ old = cc in
    let own : f v.word ≡ f old.word = ap (λ (w : Value). f w.word) same in
    let before = sum_by-cons f v.word (words_of (take count vs)) in
    let after = sum_by-cons f new.word (words_of (take count vs)) in
    omega (arith, own, before, after)
sum_words-take_set f (suc count) (v ∷ vs) (suc s) old new e less =
    let rest = sum_words-take_set f count vs s old new e (omega arith) in
    let before = sum_by-cons f v.word (words_of (take count vs)) in
    let after = sum_by-cons f v.word (words_of (take count (slice_set vs s new))) in
    omega (arith, rest, before, after)

-- the count of a base among the counted places of one object or area, where one of its values changes
pub count_in-set : (base : ℕ) (scanned : Bool) (counted s : ℕ) (values : List Value) (old new : Value)
    → slice_get values s ≡ Some old
    → count_in base (if_scanned scanned (take counted (slice_set values s new)))
    + adds (slot_kind_at scanned counted s) base old.word
    ≡ count_in base (if_scanned scanned (take counted values)) + adds (slot_kind_at scanned counted s) base new.word
count_in-set base scanned counted s values old new e = split (is_counted_slot (slot_kind_at scanned counted s)) refl
  where
    split : (b : Bool) → is_counted_slot (slot_kind_at scanned counted s) ≡ b
        → count_in base (if_scanned scanned (take counted (slice_set values s new)))
        + (if b then (if old.word == base then 1 else 0) else 0)
        ≡ count_in base (if_scanned scanned (take counted values))
        + (if b then (if new.word == base then 1 else 0) else 0)
    split true p =
        let place = counted_place scanned counted s p in
        subst (λ (b : Bool). count_in base (if_scanned b (take counted (slice_set values s new)))
        + (if old.word == base then 1 else 0)
        ≡ count_in base (if_scanned b (take counted values)) + (if new.word == base then 1 else 0)) (sym place.0)
        (sum_words-take_set (λ word. if word == base then 1 else 0) counted values s old new e place.1)
    split false p = ap (λ ws. count_in base ws + 0) (uncounted_place scanned counted s values new p)

-- what holds of each counted word of one object or area still holds where the new value has it
pub each_counted-set : (P : ℕ → Type 0) (scanned : Bool) (counted s : ℕ) (values : List Value) (new : Value)
    → AllByRecursion P (if_scanned scanned (take counted values))
    → (is_counted_slot (slot_kind_at scanned counted s) ≡ true → P new.word)
    → AllByRecursion P (if_scanned scanned (take counted (slice_set values s new)))
each_counted-set P scanned counted s values new h own =
    split (is_counted_slot (slot_kind_at scanned counted s)) refl
  where
    front : (count : ℕ) (vs : List Value) (s : ℕ) → AllByRecursion P (words_of (take count vs)) → P new.word
        → AllByRecursion P (words_of (take count (slice_set vs s new)))
    front zero vs s h p = tt
    front (suc count) [] s h p = tt
    front (suc count) (v ∷ vs) zero h p = (p, h.1)
    front (suc count) (v ∷ vs) (suc s) h p = (h.0, front count vs s h.1 p)

    by_scanned : (b : Bool) → AllByRecursion P (if_scanned b (take counted values)) → P new.word
        → AllByRecursion P (if_scanned b (take counted (slice_set values s new)))
    by_scanned true h p = front counted values s h p
    by_scanned false h p = tt

    split : (b : Bool) → is_counted_slot (slot_kind_at scanned counted s) ≡ b
        → AllByRecursion P (if_scanned scanned (take counted (slice_set values s new)))
    split true p = by_scanned scanned h (own p)
    split false p = subst (AllByRecursion P) (sym (uncounted_place scanned counted s values new p)) h

-- what an object has among the counted words
abbrev object_count : ℕ → Object → ℕ
object_count base object = if is_live object then count_in base (counted_slots object) else 0

abbrev area_count : ℕ → Area → ℕ
area_count base area = count_in base (counted_cells area)

sum-live : (f : Object → ℕ) (objects : List Object)
    → sum_by f (live_objects objects) ≡ sum_by (λ o. if is_live o then f o else 0) objects
sum-live f [] = refl
sum-live f (o ∷ os) =
    let rest = sum-live f os in
    let split : (b : Bool) → sum_by f (cond b (o ∷ live_objects os) (live_objects os))
    ≡ (if b then f o else 0) + sum_by (λ o. if is_live o then f o else 0) os =
    elim [
      | true ↦ let own = sum_by-cons f o (live_objects os) in omega (arith, own, rest)
      | false ↦ omega (arith, rest)
    ] in
    split (is_live o) ∙ sym (sum_by-cons (λ o. if is_live o then f o else 0) o os)

-- a count over all counted words is a sum over objects and one over areas
pub refs-sum : (a : State) (base : ℕ)
    → refs a base ≡ sum_by (object_count base) a.objects + sum_by (λ area. count_in base (counted_cells area)) a.areas
refs-sum a base =
    let test : ℕ → Bool = λ word. word == base in
    sum_by-append (λ word. cond (test word) 1 0) (flat_map counted_slots (live_objects a.objects))
    (counted_cell_words a)
    ∙ ap (λ n. n + count_by test (counted_cell_words a))
    (count-flat_map test counted_slots (live_objects a.objects)
    ∙ sum-live (λ o. count_in base (counted_slots o)) a.objects)
    ∙ ap (λ n. sum_by (object_count base) a.objects + n) (count-flat_map test counted_cells a.areas)

-- one object alone changes
pub refs-set_object : (a b : State) (birth : ℕ) (x y : Object) → Lives a birth x → is_live y ≡ true
    → b.objects ≡ slice_set a.objects birth y → b.areas ≡ a.areas → (base : ℕ)
    → refs b base + count_in base (counted_slots x) ≡ refs a base + count_in base (counted_slots y)
refs-set_object a b birth x y lives live objects areas base =
    let before = refs-sum a base in
    let after = refs-sum b base in
    let change = sum-set (object_count base) a.objects birth x y lives.is in
    let some = ap (sum_by (object_count base)) objects in
    let same = ap (sum_by (λ area. count_in base (counted_cells area))) areas in
    let own_x = ap (λ b. if b then count_in base (counted_slots x) else 0) lives.live in
    let own_y = ap (λ b. if b then count_in base (counted_slots y) else 0) live in
    omega (arith, before, after, change, some, same, own_x, own_y)

-- one area alone changes
pub refs-set_area : (a b : State) (n : ℕ) (x y : Area) → slice_get a.areas n ≡ Some x → b.objects ≡ a.objects
    → b.areas ≡ slice_set a.areas n y → (base : ℕ)
    → refs b base + count_in base (counted_cells x) ≡ refs a base + count_in base (counted_cells y)
refs-set_area a b n x y is objects areas base =
    let before = refs-sum a base in
    let after = refs-sum b base in
    let change = sum-set (λ area. count_in base (counted_cells area)) a.areas n x y is in
    let same = ap (sum_by (object_count base)) objects in
    let some = ap (sum_by (λ area. count_in base (counted_cells area))) areas in
    omega (arith, before, after, change, some, same)
