-- The right counts of objects, once a slot is written.
use Rattle.std.proofs.Common.{◌≡◌, ◌≢◌, ℕ, zero, suc, ◌+◌, ◌-◌, ◌*◌, ◌/◌, ◌%◌, ◌<◌, ◌≤◌, Bool, true, false, ◌&&◌, ◌||◌}
use Rattle.std.proofs.Common.{◌==◌, if◌then◌else◌, eqb-true, [], ◌∷◌, length, Option, Some, None, refl, sym, ap, ◌∙◌}
use Rattle.std.proofs.Common.{⊎_elim, arith}
use Rattle.std.specs.Option.{option_map, option_and_then}
use Rattle.std.specs.Prelude.{IsTrue, nat_lt, nat_le, slice_get}
use Rattle.std.proofs.Math.ListN.{get_or}
use Rattle.std.proofs.lemmas.Bool.{cases_eq, cases_lt, eq-eqb, ne_eqb}
use Rattle.std.proofs.lemmas.Bool.Decides.{nat_tests}
use Rattle.std.proofs.lemmas.Option.{slice_get-get_or}
use Rattle.mm_model.specs.Object.{is_counted, is_scanned}
use Rattle.mm_model.specs.Views.ByBase.{Begins, with_entry, changed}
use Rattle.mm_model.specs.Views.ObjectView.{ObjectView, ObjectsByBase}
use Rattle.mm_model.specs.Views.SetsByBase.{count_at}
use Rattle.mm_model.specs.declared.object.Kind.{Kind}
use Rattle.mm_model.proofs.Lists.Replaced.{get-set_same, get-set_other}
use Rattle.mm_model.proofs.View.ByBase.ChangedEntries.{changed-one, changed-none}
use Rattle.mm_model.proofs.View.ByBase.Entries.{get-changed, same_entries}
use Rattle.mm_model.proofs.View.ByBase.ReplacedEntries.{begins_get}
use Rattle.mm_audit.specs.Counts.{CountsByBase, one_more, one_less, count_of, counts_from, counts_of, recounted_at}
use Rattle.mm_audit.specs.Counts.{moved, one_if, with_word}
use Rattle.mm_audit.specs.declared.count.Count.{Count}
use Rattle.mm_audit.specs.declared.count.Count.TheVariants.{Exact, Sticky}
use Rattle.mm_audit.proofs.References.{held_by, references-changed, references-replaced, written-counts}

-- the count of what an entry tells
abbrev pub count_told : ObjectsByBase → (ℕ → ℕ) → ℕ → Option (Option ObjectView) → Option (Option Count)
count_told all outside k told = option_map (option_and_then (count_of all outside (16 * k))) told

pub get-counts : (objects : ObjectsByBase) (outside : ℕ → ℕ) (k : ℕ)
    → slice_get (counts_of objects outside) k ≡ count_told objects outside k (slice_get objects k)
get-counts all outside k =
    from 0 all k ∙ ap (λ n. option_map (option_and_then (count_of all outside n)) (slice_get all k)) (omega arith)
  where
    from : (low : ℕ) (objects : ObjectsByBase) (k : ℕ)
        → slice_get (counts_from all outside low objects) k
        ≡ option_map (option_and_then (count_of all outside (low + 16 * k))) (slice_get objects k)
    from low [] k = refl
    from low (None ∷ objects) zero = refl
    from low (None ∷ objects) (suc k) =
        let next : low + 16 + 16 * k ≡ low + 16 * suc k = omega arith in
        from (low + 16) objects k
        ∙ ap (λ n. option_map (option_and_then (count_of all outside n)) (slice_get objects k)) next
    from low (Some object ∷ objects) zero =
        let here : low ≡ low + 16 * 0 = omega arith in
        ap (λ (n : ℕ). Some (count_of all outside n object)) here
    from low (Some object ∷ objects) (suc k) =
        let next : low + 16 + 16 * k ≡ low + 16 * suc k = omega arith in
        from (low + 16) objects k
        ∙ ap (λ n. option_map (option_and_then (count_of all outside n)) (slice_get objects k)) next

pub length-counts : (objects : ObjectsByBase) (outside : ℕ → ℕ) → length (counts_of objects outside) ≡ length objects
length-counts all outside = from 0 all
  where
    from : (low : ℕ) (objects : ObjectsByBase) → length (counts_from all outside low objects) ≡ length objects
    from low [] = refl
    from low (None ∷ objects) = ap suc (from (low + 16) objects)
    from low (Some object ∷ objects) = ap suc (from (low + 16) objects)

-- A change that keeps of each object whether it is counted and sticky, and which bases its counted slots hold.
pub record KeepsCounts (f : ℕ → ObjectView → Option ObjectView) : Type 0 where
  pub told : (all : ObjectsByBase) (outside : ℕ → ℕ) (base : ℕ) (object : ObjectView)
      → option_and_then (count_of all outside base) (f base object) ≡ count_of all outside base object
  pub held : (held base : ℕ) (object : ObjectView) → held_by held (f base object) ≡ held_by held (Some object)

-- what an object's count is, where so many places hold its base
abbrev pub count_as : Bool → Bool → ℕ → Option Count
count_as counted sticky places = if counted then Some (if sticky then Sticky else Exact places) else None

pub counts-changed : (f : ℕ → ObjectView → Option ObjectView) → KeepsCounts f → (objects : ObjectsByBase)
    (outside : ℕ → ℕ) → counts_of (changed f objects) outside ≡ counts_of objects outside
counts-changed f keeps objects outside =
    same_entries (counts_of (changed f objects) outside) (counts_of objects outside)
    (λ k. get-counts (changed f objects) outside k
    ∙ ap (count_told (changed f objects) outside k) (get-changed f objects k)
    ∙ told k (slice_get objects k) ∙ sym (get-counts objects outside k))
  where
    told : (k : ℕ) (e : Option (Option ObjectView))
        → count_told (changed f objects) outside k (option_map (option_and_then (f (16 * k))) e)
        ≡ count_told objects outside k e
    told k None = refl
    told k (Some None) = refl
    told k (Some (Some object)) =
        ap (λ (count : Option Count). Some count)
        (keeps.told (changed f objects) outside (16 * k) object
        ∙ ap (λ n. count_as (is_counted object.kind) object.sticky (n + outside (16 * k)))
        (references-changed (16 * k) f (keeps.held (16 * k)) objects))

-- what moving a count leaves of one
abbrev pub moved_at : ℕ → ℕ → ℕ → Option Count → Option Count
moved_at old new base entry =
    option_and_then (λ count. Some (if base == new then one_more count else count))
    (option_and_then (λ count. Some (if base == old then one_less count else count)) entry)

pub get-moved : (old new : ℕ) (counts : CountsByBase) (k : ℕ)
    → slice_get (moved old new counts) k ≡ option_map (moved_at old new (16 * k)) (slice_get counts k)
get-moved old new counts k =
    get-changed (λ b count. Some (if b == new then one_more count else count)) (recounted_at one_less old counts) k
    ∙ ap (option_map (option_and_then (λ count. Some (if 16 * k == new then one_more count else count))))
    (get-changed (λ b count. Some (if b == old then one_less count else count)) counts k)
    ∙ told (slice_get counts k)
  where
    told : (e : Option (Option Count))
        → option_map (option_and_then (λ count. Some (if 16 * k == new then one_more count else count)))
        (option_map (option_and_then (λ count. Some (if 16 * k == old then one_less count else count))) e)
        ≡ option_map (moved_at old new (16 * k)) e
    told None = refl
    told (Some entry) = refl

-- what a call leaves that changes the count at a base, if there is one
pub recounted-told : (change : Count → Count) (base : ℕ) (before after : CountsByBase) → base % 16 ≡ 0
    → base < 16 * length before
    → ((count : Count) → Begins before base count → after ≡ with_entry base (Some (change count)) before)
    → (slice_get before (base / 16) ≡ Some None → after ≡ before) → after ≡ recounted_at change base before
recounted-told change base before after aligned inside there none =
    split (get_or before (base / 16) None) (slice_get-get_or before (base / 16) None (omega arith))
  where
    f : ℕ → Count → Option Count
    f b count = Some (if b == base then change count else count)

    kept : (b : ℕ) (count : Count) → b ≢ base → f b count ≡ Some count
    kept b count other = ap (λ here. Some (if here then change count else count)) (ne_eqb b base other)

    split : (told : Option Count) → slice_get before (base / 16) ≡ Some told → after ≡ changed f before
    split None is =
        none is
        ∙ sym
        (changed-none f before
        (λ b count begins. kept b count (λ same. unlike count (sym is ∙ here b count begins same))))
      where
        unlike : (count : Count) → ◌≡◌ {A = Option (Option Count)} (Some None) (Some (Some count)) → ⊥
        unlike count e = cc

        here : (b : ℕ) (count : Count) → Begins before b count → b ≡ base
            → slice_get before (base / 16) ≡ Some (Some count)
        here b count begins same =
            ap (λ n. slice_get before (n / 16)) (sym same) ∙ begins_get before b count begins
    split (Some count) is =
        let begins : Begins before base count = record { grain = base / 16; aligned = omega arith; is = is } in
        there count begins
        ∙ ap (λ (entry : Option Count). with_entry base entry before)
        (sym (ap (λ here. Some (if here then change count else count)) (eq-eqb base base refl)))
        ∙ sym (changed-one f before base count begins (λ b other differ more. kept b other differ))

flip : (m n : ℕ) → (m == n) ≡ (n == m)
flip m n =
    ⊎_elim (λ (e : m ≡ n). eq-eqb m n e ∙ sym (eq-eqb n m (sym e)))
    (λ (ne : m ≢ n). ne_eqb m n ne ∙ sym (ne_eqb n m (λ e. ne (sym e)))) (cases_eq m n)

sticky-stays : (less more : Bool)
    → Sticky ≡ (if more then one_more (if less then one_less Sticky else Sticky)
    else (if less then one_less Sticky else Sticky))
sticky-stays true true = refl
sticky-stays true false = refl
sticky-stays false true = refl
sticky-stays false false = refl

-- one more place holds it
raised : (n after : ℕ) → after ≡ n + 1 → n ≤ 254
    → (if nat_le 255 after then Sticky else Exact after) ≡ one_more (Exact n)
raised n after is few =
    ⊎_elim
    (λ (less : n < 254).
    ap (λ b. if b then Sticky else Exact after) (short after (omega arith)) ∙ ap (λ m. Exact m) is
    ∙ sym (ap (λ b. if b then Exact (n + 1) else Sticky) (below n less)))
    (λ (most : 254 ≤ n).
    ap (λ b. if b then Sticky else Exact after) (reached after (omega arith))
    ∙ sym (ap (λ b. if b then Exact (n + 1) else Sticky) (full n most)))
    (cases_lt n 254)
  where
    short : (m : ℕ) → m < 255 → nat_le 255 m ≡ false
    short m h = grind (arith, nat_tests)

    reached : (m : ℕ) → 255 ≤ m → nat_le 255 m ≡ true
    reached m h = grind (arith, nat_tests)

    below : (m : ℕ) → m < 254 → nat_lt m 254 ≡ true
    below m h = grind (arith, nat_tests)

    full : (m : ℕ) → 254 ≤ m → nat_lt m 254 ≡ false
    full m h = grind (arith, nat_tests)

-- an object of which so many are known
abbrev AreFew : Bool → Bool → ℕ → Type 0
AreFew counted sticky n = counted ≡ true → sticky ≡ false → n ≤ 254

-- a place holds another word than before
moved-other : (counted sticky : Bool) (base old new n after : ℕ) → (old ≡ new → ⊥)
    → after + one_if (old == base) ≡ n + one_if (new == base) → AreFew counted sticky n
    → count_as counted (sticky || (counted && base == new && nat_le 255 after)) after
    ≡ moved_at old new base (count_as counted sticky n)
moved-other false sticky base old new n after other sum few = refl
moved-other true true base old new n after other sum few =
    ap (λ (c : Count). Some c) (sticky-stays (base == old) (base == new))
moved-other true false base old new n after other sum few =
    split (base == old) refl (base == new) refl
    (ap (λ b. after + one_if b) (flip base old) ∙ sum ∙ ap (λ b. n + one_if b) (flip new base))
  where
    split : (less : Bool) → (base == old) ≡ less → (more : Bool) → (base == new) ≡ more
        → after + one_if (base == old) ≡ n + one_if (base == new)
        → Some (if more && nat_le 255 after then Sticky else Exact after)
        ≡ Some (if more then one_more (if less then one_less (Exact n) else Exact n)
        else (if less then one_less (Exact n) else Exact n))
    split true e true f sum = absurd (other (sym (eqb-true _ _ e) ∙ eqb-true _ _ f))
    split true e false f sum =
        let one = ap one_if e in
        let none = ap one_if f in
        let is : after ≡ n - 1 = omega arith in
        ap (λ m. Some (Exact m)) is
    split false e true f sum =
        let none = ap one_if e in
        let one = ap one_if f in
        ap (λ (c : Count). Some c) (raised n after (omega arith) (few refl refl))
    split false e false f sum =
        let none = ap one_if e in
        let no_more = ap one_if f in
        let is : after ≡ n = omega arith in
        ap (λ m. Some (Exact m)) is

-- it holds the same word
moved-same : (counted sticky : Bool) (base word n after : ℕ) → after ≡ n → AreFew counted sticky n
    → (base ≡ word → 1 ≤ n)
    → count_as counted sticky after ≡ moved_at word word base (count_as counted sticky n)
moved-same false sticky base word n after same few held = refl
moved-same true true base word n after same few held =
    ap (λ (c : Count). Some c) (sticky-stays (base == word) (base == word))
moved-same true false base word n after same few held = split (base == word) refl
  where
    below : (m : ℕ) → m < 254 → nat_lt m 254 ≡ true
    below m h = grind (arith, nat_tests)

    split : (here : Bool) → (base == word) ≡ here
        → Some (Exact after)
        ≡ Some (if here then one_more (if here then one_less (Exact n) else Exact n)
        else (if here then one_less (Exact n) else Exact n))
    split true e =
        let some = held (eqb-true _ _ e) in
        let most = few refl refl in
        let is : after ≡ n - 1 + 1 = omega arith in
        ap (λ m. Some (Exact m)) is
        ∙ ap (λ (c : Count). Some c)
        (sym (ap (λ b. if b then Exact (n - 1 + 1) else Sticky) (below (n - 1) (omega arith))))
    split false e = ap (λ m. Some (Exact m)) same

-- each counted object that isn't sticky has a count that is known
abbrev pub AreKnown : ObjectsByBase → (ℕ → ℕ) → Type 0
AreKnown objects outside =
    (base : ℕ) (object : ObjectView) → Begins objects base object → IsTrue (is_counted object.kind)
    → object.sticky ≡ false → count_at objects outside base ≤ 254

-- a counted slot of an object, and the word that it holds
pub record HoldsIn (objects : ObjectsByBase) (by : ℕ) (holder : ObjectView) (slot old : ℕ) : Type 0 where
  pub begins : Begins objects by holder
  pub scanned : IsTrue (is_scanned holder.kind)
  pub counted : slot < holder.counted
  pub is : slice_get holder.words slot ≡ Some old

-- one object has other words
module _ (objects : ObjectsByBase) (by : ℕ) (holder : ObjectView) (slot word : ℕ)
    (begins : Begins objects by holder) where
  abbrev pub written : ObjectsByBase
  written = with_entry by (Some (with_word slot word holder)) objects

  -- what of each object kind and mark tell
  written-told : (f : Kind → Bool → Option Count) (k : ℕ)
      → option_map (option_and_then (λ (o : ObjectView). f o.kind o.sticky)) (slice_get written k)
      ≡ option_map (option_and_then (λ (o : ObjectView). f o.kind o.sticky)) (slice_get objects k)
  written-told f k = ⊎_elim here there (cases_eq k (by / 16))
    where
      tells : Option (Option ObjectView) → Option (Option Count)
      tells = option_map (option_and_then (λ (o : ObjectView). f o.kind o.sticky))

      here : k ≡ by / 16 → tells (slice_get written k) ≡ tells (slice_get objects k)
      here e =
          let was = begins_get objects by holder begins in
          ap (λ n. tells (slice_get written n)) e
          ∙ ap tells (get-set_same objects (by / 16) (Some holder) (Some (with_word slot word holder)) was)
          ∙ sym (ap tells was) ∙ ap (λ n. tells (slice_get objects n)) (sym e)

      there : k ≢ by / 16 → tells (slice_get written k) ≡ tells (slice_get objects k)
      there other = ap tells (get-set_other objects (by / 16) k (Some (with_word slot word holder)) other)

  -- where they hold each base as often, no count changes
  pub counts-kept : (outside : ℕ → ℕ)
      → ((base : ℕ) → held_by base (Some (with_word slot word holder)) ≡ held_by base (Some holder))
      → counts_of written outside ≡ counts_of objects outside
  counts-kept outside same =
      same_entries (counts_of written outside) (counts_of objects outside)
      (λ k. get-counts written outside k
      ∙ written-told (λ kind sticky. count_as (is_counted kind) sticky (count_at written outside (16 * k))) k
      ∙ ap (λ n. option_map
      (option_and_then (λ (o : ObjectView). count_as (is_counted o.kind) o.sticky (n + outside (16 * k))))
      (slice_get objects k))
      (references-replaced (16 * k) objects by holder (with_word slot word holder) begins (same (16 * k)))
      ∙ sym (get-counts objects outside k))

module _ (objects : ObjectsByBase) (outside : ℕ → ℕ) (known : AreKnown objects outside) (by : ℕ) (holder : ObjectView)
    (slot word old : ℕ) (holds : HoldsIn objects by holder slot old) where
  abbrev after : ObjectsByBase
  after = written objects by holder slot word holds.begins

  few : (k : ℕ) (object : ObjectView) → slice_get objects k ≡ Some (Some object)
      → AreFew (is_counted object.kind) object.sticky (count_at objects outside (16 * k))
  few k object is counted plain =
      known (16 * k) object (record { grain = k; aligned = refl; is = is }) counted plain

  sum : (base : ℕ) → count_at after outside base + one_if (old == base)
      ≡ count_at objects outside base + one_if (word == base)
  sum base = written-counts base objects outside by holder slot word old holds.begins holds.scanned holds.counted
      holds.is

  -- the count of an entry, as kind and mark tell it
  abbrev told_by : (Kind → Bool → Option Count) → Option (Option ObjectView) → Option (Option Count)
  told_by f told = option_map (option_and_then (λ (o : ObjectView). f o.kind o.sticky)) told

  abbrev same_at : ℕ → Kind → Bool → Option Count
  same_at base kind sticky = count_as (is_counted kind) sticky (count_at after outside base)

  holds_some : (base : ℕ) → base ≡ old → 1 ≤ count_at objects outside base
  holds_some base e =
      let other = written-counts base objects outside by holder slot (base + 1) old holds.begins holds.scanned
      holds.counted holds.is in
      let here = ap one_if (eq-eqb old base (sym e)) in
      let none = ap one_if (ne_eqb (base + 1) base (λ same. absurd (omega arith))) in
      omega arith

  -- the count of what the slot holds isn't 0
  pub held-not_zero : Begins (counts_of objects outside) old (Exact 0) → ⊥
  held-not_zero begins =
      split (slice_get objects begins.grain) (sym (get-counts objects outside begins.grain) ∙ begins.is)
    where
      some : 1 ≤ count_at objects outside (16 * begins.grain)
      some = holds_some (16 * begins.grain) (sym begins.aligned)

      zero_is : (n : ℕ) → ◌≡◌ {A = Option (Option Count)} (Some (Some (Exact n))) (Some (Some (Exact 0))) → n ≡ 0
      zero_is n e = cc

      by_mark : (counted sticky : Bool)
          → Some (count_as counted sticky (count_at objects outside (16 * begins.grain))) ≡ Some (Some (Exact 0)) → ⊥
      by_mark true true e = cc
      by_mark true false e =
          let none = zero_is (count_at objects outside (16 * begins.grain)) e in absurd (omega (arith, some))
      by_mark false sticky e = cc

      split : (told : Option (Option ObjectView))
          → count_told objects outside begins.grain told ≡ Some (Some (Exact 0)) → ⊥
      split None e = cc
      split (Some None) e = cc
      split (Some (Some object)) e = by_mark (is_counted object.kind) object.sticky e

  pub counts-same : old ≡ word → counts_of after outside ≡ moved old word (counts_of objects outside)
  counts-same e =
      same_entries (counts_of after outside) (moved word word (counts_of objects outside))
      (λ k. get-counts after outside k ∙ written-told objects by holder slot word holds.begins (same_at (16 * k)) k
      ∙ told k (slice_get objects k) refl
      ∙ sym (ap (option_map (moved_at word word (16 * k))) (get-counts objects outside k))
      ∙ sym (get-moved word word (counts_of objects outside) k))
      ∙ ap (λ w. moved w word (counts_of objects outside)) (sym e)
    where
      same : (base : ℕ) → count_at after outside base ≡ count_at objects outside base
      same base = let all = sum base in let one = ap (λ w. one_if (w == base)) e in omega arith

      told : (k : ℕ) (told : Option (Option ObjectView)) → slice_get objects k ≡ told
          → told_by (same_at (16 * k)) told
          ≡ option_map (moved_at word word (16 * k)) (count_told objects outside k told)
      told k None is = refl
      told k (Some None) is = refl
      told k (Some (Some object)) is =
          ap (λ (c : Option Count). Some c)
          (moved-same (is_counted object.kind) object.sticky (16 * k) word (count_at objects outside (16 * k))
          (count_at after outside (16 * k)) (same (16 * k)) (few k object is)
          (λ here. holds_some (16 * k) (here ∙ sym e)))

  -- what 255 places hold then is sticky
  abbrev pub sticky_then : ℕ → ObjectView → Option ObjectView
  sticky_then base object =
      Some (record object {
        sticky = object.sticky ||
            (is_counted object.kind && base == word && nat_le 255 (count_at after outside base));
      })

  abbrev sticky_at : ℕ → Kind → Bool → Option Count
  sticky_at base kind sticky =
      count_as (is_counted kind)
      (sticky || (is_counted kind && base == word && nat_le 255 (count_at after outside base)))
      (count_at after outside base)

  pub counts-other : (old ≡ word → ⊥)
      → counts_of (changed sticky_then after) outside ≡ moved old word (counts_of objects outside)
  counts-other other =
      same_entries (counts_of (changed sticky_then after) outside) (moved old word (counts_of objects outside))
      (λ k. get-counts (changed sticky_then after) outside k
      ∙ ap (count_told (changed sticky_then after) outside k) (get-changed sticky_then after k)
      ∙ become k (slice_get after k)
      ∙ written-told objects by holder slot word holds.begins (sticky_at (16 * k)) k
      ∙ told k (slice_get objects k) refl
      ∙ sym (ap (option_map (moved_at old word (16 * k))) (get-counts objects outside k))
      ∙ sym (get-moved old word (counts_of objects outside) k))
    where
      become : (k : ℕ) (told : Option (Option ObjectView))
          → count_told (changed sticky_then after) outside k
          (option_map (option_and_then (sticky_then (16 * k))) told)
          ≡ told_by (sticky_at (16 * k)) told
      become k None = refl
      become k (Some None) = refl
      become k (Some (Some object)) =
          ap (λ n. Some
          (count_as (is_counted object.kind)
          (object.sticky ||
          (is_counted object.kind && 16 * k == word && nat_le 255 (count_at after outside (16 * k))))
          (n + outside (16 * k))))
          (references-changed (16 * k) sticky_then (λ b o. refl) after)

      told : (k : ℕ) (told : Option (Option ObjectView)) → slice_get objects k ≡ told
          → told_by (sticky_at (16 * k)) told
          ≡ option_map (moved_at old word (16 * k)) (count_told objects outside k told)
      told k None is = refl
      told k (Some None) is = refl
      told k (Some (Some object)) is =
          ap (λ (c : Option Count). Some c)
          (moved-other (is_counted object.kind) object.sticky (16 * k) old word (count_at objects outside (16 * k))
          (count_at after outside (16 * k)) other (sum (16 * k)) (few k object is))
