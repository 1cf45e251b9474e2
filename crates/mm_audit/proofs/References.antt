-- How many counted slots hold a base, where one of them is written.
use Rattle.std.proofs.Common.{◌≡◌, ℕ, zero, suc, ◌+◌, ◌/◌, ◌<◌, Bool, true, false, cond, ◌==◌, if◌then◌else◌, List}
use Rattle.std.proofs.Common.{[], ◌∷◌}
use Rattle.std.proofs.Common.{take, Option, Some, None, refl, sym, ap, ◌∙◌, sum_by, count_by, zero-add, arith}
use Rattle.std.specs.Prelude.{IsTrue, slice_get, slice_set}
use Rattle.std.proofs.Math.ListN.{get_or}
use Rattle.std.proofs.lemmas.List.Sums.{sum_by-cons, sum_by-set}
use Rattle.std.proofs.lemmas.Option.{get_or_from_slice_get, slice_get_within}
use Rattle.mm_model.specs.Object.{is_scanned}
use Rattle.mm_model.specs.Views.ByBase.{Begins, Based, based, based_from, with_entry, changed, changed_from}
use Rattle.mm_model.specs.Views.ObjectView.{ObjectView, ObjectsByBase, counted_words_of, references_in}
use Rattle.mm_model.specs.Views.SetsByBase.{count_at}
use Rattle.mm_model.proofs.Lists.KeyedSums.{count-flat_map}
use Rattle.mm_model.proofs.View.ByBase.ReplacedEntries.{begins_get}
use Rattle.mm_audit.specs.Counts.{one_if, with_word}

head_is : (x y : ℕ) → slice_get (x ∷ []) 0 ≡ Some y → x ≡ y
head_is x y e = cc

-- among the first words of a list, where one of these is written
among_first : (p : ℕ → Bool) (n : ℕ) (words : List ℕ) (slot word old : ℕ) → slot < n
    → slice_get words slot ≡ Some old
    → count_by p (take n (slice_set words slot word)) + one_if (p old) ≡ count_by p (take n words) + one_if (p word)
among_first p n [] slot word old below is = cc
among_first p zero (x ∷ words) slot word old below is = absurd (omega arith)
among_first p (suc n) (x ∷ words) zero word old below is =
    let same : x ≡ old = head_is x old is in
    let after = sum_by-cons (λ w. cond (p w) 1 0) word (take n words) in
    let before = sum_by-cons (λ w. cond (p w) 1 0) x (take n words) in
    let held = ap (λ w. one_if (p w)) same in
    omega arith
among_first p (suc n) (x ∷ words) (suc slot) word old below is =
    let rest = among_first p n words slot word old (omega arith) is in
    let after = sum_by-cons (λ w. cond (p w) 1 0) x (take n (slice_set words slot word)) in
    let before = sum_by-cons (λ w. cond (p w) 1 0) x (take n words) in
    omega arith

module _ (base : ℕ) where
  abbrev is_base : ℕ → Bool
  is_base word = word == base

  -- how many of its counted slots hold the base
  abbrev pub held_by : Option ObjectView → ℕ
  held_by None = 0
  held_by (Some object) = count_by is_base (counted_words_of object)

  held-from : (low : ℕ) (objects : ObjectsByBase)
      → sum_by (λ (o : Based ObjectView). count_by is_base (counted_words_of o.value)) (based_from low objects)
      ≡ sum_by held_by objects
  held-from low [] = refl
  held-from low (None ∷ objects) =
      held-from (low + 16) objects ∙ sym (zero-add (sum_by held_by objects)) ∙ sym (sum_by-cons held_by None objects)
  held-from low (Some object ∷ objects) =
      let here : Based ObjectView = record { base = low; value = object } in
      sum_by-cons (λ (o : Based ObjectView). count_by is_base (counted_words_of o.value)) here
      (based_from (low + 16) objects)
      ∙ ap (λ n. held_by (Some object) + n) (held-from (low + 16) objects)
      ∙ sym (sum_by-cons held_by (Some object) objects)

  pub references-sum : (objects : ObjectsByBase) → references_in objects base ≡ sum_by held_by objects
  references-sum objects =
      count-flat_map is_base (λ (o : Based ObjectView). counted_words_of o.value) (based objects)
      ∙ held-from 0 objects

  -- a change that keeps them
  pub references-changed : (f : ℕ → ObjectView → Option ObjectView)
      → ((b : ℕ) (object : ObjectView) → held_by (f b object) ≡ held_by (Some object)) → (objects : ObjectsByBase)
      → references_in (changed f objects) base ≡ references_in objects base
  references-changed f keeps objects =
      references-sum (changed f objects) ∙ from 0 objects ∙ sym (references-sum objects)
    where
      from : (low : ℕ) (objects : ObjectsByBase) → sum_by held_by (changed_from f low objects) ≡ sum_by held_by objects
      from low [] = refl
      from low (None ∷ objects) =
          sum_by-cons held_by None (changed_from f (low + 16) objects)
          ∙ ap (λ n. held_by None + n) (from (low + 16) objects) ∙ sym (sum_by-cons held_by None objects)
      from low (Some object ∷ objects) =
          sum_by-cons held_by (f low object) (changed_from f (low + 16) objects)
          ∙ ap (λ n. n + sum_by held_by (changed_from f (low + 16) objects)) (keeps low object)
          ∙ ap (λ n. held_by (Some object) + n) (from (low + 16) objects)
          ∙ sym (sum_by-cons held_by (Some object) objects)

  -- an object is another one that holds it as often
  pub references-replaced : (objects : ObjectsByBase) (by : ℕ) (holder new : ObjectView) → Begins objects by holder
      → held_by (Some new) ≡ held_by (Some holder)
      → references_in (with_entry by (Some new) objects) base ≡ references_in objects base
  references-replaced objects by holder new begins same =
      let grain = by / 16 in
      let at = begins_get objects by holder begins in
      let within = slice_get_within objects grain (Some holder) at in
      let held : held_by (get_or objects grain (Some holder)) ≡ held_by (Some holder) =
      ap held_by (get_or_from_slice_get objects grain (Some holder) (Some holder) at) in
      let change = sum_by-set held_by objects grain (Some new) (Some holder) within in
      let before = references-sum objects in
      let after = references-sum (with_entry by (Some new) objects) in
      omega arith

  held-written : (object : ObjectView) (slot word old : ℕ) → IsTrue (is_scanned object.kind)
      → slot < object.counted → slice_get object.words slot ≡ Some old
      → held_by (Some (with_word slot word object)) + one_if (is_base old)
      ≡ held_by (Some object) + one_if (is_base word)
  held-written object slot word old scanned counted is = split (is_scanned object.kind) scanned
    where
      split : (b : Bool) → IsTrue b
          → count_by is_base (if b then take object.counted (slice_set object.words slot word) else [])
          + one_if (is_base old)
          ≡ count_by is_base (if b then take object.counted object.words else []) + one_if (is_base word)
      split true h = among_first is_base object.counted object.words slot word old counted is
      split false h = cc

  pub written-counts : (objects : ObjectsByBase) (outside : ℕ → ℕ) (by : ℕ) (holder : ObjectView)
      (slot word old : ℕ) → Begins objects by holder → IsTrue (is_scanned holder.kind) → slot < holder.counted
      → slice_get holder.words slot ≡ Some old
      → count_at (with_entry by (Some (with_word slot word holder)) objects) outside base + one_if (is_base old)
      ≡ count_at objects outside base + one_if (is_base word)
  written-counts objects outside by holder slot word old begins scanned counted is =
      let grain = by / 16 in
      let at = begins_get objects by holder begins in
      let new = with_word slot word holder in
      let within = slice_get_within objects grain (Some holder) at in
      let held : held_by (get_or objects grain (Some holder)) ≡ held_by (Some holder) =
      ap held_by (get_or_from_slice_get objects grain (Some holder) (Some holder) at) in
      let change = sum_by-set held_by objects grain (Some new) (Some holder) within in
      let before = references-sum objects in
      let after = references-sum (with_entry by (Some new) objects) in
      let slots = held-written holder slot word old scanned counted is in
      omega arith
