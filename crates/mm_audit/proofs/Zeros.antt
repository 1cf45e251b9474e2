-- How many counts are zero, where the counts of objects are right.
use Rattle.std.proofs.Common.{◌≡◌, ℕ, ◌+◌, Bool, true, false, not, ◌&&◌, ◌==◌, cond, if◌then◌else◌, [], ◌∷◌}
use Rattle.std.proofs.Common.{Some, None, refl, sym, ap, ◌∙◌, count_by}
use Rattle.std.proofs.lemmas.List.Sums.{sum_by-cons}
use Rattle.mm_model.specs.Object.{is_counted}
use Rattle.mm_model.specs.Views.ByBase.{Based, based_from}
use Rattle.mm_model.specs.Views.ObjectView.{ObjectView, ObjectsByBase}
use Rattle.mm_model.specs.Views.SetsByBase.{count_at, is_zero_count_at, zero_count_of}
use Rattle.mm_audit.specs.declared.count.Count.TheVariants.{Exact, Sticky}
use Rattle.mm_audit.specs.Counts.{is_zero_entry, zeros_in, count_of, counts_from, counts_of}

module _ (objects : ObjectsByBase) (outside : ℕ → ℕ) where
  abbrev is_zero_object : Based ObjectView → Bool
  is_zero_object o = is_zero_count_at objects outside o.base o.value

  -- the entry of an object is zero exactly where the object is
  zero-entry : (base : ℕ) (object : ObjectView)
      → is_zero_entry (count_of objects outside base object) ≡ is_zero_count_at objects outside base object
  zero-entry base object = split (is_counted object.kind) object.sticky
    where
      split : (counted sticky : Bool)
          → is_zero_entry
          (if counted then Some (if sticky then Sticky else Exact (count_at objects outside base)) else None)
          ≡ (counted && not sticky && count_at objects outside base == 0)
      split true true = refl
      split true false = refl
      split false sticky = refl

  zeros-from : (base : ℕ) (rest : ObjectsByBase)
      → zeros_in (counts_from objects outside base rest) ≡ count_by is_zero_object (based_from base rest)
  zeros-from base [] = refl
  zeros-from base (None ∷ rest) = zeros-from (base + 16) rest
  zeros-from base (Some object ∷ rest) =
      let entry = count_of objects outside base object in
      let here : Based ObjectView = record { base = base; value = object } in
      sum_by-cons (λ e. cond (is_zero_entry e) 1 0) entry (counts_from objects outside (base + 16) rest)
      ∙ ap (λ b. cond b 1 0 + zeros_in (counts_from objects outside (base + 16) rest)) (zero-entry base object)
      ∙ ap (λ n. cond (is_zero_object here) 1 0 + n) (zeros-from (base + 16) rest)
      ∙ sym (sum_by-cons (λ o. cond (is_zero_object o) 1 0) here (based_from (base + 16) rest))

  pub zeros-right : zeros_in (counts_of objects outside) ≡ zero_count_of objects outside
  zeros-right = zeros-from 0 objects
