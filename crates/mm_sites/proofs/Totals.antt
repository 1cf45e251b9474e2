-- The totals of a site as sums over all entries, and what becomes of them where one entry is replaced.
use Rattle.std.proofs.Common.{◌≡◌, ℕ, ◌+◌, Bool, true, false, cond, List, [], ◌∷◌, length, Option, Some, None}
use Rattle.std.proofs.Common.{refl, sym, ap, ◌∙◌, arith, zero-add}
use Rattle.std.proofs.Math.ListN.{get_or}
use Rattle.std.proofs.lemmas.List.Sums.{sum_by-cons, sum_by-set}
use Rattle.std.proofs.lemmas.Option.{get_or_from_slice_get, slice_get_within}
use Rattle.std.specs.Prelude.{◌==◌, slice_get, slice_set}
use Rattle.std.specs.List.{filter, sum_by}
use Rattle.mm_model.specs.Views.ByBase.{Based, based_from}
use Rattle.mm_sites.specs.declared.entry.Entry.{Entry}
use Rattle.mm_sites.specs.Entries.{EntriesByBase, total_of}

-- what an entry adds to the objects of a site, and to its bytes
abbrev pub objects_at : ℕ → Option Entry → ℕ
objects_at site None = 0
objects_at site (Some entry) = cond (entry.site == site) 1 0

abbrev pub bytes_at : ℕ → Option Entry → ℕ
bytes_at site None = 0
bytes_at site (Some entry) = cond (entry.site == site) entry.extent 0

abbrev is_at : ℕ → Based Entry → Bool
is_at site e = e.value.site == site

objects-from : (site low : ℕ) (entries : EntriesByBase)
    → length (filter (is_at site) (based_from low entries)) ≡ sum_by (objects_at site) entries
objects-from site low [] = refl
objects-from site low (None ∷ entries) =
    objects-from site (low + 16) entries ∙ sym (zero-add (sum_by (objects_at site) entries))
    ∙ sym (sum_by-cons (objects_at site) None entries)
objects-from site low (Some entry ∷ entries) =
    let here : Based Entry = record { base = low; value = entry } in
    let rest = objects-from site (low + 16) entries in
    let split : (b : Bool)
    → length (cond b (here ∷ filter (is_at site) (based_from (low + 16) entries))
    (filter (is_at site) (based_from (low + 16) entries)))
    ≡ cond b 1 0 + sum_by (objects_at site) entries =
    elim [ true ↦ omega arith | false ↦ omega arith ] in
    split (entry.site == site) ∙ sym (sum_by-cons (objects_at site) (Some entry) entries)

bytes-from : (site low : ℕ) (entries : EntriesByBase)
    → sum_by (λ (e : Based Entry). e.value.extent) (filter (is_at site) (based_from low entries))
    ≡ sum_by (bytes_at site) entries
bytes-from site low [] = refl
bytes-from site low (None ∷ entries) =
    bytes-from site (low + 16) entries ∙ sym (zero-add (sum_by (bytes_at site) entries))
    ∙ sym (sum_by-cons (bytes_at site) None entries)
bytes-from site low (Some entry ∷ entries) =
    let here : Based Entry = record { base = low; value = entry } in
    let others : List (Based Entry) = filter (is_at site) (based_from (low + 16) entries) in
    let rest = bytes-from site (low + 16) entries in
    let split : (b : Bool)
    → sum_by (λ (e : Based Entry). e.value.extent) (cond b (here ∷ others) others)
    ≡ cond b entry.extent 0 + sum_by (bytes_at site) entries =
    elim [
      | true ↦ sum_by-cons (λ (e : Based Entry). e.value.extent) here others
          ∙ ap (λ n. entry.extent + n) rest
      | false ↦ rest ∙ sym (zero-add (sum_by (bytes_at site) entries))
    ] in
    split (entry.site == site) ∙ sym (sum_by-cons (bytes_at site) (Some entry) entries)

pub objects-total : (entries : EntriesByBase) (site : ℕ)
    → (total_of entries site).objects ≡ sum_by (objects_at site) entries
objects-total entries site = objects-from site 0 entries

pub bytes-total : (entries : EntriesByBase) (site : ℕ)
    → (total_of entries site).bytes ≡ sum_by (bytes_at site) entries
bytes-total entries site = bytes-from site 0 entries

-- An entry is replaced: what it adds goes, and what the new one adds comes.
module _ (entries : EntriesByBase) (grain : ℕ) (old new : Option Entry) (site : ℕ)
    (is : slice_get entries grain ≡ Some old) where
  pub objects-replaced : (total_of (slice_set entries grain new) site).objects + objects_at site old
      ≡ (total_of entries site).objects + objects_at site new
  objects-replaced =
      let within = slice_get_within entries grain old is in
      let held : objects_at site (get_or entries grain old) ≡ objects_at site old =
      ap (objects_at site) (get_or_from_slice_get entries grain old old is) in
      let change = sum_by-set (objects_at site) entries grain new old within in
      let before = objects-total entries site in
      let after = objects-total (slice_set entries grain new) site in
      omega arith

  pub bytes-replaced : (total_of (slice_set entries grain new) site).bytes + bytes_at site old
      ≡ (total_of entries site).bytes + bytes_at site new
  bytes-replaced =
      let within = slice_get_within entries grain old is in
      let held : bytes_at site (get_or entries grain old) ≡ bytes_at site old =
      ap (bytes_at site) (get_or_from_slice_get entries grain old old is) in
      let change = sum_by-set (bytes_at site) entries grain new old within in
      let before = bytes-total entries site in
      let after = bytes-total (slice_set entries grain new) site in
      omega arith
