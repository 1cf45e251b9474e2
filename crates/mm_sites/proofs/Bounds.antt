-- How large totals can be, and what stands among the running ones.
use Rattle.std.proofs.Common.{◌≡◌, ℕ, ◌*◌, ◌^◌, ◌<◌, ◌≤◌, Bool, true, false, cond, List, Option, Some, None}
use Rattle.std.proofs.Common.{sym, ◌∙◌, arith}
use Rattle.std.proofs.Math.ListN.{get_or}
use Rattle.std.proofs.lemmas.List.Sums.{sum_by-le}
use Rattle.std.proofs.lemmas.Option.{slice_get-get_or, slice_get_read}
use Rattle.std.specs.Prelude.{◌==◌, slice_get}
use Rattle.mm_sites.specs.declared.entry.Entry.{Entry}
use Rattle.mm_sites.specs.declared.site_total.SiteTotal.{SiteTotal}
use Rattle.mm_sites.specs.Entries.{EntriesByBase, total_of}
use Rattle.mm_sites.specs.Kept.{KeepsTotals}
use Rattle.mm_sites.proofs.Totals.{objects_at, bytes_at, objects-total, bytes-total}

cond-le : (b : Bool) (n m : ℕ) → n ≤ m → cond b n 0 ≤ m
cond-le true n m h = h
cond-le false n m h = omega arith

objects_at-le : (site : ℕ) (entry : Option Entry) → objects_at site entry ≤ 1
objects_at-le site None = omega arith
objects_at-le site (Some entry) = cond-le (entry.site == site) 1 1 (omega arith)

module _ (entries : EntriesByBase) (totals : List SiteTotal) (kept : KeepsTotals entries totals) where
  bytes_at-le : (site grain : ℕ) (entry : Option Entry) → slice_get entries grain ≡ Some entry
      → bytes_at site entry ≤ 4198400
  bytes_at-le site grain None is = omega arith
  bytes_at-le site grain (Some entry) is =
      cond-le (entry.site == site) entry.extent 4198400 (kept.fits grain entry is).extent

  pub objects-le : (site : ℕ) → (total_of entries site).objects ≤ 2 ^ 20
  objects-le site =
      let sum = sum_by-le (objects_at site) 1 entries (λ k d within. objects_at-le site (get_or entries k d)) in
      let is = objects-total entries site in
      let few = kept.few in
      omega arith

  pub bytes-le : (site : ℕ) → (total_of entries site).bytes ≤ 2 ^ 20 * 4198400
  bytes-le site =
      let sum = sum_by-le (bytes_at site) 4198400 entries
      (λ k d within. bytes_at-le site k (get_or entries k d) (slice_get-get_or entries k d within)) in
      let is = bytes-total entries site in
      let few = kept.few in
      omega arith

  -- what is read of the running totals
  pub read-total : (site : ℕ) (total : SiteTotal) → site < 4096 → total ≡ get_or totals site total
      → total ≡ total_of entries site
  read-total site total below read =
      let is = slice_get_read totals 4096 site total (sym kept.sites) below read in
      let right = kept.right site below in
      let both : Some total ≡ Some (total_of entries site) = sym is ∙ right in
      cc
