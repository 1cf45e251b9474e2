-- Inner: what holds of entries and the running totals beside them.
use Rattle.std.specs.Prelude.{◌≡◌, ℕ, ◌^◌, ◌<◌, ◌≤◌, List, length, Some, slice_get}
use Rattle.mm_sites.specs.declared.entry.Entry.{Entry}
use Rattle.mm_sites.specs.declared.site_total.SiteTotal.{SiteTotal}
use Rattle.mm_sites.specs.Entries.{EntriesByBase, total_of}

-- an entry's extent is that of an object, and its site is one
pub record FitsEntry (entry : Entry) : Type 0 where
  pub extent : entry.extent ≤ 4198400
  pub site : entry.site < 4096

-- the totals are those of the entries
pub record KeepsTotals (entries : EntriesByBase) (totals : List SiteTotal) : Type 0 where
  pub few : length entries ≤ 2 ^ 20
  pub sites : length totals ≡ 4096
  pub fits : (grain : ℕ) (entry : Entry) → slice_get entries grain ≡ Some (Some entry) → FitsEntry entry
  pub right : (site : ℕ) → site < 4096 → slice_get totals site ≡ Some (total_of entries site)
