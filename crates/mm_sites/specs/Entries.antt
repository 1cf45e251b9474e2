-- Objects with their sites, as a list by base, and the totals of a site.
use Rattle.std.specs.Prelude.{ℕ, ◌%◌, ◌==◌, if◌then◌else◌, List, length, Option, None}
use Rattle.std.specs.List.{filter, fold, sum_by}
use Rattle.mm_model.specs.Views.ByBase.{Begins, Based, based, with_entry}
use Rattle.mm_sites.specs.declared.entry.Entry.{Entry}
use Rattle.mm_sites.specs.declared.site_total.SiteTotal.{SiteTotal}

-- the bytes and the site of what begins at each base
abbrev pub EntriesByBase : Type 0
EntriesByBase = List (Option Entry)

-- something is entered at this base
pub record HasEntry (entries : EntriesByBase) (base : ℕ) : Type 0 where
  pub entry : Entry
  pub begins : Begins entries base entry

abbrev pub entries_of : EntriesByBase → ℕ → List (Based Entry)
entries_of entries site = filter (λ e. e.value.site == site) (based entries)

-- the number of the entries of a site, and the sum of their extents
abbrev pub total_of : EntriesByBase → ℕ → SiteTotal
total_of entries site =
    record {
      objects = length (entries_of entries site);
      bytes = sum_by (λ e. e.value.extent) (entries_of entries site);
    }

-- without what begins at a base, where something does, and without what begins at these bases
abbrev pub without_one : EntriesByBase → ℕ → EntriesByBase
without_one entries base = if base % 16 == 0 then with_entry base None entries else entries

abbrev pub without : EntriesByBase → List ℕ → EntriesByBase
without entries bases = fold without_one entries bases
