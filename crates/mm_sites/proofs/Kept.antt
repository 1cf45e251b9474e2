-- Entries with their running totals, where an object is entered or taken away.
use Rattle.std.proofs.Common.{◌≡◌, ◌≢◌, ℕ, ◌+◌, ◌-◌, ◌<◌, ◌≤◌, true, false, cond, List}
use Rattle.std.proofs.Common.{Option, Some, None, refl, sym, ap, ◌∙◌, subst, ⊎_elim, arith, length-set}
use Rattle.std.proofs.lemmas.Bool.{cases_eq}
use Rattle.std.proofs.lemmas.Bool.Decides.{nat_tests}
use Rattle.std.specs.Prelude.{◌==◌, slice_get, slice_set}
use Rattle.mm_model.proofs.Lists.Replaced.{get-set_same, get-set_other, get-set_cases}
use Rattle.mm_sites.specs.declared.entry.Entry.{Entry}
use Rattle.mm_sites.specs.declared.site_total.SiteTotal.{SiteTotal}
use Rattle.mm_sites.specs.Entries.{EntriesByBase, total_of}
use Rattle.mm_sites.specs.Kept.{FitsEntry, KeepsTotals}
use Rattle.mm_sites.proofs.Totals.{objects_at, bytes_at, objects-replaced, bytes-replaced}

same_total : (a b : SiteTotal) → a.objects ≡ b.objects → a.bytes ≡ b.bytes → a ≡ b
same_total a b objects bytes = λ i. record { objects = objects i; bytes = bytes i }

own_site : (entry : Entry) → (entry.site == entry.site) ≡ true
own_site entry = grind (arith, nat_tests)

other_site : (entry : Entry) (site : ℕ) → site ≢ entry.site → (entry.site == site) ≡ false
other_site entry site other = grind (arith, nat_tests)

-- one entry is replaced, and the total of one site
module _ (entries : EntriesByBase) (totals : List SiteTotal) (grain : ℕ) (old new : Option Entry)
    (kept : KeepsTotals entries totals) (is : slice_get entries grain ≡ Some old) where
  after : EntriesByBase
  after = slice_set entries grain new

  -- where neither is of the site, its total stays
  total-stays : (site : ℕ) → objects_at site old ≡ 0 → objects_at site new ≡ 0 → bytes_at site old ≡ 0
      → bytes_at site new ≡ 0 → total_of entries site ≡ total_of (slice_set entries grain new) site
  total-stays site none_old none_new empty_old empty_new =
      let objects = objects-replaced entries grain old new site is in
      let bytes = bytes-replaced entries grain old new site is in
      same_total (total_of entries site) (total_of (slice_set entries grain new) site) (omega arith) (omega arith)

  pub kept-replaced : (at : ℕ) (total : SiteTotal) → at < 4096
      → ((entry : Entry) → new ≡ Some entry → FitsEntry entry)
      → total ≡ total_of (slice_set entries grain new) at
      → ((site : ℕ) → site ≢ at → total_of entries site ≡ total_of (slice_set entries grain new) site)
      → KeepsTotals (slice_set entries grain new) (slice_set totals at total)
  kept-replaced at total below fits right others =
      record {
        few = let few = kept.few in omega (arith, length-set {A = Option Entry});
        sites = let sites = kept.sites in omega (arith, length-set {A = SiteTotal});
        fits = λ k entry e.
            ⊎_elim (λ (here : (k ≡ grain) × (new ≡ Some entry)). fits entry here.1)
            (λ (there : slice_get entries k ≡ Some (Some entry)). kept.fits k entry there)
            (get-set_cases entries grain k new (Some entry) e);
        right = λ site low.
            ⊎_elim
            (λ (here : site ≡ at).
            ap (slice_get (slice_set totals at total)) here
            ∙ get-set_same totals at (total_of entries at) total (kept.right at below)
            ∙ ap (λ (t : SiteTotal). Some t) right
            ∙ ap (λ s. Some (total_of (slice_set entries grain new) s)) (sym here))
            (λ (other : site ≢ at).
            get-set_other totals at site total other ∙ kept.right site low
            ∙ ap (λ (t : SiteTotal). Some t) (others site other))
            (cases_eq site at);
      }

-- one more object of a site, or one less, of so many bytes
abbrev pub with_object : SiteTotal → ℕ → SiteTotal
with_object total extent = record { objects = total.objects + 1; bytes = total.bytes + extent }

abbrev pub without_object : SiteTotal → ℕ → SiteTotal
without_object total extent = record { objects = total.objects - 1; bytes = total.bytes - extent }

module _ (entries : EntriesByBase) (totals : List SiteTotal) (grain : ℕ) (entry : Entry)
    (kept : KeepsTotals entries totals) where
  pub kept-born : FitsEntry entry → slice_get entries grain ≡ Some None → (total : SiteTotal)
      → total ≡ with_object (total_of entries entry.site) entry.extent
      → KeepsTotals (slice_set entries grain (Some entry)) (slice_set totals entry.site total)
  kept-born fits is total right =
      let objects = objects-replaced entries grain None (Some entry) entry.site is in
      let bytes = bytes-replaced entries grain None (Some entry) entry.site is in
      let one : objects_at entry.site (Some entry) ≡ 1 = ap (λ b. cond b 1 0) (own_site entry) in
      let extent : bytes_at entry.site (Some entry) ≡ entry.extent = ap (λ b. cond b entry.extent 0) (own_site entry) in
      let site : ℕ = entry.site in
      let sum = same_total (with_object (total_of entries site) entry.extent)
      (total_of (slice_set entries grain (Some entry)) site) (omega arith) (omega arith) in
      kept-replaced entries totals grain None (Some entry) kept is entry.site total fits.site
      (λ (e : Entry) (same : Some entry ≡ Some e). let own : entry ≡ e = cc in subst FitsEntry own fits) (right ∙ sum)
      (λ s other.
      total-stays entries totals grain None (Some entry) kept is s refl
      (ap (λ b. cond b 1 0) (other_site entry s other)) refl
      (ap (λ b. cond b entry.extent 0) (other_site entry s other)))

  pub kept-freed : slice_get entries grain ≡ Some (Some entry) → (total : SiteTotal)
      → total ≡ without_object (total_of entries entry.site) entry.extent
      → KeepsTotals (slice_set entries grain None) (slice_set totals entry.site total)
  kept-freed is total right =
      let fits = kept.fits grain entry is in
      let objects = objects-replaced entries grain (Some entry) None entry.site is in
      let bytes = bytes-replaced entries grain (Some entry) None entry.site is in
      let one : objects_at entry.site (Some entry) ≡ 1 = ap (λ b. cond b 1 0) (own_site entry) in
      let extent : bytes_at entry.site (Some entry) ≡ entry.extent = ap (λ b. cond b entry.extent 0) (own_site entry) in
      let site : ℕ = entry.site in
      let sum = same_total (without_object (total_of entries site) entry.extent)
      (total_of (slice_set entries grain None) site) (omega arith) (omega arith) in
      kept-replaced entries totals grain (Some entry) None kept is entry.site total fits.site
      (λ (e : Entry) (same : None ≡ Some e). cc) (right ∙ sum)
      (λ s other.
      total-stays entries totals grain (Some entry) None kept is s
      (ap (λ b. cond b 1 0) (other_site entry s other)) refl
      (ap (λ b. cond b entry.extent 0) (other_site entry s other)) refl)

-- an entry is within its site's total
module _ (entries : EntriesByBase) (grain : ℕ) (entry : Entry) (is : slice_get entries grain ≡ Some (Some entry)) where
  pub within-objects : 1 ≤ (total_of entries entry.site).objects
  within-objects =
      let objects = objects-replaced entries grain (Some entry) None entry.site is in
      let one : objects_at entry.site (Some entry) ≡ 1 = ap (λ b. cond b 1 0) (own_site entry) in
      omega arith

  pub within-bytes : entry.extent ≤ (total_of entries entry.site).bytes
  within-bytes =
      let bytes = bytes-replaced entries grain (Some entry) None entry.site is in
      let extent : bytes_at entry.site (Some entry) ≡ entry.extent = ap (λ b. cond b entry.extent 0) (own_site entry) in
      omega arith
