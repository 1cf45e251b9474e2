-- The lines that tell of sites.
use Rattle.std.specs.Prelude.{ℕ, if◌then◌else◌, ◌==◌, List, [], ◌∷◌, codes, decimal}
use Rattle.std.specs.List.{flat_map, range_with_len}
use Rattle.mm_model.specs.Logs.Spelling.{sentence}
use Rattle.mm_model.specs.State.{State}
use Rattle.mm_sites.specs.declared.site_total.SiteTotal.{SiteTotal}
use Rattle.mm_sites.specs.Births.{total_in}
use Rattle.mm_sites.specs.Lines.{most_sites}

-- the line of a site: its number, its objects and their bytes, and none where there is no object
abbrev pub site_text : ℕ → SiteTotal → List ℕ
site_text site total =
    if total.objects == 0 then []
    else sentence (codes "site" ∷ decimal site ∷ decimal total.objects ∷ decimal total.bytes ∷ [])

-- the lines of the sites below a number, ascending
abbrev pub texts_below : (ℕ → SiteTotal) → ℕ → List ℕ
texts_below total_at count = flat_map (λ site. site_text site (total_at site)) (range_with_len 0 count)

-- the lines of all sites by ascending number
abbrev pub sites_text : (ℕ → SiteTotal) → List ℕ
sites_text total_at = texts_below total_at most_sites

-- what is added to a log that leaves this state, where the objects' sites are given by birth number
abbrev pub text_of_sites : State → List ℕ → List ℕ
text_of_sites a sites = sites_text (total_in a sites)
