-- The site of each object, by birth number, and the totals of a site in a state.
use Rattle.std.specs.Prelude.{ℕ, ◌&&◌, ◌==◌, List, map, length}
use Rattle.std.specs.List.{filter, flat_map, sum_by, zip}
use Rattle.mm_model.specs.Object.{Object, is_live}
use Rattle.mm_model.specs.State.{State}
use Rattle.mm_model.specs.Logs.Turns.{Turn, births_of}
use Rattle.mm_sites.specs.declared.site_total.SiteTotal.{SiteTotal}

-- What is born in a turn has the site of the turn's command. The turns are those of a trace's commands, and the sites
-- are the commands', in order.
abbrev pub birth_sites : List Turn → List ℕ → List ℕ
birth_sites turns sites = flat_map (λ turn. map (λ born. turn.1) (births_of turn.0)) (zip turns sites)

-- the live objects with a site, where the sites are given by birth number
abbrev pub living_at : State → List ℕ → ℕ → List (Object × ℕ)
living_at a sites site = filter (λ object. is_live object.0 && object.1 == site) (zip a.objects sites)

-- their number, and the sum of their extents
abbrev pub total_in : State → List ℕ → ℕ → SiteTotal
total_in a sites site =
    record {
      objects = length (living_at a sites site);
      bytes = sum_by (λ object. object.0.extent) (living_at a sites site);
    }
