use Rattle.std.proofs.Common.{ℕ, List, Option, MatchOption, sym, ap, subst}
use Rattle.mm_sets.specs.Set.{IsSet, IsEmpty, IsLowest}
use Rattle.mm_model.specs.Areas.{most_areas}
use Rattle.mm_roots.specs.declared.area_shape.AreaShape.{AreaShape}
use Rattle.mm_roots.specs.Kept.{AreaRows, IsLowestFree, AreAllTaken}
use Rattle.mm_roots.proofs.Changes.{lowest-areas}
use Rattle.mm_roots.proofs.area_table.AreaTable.lowest_free.Goals as goal

pub returns : goal.returns
returns c =
    let words = c.self.inside.words.words in
    let found = c.lowest.ensures most_areas (subst (λ (s : List ℕ). IsSet most_areas s) (sym c.part.ensures)
    c.self.invariant.free) in
    subst (λ (areas : List (Option AreaShape)). MatchOption c.lowest.result (AreAllTaken areas) (IsLowestFree areas))
    (ap (λ (r : AreaRows). r.areas) c.self.view_is)
    (lowest-areas words c.lowest.result
    (subst (λ (s : List ℕ). MatchOption c.lowest.result (IsEmpty most_areas s) (IsLowest most_areas s)) c.part.ensures
    found))
