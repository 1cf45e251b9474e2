use Rattle.std.proofs.Common.{ℕ, List, Option, MatchOption, sym, ap, subst}
use Rattle.mm_sets.specs.Set.{IsSet, IsEmptyFrom, IsLowestFrom}
use Rattle.mm_model.specs.Areas.{most_areas}
use Rattle.mm_roots.specs.declared.area_shape.AreaShape.{AreaShape}
use Rattle.mm_roots.specs.Kept.{AreaRows, NoneScannedFrom, IsNextScanned}
use Rattle.mm_roots.proofs.Changes.{next-areas}
use Rattle.mm_roots.proofs.area_table.AreaTable.next_scanned.Goals as goal

pub returns : goal.returns
returns c =
    let from = c.args.from in
    let found = c.lowest_from.ensures most_areas (subst (λ (s : List ℕ). IsSet most_areas s) (sym c.part.ensures)
    c.self.invariant.scanned) in
    subst (λ (areas : List (Option AreaShape)). MatchOption c.lowest_from.result (NoneScannedFrom areas from)
    (IsNextScanned areas from))
    (ap (λ (r : AreaRows). r.areas) c.self.view_is)
    (next-areas c.self.inside.words from c.lowest_from.result c.self.invariant
    (subst (λ (s : List ℕ). MatchOption c.lowest_from.result (IsEmptyFrom from most_areas s)
    (IsLowestFrom from most_areas s)) c.part.ensures found))
