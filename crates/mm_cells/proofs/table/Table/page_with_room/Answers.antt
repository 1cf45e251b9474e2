-- The part that was lent is the set of the class.
use Rattle.std.proofs.Common.{List, ℕ, MatchOption, subst}
use Rattle.mm_sets.specs.Set.{IsEmpty, IsLowest}
use Rattle.mm_cells.specs.Map.{map_of}
use Rattle.mm_cells.proofs.Tables.Rooms.{set_lent, IsSet-lent, lowest_room}
use Rattle.mm_cells.proofs.table.Table.page_with_room.Goals as goal

pub returns : goal.returns
returns c =
    let pages = c.self.inside.pages in
    let lent = set_lent c.self.inside.words pages c.args.class c.part.result.now c.self.invariant c.requires
    c.set_part-part.ensures.start c.set_part-part.ensures.len c.part.ensures in
    let found = c.lowest.ensures pages (IsSet-lent c.self.invariant c.requires lent) in
    rw (← c.self.view_is) (lowest_room (map_of c.self.inside.words pages) c.args.class c.lowest.result
    (subst (λ (s : List ℕ). MatchOption c.lowest.result (IsEmpty pages s) (IsLowest pages s)) lent.is found))
