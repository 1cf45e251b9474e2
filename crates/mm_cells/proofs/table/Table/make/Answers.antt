-- The words of the uses and of the sets are filled with zeros.
use Rattle.std.proofs.Common.{sym, subst}
use Rattle.mm_words.specs.Piece.{Piece}
use Rattle.mm_words.specs.Location.{location_of}
use Rattle.mm_cells.specs.Map.{map_of, FitsTable, IsUntouched}
use Rattle.mm_cells.proofs.Tables.Untouched.{filled-piece, FitsTable-filled, IsUntouched-filled}
use Rattle.mm_cells.proofs.table.Table.make.Goals as goal

pub invariant_of-result : goal.invariant_of-result
invariant_of-result c = subst (λ (p : Piece). FitsTable p c.args.pages)
    (sym (filled-piece c.args.words c.fill.new.self c.fill-2.new.self c.args.pages c.uses_part-uses.ensures.start
    c.uses_part-uses.ensures.len c.sets_part-sets.ensures.start c.sets_part-sets.ensures.len c.fill.ensures
    c.fill-2.ensures))
    (FitsTable-filled c.args.words c.args.pages c.requires.two c.requires.most c.requires.room)

pub returns : goal.returns
returns c = subst (λ (p : Piece). IsUntouched (location_of c.args.words) c.args.pages (map_of p c.args.pages))
    (sym (filled-piece c.args.words c.fill.new.self c.fill-2.new.self c.args.pages c.uses_part-uses.ensures.start
    c.uses_part-uses.ensures.len c.sets_part-sets.ensures.start c.sets_part-sets.ensures.len c.fill.ensures
    c.fill-2.ensures))
    (IsUntouched-filled c.args.words c.args.pages c.requires.room)
