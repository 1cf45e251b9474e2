use Rattle.std.proofs.Common.{ℕ, sym, ◌∙◌, subst}
use Rattle.mm_count.specs.Counts.{NamesCounted}
use Rattle.mm_roots.specs.Views.{view_of_area}
use Rattle.mm_gc.specs.AreaCells.{HoldsCount}
use Rattle.mm_gc.proofs.AreaCells.LoweredCells.{word_in-slot}
use Rattle.mm_gc.proofs.area_cells.lower_cell.Goals as goal

pub lower_word-requires-clause-named : goal.lower_word-requires-clause-named
lower_word-requires-clause-named g c =
    let cell = c.requires.cell in
    let raw = c.args.heap.now.raw in
    let is = c.word_in.ensures ∙ word_in-slot (view_of_area raw c.args.number cell.area) c.args.s c.in-Ok.slot
    (c.in-Ok.ensures.slot cell.area cell.lives) in
    subst (λ (word : ℕ). NamesCounted c.args.heap.now.objects word) (sym is) (c.requires.can cell.area cell.lives).named

pub lower_word-requires-clause-counted : goal.lower_word-requires-clause-counted
lower_word-requires-clause-counted g c =
    let cell = c.requires.cell in
    let raw = c.args.heap.now.raw in
    let is = c.word_in.ensures ∙ word_in-slot (view_of_area raw c.args.number cell.area) c.args.s c.in-Ok.slot
    (c.in-Ok.ensures.slot cell.area cell.lives) in
    subst (λ (word : ℕ). HoldsCount c.args.heap.now.objects word) (sym is) (c.requires.can cell.area cell.lives).held

pub lower_word-requires-clause-right : goal.lower_word-requires-clause-right
lower_word-requires-clause-right g c = (c.requires.can c.requires.cell.area c.requires.cell.lives).right
