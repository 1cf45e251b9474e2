-- The part that was written has the uses alone.
use Rattle.std.proofs.Common.{ℕ, List, ◌+◌, ◌∙◌, ap}
use Rattle.mm_cells.specs.declared.page_use.PageUse.TheVariants.{Unused}
use Rattle.mm_cells.specs.Uses.{use_in, use_in_whole, HaveUses}
use Rattle.mm_cells.specs.Map.{Map, use_at}
use Rattle.mm_cells.proofs.Tables.Maps.{uses_lent, FitsTable-with_uses, SetsUses-with_uses}
use Rattle.mm_cells.proofs.table.Table.clear_whole.Goals as goal

pub invariant_of-self : goal.invariant_of-self
invariant_of-self c =
    let lent = uses_lent c.self.inside.words c.self.inside.pages c.part_mut.result.now c.self.invariant
    c.uses_part-part.ensures.start c.uses_part-part.ensures.len c.part_mut.ensures.value in
    rw c.uses_part-part.ensures.start (FitsTable-with_uses c.self.inside.words c.self.inside.pages c.part_mut.result.now
    c.clear_whole.new.uses c.self.invariant lent c.clear_whole.auto.uses)

pub returns : goal.returns
returns c = λ count some whole.
    let lent = uses_lent c.self.inside.words c.self.inside.pages c.part_mut.result.now c.self.invariant
    c.uses_part-part.ensures.start c.uses_part-part.ensures.len c.part_mut.ensures.value in
    let whole_now : HaveUses c.part_mut.result.now c.args.first count (use_in_whole count) = λ distance less.
    ap (λ (s : List ℕ). use_in s (c.args.first + distance)) lent.is
    ∙ ap (λ (m : Map). use_at m (c.args.first + distance)) c.self.view_is ∙ whole distance less in
    rw (c.uses_part-part.ensures.start, ← c.self.view_is) (SetsUses-with_uses c.self.inside.words c.self.inside.pages
    c.args.first count (λ distance. Unused) c.part_mut.result.now c.clear_whole.new.uses c.self.invariant lent
    c.clear_whole.auto.uses (c.clear_whole.ensures count some whole_now))
