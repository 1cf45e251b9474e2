use Rattle.std.proofs.Common.{suc, ◌^◌}
use Rattle.mm_pages.proofs.Trees.{none_free}
use Rattle.mm_pages.proofs.node.push_down.Goals as goal

pub returns-then-longest-eq0 : goal.returns-then-longest-eq0
returns-then-longest-eq0 c = λ free s. c.paint_halves.ensures free
    (λ i h. none_free free (2 ^ suc c.args.height) _ _ _ i s.0 c.if-longest-eq0.true h)
