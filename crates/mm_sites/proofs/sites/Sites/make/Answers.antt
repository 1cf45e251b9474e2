-- Nothing is entered, and each total is that of nothing.
use Rattle.std.proofs.Common.{◌*◌, arith, refl}
use Rattle.std.proofs.lemmas.Grind.{common_steps}
use Rattle.mm_sites.proofs.Empty.{kept-none}
use Rattle.mm_sites.proofs.sites.Sites.make.Goals as goal

pub invariant_of-result : goal.invariant_of-result
invariant_of-result c =
    kept-none c.in_ok-entries.entries.items c.in_ok-totals.totals.items (256 * c.args.pages) 4096 (omega arith) refl
    (c.in_ok-entries.ensures.items_if_clones_equal (λ y h. grind (arith, common_steps)))
    (c.in_ok-totals.ensures.items_if_clones_equal (λ y h. h))

pub returns : goal.returns
returns c = c.in_ok-entries.ensures.items_if_clones_equal (λ y h. grind (arith, common_steps))
