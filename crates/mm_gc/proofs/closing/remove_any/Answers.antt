use Rattle.mm_gc.proofs.Frees.Emptied.{in-place-removed}
use Rattle.mm_gc.proofs.closing.remove_any.Goals as goal

pub returns-clause-place : goal.returns-clause-place
returns-clause-place g c =
    in-place-removed c.args.areas.now c.remove.new.self c.args.a c.args.pages.now c.remove.new.pages c.remove.result
    c.remove.ensures.cause c.remove.ensures.areas c.remove.ensures.block c.remove.ensures.unchanged
