use Rattle.std.proofs.Common.{sym, ap, ◌∙◌, subst}
use Rattle.mm_model.specs.Views.GoodView.{AreWhite}
use Rattle.mm_object.specs.Object.{views_of}
use Rattle.mm_object.specs.Heap.{Heap}
use Rattle.mm_object.specs.Colours.{all_whitened}
use Rattle.mm_gc.proofs.Colours.AlikeHeaps.{whitened-white, whitened-twice}
use Rattle.mm_gc.proofs.freeing.abandon_cycle.Goals as goal

pub returns-then-running-clause-colours : goal.returns-then-running-clause-colours
returns-then-running-clause-colours g c = ap all_whitened c.abandon.ensures.white ∙ whitened-twice c.args.heap.now

pub returns-then-running-clause-white : goal.returns-then-running-clause-white
returns-then-running-clause-white g c =
    subst (λ (h : Heap). AreWhite (views_of h.objects)) (sym c.abandon.ensures.white) (whitened-white c.args.heap.now)

pub returns-else-running-clause-white : goal.returns-else-running-clause-white
returns-else-running-clause-white g c = c.requires.white (sym c.running.ensures ∙ c.if-running.false)
