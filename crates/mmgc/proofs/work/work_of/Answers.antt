use Rattle.std.proofs.Common.{subst}
use Rattle.mm_object.specs.Heap.{Heap}
use Rattle.mm_object.specs.Object.{views_of}
use Rattle.mmgc.specs.Walking.{IsWalked}
use Rattle.mmgc.proofs.Pacing.Walked.{walked}
use Rattle.mmgc.proofs.work.work_of.Goals as goal

pub returns : goal.returns
returns c a good shows =
    walked c.args.heap.now c.walk.result
    (subst (λ (h : Heap). IsWalked (views_of h.objects) c.walk.result) c.heap.ensures.value c.walk.ensures) a good shows
