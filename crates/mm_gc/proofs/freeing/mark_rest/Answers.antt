use Rattle.std.proofs.Common.{◌≡◌, ap, ◌∙◌, arith}
use Rattle.mm_object.specs.Object.{views_of}
use Rattle.mm_mark.specs.Colours.{root_words}
use Rattle.mm_mark.specs.Marker.{Marker}
use Rattle.mm_mark.specs.Draining.{unscanned}
use Rattle.mm_mark.proofs.Potential.{unscanned-grayed}
use Rattle.mm_gc.proofs.Colours.AlikeHeaps.{views-alike}
use Rattle.mm_gc.proofs.Marking.FinishCost.{scanned-blackened}
use Rattle.mm_gc.proofs.Marking.Marked.{finishes-marked, all_done-shaded}
use Rattle.mm_gc.proofs.freeing.mark_rest.Goals as goal

pub drain-requires-clause-done : goal.drain-requires-clause-done
drain-requires-clause-done g c =
    all_done-shaded c.args.heap.now c.rescan.new.heap (root_words c.args.stack.now c.args.areas.now c.args.heap.now)
    c.rescan.ensures.grayed c.args.marker.now.partly c.rescan.new.self.partly
    (ap (λ (m : Marker). m.partly) c.rescan.ensures.cycle) c.requires.done

pub returns-clause-unmarked : goal.returns-clause-unmarked
returns-clause-unmarked g c dead bases =
    finishes-marked c.args.heap.now c.rescan.new.heap c.drain.new.heap
    (root_words c.args.stack.now c.args.areas.now c.args.heap.now) c.rescan.ensures.grayed c.drain.ensures.drained
    dead bases

pub returns-clause-cost : goal.returns-clause-cost
returns-clause-cost g c stale few dead bases =
    let words = root_words c.args.stack.now c.args.areas.now c.args.heap.now in
    let before = views_of c.args.heap.now.objects in
    let after = views_of c.drain.new.heap.objects in
    let drained = c.drain.ensures.cost stale (c.rescan.ensures.few stale few) in
    let shaded : unscanned (views_of c.rescan.new.heap.objects) ≡ unscanned before =
    ap unscanned c.rescan.ensures.grayed.grayed ∙ unscanned-grayed words before in
    let scanned = scanned-blackened before after
    (views-alike c.args.heap.now c.drain.new.heap (c.drain.ensures.rest ∙ c.rescan.ensures.grayed.rest)) dead bases in
    omega (arith, c.rescan.ensures.cost, drained, shaded, scanned)
