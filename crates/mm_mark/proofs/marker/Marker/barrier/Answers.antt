use Rattle.std.proofs.Common.{◌∙◌, ap}
use Rattle.mm_mark.specs.Marker.{Marker, marking}
use Rattle.mm_mark.proofs.Barred.{barred-shown, unbarred-shown, passed-viewed}
use Rattle.mm_mark.proofs.Grayed.{keeps-grayed}
use Rattle.mm_mark.proofs.marker.Marker.barrier.Goals as goal

pub returns-then-has_passed-clause-barred : goal.returns-then-has_passed-clause-barred
returns-then-has_passed-clause-barred g c = λ view shows object begins.
    barred-shown (marking c.args.self.now c.args.heap.now) view c.args.holder c.args.s c.args.word object shows
    (marking c.shade.new.self c.shade.new.heap)
    (passed-viewed c.args.heap.now c.args.self.now view c.args.holder c.args.s c.has_passed.result shows.shown
    c.has_passed.ensures.passed object begins ∙ c.if-has_passed.true)
    c.shade.ensures.grayed.grayed (ap (λ (m : Marker). m.partly) c.shade.ensures.cycle)

pub returns-then-has_passed-clause-keeps : goal.returns-then-has_passed-clause-keeps
returns-then-has_passed-clause-keeps g c =
    keeps-grayed c.args.self.now c.shade.new.self c.args.heap.now c.shade.new.heap _ c.shade.ensures.cycle
    c.shade.ensures.grayed c.requires.keeps c.shade.ensures.known

pub returns-else-has_passed-clause-barred : goal.returns-else-has_passed-clause-barred
returns-else-has_passed-clause-barred g c = λ view shows object begins.
    unbarred-shown (marking c.args.self.now c.args.heap.now) view c.args.holder c.args.s c.args.word object shows
    (passed-viewed c.args.heap.now c.args.self.now view c.args.holder c.args.s c.has_passed.result shows.shown
    c.has_passed.ensures.passed object begins ∙ c.if-has_passed.false)
