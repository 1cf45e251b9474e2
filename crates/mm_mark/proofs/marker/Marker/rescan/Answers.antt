use Rattle.mm_mark.proofs.Grayed.{keeps-grayed}
use Rattle.mm_mark.proofs.marker.Marker.rescan.Goals as goal

pub returns-clause-keeps : goal.returns-clause-keeps
returns-clause-keeps g c =
    keeps-grayed c.args.self.now c.shade_roots.new.self c.args.heap.now c.shade_roots.new.heap _
    c.shade_roots.ensures.cycle c.shade_roots.ensures.grayed c.requires.keeps c.shade_roots.ensures.known
