use Rattle.std.proofs.Common.{ap, sym, ◌∙◌}
use Rattle.mm_object.specs.Object.{views_of}
use Rattle.mm_mark.specs.Marker.{Marker}
use Rattle.mm_mark.proofs.Chosen.{none-gray_known}
use Rattle.mm_mark.proofs.marker.Marker.next_left_out.Goals as goal

pub returns-in-None-clause-base : goal.returns-in-None-clause-base
returns-in-None-clause-base g c =
    none-gray_known c.args.self.now (views_of c.args.heap.now.objects) c.requires.empty c.requires.none
    (sym (ap (λ (m : Marker). m.left_out) c.self.view_is) ∙ c.in-None.is) c.requires.known
