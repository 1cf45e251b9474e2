use Rattle.std.proofs.Common.{ap, arith}
use Rattle.mm_mark.specs.Marker.{Marker}
use Rattle.mm_mark.proofs.Tidied.{begun-few}
use Rattle.mm_mark.proofs.Grayed.{white-known}
use Rattle.mm_object.specs.Object.{views_of}
use Rattle.mm_mark.proofs.marker.Marker.begin.Goals as goal

pub shade_roots-requires-clause-known : goal.shade_roots-requires-clause-known
shade_roots-requires-clause-known g c = white-known c.start.new.self (views_of c.args.heap.now.objects) c.requires.white

pub returns-clause-few : goal.returns-clause-few
returns-clause-few g c = λ room.
    let same = ap (λ (m : Marker). m.room) c.start.ensures in
    c.shade_roots.ensures.few 0
    (begun-few c.start.new.self c.args.heap.now (omega (arith, room, same))
    (ap (λ (m : Marker). m.left_out) c.start.ensures)
    (ap (λ (m : Marker). m.queue) c.start.ensures) (ap (λ (m : Marker). m.partly) c.start.ensures))
