use Rattle.std.proofs.Common.{sym, ap}
use Rattle.mm_c.specs.Finals.{Waiting}
use Rattle.mm_c.proofs.Keeping.{takes-none}
use Rattle.mm_c.proofs.finals.Finals.start_again.Goals as goal

pub returns : goal.returns
returns c =
    takes-none c.args.self.now c.clear.new.self.items c.self.inside.lost c.status_at_end.result c.requires
    (ap (λ (it : Waiting). it.lost) (sym c.self.view_is)) c.clear.ensures.items c.status_at_end.ensures
