-- No entry is there.
use Rattle.std.proofs.Common.{None}
use Rattle.mm_sites.proofs.Empty.{replicate_only}
use Rattle.mm_sites.proofs.laws.nothing_is_entered_at_first.Goals as goal

pub returns : goal.returns
returns c settings grains =
    record {
      all = λ birth object site h. let lives = h.lives.is in cc;
      only = λ base entry begins. let none = replicate_only grains None begins.grain _ begins.is in cc;
    }
