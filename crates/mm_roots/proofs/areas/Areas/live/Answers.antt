use Rattle.std.proofs.Common.{sym, ap, ◌∙◌}
use Rattle.mm_roots.specs.Areas.{live_areas}
use Rattle.mm_roots.proofs.Views.{length-views_from}
use Rattle.mm_roots.proofs.areas.Areas.live.Goals as goal

pub returns-clause-views : goal.returns-clause-views
returns-clause-views c = λ raw.
    c.self.invariant.live ∙ ap live_areas c.self.view_is ∙ sym (length-views_from raw 0 c.args.self.now.areas)
