use Rattle.std.proofs.Common.{sym, ap, ◌∙◌, arith}
use Rattle.std.specs.Option.{option_map}
use Rattle.mm_roots.specs.Areas.{Areas, area_at}
use Rattle.mm_roots.specs.Views.{view_of_area}
use Rattle.mm_roots.proofs.Views.{view_numbered-views_from}
use Rattle.mm_roots.proofs.areas.Areas.shape.Goals as goal

pub returns-clause-view : goal.returns-clause-view
returns-clause-view c = λ raw.
    view_numbered-views_from raw 0 c.args.a c.args.a c.args.self.now.areas (omega arith)
    ∙ ap (option_map (view_of_area raw c.args.a))
    (ap (λ (a : Areas). area_at a c.args.a) (sym c.self.view_is) ∙ sym c.area.ensures)
