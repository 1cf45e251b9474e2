-- Each part of the view is what is kept.
use Rattle.std.proofs.Common.{◌==◌, length, sym, ap, ◌∙◌}
use Rattle.mm_model.specs.Views.View.{View}
use Rattle.mm_model.specs.Views.ViewWords.{outside_references}
use Rattle.mm_audit.specs.Counts.{zeros_in}
use Rattle.mm_audit.proofs.Zeros.{zeros-right}
use Rattle.mm_audit.proofs.laws.parts_show_a_view.Goals as goal

pub returns-clause-one : goal.returns-clause-one
returns-clause-one c parts view other p q = p.shown ∙ sym q.shown

pub returns-clause-zeros : goal.returns-clause-zeros
returns-clause-zeros c parts view p = ap zeros_in p.counts ∙ zeros-right view.objects (outside_references view)

pub returns-clause-full : goal.returns-clause-full
returns-clause-full c parts view p =
    ap (λ limit. length parts.stack.words == limit) p.limit
    ∙ ap (λ (v : View). length v.stack == view.settings.stack) (sym p.shown)
