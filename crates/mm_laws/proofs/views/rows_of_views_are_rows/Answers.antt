use Rattle.std.proofs.Common.{sym, subst}
use Rattle.mm_model.specs.Views.View.{Shows}
use Rattle.mm_model.specs.Views.ViewStep.{IsViewRow}
use Rattle.mm_model.proofs.View.Shown.{shown-is, view_of-shows}
use Rattle.mm_model.proofs.View.Commands.Rows.{row-shown}
use Rattle.mm_laws.proofs.views.rows_of_views_are_rows.Goals as goal

pub returns : goal.returns
returns c =
    λ view a command log left good shows m.
    let one = row-shown a good command log left
    (subst (λ v. IsViewRow v command log left) (shown-is view a shows) m) in (
      one.effect,
      one.row,
      one.same.reply,
      subst (λ v. Shows v one.effect.state) (sym one.same.view)
          (view_of-shows one.effect.state),
    )
