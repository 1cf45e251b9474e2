use Rattle.std.proofs.Common.{sym, ◌∙◌, subst}
use Rattle.mm_model.specs.declared.settings.Settings.{Settings}
use Rattle.mm_model.specs.State.{empty_state}
use Rattle.mm_model.specs.Views.View.{Shows}
use Rattle.mm_gc.specs.Gc.{view_of_gc}
use Rattle.mm_c.specs.Calls.{Opened, Was_open}
use Rattle.mm_c.proofs.Flags.{opened, none}
use Rattle.mm_c.proofs.opening.mm_open.Goals as goal

pub returns-then-is_open : goal.returns-then-is_open
returns-then-is_open c =
    let owned = opened c.args.heap.now.held.value (sym c.is_open.ensures ∙ c.if-is_open.true) in
    Was_open owned.0 owned.1 owned.1 c.number.ensures

pub returns-in-Some : goal.returns-in-Some
returns-in-Some c =
    Opened c.in-Some.owned.value (none c.args.heap.now.held.value (sym c.is_open.ensures ∙ c.if-is_open.false))
    c.restore.ensures
    (subst (λ (settings : Settings). Shows (view_of_gc c.in-Some.owned.value.gc) (empty_state settings))
    c.settings-settings.ensures c.in-Some.ensures.shows)
    c.in-Some.ensures.finals c.number-in-Some.ensures
