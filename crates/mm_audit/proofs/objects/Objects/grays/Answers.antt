-- The number that is kept is right.
use Rattle.std.proofs.Common.{ap, ◌∙◌, sym}
use Rattle.mm_audit.specs.Objects.{grays_in}
use Rattle.mm_audit.proofs.Grays.{grays-shown, grays-none}
use Rattle.mm_audit.proofs.objects.Objects.grays.Goals as goal

pub returns-clause-number : goal.returns-clause-number
returns-clause-number c =
    let s = c.self.inside in
    c.self.invariant.right ∙ grays-shown s.words.items s.entries.items ∙ ap grays_in c.self.view_is

pub returns-clause-none : goal.returns-clause-none
returns-clause-none c =
    let s = c.self.inside in
    let number = c.self.invariant.right ∙ grays-shown s.words.items s.entries.items ∙ ap grays_in c.self.view_is in
    let right = grays-none c.args.self.now in
    (λ e. right.0 (sym number ∙ e), λ none. number ∙ right.1 none)
