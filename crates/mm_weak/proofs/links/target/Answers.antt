use Rattle.std.proofs.Common.{sym, subst, ◌∙◌, ℕ}
use Rattle.mm_weak.specs.Links.{IsTargetOf}
use Rattle.mm_weak.proofs.Couples.{couple-of_weak, target-of_couple}
use Rattle.mm_weak.proofs.links.target.Goals as goal

pub returns-clause-lives : goal.returns-clause-lives
returns-clause-lives g c =
    λ some.
    let weak = c.requires.weak in
    let link = c.link.ensures.word weak.object weak.begins in
    let couple =
    couple-of_weak c.args.heap.now c.args.w weak.object c.requires.linked weak.begins weak.kind
    (λ none. some (link ∙ none)) in
    subst (λ (n : ℕ). IsTargetOf c.args.heap.now c.args.w n) (sym link)
    (target-of_couple c.args.heap.now weak.object.link c.args.w couple)
