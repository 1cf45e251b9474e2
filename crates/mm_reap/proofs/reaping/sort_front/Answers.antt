use Rattle.std.proofs.Common.{ℕ, List, length, sym, ap, ◌∙◌, subst}
use Rattle.std.specs.List.Sorted.{IsNonDecreasing}
use Rattle.std.proofs.lemmas.List.Sorted.{IsNonDecreasingBy-from_sort}
use Rattle.mm_reap.proofs.Filled.{front-written, length-front}
use Rattle.mm_reap.proofs.reaping.sort_front.Goals as goal

pub returns-clause-sorted : goal.returns-clause-sorted
returns-clause-sorted c =
    let words = c.args.words.now.words in
    let size = c.sort_unstable.ensures.len ∙ ap length c.part_mut.ensures.value
    ∙ length-front words c.args.k c.requires in
    subst (λ (ws : List ℕ). IsNonDecreasing ws)
    (sym (front-written words c.sort_unstable.new.self c.args.k size c.requires))
    (IsNonDecreasingBy-from_sort (λ x. x) c.sort_unstable.new.self c.sort_unstable.ensures.sorted)
