use Rattle.std.proofs.Common.{◌≡◌, ℕ, ◌+◌, ◌-◌, ◌^◌, List, arith, sym, ◌∙◌, ap, subst}
use Rattle.mm_pages.specs.Free.{beyond}
use Rattle.mm_pages.specs.Tree.{Shows, IsTree}
use Rattle.mm_pages.proofs.Trees.{Mixed, mixed, none_free, Shows-head, HalvesShow-mixed, HalvesAreTrees-mixed}
use Rattle.mm_pages.proofs.tree.+free_at.Goals as goal

pub returns-then-words-eq0 : goal.returns-then-words-eq0
returns-then-words-eq0 t c = λ pages s. sym (none_free pages (2 ^ c.args.height) _ _ _ c.args.page
    (Shows-head c.args.height pages c.args.words.now s) c.if-words-eq0.true c.requires.within)

pub free_at-requires : goal.free_at-requires
free_at-requires t c =
    let m : Mixed c.args.height c.args.words.now = mixed _ _ c.requires.tree (omega arith) (λ e. omega arith) in
    let tree : IsTree (c.args.height - 1) c.lower_part.result.now =
    subst (λ (x : List ℕ). IsTree (c.args.height - 1) x) (sym c.lower_part.ensures.part)
    (HalvesAreTrees-mixed _ _ m c.requires.tree).low in
    (omega (arith, m.high), (omega arith, (c.lower_part.ensures.sized, (tree, omega arith))))

pub returns-then-page-half : goal.returns-then-page-half
returns-then-page-half t c = λ pages s.
    let m : Mixed c.args.height c.args.words.now = mixed _ _ c.requires.tree (omega arith) (λ e. omega arith) in
    c.free_at.ensures pages (subst (λ (x : List ℕ). Shows pages (c.args.height - 1) x)
    (sym c.lower_part.ensures.part) (HalvesShow-mixed _ pages _ m s).low)

pub returns-else-page-half : goal.returns-else-page-half
returns-else-page-half t c = λ pages s.
    let m : Mixed c.args.height c.args.words.now = mixed _ _ c.requires.tree (omega arith) (λ e. omega arith) in
    let place : 2 ^ (c.args.height - 1) + (c.args.page - c.span_of-half.result) ≡ c.args.page =
    omega (arith, c.span_of-half.ensures) in
    c.free_at-else-page-half.ensures (beyond (2 ^ (c.args.height - 1)) pages)
    (subst (λ (x : List ℕ). Shows (beyond (2 ^ (c.args.height - 1)) pages) (c.args.height - 1) x)
    (sym c.upper_part.ensures.part) (HalvesShow-mixed _ pages _ m s).high)
    ∙ ap pages place
