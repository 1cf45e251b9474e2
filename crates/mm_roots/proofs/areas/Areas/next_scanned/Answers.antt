use Rattle.std.proofs.Common.{◌≡◌, ◌+◌, [], ◌++◌, Option, Some, None, MatchOption, get_or, sym, ap, ◌∙◌, subst, arith}
use Rattle.mm_roots.specs.declared.area_shape.AreaShape.{AreaShape}
use Rattle.mm_roots.specs.declared.area_shape.ScannedArea.{ScannedArea}
use Rattle.mm_roots.specs.Areas.{Areas, IsSoundAreas}
use Rattle.mm_roots.specs.Kept.{NoneScannedFrom, IsNextScanned}
use Rattle.mm_roots.specs.Views.{cell_words, area_words, scanned_words_from}
use Rattle.mm_roots.proofs.ScannedWords.{scanned-none, scanned-next}
use Rattle.mm_roots.proofs.areas.Areas.next_scanned.Goals as goal

pub returns-in_err-number-clause-words : goal.returns-in_err-number-clause-words
returns-in_err-number-clause-words c = λ raw.
    let a = c.args.self.now in
    let from = c.args.from in
    let none = scanned-none a raw from
    (subst (λ (v : Areas). NoneScannedFrom v.areas from) c.self.view_is c.in_err-number.ensures) in
    subst (λ (found : Option ScannedArea). MatchOption found (scanned_words_from a raw from ≡ [])
    (λ area. scanned_words_from a raw from
    ≡ cell_words raw area.base area.cells ++ scanned_words_from a raw (area.number + 1)))
    (sym c.from_residual.ensures) none

pub returns-clause-words : goal.returns-clause-words
returns-clause-words c = λ raw.
    let a = c.args.self.now in
    let sound = subst IsSoundAreas c.self.view_is c.self.invariant.sound in
    let next = subst (λ (v : Areas). IsNextScanned v.areas c.args.from c.in_ok-number.number) c.self.view_is
    c.in_ok-number.ensures in
    let told : get_or a.areas c.in_ok-number.number None ≡ Some c.in-Some.area =
    subst (λ (v : Areas). get_or v.areas c.in_ok-number.number None ≡ Some c.in-Some.area) c.self.view_is
    (sym c.area.ensures ∙ c.in-Some.is) in
    let both = sym next.lives ∙ told in
    let same : next.area ≡ c.in-Some.area = cc in
    scanned-next a raw c.args.from c.in_ok-number.number next (omega (arith, next.below, sound.entries))
    ∙ ap (λ (area : AreaShape). area_words raw area ++ scanned_words_from a raw (c.in_ok-number.number + 1)) same
