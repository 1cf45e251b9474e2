use Rattle.std.proofs.Common.{Some, sym, ap, ◌∙◌}
use Rattle.mm_weak.proofs.Partners.{partner-link, partner-no_link}
use Rattle.mm_weak.proofs.links.partner.Goals as goal

pub returns-then-link-eq0-clause-partner : goal.returns-then-link-eq0-clause-partner
returns-then-link-eq0-clause-partner g c =
    λ object begins.
    sym (partner-no_link object (sym (c.link-link.ensures.word object begins) ∙ c.if-link-eq0.true))

pub returns-else-link-eq0-clause-partner : goal.returns-else-link-eq0-clause-partner
returns-else-link-eq0-clause-partner g c =
    λ object begins.
    let link = c.link-link.ensures.word object begins in
    ap Some link ∙ sym (partner-link object (λ none. c.if-link-eq0.false (link ∙ none)))
