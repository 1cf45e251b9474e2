use Rattle.std.proofs.Common.{◌∷◌, [], ◌++◌, refl, subst}
use Rattle.mm_pace.specs.Rules.{rules_at}
use Rattle.mmgc.specs.Keeping.{keeps-trans}
use Rattle.mmgc.specs.Logging.{left_of}
use Rattle.mmgc.specs.Pacing.{AppliesAll, team_of}
use Rattle.mmgc.proofs.Pacing.Driven.{can_drive-after, paces}
use Rattle.mmgc.proofs.pacer.pace_command.Goals as goal

pub apply_rules-requires-clause-ready : goal.apply_rules-requires-clause-ready
apply_rules-requires-clause-ready g c =
    let paid = c.requires.paid in
    let own = c.carry_out.ensures.driven paid.0 paid.1 paid.4 in
    can_drive-after (own.turn ∷ []) 3 paid.4 c.requires.ready.room own.driven _ paid.3
    (own.books paid.2 paid.3 paid.5)

pub apply_rules-requires-clause-last : goal.apply_rules-requires-clause-last
apply_rules-requires-clause-last g c =
    let paid = c.requires.paid in
    let own = c.carry_out.ensures.driven paid.0 paid.1 paid.4 in
    (paid.0, paid.1, own.turn, _, paid.3, own.driven, own.books paid.2 paid.3 paid.5)

pub returns-clause-paced : goal.returns-clause-paced
returns-clause-paced g c settings turns d =
    let own = c.carry_out.ensures.driven settings turns d in
    paces own refl refl (subst (λ rate. AppliesAll (rules_at rate) settings (turns ++ own.turn ∷ [])
    (left_of g.K.Sink.taken (team_of c.apply_rules.new.pace c.apply_rules.new.heap c.apply_rules.new.book)
    c.carry_out.new.book c.carry_out.new.log c.apply_rules.new.log))
    c.carry_out.ensures.rate (c.apply_rules.ensures.applied settings turns own.turn own.driven))

pub returns-clause-kept : goal.returns-clause-kept
returns-clause-kept g c = keeps-trans c.carry_out.ensures.kept c.apply_rules.ensures.kept
