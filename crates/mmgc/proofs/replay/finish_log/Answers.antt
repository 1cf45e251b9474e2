use Rattle.std.proofs.Common.{◌≡◌, true, false, cond, refl, sym, ap}
use Rattle.mm_model.proofs.Lists.Keyed.{refuted}
use Rattle.mmgc.specs.declared.replay.End.TheVariants.{WriteFailed}
use Rattle.mmgc.proofs.replay.finish_log.Goals as goal

differ : false ≡ true → ⊥
differ e = cc

pub returns-in-Ok-clause-ends : goal.returns-in-Ok-clause-ends
returns-in-Ok-clause-ends g c =
    let whole : c.finish.new.self.broken ≡ false = refuted c.finish.new.self.broken
    (λ e. differ (c.in-Ok.ensures.broken.1 e)) in
    ap (λ b. cond b WriteFailed c.args.end) (sym whole)

pub returns-in-Err-clause-ends : goal.returns-in-Err-clause-ends
returns-in-Err-clause-ends g c =
    let broken : c.finish.new.self.broken ≡ true = c.in-Err.ensures.broken.0 refl in
    ap (λ b. cond b WriteFailed c.args.end) (sym broken)
