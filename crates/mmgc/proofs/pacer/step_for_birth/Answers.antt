use Rattle.std.proofs.Common.{Some, None, [], ◌∷◌, ◌++◌, refl, sym, ◌∙◌}
use Rattle.mmgc.proofs.Pacing.Driven.{applies-none, applies-one, can_drive-paid, driven-paid, no_step-idle}
use Rattle.mmgc.proofs.Pacing.Driven.{running-shown}
use Rattle.mmgc.proofs.Pacing.Driven.{step-due, unpaid-idle}
use Rattle.mmgc.proofs.pacer.step_for_birth.Goals as goal

pub returns-then-not-running-clause-applied : goal.returns-then-not-running-clause-applied
returns-then-not-running-clause-applied g c settings turns turn d =
    let idle = sym (running-shown c.args.heap.now d.carried.state d.carried.shows) ∙ sym c.running.ensures
    ∙ c.if-not-running.true in
    applies-none (no_step-idle turns turn d c.args.pace.now.rate idle) (unpaid-idle d idle)

pub carry_out-requires : goal.carry_out-requires
carry_out-requires g c =
    record {
      ready = can_drive-paid c.step_size.new.self c.requires.ready c.in-Some.ensures.since c.in-Some.ensures.work
          c.in-Some.ensures.last;
    }

pub returns-in-Some-clause-applied : goal.returns-in-Some-clause-applied
returns-in-Some-clause-applied g c settings turns turn d =
    let runs = sym (running-shown c.args.heap.now d.carried.state d.carried.shows) ∙ sym c.running.ensures
    ∙ c.if-not-running.false in
    let asked = c.in-Some.ensures in
    applies-one (step-due turns turn d (Some c.in-Some.k) runs asked.none asked.size) (λ a base. refl)
    (c.carry_out.ensures.driven settings (turns ++ turn ∷ [])
    (driven-paid c.step_size.new.self d asked.since asked.work asked.last))

pub returns-in-None-clause-applied : goal.returns-in-None-clause-applied
returns-in-None-clause-applied g c settings turns turn d =
    let runs = sym (running-shown c.args.heap.now d.carried.state d.carried.shows) ∙ sym c.running.ensures
    ∙ c.if-not-running.false in
    let asked = c.in-None.ensures in
    applies-none (step-due turns turn d None runs asked.none tt)
    (driven-paid c.step_size.new.self d asked.since asked.work asked.last)
