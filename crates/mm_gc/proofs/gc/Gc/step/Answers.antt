use Rattle.std.proofs.Common.{◌≡◌, true, sym, ap, ◌∙◌, subst, arith}
use Rattle.mm_model.specs.declared.command.Command.TheVariants as commands
use Rattle.mm_model.specs.declared.refusal.Refusal.TheVariants as refusals
use Rattle.mm_model.specs.declared.reply.Reply.TheVariants as replies
use Rattle.mm_gc.specs.Gc.{Gc, freed_since, view_of_gc}
use Rattle.mm_gc.specs.Kept.{KeepsGc}
use Rattle.mm_gc.specs.Inside.{gc_of}
use Rattle.mm_gc.specs.Rows.{Tells}
use Rattle.mm_gc.proofs.Marking.Begun.{runs-told, idle-told}
use Rattle.mm_gc.proofs.Rows.Phases.{step-idle}
use Rattle.mm_gc.proofs.Marking.Stepping.{tells-scanned}
use Rattle.mm_gc.proofs.Keeping.Untouched.{tells-refused}
use Rattle.mm_gc.proofs.gc.Gc.step.Goals as goal

pub returns-then-not-running-clause-row : goal.returns-then-not-running-clause-row
returns-then-not-running-clause-row g c =
    let gc = gc_of c.self.inside in
    let command = commands.Step c.args.k in
    subst (λ (gc : Gc). Tells gc gc command (replies.Refused refusals.Idle)
    (g.J.Finalizer.tells c.args.journal.now c.args.journal.now)) c.self.view_is
    (tells-refused gc command refusals.Idle (g.J.Finalizer.tells c.args.journal.now c.args.journal.now)
    (g.met.J.Finalizer.tells_nothing c.args.journal.now)
    (step-idle (view_of_gc gc) c.args.k (idle-told gc (sym c.running.ensures ∙ c.if-not-running.true))))

pub returns-clause-row : goal.returns-clause-row
returns-clause-row g c =
    let runs : c.args.self.now.marker.running ≡ true =
    ap (λ (gc : Gc). gc.marker.running) (sym c.self.view_is) ∙ sym c.running.ensures ∙ c.if-not-running.false in
    tells-scanned c.args.self.now c.scan_for.new.self c.args.k
    (g.J.Finalizer.tells c.args.journal.now c.scan_for.new.journal)
    (runs-told c.args.self.now runs) c.scan_for.ensures.scans

pub returns-clause-cost : goal.returns-clause-cost
returns-clause-cost g c = λ room.
    let runs : c.args.self.now.marker.running ≡ true =
    ap (λ (gc : Gc). gc.marker.running) (sym c.self.view_is) ∙ sym c.running.ensures ∙ c.if-not-running.false in
    let keeps = subst KeepsGc c.self.view_is c.self.invariant in
    let cost = c.scan_for.ensures.cost (freed_since c.args.self.now) (keeps.marking.few runs room) in
    omega (arith, cost)
