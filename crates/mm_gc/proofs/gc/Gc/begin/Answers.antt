use Rattle.std.proofs.Common.{◌+◌, ◌*◌, ◌≤◌, [], length, sym, ◌∙◌, subst, ℕ, ◌≡◌, arith}
use Rattle.mm_model.specs.declared.command.Command.TheVariants as commands
use Rattle.mm_model.specs.declared.refusal.Refusal.TheVariants as refusals
use Rattle.mm_model.specs.declared.reply.Reply.TheVariants as replies
use Rattle.mm_model.specs.Views.ViewWords.{marking_words}
use Rattle.mm_gc.specs.Gc.{Gc, view_of_gc}
use Rattle.mm_gc.specs.Inside.{gc_of}
use Rattle.mm_gc.specs.Rows.{Answers}
use Rattle.mm_gc.proofs.Marking.Begun.{white-idle, runs-told}
use Rattle.mm_gc.proofs.Refusals.{row-refused}
use Rattle.mm_gc.proofs.Rows.Phases.{begin-busy}
use Rattle.mm_gc.proofs.Marking.Scanning.{keeps-begun, answers-begun}
use Rattle.mm_gc.proofs.Shown.{row-of}
use Rattle.mm_gc.proofs.gc.Gc.begin.Goals as goal

pub returns-then-running-clause-row : goal.returns-then-running-clause-row
returns-then-running-clause-row g c =
    let gc = gc_of c.self.inside in
    let view = view_of_gc gc in
    subst (λ (gc : Gc). Answers gc gc commands.Begin (replies.Refused refusals.Busy)) c.self.view_is
    (row-of view view commands.Begin [] (replies.Refused refusals.Busy)
    (row-refused view commands.Begin refusals.Busy
    (begin-busy view (runs-told gc (sym c.running.ensures ∙ c.if-running.true)))))

pub begin-requires-clause-white : goal.begin-requires-clause-white
begin-requires-clause-white g c =
    white-idle (gc_of c.self.inside) c.self.invariant (sym c.running.ensures ∙ c.if-running.false)

pub invariant_of-self : goal.invariant_of-self
invariant_of-self g c =
    keeps-begun (gc_of c.self.inside) c.self.invariant c.begin.new.heap c.begin.new.self
    (sym c.running.ensures ∙ c.if-running.false) c.begin.ensures.grayed c.begin.ensures.runs
    (c.begin.ensures.sound c.self.invariant.settled.keeps.sound.heap) c.begin.ensures.keeps.known
    c.begin.ensures.few

pub returns-clause-row : goal.returns-clause-row
returns-clause-row g c =
    let old = gc_of c.self.inside in
    let now : Gc = record old {
      region = record old.region { heap = c.begin.new.heap };
      marker = c.begin.new.self;
      gone_before = old.freed;
    } in
    subst (λ (gc : Gc). Answers gc now commands.Begin replies.Done) c.self.view_is
    (answers-begun old c.self.invariant c.begin.new.heap c.begin.new.self
    (sym c.running.ensures ∙ c.if-running.false) c.begin.ensures.grayed c.begin.ensures.runs)

at_most : (old new words : ℕ) → new ≡ old + 2 * words → new ≤ old + 16 * (1 + words)
at_most old new words is = omega arith

pub returns-clause-cost : goal.returns-clause-cost
returns-clause-cost g c =
    subst (λ (gc : Gc). c.begin.new.steps ≤ c.args.steps.now + 16 * (1 + length (marking_words (view_of_gc gc))))
    c.self.view_is (at_most c.args.steps.now c.begin.new.steps _ c.begin.ensures.cost)
