use Rattle.std.proofs.Common.{subst, arith}
use Rattle.mm_model.specs.declared.command.Command.TheVariants as commands
use Rattle.mm_model.specs.declared.refusal.Refusal.TheVariants as refusals
use Rattle.mm_model.specs.declared.reply.Reply.TheVariants as replies
use Rattle.mm_gc.specs.Gc.{Gc, view_of_gc}
use Rattle.mm_gc.specs.Inside.{gc_of}
use Rattle.mm_gc.specs.Rows.{Answers}
use Rattle.mm_gc.proofs.Pushing.{refused-answers, pop-keeps, pop-answers}
use Rattle.mm_gc.proofs.Rows.Cells.{pop-no_cell}
use Rattle.mm_gc.proofs.gc.Gc.pop.Goals as goal

pub returns-then-depth-k : goal.returns-then-depth-k
returns-then-depth-k c =
    let gc = gc_of c.self.inside in
    record {
      row = subst (λ (gc : Gc). Answers gc gc (commands.Pop c.args.k) (replies.Refused refusals.NoCell)) c.self.view_is
          (refused-answers gc (commands.Pop c.args.k) refusals.NoCell
          (pop-no_cell (view_of_gc gc) c.args.k (omega (arith, c.depth.ensures.value, c.if-depth-k.true))));
    }

pub invariant_of-self : goal.invariant_of-self
invariant_of-self c =
    pop-keeps (gc_of c.self.inside) c.args.k c.pop.new.self c.self.invariant
    (omega (arith, c.depth.ensures.value, c.if-depth-k.false)) c.pop.ensures

pub returns : goal.returns
returns c =
    let gc = gc_of c.self.inside in
    let after = record gc { stack = c.pop.new.self } in
    record {
      row = subst (λ (old : Gc). Answers old after (commands.Pop c.args.k) replies.Done) c.self.view_is
          (pop-answers gc c.args.k c.pop.new.self (omega (arith, c.depth.ensures.value, c.if-depth-k.false))
          c.pop.ensures);
    }
