use Rattle.std.proofs.Common.{Ok}
use Rattle.std.proofs.lemmas.Result.{err_from_is_err_and}
use Rattle.mm_model.specs.declared.command.Command.TheVariants as commands
use Rattle.mm_gc.specs.Gc.{view_of_gc}
use Rattle.mm_gc.proofs.Pushing.{full-answers, done-answers}
use Rattle.mm_gc.proofs.Rows.Cells.{push-full, push-row}
use Rattle.mm_gc.proofs.gc.Gc.push.Goals as goal

pub returns-in_err-push_word : goal.returns-in_err-push_word
returns-in_err-push_word c =
    let old = c.args.self.now in
    let p = err_from_is_err_and c.from_residual.result c.from_residual.ensures.1 in
    rw (p.1, p.2) (record {
      row = full-answers old c.push_word.new.self c.args.w (commands.Push c.args.w)
          (push-full (view_of_gc old) c.args.w) c.in_err-push_word.field-0.0 c.in_err-push_word.ensures;
    })

pub returns : goal.returns
returns c =
    let old = c.args.self.now in
    record {
      row = done-answers old c.push_word.new.self c.args.w (commands.Push c.args.w)
          (push-full (view_of_gc old) c.args.w) (Ok c.in_ok-push_word.field-0) c.in_ok-push_word.ensures
          (push-row (view_of_gc old) c.args.w);
    }
