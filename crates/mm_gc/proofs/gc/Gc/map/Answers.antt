use Rattle.std.proofs.Common.{◌≡◌, Some, sym, subst}
use Rattle.std.proofs.lemmas.Result.{err_from_is_err_and}
use Rattle.std.specs.Prelude.{slice_get}
use Rattle.mm_model.specs.declared.command.Command.TheVariants as commands
use Rattle.mm_model.specs.declared.reply.Reply.TheVariants as replies
use Rattle.mm_gc.specs.Gc.{Gc, view_of_gc}
use Rattle.mm_gc.specs.Inside.{gc_of}
use Rattle.mm_gc.specs.Rows.{Answers}
use Rattle.mm_gc.proofs.Meaning.{meant-covers, meant-none, map-found, map-none}
use Rattle.mm_gc.proofs.Pushing.{no_cell-answers}
use Rattle.mm_gc.proofs.Rows.Reading.{map-no_cell}
use Rattle.mm_gc.proofs.gc.Gc.map.Goals as goal

pub returns-in_err-word-clause-row : goal.returns-in_err-word-clause-row
returns-in_err-word-clause-row g c =
    let gc = c.args.self.now in
    let p = err_from_is_err_and c.from_residual.result c.from_residual.ensures.1 in
    rw (p.1, p.2)
    (no_cell-answers gc c.args.i (commands.Map c.args.i) c.in_err-word.field-0.0 c.in_err-word.ensures.answer
    (map-no_cell (view_of_gc gc) c.args.i))

pub returns-in-Some-clause-row : goal.returns-in-Some-clause-row
returns-in-Some-clause-row g c =
    let gc = gc_of c.self.inside in
    let found = c.in-Some.ensures.found in
    let cell = subst (λ (gc : Gc). slice_get gc.stack.words c.args.i ≡ Some c.in_ok-word.word) (sym c.self.view_is)
    c.in_ok-word.ensures.answer in
    let meant = meant-covers gc c.args.i c.in_ok-word.word c.in-Some.found found.0 c.self.invariant.shown cell found.1
    found.2 in
    subst
    (λ (gc : Gc). Answers gc gc (commands.Map c.args.i) (replies.Object (record {
      base = c.in-Some.found.base;
      kind = c.in-Some.found.shape.kind;
      finalize = c.in-Some.found.shape.finalize;
      extent = c.extent.result;
    })))
    c.self.view_is
    (map-found gc c.args.i c.in_ok-word.word c.extent.result c.in-Some.found meant
    (c.extent.ensures.extent meant.object meant.begins))

pub returns-in-None-clause-row : goal.returns-in-None-clause-row
returns-in-None-clause-row g c =
    let gc = gc_of c.self.inside in
    let cell = subst (λ (gc : Gc). slice_get gc.stack.words c.args.i ≡ Some c.in_ok-word.word) (sym c.self.view_is)
    c.in_ok-word.ensures.answer in
    subst (λ (gc : Gc). Answers gc gc (commands.Map c.args.i) replies.Nothing) c.self.view_is
    (map-none gc c.args.i (meant-none gc c.args.i c.in_ok-word.word cell c.in-None.ensures.found))
