use Rattle.std.proofs.Common.{◌++◌, length-append, refl, ◌∙◌, arith}
use Rattle.std.proofs.lemmas.Result.{err_from_is_err_and}
use Rattle.mmgc.proofs.Replays.{does-too_long}
use Rattle.mmgc.proofs.replay.Replay.take_joined.Goals as goal

pub returns-in_err-extend-clause-done : goal.returns-in_err-extend-clause-done
returns-in_err-extend-clause-done g c =
    let p = err_from_is_err_and c.from_residual.result c.from_residual.ensures.1 in
    let held = c.args.self.now.cutter in
    let rest = c.args.rest.now in
    let long = c.in_err-extend.ensures.too_long.0 refl in
    rw (p.1, p.2, c.in_err-extend.ensures.fault)
    (does-too_long _ _ (held ++ rest) (omega (arith, length-append held rest, long)) (refl, refl, refl))

pub returns-clause-done : goal.returns-clause-done
returns-clause-done g c = rw (c.bytes.ensures.value ∙ c.in_ok-extend.ensures.held) at c.take_line-taken.ensures.done
