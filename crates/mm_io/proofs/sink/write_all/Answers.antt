use Rattle.std.proofs.Common.{◌≡◌, arith, ap, sym, subst, length, take, Result, Ok, Err, ◌∙◌}
use Rattle.std.proofs.Math.Seq.{take-length}
use Rattle.std.specs.Prelude.{OnErr}
use Rattle.std.proofs.lemmas.Grind.{common_steps}
use Rattle.mm_io.specs.Told.{KeepsFirst}
use Rattle.mm_io.proofs.Pieces.{front_grows, kept_front_grows}
use Rattle.mm_io.proofs.ToldLemmas.{StillTells-append}
use Rattle.mm_io.proofs.sink.write_all.Goals as goal

on_err : {T E P : Type 0} (result : Result T E) → P → OnErr result P
on_err (Ok value) p = tt
on_err (Err error) p = p

pub loop-at-preserved : goal.loop-at-preserved
loop-at-preserved g c =
    let before = c.loop-at.invariant in
    let write = c.in_ok-at.ensures in
    record {
      within = grind (arith, common_steps, write.within);
      front = front_grows _ _ _ _ _ _ before.front (grind (arith, common_steps, write.appended));
      keeps =
          kept_front_grows _ _ _ _ _ _ _ before.keeps
          (rw (← before.same_room) (grind (arith, common_steps, write.kept)));
      told = StillTells-append _ _ _ _ _ _ (take c.loop-at.at c.args.bytes.now) (grind (arith, common_steps))
          before.front before.told (rw before.same_room at write.told);
      same_room = write.same_room ∙ before.same_room;
      untouched = λ none. absurd (omega (arith, write.some, none));
      no_fault = write.faults.unraised ∙ before.no_fault;
    }

pub returns-in_err-at-clause-front_kept : goal.returns-in_err-at-clause-front_kept
returns-in_err-at-clause-front_kept g c =
    on_err c.from_residual.result (
      c.loop-at.at,
      subst (λ kept. KeepsFirst (g.K.Sink.room c.args.sink.now) (g.K.Sink.kept c.args.sink.now) kept
          (take c.loop-at.at c.args.bytes.now)) (sym c.in_err-at.ensures.failed_kept) c.loop-at.invariant.keeps,
    )

pub returns-clause-kept : goal.returns-clause-kept
returns-clause-kept g c =
    let whole : c.loop-at.at ≡ length c.args.bytes.now =
    omega (arith, c.loop-at.invariant.within, c.loop-at-test.false) in
    subst (KeepsFirst (g.K.Sink.room c.args.sink.now) (g.K.Sink.kept c.args.sink.now) (g.K.Sink.kept c.loop-at.sink))
    (ap (λ n. take n c.args.bytes.now) whole ∙ take-length c.args.bytes.now) c.loop-at.invariant.keeps
