-- No run begins below the vacant pages at which the search is.
use Rattle.std.proofs.Common.{subst, arith}
use Rattle.mm_audit.specs.Bits.{NoneFrom, IsNext}
use Rattle.mm_audit.specs.Places.{PlaceMarks}
use Rattle.mm_audit.proofs.LowestPlaces.{none-behind, none-from, too-late, run-found, run-passed}
use Rattle.mm_audit.proofs.places.Places.lowest_run.Goals as goal

pub returns-in_default-clause-run : goal.returns-in_default-clause-run
returns-in_default-clause-run c =
    let v = c.args.self.now.vacant in
    none-behind v c.args.limit c.args.count c.requires.some c.loop-first.first c.loop-first.invariant.none
    (none-from v c.args.limit c.args.count c.requires.some c.loop-first.first
    (subst (λ (m : PlaceMarks). NoneFrom m.vacant c.loop-first.first) c.self.view_is c.in_default.ensures))

pub returns-then-limit-count-2-clause-run : goal.returns-then-limit-count-2-clause-run
returns-then-limit-count-2-clause-run c =
    let v = c.args.self.now.vacant in
    let late = c.if-limit-count-2.true in
    none-behind v c.args.limit c.args.count c.requires.some c.loop-first.first c.loop-first.invariant.none
    (too-late v c.args.limit c.args.count c.requires.some c.loop-first.first c.in-Some.page
    (subst (λ (m : PlaceMarks). IsNext m.vacant c.loop-first.first c.in-Some.page) c.self.view_is c.in-Some.ensures)
    (omega (arith, late)))

pub returns-then-page-count-clause-run : goal.returns-then-page-count-clause-run
returns-then-page-count-clause-run c =
    let v = c.args.self.now.vacant in
    let in_time = c.if-limit-count-2.false in
    let fits = c.if-limit-count.false in
    run-found v c.args.limit c.args.count c.requires.some c.loop-first.first c.in-Some.page c.run_end-end.result
    c.loop-first.invariant.some c.loop-first.invariant.none
    (subst (λ (m : PlaceMarks). IsNext m.vacant c.loop-first.first c.in-Some.page) c.self.view_is c.in-Some.ensures)
    c.run_end-end.ensures (omega (arith, in_time, fits)) c.if-page-count.true

pub loop-first-preserved : goal.loop-first-preserved
loop-first-preserved c =
    let v = c.args.self.now.vacant in
    let reached = c.in-Some.ensures.reached in
    let ended = c.run_end-end.ensures.reached in
    let some = c.loop-first.invariant.some in
    record {
      some = omega arith;
      none = run-passed v c.args.limit c.args.count c.requires.some c.loop-first.first c.in-Some.page
          c.run_end-end.result c.loop-first.invariant.none
          (subst (λ (m : PlaceMarks). IsNext m.vacant c.loop-first.first c.in-Some.page) c.self.view_is
          c.in-Some.ensures)
          c.run_end-end.ensures c.if-page-count.false;
    }

pub returns-clause-run : goal.returns-clause-run
returns-clause-run c =
    let v = c.args.self.now.vacant in
    let past = c.loop-first-test.false in
    none-behind v c.args.limit c.args.count c.requires.some c.loop-first.first c.loop-first.invariant.none
    (λ page from run. let to = run.to in let some = c.requires.some in absurd (omega arith))
