-- The next object becomes white. Those below it are white already.
use Rattle.std.proofs.Common.{Some, refl, sym, ap, ◌∙◌, subst, arith}
use Rattle.std.proofs.lemmas.Option.{slice_get_within}
use Rattle.mm_model.specs.Views.ByBase.{Begins, with_entry}
use Rattle.mm_model.specs.Views.ObjectView.{ObjectsByBase}
use Rattle.mm_audit.specs.Objects.{IsNextObject, NoObjectFrom, grays_in}
use Rattle.mm_audit.proofs.Whitening.{white_object, none-below, next-white, all-white, white-none_gray}
use Rattle.mm_audit.proofs.objects.Objects.whiten.Goals as goal

pub loop-base-init : goal.loop-base-init
loop-base-init c =
    record { aligned = refl; inside = omega arith; white = sym (none-below c.args.self.now); size = refl }

pub overflow_add-from : goal.overflow_add-from
overflow_add-from c = let small = c.in-Some.ensures.small in omega arith

pub loop-base-smaller : goal.loop-base-smaller
loop-base-smaller c =
    let next = c.in-Some.ensures.next in
    let reached = next.reached in
    let begins = next.is.begins in
    let at = begins.aligned in
    let within = slice_get_within c.loop-base.self begins.grain (Some next.is.object) begins.is in
    let size = c.colour.ensures.size in
    omega arith

pub loop-base-preserved : goal.loop-base-preserved
loop-base-preserved c =
    let next = c.in-Some.ensures.next in
    let base = c.in-Some.base in
    let object = next.is.object in
    let begins = next.is.begins in
    let at = begins.aligned in
    let within = slice_get_within c.loop-base.self begins.grain (Some object) begins.is in
    let size = c.colour.ensures.size in
    let shown = c.loop-base.invariant.white in
    record {
      aligned = omega arith;
      inside = omega arith;
      white = c.colour.ensures.coloured object begins
          ∙ ap (with_entry base (Some (white_object object))) shown
          ∙ next-white c.args.self.now c.loop-base.from base object
          (subst (λ (v : ObjectsByBase). IsNextObject v c.loop-base.from base) shown next)
          (subst (λ (v : ObjectsByBase). Begins v base object) shown begins);
      size = size ∙ c.loop-base.invariant.size;
    }

pub returns-clause-white : goal.returns-clause-white
returns-clause-white c =
    let shown = c.loop-base.invariant.white in
    shown
    ∙ all-white c.args.self.now c.loop-base.from
    (subst (λ (v : ObjectsByBase). NoObjectFrom v c.loop-base.from) shown c.in_default.ensures.next)

pub returns-clause-none_gray : goal.returns-clause-none_gray
returns-clause-none_gray c = ap grays_in (returns-clause-white c) ∙ white-none_gray c.args.self.now
