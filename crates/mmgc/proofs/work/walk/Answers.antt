use Rattle.std.proofs.Common.{◌+◌, ap, arith, subst, sym, ◌∙◌}
use Rattle.mm_cells.specs.Cells.{Cells, IsNextTaken, NoneTakenFrom}
use Rattle.mm_object.specs.Object.{views_of}
use Rattle.mmgc.specs.Walking.{work_below}
use Rattle.mmgc.proofs.Pacing.Walked.{taken-object, walk-all, walk-inside, walk-next, work_below-none}
use Rattle.mmgc.proofs.work.walk.Goals as goal

pub loop-base-init : goal.loop-base-init
loop-base-init g c =
    record {
      counted = sym (work_below-none (views_of c.args.heap.now.objects));
      fits = omega arith;
      within = omega arith;
    }

pub work_at-work-requires : goal.work_at-work-requires
work_at-work-requires g c =
    let next = subst (λ (v : Cells). IsNextTaken v c.loop-base.from c.in-Some.base) c.cells.ensures.cells
    c.in-Some.ensures.base in
    taken-object c.args.heap.now c.cells.ensures.sound c.in-Some.base next.cell next.begins

pub overflow_add-work : goal.overflow_add-work
overflow_add-work g c =
    let next = subst (λ (v : Cells). IsNextTaken v c.loop-base.from c.in-Some.base) c.cells.ensures.cells
    c.in-Some.ensures.base in
    let o = taken-object c.args.heap.now c.cells.ensures.sound c.in-Some.base next.cell next.begins in
    let inside = walk-inside c.args.heap.now c.cells.ensures.sound c.in-Some.base o.0 o.1 in
    let fits = c.loop-base.invariant.fits in
    let within = c.loop-base.invariant.within in
    let own = c.work_at-work.ensures.fits o.0 o.1 in
    omega (arith, inside, fits, within, own)

pub extent-requires : goal.extent-requires
extent-requires g c =
    let next = subst (λ (v : Cells). IsNextTaken v c.loop-base.from c.in-Some.base) c.cells.ensures.cells
    c.in-Some.ensures.base in
    taken-object c.args.heap.now c.cells.ensures.sound c.in-Some.base next.cell next.begins

pub overflow_add-from : goal.overflow_add-from
overflow_add-from g c =
    let next = subst (λ (v : Cells). IsNextTaken v c.loop-base.from c.in-Some.base) c.cells.ensures.cells
    c.in-Some.ensures.base in
    let o = taken-object c.args.heap.now c.cells.ensures.sound c.in-Some.base next.cell next.begins in
    let inside = walk-inside c.args.heap.now c.cells.ensures.sound c.in-Some.base o.0 o.1 in
    let extent = c.extent.ensures.extent o.0 o.1 in
    omega (arith, inside, extent)

pub loop-base-smaller : goal.loop-base-smaller
loop-base-smaller g c =
    let next = subst (λ (v : Cells). IsNextTaken v c.loop-base.from c.in-Some.base) c.cells.ensures.cells
    c.in-Some.ensures.base in
    let o = taken-object c.args.heap.now c.cells.ensures.sound c.in-Some.base next.cell next.begins in
    let inside = walk-inside c.args.heap.now c.cells.ensures.sound c.in-Some.base o.0 o.1 in
    let room = c.cells.ensures.sound.room c.in-Some.base o.0 o.1 in
    let reached = next.reached in
    let extent = c.extent.ensures.extent o.0 o.1 in
    omega (arith, inside, room, reached, extent)

pub loop-base-preserved : goal.loop-base-preserved
loop-base-preserved g c =
    let before = c.loop-base.invariant in
    let next = subst (λ (v : Cells). IsNextTaken v c.loop-base.from c.in-Some.base) c.cells.ensures.cells
    c.in-Some.ensures.base in
    let o = taken-object c.args.heap.now c.cells.ensures.sound c.in-Some.base next.cell next.begins in
    let inside = walk-inside c.args.heap.now c.cells.ensures.sound c.in-Some.base o.0 o.1 in
    let more = walk-next c.args.heap.now c.cells.ensures.sound c.loop-base.from c.in-Some.base next o.0 o.1 in
    let own = c.work_at-work.ensures.work o.0 o.1 in
    let own_fits = c.work_at-work.ensures.fits o.0 o.1 in
    let extent = c.extent.ensures.extent o.0 o.1 in
    let reached = next.reached in
    record {
      counted = (λ i. before.counted i + own i) ∙ sym more
          ∙ ap (λ n. work_below (c.in-Some.base + n) (views_of c.args.heap.now.objects)) (sym extent);
      fits = omega (arith, before.fits, own_fits, extent, reached);
      within = omega (arith, inside, extent);
    }

pub returns : goal.returns
returns g c =
    record {
      end = c.loop-base.from;
      behind_all = walk-all c.args.heap.now c.cells.ensures.sound c.loop-base.from
          (subst (λ (v : Cells). NoneTakenFrom v c.loop-base.from) c.cells.ensures.cells c.in_default.ensures.base);
      work_is = c.loop-base.invariant.counted;
    }
