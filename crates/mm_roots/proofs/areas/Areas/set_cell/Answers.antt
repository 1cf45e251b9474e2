use Rattle.std.proofs.Common.{◌+◌, ◌*◌, ap, ◌∙◌, arith}
use Rattle.mm_object.specs.Heap.{Heap, with_raw}
use Rattle.mm_roots.specs.Views.{views_of_areas}
use Rattle.mm_roots.proofs.CellWords.{cells-fit, block-end, block-below, cell-IsRaw, WritesCell-with_raw}
use Rattle.mm_roots.proofs.Views.{views_from-written}
use Rattle.mm_roots.proofs.areas.Areas.set_cell.Goals as goal

pub prove-unreachable-requires : goal.prove-unreachable-requires
prove-unreachable-requires g c =
    let told = c.in-Ok.ensures in
    let below = block-below c.args.self.now told.sound c.args.a c.in-Ok.area told.area c.args.heap.now c.requires in
    omega (arith, below, c.if-prove.true, c.size.ensures.value)

pub overflow_mul-s : goal.overflow_mul-s
overflow_mul-s g c =
    let told = c.in-Ok.ensures in
    omega (
      arith,
      told.within,
      cells-fit c.args.self.now told.sound c.args.a c.in-Ok.area told.area,
      block-end c.args.self.now told.sound c.args.a c.in-Ok.area told.area,
    )

pub overflow_add-area : goal.overflow_add-area
overflow_add-area g c =
    let told = c.in-Ok.ensures in
    omega (
      arith,
      told.within,
      cells-fit c.args.self.now told.sound c.args.a c.in-Ok.area told.area,
      block-end c.args.self.now told.sound c.args.a c.in-Ok.area told.area,
    )

pub set_raw-requires : goal.set_raw-requires
set_raw-requires g c =
    let told = c.in-Ok.ensures in
    cell-IsRaw c.args.self.now told.sound c.args.a c.in-Ok.area told.area c.args.heap.now c.size.ensures.sound
    c.requires c.args.s told.within

pub returns-clause-views : goal.returns-clause-views
returns-clause-views g c =
    let told = c.in-Ok.ensures in
    let writes = WritesCell-with_raw c.args.self.now told.sound c.args.a c.in-Ok.area told.area c.args.heap.now
    c.size.ensures.sound c.requires c.args.s told.within c.args.w in
    ap (λ (h : Heap). views_of_areas c.args.self.now h.raw) c.set_raw.ensures.word
    ∙ views_from-written c.args.heap.now.raw
    (with_raw c.args.heap.now (c.in-Ok.area.base + 4 * c.args.s) c.args.w).raw 0 c.args.a c.args.a c.args.s c.args.w
    c.args.self.now.areas writes (omega arith)
