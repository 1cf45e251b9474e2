use Rattle.std.proofs.Common.{◌≡◌, sym, ap, ◌∙◌, arith}
use Rattle.mm_object.specs.Object.{slot_with}
use Rattle.mm_model.specs.Words.{slot_kind_at}
use Rattle.mm_roots.specs.declared.area_shape.AreaShape.{AreaShape}
use Rattle.mm_roots.specs.Views.{slot_in, view_of_area}
use Rattle.mm_roots.proofs.CellWords.{cells-fit, block-end, block-below, cell-IsRaw, cell-word}
use Rattle.mm_roots.proofs.areas.Areas.cell.Goals as goal

pub prove-unreachable-requires : goal.prove-unreachable-requires
prove-unreachable-requires g c =
    let told = c.in-Ok.ensures in
    let below = block-below c.args.self.now told.sound c.args.a c.in-Ok.area told.area c.args.heap.now c.requires in
    omega (arith, below, c.if-prove.true, c.size.ensures.value)

pub overflow_mul-s : goal.overflow_mul-s
overflow_mul-s g c =
    let told = c.in-Ok.ensures in
    omega (
      arith,
      told.within,
      cells-fit c.args.self.now told.sound c.args.a c.in-Ok.area told.area,
      block-end c.args.self.now told.sound c.args.a c.in-Ok.area told.area,
    )

pub overflow_add-area : goal.overflow_add-area
overflow_add-area g c =
    let told = c.in-Ok.ensures in
    omega (
      arith,
      told.within,
      cells-fit c.args.self.now told.sound c.args.a c.in-Ok.area told.area,
      block-end c.args.self.now told.sound c.args.a c.in-Ok.area told.area,
    )

pub raw-word-requires : goal.raw-word-requires
raw-word-requires g c =
    let told = c.in-Ok.ensures in
    cell-IsRaw c.args.self.now told.sound c.args.a c.in-Ok.area told.area c.args.heap.now c.size.ensures.sound
    c.requires c.args.s told.within

pub returns-clause-slot : goal.returns-clause-slot
returns-clause-slot g c = λ area lives.
    let told = c.in-Ok.ensures in
    let word = cell-word c.args.self.now told.sound c.args.a c.in-Ok.area told.area c.args.heap.now
    c.size.ensures.sound c.requires c.args.s told.within c.raw-word.result c.raw-word.ensures.word in
    let both = sym told.area ∙ lives in
    let same : c.in-Ok.area ≡ area = cc in
    c.of.ensures
    ∙ ap (slot_with (slot_kind_at c.in-Ok.area.scanned c.in-Ok.area.counted c.args.s)) (sym word)
    ∙ ap (λ (shape : AreaShape). slot_in (view_of_area c.args.heap.now.raw c.args.a shape) c.args.s) same
