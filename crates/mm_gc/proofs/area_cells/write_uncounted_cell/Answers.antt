use Rattle.std.proofs.Common.{ℕ, ◌+◌, ◌*◌, ◌/◌, map, Some, sym, ap, ◌∙◌}
use Rattle.std.specs.Prelude.{slice_set, if◌then◌else◌}
use Rattle.mm_model.specs.declared.reply.Put.TheVariants.{Tight, Loose}
use Rattle.mm_model.specs.Views.ViewWords.{falls_in_counted_of}
use Rattle.mm_object.specs.Object.{views_of}
use Rattle.mm_object.specs.Heap.{Heap}
use Rattle.mm_roots.specs.Views.{views_of_areas, with_cell}
use Rattle.mm_gc.specs.AreaCells.{CellParts}
use Rattle.mm_gc.proofs.AreaCells.AreaStores.{uncounted-stored}
use Rattle.mm_gc.proofs.area_cells.write_uncounted_cell.Goals as goal

pub returns-clause-answer : goal.returns-clause-answer
returns-clause-answer g c = λ table store shows at_cell at_word plain.
    let cell = c.requires.cell in
    let parts : CellParts = record { table = table; heap = c.args.heap.now; areas = c.args.areas.now } in
    uncounted-stored c.args.at.number store parts shows plain c.set_cell.new.heap c.set_cell.new.self
    c.looseness-answer.result
    (slice_set c.args.heap.now.raw ((cell.area.base + 4 * c.args.at.cell) / 4) (Some c.args.word))
    (c.in-Ok.ensures.written cell.area cell.lives)
    (c.in-Ok.ensures.views
    ∙ ap (λ (s : ℕ). map (with_cell c.args.at.number s c.args.word)
    (views_of_areas c.args.areas.now c.args.heap.now.raw)) (sym at_cell)
    ∙ ap (λ (w : ℕ). map (with_cell c.args.at.number store.cell w)
    (views_of_areas c.args.areas.now c.args.heap.now.raw)) (sym at_word))
    (c.looseness-answer.ensures.loose
    ∙ ap (λ (w : ℕ). if falls_in_counted_of (views_of c.args.heap.now.objects) w then Loose else Tight) (sym at_word))

pub returns-clause-rest : goal.returns-clause-rest
returns-clause-rest g c =
    let cell = c.requires.cell in
    ap (λ (h : Heap). record h { objects = c.set_cell.new.heap.objects; raw = c.set_cell.new.heap.raw })
    (c.in-Ok.ensures.written cell.area cell.lives)
