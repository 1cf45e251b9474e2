use Rattle.std.proofs.Common.{◌≡◌, ℕ, ◌+◌, ◌*◌, ◌/◌, map, Some, sym, ap, ◌∙◌, subst}
use Rattle.std.specs.Prelude.{slice_index, slice_set, ◌==◌, ◌||◌, true}
use Rattle.mm_model.specs.Views.ViewWords.{begins_counted_in, outside_references}
use Rattle.mm_object.specs.Object.{views_of}
use Rattle.mm_object.specs.Heap.{Heap}
use Rattle.mm_count.specs.Sticky.{with_sticky}
use Rattle.mm_roots.specs.Views.{views_of_areas, with_cell}
use Rattle.mm_gc.specs.AreaCells.{CellParts, CanReplace, IsReplaced}
use Rattle.mm_gc.proofs.AreaCells.AreaStores.{written}
use Rattle.mm_gc.proofs.AreaCells.CountedCells.{can_replace, replaced, same-stored, other-stored}
use Rattle.mm_gc.proofs.area_cells.write_tight_word.Goals as goal

pub replace_word-requires-clause-counting : goal.replace_word-requires-clause-counting
replace_word-requires-clause-counting g c =
    let s = c.requires.store in
    let parts : CellParts =
    record { table = c.args.count.now; heap = c.args.heap.now; areas = c.args.areas.now } in
    subst (λ (old : ℕ). CanReplace c.args.count.now c.args.heap.now old c.args.word) s.counted.holds
    (subst (λ (word : ℕ). CanReplace c.args.count.now c.args.heap.now
    (slice_index s.store.area.words s.store.cell) word) s.at.word_is
    (can_replace c.args.at.number s.store parts s.at.shows s.counted.kind
    (subst (λ (w : ℕ). (w == 0 || begins_counted_in (views_of c.args.heap.now.objects) w) ≡ true) (sym s.at.word_is)
    c.requires.tight)
    (λ e. c.if-old-word.true (sym s.counted.holds ∙ e ∙ s.at.word_is))))

pub returns-then-old-word-clause-answer : goal.returns-then-old-word-clause-answer
returns-then-old-word-clause-answer g c = λ store at counted.
    let parts : CellParts =
    record { table = c.args.count.now; heap = c.args.heap.now; areas = c.args.areas.now } in
    let tight = subst (λ (w : ℕ). (w == 0 || begins_counted_in (views_of c.args.heap.now.objects) w) ≡ true)
    (sym at.word_is) c.requires.tight in
    let other : slice_index store.area.words store.cell ≡ store.word → ⊥ =
    λ e. c.if-old-word.true (sym counted.holds ∙ e ∙ at.word_is) in
    let outside = outside_references store.view in
    let after = outside_references (written c.args.at.number store parts at.shows) in
    let is : IsReplaced c.args.old c.args.word outside after =
    subst (λ (old : ℕ). IsReplaced old c.args.word outside after) counted.holds
    (subst (λ (word : ℕ). IsReplaced (slice_index store.area.words store.cell) word outside after) at.word_is
    (replaced c.args.at.number store parts at.shows counted.kind tight other)) in
    other-stored c.args.at.number store parts at.shows counted.kind tight other c.replace_word.new.heap
    c.replace_word.new.areas c.replace_word.new.count
    (c.replace_word.ensures.views outside after is at.shows.counts.counted
    ∙ ap (λ (w : ℕ). with_sticky after w (views_of c.args.heap.now.objects)) (sym at.word_is))
    (c.replace_word.ensures.cells
    ∙ ap (λ (s : ℕ). map (with_cell c.args.at.number s c.args.word)
    (views_of_areas c.args.areas.now c.args.heap.now.raw)) (sym at.cell_is)
    ∙ ap (λ (w : ℕ). map (with_cell c.args.at.number store.cell w)
    (views_of_areas c.args.areas.now c.args.heap.now.raw)) (sym at.word_is))
    (c.replace_word.ensures.counts outside after is at.shows.counts)

pub returns-clause-answer : goal.returns-clause-answer
returns-clause-answer g c = λ store at counted.
    let parts : CellParts =
    record { table = c.args.count.now; heap = c.args.heap.now; areas = c.args.areas.now } in
    let cell = c.requires.cell in
    let tight = subst (λ (w : ℕ). (w == 0 || begins_counted_in (views_of c.args.heap.now.objects) w) ≡ true)
    (sym at.word_is) c.requires.tight in
    let is : c.args.old ≡ c.args.word = c.if-old-word.false in
    same-stored c.args.at.number store parts at.shows counted.kind tight (counted.holds ∙ is ∙ sym at.word_is)
    c.set_cell.new.heap c.set_cell.new.self
    (slice_set c.args.heap.now.raw ((cell.area.base + 4 * c.args.at.cell) / 4) (Some c.args.word))
    (c.in-Ok.ensures.written cell.area cell.lives)
    (c.in-Ok.ensures.views
    ∙ ap (λ (s : ℕ). map (with_cell c.args.at.number s c.args.word)
    (views_of_areas c.args.areas.now c.args.heap.now.raw)) (sym at.cell_is)
    ∙ ap (λ (w : ℕ). map (with_cell c.args.at.number store.cell w)
    (views_of_areas c.args.areas.now c.args.heap.now.raw)) (sym at.word_is))

pub returns-clause-rest : goal.returns-clause-rest
returns-clause-rest g c =
    let cell = c.requires.cell in
    ap (λ (h : Heap). record h { objects = c.set_cell.new.heap.objects; raw = c.set_cell.new.heap.raw })
    (c.in-Ok.ensures.written cell.area cell.lives)
