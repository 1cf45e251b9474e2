use Rattle.std.proofs.Common.{◌+◌, ◌*◌, ℕ, slice_index, sym, ap, ◌∙◌, subst, arith}
use Rattle.mm_object.specs.Heap.{IsRaw}
use Rattle.mm_roots.specs.Views.{cell_words}
use Rattle.mm_roots.proofs.CellWords.{cells-fit, block-end, block-below, cell-IsRaw, cell-word}
use Rattle.mm_roots.proofs.areas.Areas.word.Goals as goal

pub prove-unreachable-requires : goal.prove-unreachable-requires
prove-unreachable-requires g c =
    let scanned = c.requires.scanned in
    let sound = scanned.sound in
    let below = block-below c.args.self.now sound c.args.area.number scanned.shape scanned.lives c.args.heap.now
    c.requires.beside in
    omega (arith, below, c.if-prove.true, c.size.ensures.value, scanned.base)

pub overflow_mul-s : goal.overflow_mul-s
overflow_mul-s g c =
    let scanned = c.requires.scanned in
    let sound = scanned.sound in
    omega (
      arith,
      c.requires.within,
      scanned.cells,
      cells-fit c.args.self.now sound c.args.area.number scanned.shape scanned.lives,
      block-end c.args.self.now sound c.args.area.number scanned.shape scanned.lives,
    )

pub overflow_add-area : goal.overflow_add-area
overflow_add-area g c =
    let scanned = c.requires.scanned in
    let sound = scanned.sound in
    omega (
      arith,
      c.requires.within,
      scanned.cells,
      scanned.base,
      cells-fit c.args.self.now sound c.args.area.number scanned.shape scanned.lives,
      block-end c.args.self.now sound c.args.area.number scanned.shape scanned.lives,
    )

pub raw-requires : goal.raw-requires
raw-requires g c =
    let scanned = c.requires.scanned in
    let sound = scanned.sound in
    subst (λ (base : ℕ). (word : ℕ) × IsRaw c.args.heap.now (base + 4 * c.args.s) word) scanned.base
    (cell-IsRaw c.args.self.now sound c.args.area.number scanned.shape scanned.lives c.args.heap.now
    c.size.ensures.sound c.requires.beside c.args.s (omega (arith, c.requires.within, scanned.cells)))

pub returns-clause-word : goal.returns-clause-word
returns-clause-word g c =
    let scanned = c.requires.scanned in
    let sound = scanned.sound in
    let raw = subst (λ (base : ℕ). IsRaw c.args.heap.now (base + 4 * c.args.s) c.raw.result) (sym scanned.base)
    c.raw.ensures.word in
    sym (ap (λ (base : ℕ). slice_index (cell_words c.args.heap.now.raw base c.args.area.cells) c.args.s)
    (sym scanned.base)
    ∙ ap (λ (cells : ℕ). slice_index (cell_words c.args.heap.now.raw scanned.shape.base cells) c.args.s)
    (sym scanned.cells)
    ∙ cell-word c.args.self.now sound c.args.area.number scanned.shape scanned.lives c.args.heap.now
    c.size.ensures.sound c.requires.beside c.args.s (omega (arith, c.requires.within, scanned.cells)) c.raw.result raw)

pub returns-clause-sound : goal.returns-clause-sound
returns-clause-sound g c = c.requires.scanned.sound
