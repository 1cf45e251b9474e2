use Rattle.std.proofs.Common.{◌≡◌, Some, sym, ap, subst, ◌∙◌, arith}
use Rattle.std.specs.Prelude.{slice_get}
use Rattle.mm_object.specs.Object.{views_of}
use Rattle.mm_roots.specs.Views.{cell_words, views_of_areas}
use Rattle.mm_why.specs.declared.found.Lead.{Lead}
use Rattle.mm_why.specs.Search.{shown_with, IsLead}
use Rattle.mm_why.proofs.AreaWords.{area-word, length-cell_words}
use Rattle.mm_why.proofs.Noted.{get-index, grown-then, noted-grown, noted-reasons, noted-words, noted-short}
use Rattle.mm_why.proofs.Noted.{whole-found}
use Rattle.mm_why.proofs.queue.Queue.note_area.Goals as goal

pub loop-cell-preserved : goal.loop-cell-preserved
loop-cell-preserved g c =
    let heap = c.args.heap.now in
    let objects = views_of heap.objects in
    let areas = views_of_areas c.args.areas.now heap.raw in
    let words = cell_words heap.raw c.args.area.base c.args.area.cells in
    let before = c.loop-cell.self.found in
    let after = c.note.new.self.found in
    let word = c.word-word.result in
    let lead = c.outside.result in
    let h = c.loop-cell.invariant in
    let one : lead.length ≡ 1 = ap (λ (l : Lead). l.length) c.outside.ensures in
    let size = length-cell_words heap.raw c.args.area.base c.args.area.cells in
    let is : slice_get words c.loop-cell.cell ≡ Some word =
    get-index words c.loop-cell.cell word (omega arith) c.word-word.ensures.word in
    let cell = area-word c.args.areas.now heap.raw c.args.area c.loop-cell.cell word c.requires.scanned is in
    record {
      reasons = λ stack old.
          noted-reasons (shown_with objects stack areas) before after word lead c.note.ensures.noted
          (subst (λ (l : Lead). IsLead (shown_with objects stack areas) before l word) (sym c.outside.ensures) cell)
          (h.reasons stack old);
      found = noted-words objects before after word lead c.note.ensures.noted words c.loop-cell.cell 1 h.short
          (omega arith) is h.found;
      short = noted-short objects before after word lead c.note.ensures.noted 1 h.short (omega arith);
      grown = grown-then _ before after h.grown (noted-grown objects before after word lead c.note.ensures.noted);
      places = c.note.ensures.places ∙ h.places;
      ticked =
          let a = h.ticked in
          let b = c.word-word.ensures.cost in
          let d = c.note.ensures.cost in
          omega arith;
    }

pub returns-clause-found : goal.returns-clause-found
returns-clause-found g c =
    let heap = c.args.heap.now in
    let size = length-cell_words heap.raw c.args.area.base c.args.area.cells in
    whole-found (views_of heap.objects) c.loop-cell.self.found
    (cell_words heap.raw c.args.area.base c.args.area.cells) c.loop-cell.cell 1 (omega arith)
    c.loop-cell.invariant.found
