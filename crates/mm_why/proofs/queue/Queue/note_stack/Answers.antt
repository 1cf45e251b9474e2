use Rattle.std.proofs.Common.{◌≡◌, Some, sym, ap, subst, ◌∙◌, arith}
use Rattle.std.specs.Prelude.{slice_get}
use Rattle.mm_object.specs.Object.{views_of}
use Rattle.mm_why.specs.declared.found.Lead.{Lead}
use Rattle.mm_why.specs.Search.{shown_with, IsLead}
use Rattle.mm_why.proofs.Noted.{get-index, noted-reasons, noted-words, noted-short, whole-found}
use Rattle.mm_why.proofs.queue.Queue.note_stack.Goals as goal

pub loop-cell-preserved : goal.loop-cell-preserved
loop-cell-preserved g c =
    let objects = views_of c.args.heap.now.objects in
    let words = c.args.stack.now.words in
    let before = c.loop-cell.self.found in
    let after = c.note.new.self.found in
    let word = c.cell-word.result in
    let lead = c.outside.result in
    let h = c.loop-cell.invariant in
    let one : lead.length ≡ 1 = ap (λ (l : Lead). l.length) c.outside.ensures in
    let end = c.depth-cell-end.ensures.value in
    let is : slice_get words c.loop-cell.cell ≡ Some word =
    get-index words c.loop-cell.cell word (omega arith) c.cell-word.ensures.word in
    record {
      reasons = λ areas.
          noted-reasons (shown_with objects words areas) before after word lead c.note.ensures.noted
          (subst (λ (l : Lead). IsLead (shown_with objects words areas) before l word) (sym c.outside.ensures) is)
          (h.reasons areas);
      found = noted-words objects before after word lead c.note.ensures.noted words c.loop-cell.cell 1 h.short
          (omega arith) is h.found;
      short = noted-short objects before after word lead c.note.ensures.noted 1 h.short (omega arith);
      places = c.note.ensures.places ∙ h.places;
      ticked =
          let a = h.ticked in
          let b = c.cell-word.ensures.cost in
          let d = c.note.ensures.cost in
          omega arith;
    }

pub returns-clause-found : goal.returns-clause-found
returns-clause-found g c =
    let end = c.depth-cell-end.ensures.value in
    whole-found (views_of c.args.heap.now.objects) c.loop-cell.self.found c.args.stack.now.words c.loop-cell.cell 1
    (omega arith) c.loop-cell.invariant.found
