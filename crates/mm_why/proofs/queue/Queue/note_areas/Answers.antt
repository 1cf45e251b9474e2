use Rattle.std.proofs.Common.{◌≡◌, ℕ, ◌+◌, ◌++◌, List, sym, ap, subst, ◌∙◌, append-nil}
use Rattle.std.specs.List.{flat_map}
use Rattle.mm_model.specs.Views.ViewWords.{scanned_cells_of}
use Rattle.mm_object.specs.Object.{views_of}
use Rattle.mm_roots.specs.Views.{views_of_areas}
use Rattle.mm_why.specs.Search.{AreWordsFound}
use Rattle.mm_why.proofs.AreaWords.{area-noted}
use Rattle.mm_why.proofs.Noted.{grown-then}
use Rattle.mm_why.proofs.queue.Queue.note_areas.Goals as goal

pub areas-preserved : goal.areas-preserved
areas-preserved g c =
    let h = c.areas.invariant in
    record {
      reasons = λ stack old. c.note_area.ensures.reasons stack (h.reasons stack old);
      noted = area-noted c.args.areas.now c.args.heap.now c.areas.self.found c.note_area.new.self.found c.areas.from
          (c.in-Some.area.number + 1) c.in-Some.area.base c.in-Some.area.cells c.args.steps.now c.areas.steps
          c.note_area.new.steps h.noted c.note_area.ensures.grown (c.in-Some.ensures.words c.args.heap.now.raw)
          c.note_area.ensures.found c.note_area.ensures.cost;
      short = c.note_area.ensures.short;
      grown = grown-then _ c.areas.self.found _ h.grown c.note_area.ensures.grown;
      places = c.note_area.ensures.places ∙ h.places;
    }

pub returns-clause-found : goal.returns-clause-found
returns-clause-found g c =
    let raw = c.args.heap.now.raw in
    let h = c.areas.invariant.noted in
    let all : h.words ≡ flat_map scanned_cells_of (views_of_areas c.args.areas.now raw) =
    sym (append-nil h.words) ∙ ap (λ (ws : List ℕ). h.words ++ ws) (sym (c.in_default.ensures.words raw))
    ∙ h.rest ∙ c.in_default.ensures.all raw in
    subst (λ (ws : List ℕ). AreWordsFound (views_of c.args.heap.now.objects) c.areas.self.found ws 1) all h.noted
