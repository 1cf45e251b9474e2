use Rattle.std.specs.List.{flat_map}
use Rattle.mm_model.specs.Views.ViewWords.{scanned_cells_of}
use Rattle.mm_object.specs.Object.{views_of}
use Rattle.mm_roots.specs.Views.{views_of_areas}
use Rattle.mm_why.proofs.AreaWords.{both-found}
use Rattle.mm_why.proofs.Noted.{found-grown}
use Rattle.mm_why.proofs.queue.Queue.note_roots.Goals as goal

pub returns-clause-found : goal.returns-clause-found
returns-clause-found g c =
    let heap = c.args.heap.now in
    let objects = views_of heap.objects in
    let found = c.note_areas.new.self.found in
    both-found objects found c.args.stack.now.words
    (flat_map scanned_cells_of (views_of_areas c.args.areas.now heap.raw)) 1
    (found-grown objects c.note_stack.new.self.found found c.args.stack.now.words 1 c.note_areas.ensures.grown
    c.note_stack.ensures.found) c.note_areas.ensures.found
