use Rattle.std.proofs.Common.{reverse, ap, ◌∙◌, arith}
use Rattle.mm_object.specs.Object.{views_of}
use Rattle.mm_roots.specs.Views.{views_of_areas}
use Rattle.mm_why.specs.Path.{shown_by, root_words_of}
use Rattle.mm_why.specs.Why.{Why}
use Rattle.mm_why.proofs.Objects.{object-place}
use Rattle.mm_why.proofs.Noted.{found-grown, reasons-live}
use Rattle.mm_why.proofs.Searched.{answered, told}
use Rattle.mm_why.proofs.Costs.{found-live, cost-bounded}
use Rattle.mm_why.proofs.why.Why.search.Goals as goal

pub follow-requires-clause-target : goal.follow-requires-clause-target
follow-requires-clause-target g c =
    let same = ap (λ (w : Why). w.pages) c.self.view_is in
    let pages = c.requires.pages in
    let places = c.note_roots.ensures.places in
    let room = c.self.invariant.places in
    object-place c.args.heap.now c.size.ensures.sound c.args.target c.requires.object.0 c.note_roots.new.self.places
    c.requires.object.1 (omega arith)

pub follow-requires-clause-live : goal.follow-requires-clause-live
follow-requires-clause-live g c =
    reasons-live (shown_by c.args.heap.now c.args.stack.now c.args.areas.now) c.note_roots.new.self.found
    c.note_roots.ensures.reasons

pub trace-length-requires-clause-room : goal.trace-length-requires-clause-room
trace-length-requires-clause-room g c =
    let few = c.follow.ensures.sound.short in
    let places = c.follow.ensures.places ∙ c.note_roots.ensures.places in
    let own = c.self.invariant.places in
    let room = c.self.invariant.room in
    let same = c.clear.ensures.capacity in
    omega arith

pub returns-clause-length : goal.returns-clause-length
returns-clause-length g c =
    let shown = shown_by c.args.heap.now c.args.stack.now c.args.areas.now in
    let found = c.follow.new.self.found in
    let reasons = c.follow.ensures.reasons c.args.stack.now.words (views_of_areas c.args.areas.now c.args.heap.now.raw)
    c.note_roots.ensures.reasons in
    let roots = found-grown shown.objects c.note_roots.new.self.found found (root_words_of shown) 1
    c.follow.ensures.grown c.note_roots.ensures.found in
    answered shown c.follow.new.self c.follow.ensures.sound roots c.args.target c.follow.ensures.searched
    c.trace-length.result (reverse c.trace-length.new.path.items) c.trace-length.ensures.entry
    (told shown found c.args.target (reverse c.trace-length.new.path.items) c.trace-length.result reasons
    c.trace-length.ensures.path)

pub returns-clause-cost : goal.returns-clause-cost
returns-clause-cost g c =
    let objects = views_of c.args.heap.now.objects in
    let live = found-live objects c.follow.new.self c.follow.ensures.sound c.follow.ensures.live in
    let bound = cost-bounded objects c.follow.new.self c.follow.ensures.sound c.follow.ensures.live in
    let roots = c.note_roots.ensures.cost in
    let followed = c.follow.ensures.cost in
    let traced = c.trace-length.ensures.cost in
    let cleared = c.clear-2.ensures.cost in
    omega arith
