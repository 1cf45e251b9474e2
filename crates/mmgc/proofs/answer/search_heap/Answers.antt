use Rattle.std.proofs.Common.{◌≤◌, subst, sym}
use Rattle.mm_object.specs.Heap.{Heap, IsSound}
use Rattle.mmgc.proofs.AddedLines.{few_pages}
use Rattle.mmgc.proofs.answer.search_heap.Goals as goal

pub search-requires-clause-pages : goal.search-requires-clause-pages
search-requires-clause-pages g c =
    let gc = c.args.heap.now in
    let few = few_pages gc c.requires.shows.0 c.requires.shows.1
    (subst IsSound c.heap.ensures.value c.heap.ensures.sound) in
    subst (λ (h : Heap). h.size ≤ c.args.why.now.pages) (sym c.heap.ensures.value)
    (subst (λ n. gc.region.heap.size ≤ n) (sym c.requires.pages) few)
