use Rattle.std.proofs.Common.{◌≡◌, ℕ, List, Option, length, ap, subst, length-append, arith}
use Rattle.std.specs.List.{flat_map}
use Rattle.std.proofs.lemmas.List.{length-reverse}
use Rattle.mm_model.specs.Views.ViewWords.{scanned_cells_of}
use Rattle.mm_object.specs.Heap.{Heap}
use Rattle.mm_roots.specs.Views.{views_of_areas}
use Rattle.mm_mark.specs.Colours.{IsGrayed}
use Rattle.mm_mark.proofs.RootWords.{beside-same}
use Rattle.mm_mark.proofs.Grayed.{grayed-in_order, grayed-then}
use Rattle.mm_mark.proofs.marker.Marker.shade_roots.Goals as goal

pub shade_areas-requires-clause-beside : goal.shade_areas-requires-clause-beside
shade_areas-requires-clause-beside g c =
    beside-same c.args.areas.now c.args.heap.now c.shade_words.new.heap c.shade_words.ensures.grayed.rest
    c.requires.beside

pub returns-clause-grayed : goal.returns-clause-grayed
returns-clause-grayed g c =
    let stack : IsGrayed c.args.heap.now c.shade_words.new.heap c.args.stack.now.words =
    grayed-in_order c.args.heap.now c.shade_words.new.heap c.args.stack.now.words
    (subst (λ (ws : List ℕ). IsGrayed c.args.heap.now c.shade_words.new.heap ws) c.words.ensures.words
    c.shade_words.ensures.grayed) in
    let raw : c.shade_words.new.heap.raw ≡ c.args.heap.now.raw =
    ap (λ (h : Heap). h.raw) c.shade_words.ensures.grayed.rest in
    grayed-then c.args.heap.now c.shade_words.new.heap c.shade_areas.new.heap c.args.stack.now.words _ stack
    (subst (λ (r : List (Option ℕ)). IsGrayed c.shade_words.new.heap c.shade_areas.new.heap
    (flat_map scanned_cells_of (views_of_areas c.args.areas.now r))) raw c.shade_areas.ensures.grayed)

pub returns-clause-few : goal.returns-clause-few
returns-clause-few g c = λ stale h. c.shade_areas.ensures.few stale (c.shade_words.ensures.few stale h)

pub returns-clause-cost : goal.returns-clause-cost
returns-clause-cost g c =
    let raw : c.shade_words.new.heap.raw ≡ c.args.heap.now.raw =
    ap (λ (h : Heap). h.raw) c.shade_words.ensures.grayed.rest in
    let same = ap (λ (r : List (Option ℕ)). length (flat_map scanned_cells_of (views_of_areas c.args.areas.now r)))
    raw in
    let all = length-append c.args.stack.now.words
    (flat_map scanned_cells_of (views_of_areas c.args.areas.now c.args.heap.now.raw)) in
    let lent = ap length c.words.ensures.words in
    let turned = length-reverse c.args.stack.now.words in
    omega (arith, same, all, lent, turned, c.words.ensures.cost, c.shade_words.ensures.cost, c.shade_areas.ensures.cost)
