use Rattle.std.proofs.Common.{◌<◌, ◌≤◌, ◌+◌, ℕ, List, Option, take, drop, length, sym, ap, ◌∙◌, subst, arith}
use Rattle.std.proofs.lemmas.List.{length-take}
use Rattle.std.specs.Prelude.{slice_index}
use Rattle.mm_model.specs.Views.GoodView.{AreTight}
use Rattle.mm_model.specs.Views.ObjectView.{ObjectsByBase}
use Rattle.mm_object.specs.Heap.{Heap}
use Rattle.mm_count.specs.Counts.{one_more}
use Rattle.mm_roots.specs.declared.area_shape.AreaShape.{AreaShape}
use Rattle.mm_roots.specs.Views.{area_words}
use Rattle.mm_gc.specs.AreaCells.{CanLower, outside_with}
use Rattle.mm_gc.specs.Counts.{HasCounts}
use Rattle.mm_gc.proofs.AreaCells.LoweredCells.{first-word, within-counted, counts-next, can_lower, counts-last}
use Rattle.mm_gc.proofs.AreaCells.LoweredCells.{same_area}
use Rattle.mm_gc.proofs.Writing.Written.{same-then}
use Rattle.mm_gc.proofs.area_cells.lower_cells.Goals as goal

pub lower_cell-requires-clause-can : goal.lower_cell-requires-clause-can
lower_cell-requires-clause-can g c = λ area lives.
    let inv = c.loop-s.invariant in
    let cells = c.requires.cells in
    let raw = c.args.heap.now.raw in
    let words = take c.args.counted (area_words raw area) in
    let below : c.loop-s.s < c.args.counted = c.loop-s-test.true in
    let fits = subst (λ (a : AreaShape). c.args.counted ≤ a.cells) (same_area cells.lives lives) cells.within in
    let within = within-counted raw area c.args.counted c.loop-s.s fits below in
    let can = c.requires.can area lives in
    subst (λ (word : ℕ). CanLower c.loop-s.count c.loop-s.heap word)
    (first-word c.args.counted c.loop-s.s (area_words raw area) below
    ∙ ap (λ (raw : List (Option ℕ)). slice_index (area_words raw area) c.loop-s.s)
    (sym (ap (λ (h : Heap). h.raw) inv.rest)))
    (can_lower c.loop-s.count c.loop-s.heap words can.others
    (subst (λ (vs : ObjectsByBase). AreTight vs words) (sym inv.views) can.tight) c.loop-s.s within
    (inv.counts area can.others lives can.counts))

pub loop-s-preserved : goal.loop-s-preserved
loop-s-preserved g c =
    let inv = c.loop-s.invariant in
    let now = c.lower_cell.ensures in
    let cells = c.requires.cells in
    let raw = c.args.heap.now.raw in
    let below : c.loop-s.s < c.args.counted = c.loop-s-test.true in
    record {
      counts = λ area others lives counts.
          let words = take c.args.counted (area_words raw area) in
          let fits = subst (λ (a : AreaShape). c.args.counted ≤ a.cells) (same_area cells.lives lives) cells.within in
          let within = within-counted raw area c.args.counted c.loop-s.s fits below in
          now.counts area (outside_with (drop (c.loop-s.s + 1) words) others) lives
          (subst (λ (word : ℕ). HasCounts c.loop-s.count c.loop-s.heap
          (one_more (outside_with (drop (c.loop-s.s + 1) words) others) word))
          (first-word c.args.counted c.loop-s.s (area_words raw area) below
          ∙ ap (λ (raw : List (Option ℕ)). slice_index (area_words raw area) c.loop-s.s)
          (sym (ap (λ (h : Heap). h.raw) inv.rest)))
          (counts-next c.loop-s.count c.loop-s.heap words others c.loop-s.s within
          (inv.counts area others lives counts)));
      views = now.views ∙ inv.views;
      table = same-then c.args.count.now c.loop-s.count c.lower_cell.new.count inv.table now.table;
      rest = now.rest ∙ ap (λ (h : Heap). record h { objects = c.lower_cell.new.heap.objects }) inv.rest;
      sound = now.sound;
      cost = omega (arith, inv.cost, now.cost);
    }

pub returns-clause-counts : goal.returns-clause-counts
returns-clause-counts g c = λ area others lives counts.
    let words = take c.args.counted (area_words c.args.heap.now.raw area) in
    let front = length-take c.args.counted (area_words c.args.heap.now.raw area) in
    let past : length words ≤ c.loop-s.s = omega (arith, c.loop-s-test.false) in
    counts-last c.loop-s.count c.loop-s.heap words others c.loop-s.s past
    (c.loop-s.invariant.counts area others lives counts)
