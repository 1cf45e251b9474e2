use Rattle.std.proofs.Common.{ℕ, length, refl, ap, ◌∙◌}
use Rattle.mm_count.specs.declared.composite.Composite.{Composite}
use Rattle.mm_count.specs.Composite.{composite_in}
use Rattle.mm_count.specs.Counts.{entered}
use Rattle.mm_count.specs.Kept.{with_entry_word}
use Rattle.mm_count.proofs.Composites.{fits-entry}
use Rattle.mm_count.proofs.Places.{keeps}
use Rattle.mm_count.proofs.Counted.{counted-entered}
use Rattle.mm_count.proofs.Stores.Changes.{born-enters}
use Rattle.mm_count.proofs.Views.{rest-changed, entered-views, entered-unpinned, entered-listed}
use Rattle.mm_count.proofs.table.ZeroTable.born.Goals as goal

pub enter-requires-clause-zero : goal.enter-requires-clause-zero
enter-requires-clause-zero g c =
    let k = c.requires.counted in
    ap (λ (r : Composite). r.count) (c.composite_of-composite.ensures.says k.object k.begins)
    ∙ ap (λ (w : ℕ). (composite_in w).count) (c.requires.blank k.object k.begins)

pub enter-requires-clause-exact : goal.enter-requires-clause-exact
enter-requires-clause-exact g c =
    let k = c.requires.counted in
    ap (λ (r : Composite). r.sticky) (c.composite_of-composite.ensures.says k.object k.begins)
    ∙ ap (λ (w : ℕ). (composite_in w).sticky) (c.requires.blank k.object k.begins)

pub enter-requires-clause-out : goal.enter-requires-clause-out
enter-requires-clause-out g c = λ object begins.
    ap (λ (w : ℕ). (composite_in w).listed) (c.requires.blank object begins)

pub returns-clause-heap : goal.returns-clause-heap
returns-clause-heap g c =
    let k = c.requires.counted in
    let n = length c.args.self.now.entries in
    let r = c.composite_of-composite.result in
    born-enters c.args.heap.now c.args.base k r (c.composite_of-composite.ensures.says k.object k.begins)
    c.enter.new.heap (with_entry_word n r) (c.enter.ensures.heap k.object k.begins)
    (fits-entry n r c.enter.ensures.few c.composite_of-composite.ensures.fits) n refl

pub returns-clause-counts : goal.returns-clause-counts
returns-clause-counts g c =
    let k = c.requires.counted in
    counted-entered c.args.heap.now c.enter.new.heap c.args.base k.object k.begins
    ((c.requires.right.spelled c.args.base k.object k.begins).counted k.counted) (returns-clause-heap g c)

pub returns-clause-objects : goal.returns-clause-objects
returns-clause-objects g c =
    let k = c.requires.counted in
    keeps c.args.heap.now c.enter.new.heap entered c.args.base k.object k.begins (returns-clause-heap g c)

pub returns-clause-rest : goal.returns-clause-rest
returns-clause-rest g c =
    rest-changed c.args.heap.now c.enter.new.heap entered c.args.base (returns-clause-heap g c)

pub returns-clause-views : goal.returns-clause-views
returns-clause-views g c =
    let k = c.requires.counted in
    let is = (c.requires.right.spelled c.args.base k.object k.begins).counted k.counted in
    entered-views c.args.heap.now c.enter.new.heap c.args.base k.object k.begins is (returns-clause-heap g c)

pub returns-clause-unpinned : goal.returns-clause-unpinned
returns-clause-unpinned g c =
    let k = c.requires.counted in
    let is = (c.requires.right.spelled c.args.base k.object k.begins).counted k.counted in
    entered-unpinned c.args.heap.now c.enter.new.heap c.args.base k.object k.begins is (returns-clause-heap g c)

pub returns-clause-listed : goal.returns-clause-listed
returns-clause-listed g c =
    let k = c.requires.counted in
    let is = (c.requires.right.spelled c.args.base k.object k.begins).counted k.counted in
    entered-listed c.args.heap.now c.enter.new.heap c.args.base k.object k.begins is (returns-clause-heap g c)
