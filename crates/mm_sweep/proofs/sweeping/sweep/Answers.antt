use Rattle.std.proofs.Common.{◌≡◌, ℕ, ◌+◌, ◌*◌, ◌≤◌, List, [], length, take, sym, ap, subst, ◌∙◌, arith}
use Rattle.std.specs.List.{AllByRecursion}
use Rattle.std.proofs.lemmas.List.{length-take}
use Rattle.mm_model.specs.Views.ByBase.{Begins, based}
use Rattle.mm_model.specs.Views.ObjectView.{ObjectView}
use Rattle.mm_model.proofs.View.ByBase.MappedEntries.{mapped_begins}
use Rattle.mm_object.specs.Object.{StoredObjects, view_of_stored, views_of}
use Rattle.mm_object.specs.Heap.{Heap}
use Rattle.mm_count.specs.Table.{IsRight}
use Rattle.mm_count.specs.Listed.{AllListed, NonePinned}
use Rattle.mm_count.specs.Apart.{AreCountsApart}
use Rattle.mm_count.specs.DeadApart.{AreDeadApart}
use Rattle.mm_sweep.specs.Release.{AreObjects}
use Rattle.mm_count.proofs.Tables.{same-table}
use Rattle.mm_sweep.specs.Sweep.{IsWhiteAt, counted_slots_of}
use Rattle.mm_sweep.proofs.Dropping.{kept-object}
use Rattle.mm_sweep.proofs.Leaving.{recounted-then}
use Rattle.mm_sweep.proofs.Whites.{each_weaken, few-bases}
use Rattle.mm_sweep.proofs.Whitened.{swept-whitened, apart-whitened, dead-whitened, unpinned-whitened, right-whitened}
use Rattle.mm_sweep.proofs.sweeping.sweep.Goals as goal

objects-seen : (h : Heap) (Dead : ℕ → Type 0) (bases : List ℕ)
    → AllByRecursion (λ base. (object : ObjectView) × Begins (views_of h.objects) base object × Dead base) bases
    → AreObjects h bases
objects-seen h Dead bases only =
    each_weaken bases
    (λ base one. let s = mapped_begins view_of_stored h.objects base one.0 one.1 in (s.value, s.begins))
    only

none-dead : (objects : StoredObjects) → AllListed objects → AreDeadApart [] objects
none-dead objects all =
    record {
      left = λ base object begins listed. absurd (let no : ⊥ = cc in no);
      listed = λ base object begins counted exact zero out. all.listed base object begins counted exact zero;
    }

cost : (start a b c d pages k slots objects : ℕ) → a ≤ start + 1 + 2 * k + pages → b ≤ a + 2 * k + 10 * slots
    → c ≤ b + 9 * k → d ≡ c + pages → k ≤ objects → d ≤ start + 32 * (1 + pages + objects + slots)
cost start a b c d pages k slots objects one two three four few = omega arith

pub drop_counts-requires-clause-objects : goal.drop_counts-requires-clause-objects
drop_counts-requires-clause-objects g c =
    objects-seen c.args.heap.now (IsWhiteAt (views_of c.args.heap.now.objects))
    (take c.find_white-k.result c.find_white-k.new.dead.words) c.find_white-k.ensures.bases.only

pub leave_all-requires-clause-objects : goal.leave_all-requires-clause-objects
leave_all-requires-clause-objects g c =
    each_weaken (take c.find_white-k.result c.find_white-k.new.dead.words)
    (λ base object.
    kept-object c.args.heap.now c.drop_counts.new.heap base c.drop_counts.ensures.heap.objects object)
    (objects-seen c.args.heap.now (IsWhiteAt (views_of c.args.heap.now.objects))
    (take c.find_white-k.result c.find_white-k.new.dead.words) c.find_white-k.ensures.bases.only)

pub returns-clause-counts : goal.returns-clause-counts
returns-clause-counts g c =
    λ outside right.
    let bases = take c.find_white-k.result c.find_white-k.new.dead.words in
    subst (λ (h : Heap). AreCountsApart bases h.objects outside) (sym c.whiten.ensures.white)
    (apart-whitened c.leave_all.new.heap.objects bases outside
    (c.leave_all.ensures.counts bases outside (c.drop_counts.ensures.counts outside right)))

pub returns-clause-apart : goal.returns-clause-apart
returns-clause-apart g c =
    let bases = take c.find_white-k.result c.find_white-k.new.dead.words in
    subst (λ (h : Heap). AreDeadApart bases h.objects) (sym c.whiten.ensures.white)
    (dead-whitened c.leave_all.new.heap.objects bases
    (c.leave_all.ensures.left
    (none-dead c.drop_counts.new.heap.objects (c.drop_counts.ensures.listed c.requires.listed))))

pub returns-clause-unpinned : goal.returns-clause-unpinned
returns-clause-unpinned g c =
    subst (λ (h : Heap). NonePinned h.objects) (sym c.whiten.ensures.white)
    (unpinned-whitened c.leave_all.new.heap.objects
    (c.leave_all.ensures.unpinned (c.drop_counts.ensures.unpinned c.requires.unpinned)))

pub returns-clause-right : goal.returns-clause-right
returns-clause-right g c =
    subst (λ (h : Heap). IsRight c.leave_all.new.count h) (sym c.whiten.ensures.white)
    (right-whitened c.leave_all.new.count c.leave_all.new.heap c.leave_all.ensures.right)

pub returns-clause-table : goal.returns-clause-table
returns-clause-table g c =
    same-table c.args.count.now c.drop_counts.new.count c.leave_all.new.count c.drop_counts.ensures.table
    c.leave_all.ensures.table

pub returns-clause-views : goal.returns-clause-views
returns-clause-views g c =
    (swept-whitened c.args.heap.now c.leave_all.new.heap c.whiten.new.self
    (recounted-then c.args.heap.now c.drop_counts.new.heap c.leave_all.new.heap c.drop_counts.ensures.heap
    c.leave_all.ensures.heap) c.whiten.ensures.white).views

pub returns-clause-objects : goal.returns-clause-objects
returns-clause-objects g c =
    (swept-whitened c.args.heap.now c.leave_all.new.heap c.whiten.new.self
    (recounted-then c.args.heap.now c.drop_counts.new.heap c.leave_all.new.heap c.drop_counts.ensures.heap
    c.leave_all.ensures.heap) c.whiten.ensures.white).objects

pub returns-clause-rest : goal.returns-clause-rest
returns-clause-rest g c =
    (swept-whitened c.args.heap.now c.leave_all.new.heap c.whiten.new.self
    (recounted-then c.args.heap.now c.drop_counts.new.heap c.leave_all.new.heap c.drop_counts.ensures.heap
    c.leave_all.ensures.heap) c.whiten.ensures.white).rest

pub returns-clause-cost : goal.returns-clause-cost
returns-clause-cost g c =
    let words = c.find_white-k.new.dead.words in
    let k = c.find_white-k.result in
    let objects = views_of c.args.heap.now.objects in
    let bases = take k words in
    let within = c.find_white-k.ensures.within in
    let size = length-take k words in
    let few = few-bases objects (IsWhiteAt objects) bases c.find_white-k.ensures.bases in
    let pages = ap (λ (h : Heap). h.pages) (c.leave_all.ensures.heap.rest
    ∙ ap (λ (h : Heap). record h { objects = c.leave_all.new.heap.objects }) c.drop_counts.ensures.heap.rest) in
    let last : c.whiten.new.steps ≡ c.leave_all.new.steps + c.args.heap.now.pages =
    omega (arith, c.whiten.ensures.cost, pages) in
    cost c.args.steps.now c.find_white-k.new.steps c.drop_counts.new.steps c.leave_all.new.steps c.whiten.new.steps
    c.args.heap.now.pages k (counted_slots_of objects bases) (length (based objects)) c.find_white-k.ensures.cost
    c.drop_counts.ensures.cost c.leave_all.ensures.cost last (omega arith)
