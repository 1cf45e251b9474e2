use Rattle.std.proofs.Common.{◌≡◌, sym, ap, subst, ◌∙◌, refl, arith}
use Rattle.std.specs.Prelude.{not, IsTrue}
use Rattle.mm_model.specs.declared.object.Kind.{Kind}
use Rattle.mm_model.specs.declared.object.Kind.TheVariants.{Traced, Leaf, Counted, Weak}
use Rattle.mm_model.specs.Object.{is_counted}
use Rattle.mm_count.specs.Counts.{composite_at}
use Rattle.mm_count.proofs.Tables.{left-table}
use Rattle.mm_sweep.proofs.Leaving.{leaves-counted, leaves-other, dead-more, counts-more, recounted-same}
use Rattle.mm_sweep.proofs.sweeping.leave_table.Goals as goal

counted_kind : (kind told : Kind) → kind ≡ Counted → kind ≡ told → IsTrue (is_counted told)
counted_kind kind told is same = ap is_counted (sym same ∙ is)

other_kind : (kind : Kind) → (kind ≡ Counted → ⊥) → IsTrue (not (is_counted kind))
other_kind Traced ne = refl
other_kind Leaf ne = refl
other_kind Counted ne = absurd (ne refl)
other_kind Weak ne = refl

pub leave-requires-clause-counted : goal.leave-requires-clause-counted
leave-requires-clause-counted g c =
    let o = c.requires.object in
    record {
      object = o.0;
      begins = o.1;
      counted =
          counted_kind c.shape.result.kind o.0.kind c.in-Counted.is (ap (λ s. s.kind) (c.shape.ensures.shape o.0 o.1));
    }

pub returns-in-Counted-clause-left : goal.returns-in-Counted-clause-left
returns-in-Counted-clause-left g c =
    let o = c.requires.object in
    dead-more c.args.heap.now.objects c.leave.new.heap.objects c.args.base
    (leaves-counted c.args.heap.now c.leave.new.heap c.args.base o.0 o.1 c.leave.ensures.heap)

pub returns-in-Counted-clause-counts : goal.returns-in-Counted-clause-counts
returns-in-Counted-clause-counts g c =
    let o = c.requires.object in
    counts-more c.args.heap.now.objects c.leave.new.heap.objects c.args.base
    (leaves-counted c.args.heap.now c.leave.new.heap c.args.base o.0 o.1 c.leave.ensures.heap) c.leave.ensures.views

pub returns-in-Counted-clause-table : goal.returns-in-Counted-clause-table
returns-in-Counted-clause-table g c =
    left-table c.args.count.now c.leave.new.self (composite_at c.args.heap.now.objects c.args.base)
    c.leave.ensures.table

pub returns-in_default : goal.returns-in_default
returns-in_default g c =
    let o = c.requires.object in
    let told = ap (λ s. s.kind) (c.shape.ensures.shape o.0 o.1) in
    let kind = subst (λ k. IsTrue (not (is_counted k))) told
    (other_kind c.shape.result.kind c.in_default.not-Counted) in
    let none = (c.requires.right.spelled c.args.base o.0 o.1).other kind in
    let leaves = leaves-other c.args.heap.now.objects c.args.base o.0 o.1 none in
    record {
      left = dead-more c.args.heap.now.objects c.args.heap.now.objects c.args.base leaves;
      counts = λ dropped outside apart. apart;
      heap = recounted-same c.args.heap.now;
      unpinned = λ none. none;
      table = refl;
      right = c.requires.right;
      sound = c.shape.ensures.sound;
      cost = omega (arith, c.shape.ensures.cost);
    }
