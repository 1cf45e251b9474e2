use Rattle.std.proofs.Common.{ℕ, ◌<◌, List, length, take, sym, ap, subst, arith}
use Rattle.std.specs.Prelude.{slice_index}
use Rattle.mm_model.specs.Views.ViewWords.{object_at}
use Rattle.mm_object.specs.Object.{views_of}
use Rattle.mm_object.specs.Heap.{IsObject}
use Rattle.mm_sweep.specs.Release.{final_slots, final_told, finals_told}
use Rattle.mm_sweep.specs.Told.{Told}
use Rattle.mm_sweep.proofs.Bases.{each_at, finals_told-next, finalized_slots-next}
use Rattle.mm_sweep.proofs.finalizing.run_finalizers.Goals as goal

pub loop-i-init : goal.loop-i-init
loop-i-init g c =
    record {
      told = g.met.J.Finalizer.tells_nothing c.args.journal.now;
      cost = omega arith;
    }

pub run_finalizer-requires-clause-object : goal.run_finalizer-requires-clause-object
run_finalizer-requires-clause-object g c =
    subst (IsObject c.args.heap.now) (sym c.get.ensures)
    (each_at (IsObject c.args.heap.now) c.args.dead.now.words c.args.k c.loop-i.i c.requires.objects (omega arith)
    (omega arith))

pub loop-i-preserved : goal.loop-i-preserved
loop-i-preserved g c =
    let words = c.args.dead.now.words in
    let objects = views_of c.args.heap.now.objects in
    let i = c.loop-i.i in
    let within : i < length words = omega (arith, c.requires.within) in
    let slots = finalized_slots-next objects words i within in
    let own = ap (λ (base : ℕ). final_slots (object_at objects base)) c.get.ensures in
    record {
      told =
          subst
          (λ (told : List Told). g.J.Finalizer.tells c.args.journal.now c.run_finalizer.new.journal told)
          (finals_told-next objects words i within)
          (g.met.J.Finalizer.tells_on c.args.journal.now c.loop-i.journal c.run_finalizer.new.journal
          (finals_told objects (take i words)) (final_told (object_at objects (slice_index words i)))
          c.loop-i.invariant.told
          (subst
          (λ (base : ℕ). g.J.Finalizer.tells c.loop-i.journal c.run_finalizer.new.journal
          (final_told (object_at objects base))) c.get.ensures c.run_finalizer.ensures.told));
      cost = omega (arith, c.loop-i.invariant.cost, c.run_finalizer.ensures.cost);
    }
