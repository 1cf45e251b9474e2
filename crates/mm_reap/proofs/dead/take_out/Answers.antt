use Rattle.std.proofs.Common.{ℕ, List, take, sym, subst, arith}
use Rattle.std.proofs.lemmas.List.{length-take-le}
use Rattle.mm_reap.specs.Found.{AreFound, AreReapable}
use Rattle.mm_reap.proofs.Changes.{has-left}
use Rattle.mm_reap.proofs.Filled.{filled-one, front-one}
use Rattle.mm_reap.proofs.Leaving.{found-more, reapable-more, found-fit}
use Rattle.mm_reap.proofs.dead.take_out.Goals as goal

pub returns-clause-left : goal.returns-clause-left
returns-clause-left g c =
    has-left c.args.heap.now c.leave.new.heap c.args.base c.requires.entry.counted c.leave.ensures.heap
    c.leave.ensures.objects

pub returns-clause-heap : goal.returns-clause-heap
returns-clause-heap g c =
    record { views = c.leave.ensures.views; objects = c.leave.ensures.objects; rest = c.leave.ensures.rest }

pub returns-clause-few : goal.returns-clause-few
returns-clause-few g c =
    let old = take c.args.k c.args.dead.now.words in
    let size = length-take-le c.args.k c.args.dead.now.words c.requires.within in
    let fit = found-fit c.args.count.now c.args.heap.now c.leave.new.heap c.args.base old c.requires.entry
    c.requires.reaped.right (returns-clause-heap g c) (returns-clause-left g c)
    c.requires.reaped.found c.requires.reaped.sound in
    let pages = c.requires.reaped.sound.size in
    omega arith

pub set-requires : goal.set-requires
set-requires g c =
    let old = take c.args.k c.args.dead.now.words in
    let size = length-take-le c.args.k c.args.dead.now.words c.requires.within in
    let k = c.requires.entry.counted in
    let fit = found-fit c.args.count.now c.args.heap.now c.leave.new.heap c.args.base old c.requires.entry
    c.requires.reaped.right
    (record { views = c.leave.ensures.views; objects = c.leave.ensures.objects; rest = c.leave.ensures.rest })
    (has-left c.args.heap.now c.leave.new.heap c.args.base k c.leave.ensures.heap c.leave.ensures.objects)
    c.requires.reaped.found c.requires.reaped.sound in
    let pages = c.requires.reaped.sound.size in
    omega arith

pub returns-clause-filled : goal.returns-clause-filled
returns-clause-filled g c =
    filled-one c.args.dead.now c.set.new.self c.args.k c.args.base c.set.ensures (omega (arith, returns-clause-few g c))

pub returns-clause-reaped : goal.returns-clause-reaped
returns-clause-reaped g c =
    record {
      right = c.leave.ensures.right;
      sound = c.leave.ensures.sound;
      found = subst (AreFound c.leave.new.heap.objects)
          (sym (front-one c.args.dead.now c.set.new.self c.args.k c.args.base c.set.ensures
          (omega (arith, returns-clause-few g c))))
          (found-more c.args.count.now c.args.heap.now c.leave.new.heap c.args.base
          (take c.args.k c.args.dead.now.words) c.requires.entry c.requires.reaped.right (returns-clause-heap g c)
          (returns-clause-left g c) c.requires.reaped.found);
    }

pub returns-clause-reapable : goal.returns-clause-reapable
returns-clause-reapable g c = λ stack dropped outside are.
    subst (λ (bases : List ℕ). AreReapable c.leave.new.heap.objects stack dropped bases outside)
    (sym (front-one c.args.dead.now c.set.new.self c.args.k c.args.base c.set.ensures
    (omega (arith, returns-clause-few g c))))
    (reapable-more c.args.count.now c.args.heap.now c.leave.new.heap c.args.base
    (take c.args.k c.args.dead.now.words) c.requires.entry c.requires.reaped.right (returns-clause-heap g c)
    (returns-clause-left g c) c.requires.reaped.found stack dropped outside are)
