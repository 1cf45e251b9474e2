use Rattle.std.proofs.Common.{◌+◌, sym, subst, arith}
use Rattle.mm_object.specs.Heap.{Heap}
use Rattle.mm_roots.specs.Areas.{ClearsCells}
use Rattle.mm_roots.proofs.Cleared.{next-IsRaw, ClearsCells-more}
use Rattle.mm_roots.proofs.area_cells.clear_cells.Goals as goal

pub set_raw-requires : goal.set_raw-requires
set_raw-requires g c =
    let raw = c.requires.raw c.loop-s.s c.loop-s-test.true in (
      raw.0,
      next-IsRaw c.args.heap.now c.loop-s.heap c.args.base c.loop-s.s raw.0 c.requires.aligned
          c.loop-s.invariant.cleared raw.1,
    )

pub loop-s-preserved : goal.loop-s-preserved
loop-s-preserved g c =
    let raw = c.requires.raw c.loop-s.s c.loop-s-test.true in
    record {
      cleared = subst (λ (h : Heap). ClearsCells c.args.heap.now h c.args.base (c.loop-s.s + 1))
          (sym c.set_raw.ensures.word)
          (ClearsCells-more c.args.heap.now c.loop-s.heap c.args.base c.loop-s.s raw.0 c.requires.aligned
          c.loop-s.invariant.cleared raw.1);
      sound = c.set_raw.ensures.sound;
      cost = omega (arith, c.set_raw.ensures.cost, c.loop-s.invariant.cost);
    }
