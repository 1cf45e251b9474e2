use Rattle.std.proofs.Common.{◌+◌, refl, arith}
use Rattle.mm_mark.proofs.Grayed.{queue-then}
use Rattle.mm_mark.proofs.RootWords.{beside-same, none-shaded, area-shaded}
use Rattle.mm_mark.proofs.marker.Marker.shade_areas.Goals as goal

pub areas-init : goal.areas-init
areas-init g c = record {
  shaded = none-shaded c.args.areas.now c.args.heap.now c.args.steps.now;
  cycle = refl;
  known = c.requires.known;
  sound = λ sound. sound;
  few = λ stale h. h;
}

pub shade_area-requires-clause-beside : goal.shade_area-requires-clause-beside
shade_area-requires-clause-beside g c =
    beside-same c.args.areas.now c.args.heap.now c.areas.heap c.areas.invariant.shaded.grayed.rest c.requires.beside

pub areas-preserved : goal.areas-preserved
areas-preserved g c = record {
  shaded =
      area-shaded c.args.areas.now c.args.heap.now c.areas.heap c.shade_area.new.heap c.areas.from
      (c.in-Some.area.number + 1) c.in-Some.area.base c.in-Some.area.cells c.args.steps.now c.areas.steps
      c.shade_area.new.steps c.areas.invariant.shaded (c.in-Some.ensures.words c.args.heap.now.raw)
      c.shade_area.ensures.grayed c.shade_area.ensures.cost;
  cycle = queue-then c.args.self.now c.areas.self c.shade_area.new.self c.areas.invariant.cycle
      c.shade_area.ensures.cycle;
  known = c.shade_area.ensures.known;
  sound = λ sound. c.shade_area.ensures.sound (c.areas.invariant.sound sound);
  few = λ stale h. c.shade_area.ensures.few stale (c.areas.invariant.few stale h);
}

pub areas-smaller : goal.areas-smaller
areas-smaller g c = omega (arith, c.in-Some.ensures.reached, c.in-Some.ensures.below)
