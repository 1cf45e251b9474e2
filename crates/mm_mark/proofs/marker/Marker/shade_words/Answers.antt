use Rattle.std.proofs.Common.{◌≡◌, ℕ, List, take, refl, sym, subst, arith}
use Rattle.std.proofs.lemmas.List.{take_all}
use Rattle.mm_mark.specs.Colours.{IsGrayed}
use Rattle.mm_mark.proofs.Grayed.{nothing-grayed, grayed-then, queue-then, take-next}
use Rattle.mm_mark.proofs.marker.Marker.shade_words.Goals as goal

pub loop-i-init : goal.loop-i-init
loop-i-init g c = record {
  grayed = nothing-grayed c.args.heap.now;
  cycle = refl;
  known = c.requires;
  sound = λ sound. sound;
  few = λ stale h. h;
  ticked = omega arith;
}

pub shade-requires : goal.shade-requires
shade-requires g c = c.loop-i.invariant.known

pub loop-i-preserved : goal.loop-i-preserved
loop-i-preserved g c = record {
  grayed =
      subst (λ (ws : List ℕ). IsGrayed c.args.heap.now c.shade.new.heap ws)
      (sym (take-next c.args.words.now c.loop-i.i (omega arith)))
      (grayed-then c.args.heap.now c.loop-i.heap c.shade.new.heap (take c.loop-i.i c.args.words.now) _
      c.loop-i.invariant.grayed c.shade.ensures.grayed);
  cycle = queue-then c.args.self.now c.loop-i.self c.shade.new.self c.loop-i.invariant.cycle c.shade.ensures.cycle;
  known = c.shade.ensures.known;
  sound = λ sound. c.shade.ensures.sound;
  few = λ stale h. c.shade.ensures.few stale (c.loop-i.invariant.few stale h);
  ticked = omega (arith, c.shade.ensures.cost, c.loop-i.invariant.ticked);
}

pub returns-clause-grayed : goal.returns-clause-grayed
returns-clause-grayed g c =
    let whole : take c.loop-i.i c.args.words.now ≡ c.args.words.now = take_all c.loop-i.i c.args.words.now
    (omega arith) in
    subst (λ (ws : List ℕ). IsGrayed c.args.heap.now c.loop-i.heap ws) whole c.loop-i.invariant.grayed
