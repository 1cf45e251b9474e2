use Rattle.std.proofs.Common.{◌≡◌, ℕ, ◌+◌, ◌++◌, [], ◌∷◌, List, Option, take, refl, sym, ap, subst, ◌∙◌, arith}
use Rattle.std.specs.Prelude.{slice_index}
use Rattle.std.proofs.lemmas.List.{take_all}
use Rattle.mm_object.specs.Heap.{Heap}
use Rattle.mm_roots.specs.Views.{cell_words}
use Rattle.mm_mark.specs.Colours.{IsGrayed}
use Rattle.mm_mark.proofs.Grayed.{nothing-grayed, grayed-then, queue-then, take-next}
use Rattle.mm_mark.proofs.RootWords.{beside-same, length-cell_words}
use Rattle.mm_mark.proofs.marker.Marker.shade_area.Goals as goal

pub loop-s-init : goal.loop-s-init
loop-s-init g c = record {
  grayed = nothing-grayed c.args.heap.now;
  cycle = refl;
  known = c.requires.known;
  sound = λ sound. sound;
  few = λ stale h. h;
  ticked = omega arith;
}

pub word-word-requires-clause-beside : goal.word-word-requires-clause-beside
word-word-requires-clause-beside g c =
    beside-same c.args.areas.now c.args.heap.now c.loop-s.heap c.loop-s.invariant.grayed.rest c.requires.beside

pub loop-s-preserved : goal.loop-s-preserved
loop-s-preserved g c =
    let words = cell_words c.args.heap.now.raw c.args.area.base c.args.area.cells in
    let size = length-cell_words c.args.heap.now.raw c.args.area.base c.args.area.cells in
    let raw : c.loop-s.heap.raw ≡ c.args.heap.now.raw = ap (λ (h : Heap). h.raw) c.loop-s.invariant.grayed.rest in
    let read : c.word-word.result ≡ slice_index words c.loop-s.s =
    c.word-word.ensures.word
    ∙ ap (λ (raw : List (Option ℕ)). slice_index (cell_words raw c.args.area.base c.args.area.cells) c.loop-s.s) raw in
    let next : take c.loop-s.s words ++ (c.word-word.result ∷ []) ≡ take (c.loop-s.s + 1) words =
    ap (λ (w : ℕ). take c.loop-s.s words ++ (w ∷ [])) read ∙ sym (take-next words c.loop-s.s (omega arith)) in
    record {
      grayed =
          subst (λ (ws : List ℕ). IsGrayed c.args.heap.now c.shade.new.heap ws) next
          (grayed-then c.args.heap.now c.loop-s.heap c.shade.new.heap (take c.loop-s.s words) _
          c.loop-s.invariant.grayed c.shade.ensures.grayed);
      cycle = queue-then c.args.self.now c.loop-s.self c.shade.new.self c.loop-s.invariant.cycle c.shade.ensures.cycle;
      known = c.shade.ensures.known;
      sound = λ sound. c.shade.ensures.sound;
      few = λ stale h. c.shade.ensures.few stale (c.loop-s.invariant.few stale h);
      ticked = omega (arith, c.shade.ensures.cost, c.word-word.ensures.cost, c.loop-s.invariant.ticked);
    }

pub returns-clause-grayed : goal.returns-clause-grayed
returns-clause-grayed g c =
    let words = cell_words c.args.heap.now.raw c.args.area.base c.args.area.cells in
    let size = length-cell_words c.args.heap.now.raw c.args.area.base c.args.area.cells in
    let whole : take c.loop-s.s words ≡ words = take_all c.loop-s.s words (omega arith) in
    subst (λ (ws : List ℕ). IsGrayed c.args.heap.now c.loop-s.heap ws) whole c.loop-s.invariant.grayed
