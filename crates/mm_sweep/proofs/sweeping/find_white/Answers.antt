use Rattle.std.proofs.Common.{◌≡◌, ℕ, ◌+◌, ◌*◌, ◌-◌, ◌/◌, ◌<◌, ◌≤◌, List, length, drop, take, sym, ap, subst, ◌∙◌}
use Rattle.std.proofs.Common.{arith}
use Rattle.std.proofs.lemmas.List.{drop-drop, drop-set-lt, take_more_set, length-set}
use Rattle.mm_words.specs.Piece.{Piece}
use Rattle.mm_words.specs.Location.{Location, location_of}
use Rattle.mm_object.specs.Object.{views_of}
use Rattle.mm_sweep.specs.Sweep.{AreWhiteBelow}
use Rattle.mm_sweep.proofs.Whites.{white-more, white-all}
use Rattle.mm_sweep.proofs.sweeping.find_white.Goals as goal

-- at most one object begins in 16 bytes
next_few : (k from base grain : ℕ) → 16 * k ≤ from + 15 - 4096 → from ≤ base → base ≡ 16 * grain → 4096 ≤ base
    → 16 * (k + 1) ≤ base + 1 + 15 - 4096
next_few k from base grain few reached aligned inside = omega arith

next_cost : (start before after k from base : ℕ) → before ≤ start + 2 * k + from / 4096
    → after ≤ before + 1 + (base / 4096 + 1 - from / 4096) → from ≤ base
    → after ≤ start + 2 * (k + 1) + (base + 1) / 4096
next_cost start before after k from base was now reached = omega arith

pub loop-base-preserved : goal.loop-base-preserved
loop-base-preserved g c =
    let words = c.loop-base.dead.words in
    let k = c.loop-base.k in
    let base = c.in-Some.base in
    let next = c.in-Some.ensures.base in
    let inv = c.loop-base.invariant in
    let sound = c.next_of.ensures.sound in
    let inside = sound.inside base next.object next.begins in
    let low = inside.from in
    let high = inside.to in
    let room = sound.room base next.object next.begins in
    let size = sound.size in
    let few = inv.few in
    let most = inv.from in
    let space = c.requires.room in
    let same_size = ap (λ (l : Location). l.size) inv.dead in
    let reached = next.reached in
    let more = next_few k c.loop-base.from base next.begins.grain few reached next.begins.aligned low in
    let within : k < length words = omega arith in
    let written = ap (λ (p : Piece). p.words) c.set.ensures in
    record {
      found =
          subst (λ (bases : List ℕ). AreWhiteBelow (views_of c.args.heap.now.objects) (base + 1) bases)
          (sym (ap (λ (ws : List ℕ). take (k + 1) ws) written ∙ take_more_set words k base within))
          (white-more c.args.heap.now c.loop-base.from base (take k words) inv.found next);
      dead =
          ap location_of c.set.ensures
          ∙ ap (λ (n : ℕ). record { arena = c.loop-base.dead.arena; start = c.loop-base.dead.place; size = n })
          (length-set words k base)
          ∙ inv.dead;
      behind =
          ap (λ (ws : List ℕ). drop (k + 1) ws) written
          ∙ drop-set-lt (k + 1) words k base (omega arith)
          ∙ sym (drop-drop 1 k words)
          ∙ ap (λ (ws : List ℕ). drop 1 ws) inv.behind
          ∙ drop-drop 1 k c.args.dead.now.words;
      few = more;
      from = omega arith;
      cost =
          next_cost c.args.steps.now c.loop-base.steps c.next_of.new.steps k c.loop-base.from base inv.cost
          c.in-Some.ensures.cost reached;
    }

pub returns-clause-bases : goal.returns-clause-bases
returns-clause-bases g c =
    white-all c.args.heap.now c.loop-base.from (take c.loop-base.k c.loop-base.dead.words) c.loop-base.invariant.found
    c.in_default.ensures.base
