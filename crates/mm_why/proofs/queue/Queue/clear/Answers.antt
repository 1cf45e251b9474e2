use Rattle.std.proofs.Common.{◌≡◌, ℕ, ◌+◌, ◌/◌, List, length, refl, sym, ap, subst, ◌∙◌, arith}
use Rattle.mm_sets.specs.Bits.{ChangesBit}
use Rattle.mm_why.specs.Queue.{Queue, queue_of, empty}
use Rattle.mm_why.proofs.Queues.{whole, keeps-moved, IsLeft, all-left, left-cleared, none-left, empty-keeps, read-entry}
use Rattle.mm_why.proofs.queue.Queue.clear.Goals as goal

pub loop-i-init : goal.loop-i-init
loop-i-init g c =
    let q = c.args.self.now in
    let keeps = keeps-moved _ q _ _ _ _ c.self.view_is refl refl c.self.invariant in
    let found = ap (λ (x : Queue). x.found) c.self.view_is in
    record {
      items = found;
      places = ap (λ (x : Queue). x.places) c.self.view_is;
      room = keeps.room;
      sound = keeps.sound;
      bits = keeps.bits;
      left = all-left q _ _ keeps;
      end = c.len-i-end.ensures ∙ c.self.inside.entries.ok.0 ∙ ap length found;
      ticked = omega arith;
    }

pub index-requires : goal.index-requires
index-requires g c =
    let found = ap length c.loop-i.invariant.items in
    let len = c.loop-i.self-inside.entries.ok in
    let end = c.loop-i.invariant.end in
    omega arith

pub clear_bit-requires : goal.clear_bit-requires
clear_bit-requires g c =
    let place = c.loop-i.invariant.sound.placed c.loop-i.i c.index.result.now
    (read-entry _ _ c.loop-i.i _ c.index.result.now c.loop-i.invariant.items c.loop-i.invariant.end
    c.loop-i-test.true c.index.ensures) in
    let below = place.below in
    let bits = c.loop-i.invariant.bits in
    let same = ap length c.deref_mut.ensures.value in
    omega arith

pub loop-i-preserved : goal.loop-i-preserved
loop-i-preserved g c =
    let old = c.loop-i.self-inside.marks.items in
    let new = c.clear_bit.new.words in
    let size : length new ≡ length old = c.clear_bit.auto.words ∙ ap length c.deref_mut.ensures.value in
    let words = whole c.loop-i.self-inside.marks.len new old size (omega (arith, c.loop-i.self-inside.marks.ok)) in
    let change = subst (λ (ws : List ℕ). ChangesBit ws new (c.index.result.now.base / 16) 0)
    c.deref_mut.ensures.value c.clear_bit.ensures in
    let h = c.loop-i.invariant in
    record {
      items = h.items;
      places = h.places;
      room = h.room;
      sound = h.sound;
      bits = let same = ap length words in let bits = h.bits in omega arith;
      left = subst (λ (ws : List ℕ). IsLeft c.args.self.now ws (c.loop-i.i + 1)) (sym words)
          (left-cleared c.args.self.now old new c.loop-i.i c.index.result.now h.sound h.left
          (read-entry _ _ c.loop-i.i _ c.index.result.now c.loop-i.invariant.items c.loop-i.invariant.end
          c.loop-i-test.true c.index.ensures) change);
      end = h.end;
      ticked = let a = h.ticked in let b = c.tick.ensures in omega arith;
    }

pub invariant_of-self : goal.invariant_of-self
invariant_of-self g c =
    let h = c.loop-i.invariant in
    let end : c.loop-i.i ≡ length c.args.self.now.found = let e = h.end in omega arith in
    let none = none-left c.args.self.now c.loop-i.self-inside.marks.items
    (subst (λ (n : ℕ). IsLeft c.args.self.now c.loop-i.self-inside.marks.items n) end h.left) in
    let kept = empty-keeps c.args.self.now.places _ _ h.sound.few h.room h.bits none in
    let same : empty c.args.self.now.places ≡ queue_of c.loop-i.self-inside.places c.clear.new.self.items =
    ap (λ (n : ℕ). empty n) (sym h.places)
    ∙ ap (queue_of c.loop-i.self-inside.places) (sym c.clear.ensures.items) in
    keeps-moved _ _ _ _ _ _ same (sym c.clear.ensures.capacity) refl kept

pub returns-clause-empty : goal.returns-clause-empty
returns-clause-empty g c =
    ap (λ (n : ℕ). queue_of n c.clear.new.self.items) c.loop-i.invariant.places
    ∙ ap (queue_of c.args.self.now.places) c.clear.ensures.items

pub returns-clause-cost : goal.returns-clause-cost
returns-clause-cost g c =
    let h = c.loop-i.invariant in
    let a = h.ticked in
    let b = h.end in
    omega arith
