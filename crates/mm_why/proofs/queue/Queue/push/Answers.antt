use Rattle.std.proofs.Common.{◌≡◌, ℕ, ◌/◌, List, length, ◌++◌, ◌∷◌, [], refl, sym, ap, subst, ◌∙◌, arith}
use Rattle.mm_sets.specs.Bits.{ChangesBit}
use Rattle.mm_why.specs.Queue.{Queue, queue_of}
use Rattle.mm_why.proofs.Queues.{pushed-few, pushed-keeps, whole, keeps-moved}
use Rattle.mm_why.proofs.queue.Queue.push.Goals as goal

pub push_reserved-requires : goal.push_reserved-requires
push_reserved-requires c =
    let q = c.args.self.now in
    let keeps = keeps-moved _ q _ _ _ _ c.self.view_is refl refl c.self.invariant in
    let few = pushed-few q c.args.found keeps.sound c.requires.place c.requires.new in
    let room = keeps.room in
    let len = c.self.inside.entries.ok in
    let same = ap (λ (x : Queue). length x.found) c.self.view_is in
    omega arith

pub invariant_of-self : goal.invariant_of-self
invariant_of-self c =
    let q = c.args.self.now in
    let old = c.self.inside.marks.items in
    let new = c.set_bit.new.words in
    let size : length new ≡ length old = c.set_bit.auto.words ∙ ap length c.deref_mut.ensures.value in
    let words = whole c.self.inside.marks.len new old size (omega (arith, c.self.inside.marks.ok)) in
    let change = subst (λ (ws : List ℕ). ChangesBit ws new (c.args.found.base / 16) 1) c.deref_mut.ensures.value
    c.set_bit.ensures in
    let keeps = keeps-moved _ q _ _ _ _ c.self.view_is refl refl c.self.invariant in
    let pushed = pushed-keeps q c.args.found keeps.sound c.requires.place c.requires.new c.requires.length
    c.requires.ordered _ old new keeps change size in
    let found = c.push_reserved.ensures.items ∙ ap (λ (x : Queue). x.found ++ c.args.found ∷ []) c.self.view_is in
    let same : record q { found = q.found ++ c.args.found ∷ [] }
    ≡ queue_of c.self.inside.places c.push_reserved.new.self.items =
    ap (λ (n : ℕ). queue_of n (q.found ++ c.args.found ∷ [])) (sym (ap (λ (x : Queue). x.places) c.self.view_is))
    ∙ ap (queue_of c.self.inside.places) (sym found) in
    keeps-moved _ _ _ _ _ _ same (sym c.push_reserved.ensures.capacity) (sym words) pushed
