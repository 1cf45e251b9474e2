use Rattle.std.proofs.Common.{ℕ, length, refl, sym, ap, ◌∙◌, subst, arith}
use Rattle.mm_count.specs.declared.composite.Composite.{Composite}
use Rattle.mm_count.specs.Composite.{FitsWord}
use Rattle.mm_count.specs.Table.{Table, IsRight, composite_of}
use Rattle.mm_count.specs.Kept.{gives, with_entry_word}
use Rattle.mm_count.proofs.Composites.{fits-entry, composite-entry}
use Rattle.mm_count.proofs.Room.{room_left}
use Rattle.mm_count.proofs.Stores.Changes.{entered-right}
use Rattle.mm_count.proofs.table.ZeroTable.enter.Goals as goal

pub set_composite-requires-clause-fits : goal.set_composite-requires-clause-fits
set_composite-requires-clause-fits g c =
    let k = c.requires.counted in
    let room = room_left c.args.self.now c.args.heap.now c.requires.right c.requires.sound c.args.base k.object k.begins
    (c.requires.out k.object k.begins) in
    let size = c.requires.sound.size in
    let most = c.requires.sound.most in
    let len = c.len.ensures in
    subst FitsWord (sym c.entered-listed.ensures)
    (fits-entry c.len.result c.args.composite (omega arith) c.requires.fits)

pub push-requires-clause-room : goal.push-requires-clause-room
push-requires-clause-room g c =
    let k = c.requires.counted in
    let room = room_left c.args.self.now c.args.heap.now c.requires.right c.requires.sound c.args.base k.object k.begins
    (c.requires.out k.object k.begins) in
    let size = c.requires.sound.size in
    let pages = c.requires.right.pages in
    omega arith

pub push-requires-clause-few : goal.push-requires-clause-few
push-requires-clause-few g c =
    let k = c.requires.counted in
    let room = room_left c.args.self.now c.args.heap.now c.requires.right c.requires.sound c.args.base k.object k.begins
    (c.requires.out k.object k.begins) in
    let size = c.requires.sound.size in
    let most = c.requires.sound.most in
    omega arith

pub returns-clause-few : goal.returns-clause-few
returns-clause-few g c =
    let k = c.requires.counted in
    let room = room_left c.args.self.now c.args.heap.now c.requires.right c.requires.sound c.args.base k.object k.begins
    (c.requires.out k.object k.begins) in
    let size = c.requires.sound.size in
    let most = c.requires.sound.most in
    omega arith

pub returns-clause-heap : goal.returns-clause-heap
returns-clause-heap g c = λ object begins.
    c.set_composite.ensures.says object begins
    ∙ ap (λ (r : Composite). gives c.args.heap.now c.args.base r object)
    (c.entered-listed.ensures ∙ ap (λ (n : ℕ). with_entry_word n c.args.composite) c.len.ensures)

pub returns-clause-right : goal.returns-clause-right
returns-clause-right g c =
    let k = c.requires.counted in
    let room = room_left c.args.self.now c.args.heap.now c.requires.right c.requires.sound c.args.base k.object k.begins
    (c.requires.out k.object k.begins) in
    let size = c.requires.sound.size in
    let most = c.requires.sound.most in
    let n = length c.args.self.now.entries in
    let is = c.entered-listed.ensures ∙ ap (λ (n : ℕ). with_entry_word n c.args.composite) c.len.ensures in
    let fits = fits-entry n c.args.composite (omega arith) c.requires.fits in
    let composite = composite-entry n c.args.composite c.requires.zero c.requires.exact in
    let writes = c.set_composite.ensures.says k.object k.begins
    ∙ ap (λ (r : Composite). gives c.args.heap.now c.args.base r k.object) is in
    subst (λ (t : Table). IsRight t c.set_composite.new.heap) (sym c.push.ensures)
    (entered-right c.args.heap.now c.args.base k (composite_of k.object) refl c.set_composite.new.heap
    (with_entry_word n c.args.composite) writes fits c.args.self.now composite
    (c.requires.out k.object k.begins) refl refl c.requires.right)
