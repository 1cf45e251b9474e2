use Rattle.std.proofs.Common.{◌≡◌, ℕ, ◌-◌, ◌*◌, ◌<◌, ◌≤◌, List, length, take, get_or, sym, ap, subst, ◌∙◌, arith}
use Rattle.std.proofs.lemmas.List.{length-take, get_or-take}
use Rattle.mm_words.specs.Piece.{Piece, with_words}
use Rattle.mm_object.specs.Heap.{Heap}
use Rattle.mm_object.proofs.Sound.{IsSound-kept}
use Rattle.mm_object.proofs.Resized.{resized-kept, resized-heap}
use Rattle.mm_object.proofs.heap.Heap.resize.Goals as goal

longer-same : (words news : List ℕ) → take (length words) news ≡ words → (i : ℕ) → i < length words
    → get_or news i 0 ≡ get_or words i 0
longer-same words news e i within =
    sym (get_or-take (length words) news i 0 within) ∙ ap (λ (ws : List ℕ). get_or ws i 0) e

shorter-same : (memory news : Piece) (n : ℕ) → news ≡ with_words memory (take n memory.words) → (i : ℕ)
    → i < length news.words → get_or news.words i 0 ≡ get_or memory.words i 0
shorter-same memory news n e i within =
    let size = ap (λ (p : Piece). length p.words) e in
    let short : i < n = omega (arith, size, length-take n memory.words) in
    ap (λ (p : Piece). get_or p.words i 0) e ∙ get_or-take n memory.words i 0 short

pub invariant_of-self : goal.invariant_of-self
invariant_of-self c =
    resized-kept c.self.inside.memory c.self.inside.cells c.self.invariant c.args.self.now c.self.view_is
    c.lengthen.new.w c.args.pages c.lengthen.ensures.stays.0 c.lengthen.ensures.stays.1
    (omega (arith, c.len-now.ensures, c.if-now-wanted.true, c.lengthen.ensures.longer)) c.requires.two
    (subst (λ (v : Heap). c.args.pages ≤ v.pages) (sym c.self.view_is) c.requires.most) c.requires.clear
    (λ i before after. longer-same c.self.inside.memory.words c.lengthen.new.w.words c.lengthen.ensures.words i before)

pub invariant_of-self-else-now-wanted : goal.invariant_of-self-else-now-wanted
invariant_of-self-else-now-wanted c =
    resized-kept c.self.inside.memory c.self.inside.cells c.self.invariant c.args.self.now c.self.view_is
    c.shorten.new.w c.args.pages (ap (λ (p : Piece). p.arena) c.shorten.ensures.piece)
    (ap (λ (p : Piece). p.place) c.shorten.ensures.piece)
    (omega (
      arith,
      c.len-now.ensures,
      c.if-now-wanted.false,
      ap (λ (p : Piece). length p.words) c.shorten.ensures.piece,
      length-take (length c.self.inside.memory.words - (c.len-now.result - 1024 * c.args.pages))
          c.self.inside.memory.words,
    )) c.requires.two
    (subst (λ (v : Heap). c.args.pages ≤ v.pages) (sym c.self.view_is) c.requires.most) c.requires.clear
    (λ i before after. shorter-same c.self.inside.memory c.shorten.new.w
    (length c.self.inside.memory.words - (c.len-now.result - 1024 * c.args.pages)) c.shorten.ensures.piece i after)

pub returns-then-now-wanted-clause-heap : goal.returns-then-now-wanted-clause-heap
returns-then-now-wanted-clause-heap c =
    resized-heap c.self.inside.memory c.self.inside.cells c.self.invariant c.args.self.now c.self.view_is
    c.lengthen.new.w c.args.pages c.lengthen.ensures.stays.0 c.lengthen.ensures.stays.1
    (omega (arith, c.len-now.ensures, c.if-now-wanted.true, c.lengthen.ensures.longer)) c.requires.two
    (subst (λ (v : Heap). c.args.pages ≤ v.pages) (sym c.self.view_is) c.requires.most) c.requires.clear
    (λ i before after. longer-same c.self.inside.memory.words c.lengthen.new.w.words c.lengthen.ensures.words i before)

pub returns-then-now-wanted-clause-sound : goal.returns-then-now-wanted-clause-sound
returns-then-now-wanted-clause-sound c =
    IsSound-kept c.lengthen.new.w c.self.inside.cells (invariant_of-self c)

pub returns-else-now-wanted-clause-heap : goal.returns-else-now-wanted-clause-heap
returns-else-now-wanted-clause-heap c =
    resized-heap c.self.inside.memory c.self.inside.cells c.self.invariant c.args.self.now c.self.view_is
    c.shorten.new.w c.args.pages (ap (λ (p : Piece). p.arena) c.shorten.ensures.piece)
    (ap (λ (p : Piece). p.place) c.shorten.ensures.piece)
    (omega (
      arith,
      c.len-now.ensures,
      c.if-now-wanted.false,
      ap (λ (p : Piece). length p.words) c.shorten.ensures.piece,
      length-take (length c.self.inside.memory.words - (c.len-now.result - 1024 * c.args.pages))
          c.self.inside.memory.words,
    )) c.requires.two
    (subst (λ (v : Heap). c.args.pages ≤ v.pages) (sym c.self.view_is) c.requires.most) c.requires.clear
    (λ i before after. shorter-same c.self.inside.memory c.shorten.new.w
    (length c.self.inside.memory.words - (c.len-now.result - 1024 * c.args.pages)) c.shorten.ensures.piece i after)

pub returns-else-now-wanted-clause-sound : goal.returns-else-now-wanted-clause-sound
returns-else-now-wanted-clause-sound c =
    IsSound-kept c.shorten.new.w c.self.inside.cells (invariant_of-self-else-now-wanted c)
