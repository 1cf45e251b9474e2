use Rattle.std.proofs.Common.{sym, ap, subst, ◌∙◌}
use Rattle.mm_words.specs.Piece.{Piece}
use Rattle.mm_object.specs.Kept.{heap_of, KeepsHeap}
use Rattle.mm_object.proofs.Sound.{IsSound-kept}
use Rattle.mm_object.proofs.Bare.{raw-bare, set-raw, keep-raw}
use Rattle.mm_object.proofs.heap.Heap.set_raw.Goals as goal

pub set-requires : goal.set-requires
set-requires g c =
    (raw-bare c.self.inside.memory c.self.inside.cells c.self.invariant c.args.self.now c.self.view_is
    c.args.address c.requires.0 c.requires.1).within

pub invariant_of-self : goal.invariant_of-self
invariant_of-self g c =
    subst (λ (p : Piece). KeepsHeap p c.self.inside.cells) (sym c.set.ensures)
    (keep-raw c.self.inside.memory c.self.inside.cells c.self.invariant c.args.self.now c.self.view_is
    c.args.address c.requires.0 c.requires.1 c.args.w)

pub returns-clause-word : goal.returns-clause-word
returns-clause-word g c =
    ap (λ (p : Piece). heap_of p c.self.inside.cells) c.set.ensures
    ∙ set-raw c.self.inside.memory c.self.inside.cells c.self.invariant c.args.self.now c.self.view_is
    c.args.address c.requires.0 c.requires.1 c.args.w

pub returns-clause-sound : goal.returns-clause-sound
returns-clause-sound g c = IsSound-kept c.set.new.self c.self.inside.cells (invariant_of-self g c)
