use Rattle.std.proofs.Common.{◌≡◌, ℕ, Option, Some, None, sym, ap, subst, ◌∙◌}
use Rattle.std.specs.Prelude.{MatchOption}
use Rattle.mm_cells.specs.Cells.{Cells, IsSoundCells}
use Rattle.mm_cells.specs.Looking as cells_looking
use Rattle.mm_words.specs.Piece.{Piece}
use Rattle.mm_object.specs.Heap.{Heap}
use Rattle.mm_object.specs.Colours.{NoWhite, Shades}
use Rattle.mm_object.specs.Kept.{heap_of, KeepsHeap}
use Rattle.mm_object.proofs.Sound.{IsSound-kept}
use Rattle.mm_object.proofs.Shading.{shaded, shaded-kept, none-white}
use Rattle.mm_object.proofs.heap.Heap.shade.Goals as goal

-- by what was found
shown : (memory : Piece) (cells : Cells) → KeepsHeap memory cells → (h : Heap) → heap_of memory cells ≡ h
    → (after : Cells) (word : ℕ) (found : Option ℕ)
    → MatchOption found (cells_looking.NoWhite cells word × (after ≡ cells))
    (λ base. cells_looking.Shades cells after word base)
    → MatchOption found (NoWhite h word × (heap_of memory after ≡ h))
    (λ base. Shades h (heap_of memory after) word base)
shown memory cells kept h is after word None told =
    (none-white memory cells kept h is word told.0, ap (heap_of memory) told.1 ∙ is)
shown memory cells kept h is after word (Some base) told = shaded memory cells kept h is after word base told

stays : (memory : Piece) (cells : Cells) → KeepsHeap memory cells → (h : Heap) → heap_of memory cells ≡ h
    → (after : Cells) (word : ℕ) (found : Option ℕ)
    → MatchOption found (cells_looking.NoWhite cells word × (after ≡ cells))
    (λ base. cells_looking.Shades cells after word base) → IsSoundCells after → KeepsHeap memory after
stays memory cells kept h is after word None told sound = subst (KeepsHeap memory) (sym told.1) kept
stays memory cells kept h is after word (Some base) told sound =
    shaded-kept memory cells kept h is after word base told sound

pub invariant_of-self : goal.invariant_of-self
invariant_of-self g c =
    stays c.self.inside.memory c.self.inside.cells c.self.invariant c.args.self.now c.self.view_is
    c.shade.new.self c.args.word c.shade.result c.shade.ensures.shaded c.shade.ensures.sound

pub returns-clause-shaded : goal.returns-clause-shaded
returns-clause-shaded g c =
    shown c.self.inside.memory c.self.inside.cells c.self.invariant c.args.self.now c.self.view_is
    c.shade.new.self c.args.word c.shade.result c.shade.ensures.shaded

pub returns-clause-sound : goal.returns-clause-sound
returns-clause-sound g c = IsSound-kept c.self.inside.memory c.shade.new.self (invariant_of-self g c)
