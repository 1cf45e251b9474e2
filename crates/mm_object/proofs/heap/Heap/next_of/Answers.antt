use Rattle.std.proofs.Common.{◌≡◌, ℕ, Option, Some, None, sym, ap, subst, ◌∙◌}
use Rattle.std.specs.Prelude.{MatchOption}
use Rattle.mm_model.specs.declared.object.Colour.{Colour}
use Rattle.mm_cells.specs.Cells.{Cells, IsWalk}
use Rattle.mm_cells.specs.Looking as cells_looking
use Rattle.mm_words.specs.Piece.{Piece}
use Rattle.mm_object.specs.Heap.{Heap, cells_in}
use Rattle.mm_object.specs.Colours.{IsNextOf, NoneOfFrom}
use Rattle.mm_object.specs.Kept.{heap_of, KeepsHeap}
use Rattle.mm_object.proofs.Sound.{cells-heap}
use Rattle.mm_object.proofs.Calls.{sound}
use Rattle.mm_object.proofs.Shading.{next-of, none-of}
use Rattle.mm_object.proofs.heap.Heap.next_of.Goals as goal

shown : (memory : Piece) (cells : Cells) → KeepsHeap memory cells → (h : Heap) → heap_of memory cells ≡ h
    → (colour : Colour) (from : ℕ) (found : Option ℕ)
    → MatchOption found (cells_looking.NoneOfFrom cells colour from)
    (λ base. cells_looking.IsNextOf cells colour from base)
    → MatchOption found (NoneOfFrom h colour from) (λ base. IsNextOf h colour from base)
shown memory cells kept h is colour from None told = none-of memory cells kept h is colour from told
shown memory cells kept h is colour from (Some base) told = next-of memory cells kept h is colour from base told

pub returns-clause-base : goal.returns-clause-base
returns-clause-base g c =
    shown c.self.inside.memory c.self.inside.cells c.self.invariant c.args.self.now c.self.view_is
    c.args.colour c.args.from c.next_of.result c.next_of.ensures.base

pub returns-clause-sound : goal.returns-clause-sound
returns-clause-sound g c =
    sound c.self.inside.memory c.self.inside.cells c.self.invariant c.args.self.now c.self.view_is

pub returns-clause-cost : goal.returns-clause-cost
returns-clause-cost g c =
    subst (λ (v : Cells). IsWalk v c.args.from c.next_of.result c.args.steps.now c.next_of.new.steps)
    (sym (cells-heap c.self.inside.memory c.self.inside.cells c.self.invariant)
    ∙ ap (λ (v : Heap). cells_in v) c.self.view_is) c.next_of.ensures.cost
