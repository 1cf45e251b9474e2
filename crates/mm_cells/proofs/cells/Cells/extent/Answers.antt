-- The use of its page says how large a cell is.
use Rattle.std.proofs.Common.{◌/◌, inl, inr, arith, sym, ◌∙◌, subst}
use Rattle.mm_cells.specs.Cells.{Cells, Begins, IsTaken, IsSoundCells}
use Rattle.mm_cells.proofs.Region.PageCells.{Begins-class_extent, Begins-first_extent}
use Rattle.mm_cells.proofs.Region.Released.{IsTaken-within, IsTaken-used}
use Rattle.mm_cells.proofs.Region.Soundness.{IsSoundCells-kept}
use Rattle.mm_cells.proofs.cells.Cells.extent.Goals as goal

pub use_at-requires : goal.use_at-requires
use_at-requires c =
    IsTaken-within c.self.inside.table c.args.base c.self.invariant
    (subst (λ (v : Cells). IsTaken v c.args.base) (sym c.self.view_is) c.requires)

pub extent_of-requires : goal.extent_of-requires
extent_of-requires c =
    (c.self.invariant.classes (c.args.base / 4096) c.in-Class.class (sym c.use_at.ensures ∙ c.in-Class.is)).0

pub overflow_mul-result : goal.overflow_mul-result
overflow_mul-result c =
    let known = c.self.invariant.wholes (c.args.base / 4096) c.in-First.count (sym c.use_at.ensures ∙ c.in-First.is) in
    omega (arith, known.within, c.self.invariant.most)

pub unreachable-requires : goal.unreachable-requires
unreachable-requires c =
    IsTaken-used c.self.inside.table c.args.base c.self.invariant
    (subst (λ (v : Cells). IsTaken v c.args.base) (sym c.self.view_is) c.requires) (elim c.in-Unused.is [
      | inl unused ↦ inl (sym c.use_at.ensures ∙ unused)
      | inr later ↦ inr (later.0, sym c.use_at.ensures ∙ later.1)
    ])

pub returns-in-Class-clause-extent : goal.returns-in-Class-clause-extent
returns-in-Class-clause-extent c = λ cell begins.
    c.extent_of.ensures.value
    ∙ sym (Begins-class_extent c.self.inside.table c.args.base c.in-Class.class cell c.self.invariant
    (sym c.use_at.ensures ∙ c.in-Class.is)
    (subst (λ (v : Cells). Begins v c.args.base cell) (sym c.self.view_is) begins))

pub returns-in-Class-clause-sound : goal.returns-in-Class-clause-sound
returns-in-Class-clause-sound c =
    subst IsSoundCells c.self.view_is (IsSoundCells-kept c.self.inside.table c.self.invariant)

pub returns-in-First-clause-extent : goal.returns-in-First-clause-extent
returns-in-First-clause-extent c = λ cell begins.
    let extent = Begins-first_extent c.self.inside.table c.args.base c.in-First.count cell c.self.invariant
    (sym c.use_at.ensures ∙ c.in-First.is)
    (subst (λ (v : Cells). Begins v c.args.base cell) (sym c.self.view_is) begins) in
    omega arith

pub returns-in-First-clause-sound : goal.returns-in-First-clause-sound
returns-in-First-clause-sound c =
    subst IsSoundCells c.self.view_is (IsSoundCells-kept c.self.inside.table c.self.invariant)
