-- What is written is the mark of the cell in which the word falls.
use Rattle.std.proofs.Common.{◌≡◌, ◌≢◌, refl, sym, ◌∙◌, ap, subst, inl, inr, arith}
use Rattle.mm_model.specs.declared.object.Colour.{Colour}
use Rattle.mm_model.specs.declared.object.Colour.TheVariants.{White, Gray}
use Rattle.mm_cells.specs.declared.marks.CellBits.{CellBits}
use Rattle.mm_cells.specs.declared.marks.Mark.TheVariants.{Taken}
use Rattle.mm_cells.specs.Cells.{IsSoundCells}
use Rattle.mm_cells.specs.Looking.{NoWhite}
use Rattle.mm_cells.specs.Map.{mark_at, SetsMark}
use Rattle.mm_cells.proofs.Region.Found.{Shades-marked, NoWhite-marked}
use Rattle.mm_cells.proofs.Region.Indexes.{KeepsCells-told}
use Rattle.mm_cells.proofs.Region.Soundness.{IsSoundCells-kept}
use Rattle.mm_cells.proofs.cells.Cells.shade.Given.{Over}
use Rattle.mm_cells.proofs.cells.Cells.shade.Goals.{In-Gray, After-make_gray}
use Rattle.mm_cells.proofs.cells.Cells.shade.Goals as goal

pub make_gray-requires-clause-white : goal.make_gray-requires-clause-white
make_gray-requires-clause-white g c = (
  c.in-Some.located.told.flags,
  c.in-Some.ensures.1 ∙ ap (λ (k : Colour). Taken k c.in-Some.located.told.flags) c.in-White.is,
)

white-mark : (g : Over) (c : After-make_gray g) →
    mark_at c.self.inside.table c.in-Some.located.index.page c.in-Some.located.index.number
    ≡ Taken White c.in-Some.located.told.flags
white-mark g c = c.in-Some.ensures.1 ∙ ap (λ (k : Colour). Taken k c.in-Some.located.told.flags) c.in-White.is

gray-mark : (g : Over) (c : After-make_gray g) →
    SetsMark c.self.inside.table c.make_gray.new.self c.in-Some.located.index.page c.in-Some.located.index.number
    (Taken Gray c.in-Some.located.told.flags)
gray-mark g c = c.make_gray.ensures c.in-Some.located.told.flags (white-mark g c)

pub invariant_of-self : goal.invariant_of-self
invariant_of-self g c =
    KeepsCells-told c.self.inside.table c.make_gray.new.self c.in-Some.located.index.page
    c.in-Some.located.index.number c.in-Some.located.cell.base Gray c.in-Some.located.told.flags c.self.invariant
    c.in-Some.ensures.0.index (gray-mark g c)

pub returns-in-White-clause-shaded : goal.returns-in-White-clause-shaded
returns-in-White-clause-shaded g c = rw (← c.self.view_is)
    (Shades-marked c.self.inside.table c.make_gray.new.self c.args.word c.in-Some.located.index.page
    c.in-Some.located.index.number c.in-Some.located.cell.base c.in-Some.located.cell.extent
    c.in-Some.located.told.flags c.self.invariant c.in-Some.ensures.0 (white-mark g c)
    (gray-mark g c))

pub returns-in-White-clause-sound : goal.returns-in-White-clause-sound
returns-in-White-clause-sound g c = IsSoundCells-kept c.make_gray.new.self (invariant_of-self g c)

-- another mark isn't white
other-mark : (g : Over) (c : In-Gray g) (flags : CellBits) →
    mark_at c.self.inside.table c.in-Some.located.index.page c.in-Some.located.index.number ≢ Taken White flags
other-mark g c flags white =
    let both : Taken c.in-Some.located.told.colour c.in-Some.located.told.flags ≡ Taken White flags =
    sym c.in-Some.ensures.1 ∙ white in
    elim c.in-Gray.is [
      | inl gray ↦ cc
      | inr black ↦ cc
    ]

pub returns-in-Gray : goal.returns-in-Gray
returns-in-Gray g c =
    let none : NoWhite c.args.self.now c.args.word =
    rw (← c.self.view_is)
    (NoWhite-marked c.self.inside.table c.args.word c.in-Some.located.index.page c.in-Some.located.index.number
    c.in-Some.located.cell.base c.in-Some.located.cell.extent c.self.invariant c.in-Some.ensures.0 (other-mark g c)) in
    record {
      shaded = (none, refl);
      sound = subst IsSoundCells c.self.view_is (IsSoundCells-kept c.self.inside.table c.self.invariant);
      cost = omega (arith, c.tick.ensures);
    }

pub returns-in-None-clause-shaded : goal.returns-in-None-clause-shaded
returns-in-None-clause-shaded g c =
    let none : NoWhite c.args.self.now c.args.word =
    rw (← c.self.view_is) (λ base cell covers white. c.in-None.ensures base cell covers) in
    (none, refl)

pub returns-in-None-clause-sound : goal.returns-in-None-clause-sound
returns-in-None-clause-sound g c = rw (← c.self.view_is) (IsSoundCells-kept c.self.inside.table c.self.invariant)
