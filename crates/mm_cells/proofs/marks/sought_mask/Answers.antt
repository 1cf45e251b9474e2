-- The two low bits of a mark say whether its cell is taken, and of which colour it is.
use Rattle.std.proofs.Common.{◌≡◌, ◌∙◌, ap, arith}
use Rattle.mm_model.specs.declared.object.Colour.TheVariants.{White, Gray, Black}
use Rattle.mm_cells.specs.declared.marks.Sought.TheVariants as sought
use Rattle.mm_cells.proofs.Bits.Sought.{IsMaskOf-taken, IsMaskOf-white, IsMaskOf-gray, IsMaskOf-black}
use Rattle.mm_cells.proofs.marks.sought_mask.Goals as goal

pub returns-in-Taken : goal.returns-in-Taken
returns-in-Taken c = rw c.in-Taken.is (IsMaskOf-taken c.args.word (omega arith))

pub returns-in-Of-White : goal.returns-in-Of-White
returns-in-Of-White c =
    let same : c.args.sought ≡ sought.Of White = c.in-Of-White.is
    ∙ ap sought.Of (rw c.in-Of-White.is at c.in-Of-White.field-0-is) in
    rw same (IsMaskOf-white c.args.word (omega arith))

pub returns-in-Of-Gray : goal.returns-in-Of-Gray
returns-in-Of-Gray c =
    let same : c.args.sought ≡ sought.Of Gray = c.in-Of-Gray.is
    ∙ ap sought.Of (rw c.in-Of-Gray.is at c.in-Of-Gray.field-0-is) in
    rw same (IsMaskOf-gray c.args.word (omega arith))

pub returns-in-Of-Black : goal.returns-in-Of-Black
returns-in-Of-Black c =
    let same : c.args.sought ≡ sought.Of Black = c.in-Of-Black.is
    ∙ ap sought.Of (rw c.in-Of-Black.is at c.in-Of-Black.field-0-is) in
    rw same (IsMaskOf-black c.args.word (omega arith))
