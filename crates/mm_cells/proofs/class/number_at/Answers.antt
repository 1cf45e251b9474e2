-- The reciprocal of the class gives the quotient.
use Rattle.mm_cells.proofs.Sizes.Reciprocals.{number-reciprocal}
use Rattle.mm_cells.proofs.class.number_at.Goals as goal

pub returns : goal.returns
returns c = number-reciprocal c.args.class c.args.offset c.requires.class c.requires.offset
