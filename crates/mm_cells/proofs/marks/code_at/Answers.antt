-- The mask leaves one digit.
use Rattle.mm_cells.proofs.Bits.Codes.{code_in-mask}
use Rattle.mm_cells.proofs.marks.code_at.Goals as goal

pub returns-clause-value : goal.returns-clause-value
returns-clause-value c = code_in-mask c.args.word c.args.place
