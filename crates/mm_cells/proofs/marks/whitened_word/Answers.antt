use Rattle.mm_cells.proofs.Bits.Whitened.{whitens-word}
use Rattle.mm_cells.proofs.marks.whitened_word.Goals as goal

pub returns : goal.returns
returns c = whitens-word c.args.word
