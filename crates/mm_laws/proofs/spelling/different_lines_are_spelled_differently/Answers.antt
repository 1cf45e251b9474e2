-- Words that are read back tell the lines apart.
use Rattle.mm_laws.proofs.Lines.Spellings.{spelling-alike}
use Rattle.mm_laws.proofs.spelling.different_lines_are_spelled_differently.Goals as goal

pub returns : goal.returns
returns c = spelling-alike
