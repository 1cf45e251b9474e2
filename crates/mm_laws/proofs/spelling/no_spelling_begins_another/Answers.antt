-- A spelling has one newline, its last byte.
use Rattle.mm_laws.proofs.Lines.Spellings.{spelling-whole}
use Rattle.mm_laws.proofs.spelling.no_spelling_begins_another.Goals as goal

pub returns : goal.returns
returns c = spelling-whole
