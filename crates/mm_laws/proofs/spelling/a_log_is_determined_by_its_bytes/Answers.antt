-- The bytes are cut at newlines, one line after another.
use Rattle.mm_laws.proofs.Lines.Spellings.{spelling_of-alike}
use Rattle.mm_laws.proofs.spelling.a_log_is_determined_by_its_bytes.Goals as goal

pub returns : goal.returns
returns c = spelling_of-alike
