-- The lines of bytes are those that their newlines end.
use Rattle.mm_laws.proofs.Tracing.Cutting.{lines_of-append}
use Rattle.mm_laws.proofs.traces.lines_are_cut_at_newlines.Goals as goal

pub returns : goal.returns
returns c = lines_of-append
