use Rattle.mm_trace.proofs.WordEnds.{EndsWord-end}
use Rattle.mm_trace.proofs.name.behind_word.Goals as goal

pub returns-in-empty : goal.returns-in-empty
returns-in-empty c = EndsWord-end c.args.text.now c.in-empty.len_below
