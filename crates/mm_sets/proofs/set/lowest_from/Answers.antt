use Rattle.std.proofs.Common.{◌+◌, ◌*◌, ◌/◌, arith}
use Rattle.mm_sets.proofs.Sets.{MatchOption-joined}
use Rattle.mm_sets.proofs.set.lowest_from.Goals as goal

pub returns-in-None : goal.returns-in-None
returns-in-None c = λ limit s. MatchOption-joined limit c.args.set.now c.args.from (32 * (c.args.from / 32 + 1))
    c.lowest_in_words.result (omega arith) (c.in-None.ensures limit s) (c.lowest_in_words.ensures limit s)
