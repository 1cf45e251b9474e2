use Rattle.std.proofs.Common.{arith}
use Rattle.std.proofs.lemmas.Grind.{common_steps}
use Rattle.mm_io.specs.Reel.{playing}
use Rattle.mm_io.proofs.Pieces.{split_at_piece}
use Rattle.mm_io.proofs.tape.Tape.read.Goals as goal

pub returns-clause-given : goal.returns-clause-given
returns-clause-given c =
    let tape = c.args.self.now in
    split_at_piece (playing tape.file tape.chosen tape.own.items) c.copy_from_slice.new.self _ tape.at c.min-n.result
    (grind (arith, common_steps)) (grind (arith, common_steps))
