use Rattle.mm_mark.proofs.colours.is_black_at.Goals as goal

pub unreachable-requires : goal.unreachable-requires
unreachable-requires g c = c.in-None.ensures.colour c.requires.0 c.requires.1
