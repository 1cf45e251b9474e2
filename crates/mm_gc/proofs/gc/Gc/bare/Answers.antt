use Rattle.std.proofs.Common.{sym, ◌∙◌}
use Rattle.mm_gc.proofs.BareWords.Found.{bare-at}
use Rattle.mm_gc.proofs.gc.Gc.bare.Goals as goal

pub returns-clause-answer : goal.returns-clause-answer
returns-clause-answer g c =
    let has = c.if-not-has_slots.false in
    bare-at c.args.self.now c.args.i c.in-Ok.meant.word c.in-Ok.meant.found c.in-Ok.ensures.answer c.args.s c.args.count
    (sym c.is_scanned.ensures ∙ c.if-is_scanned.false) (sym c.has_slots.ensures.has ∙ has)
    (c.has_slots.ensures.small has)
