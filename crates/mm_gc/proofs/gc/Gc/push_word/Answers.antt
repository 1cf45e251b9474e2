use Rattle.mm_gc.specs.Inside.{gc_of}
use Rattle.mm_gc.proofs.Pushing.{push-keeps}
use Rattle.mm_gc.proofs.gc.Gc.push_word.Goals as goal

pub invariant_of-self : goal.invariant_of-self
invariant_of-self c =
    push-keeps (gc_of c.self.inside) c.args.word c.push.new.self c.push.result c.self.invariant c.push.ensures.room
    c.push.ensures.pushed c.push.ensures.unchanged
