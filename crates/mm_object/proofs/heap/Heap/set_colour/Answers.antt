use Rattle.mm_object.proofs.Sound.{IsSound-kept}
use Rattle.mm_object.proofs.Calls.{taken, recolour, keep-recoloured}
use Rattle.mm_object.proofs.heap.Heap.set_colour.Goals as goal

pub set_colour-requires : goal.set_colour-requires
set_colour-requires g c =
    taken c.self.inside.memory c.self.inside.cells c.self.invariant c.args.self.now c.self.view_is
    c.args.base c.requires.0 c.requires.1

pub invariant_of-self : goal.invariant_of-self
invariant_of-self g c =
    keep-recoloured c.self.inside.memory c.self.inside.cells c.self.invariant c.args.self.now c.self.view_is
    c.args.base c.requires.0 c.requires.1 c.set_colour.new.self c.args.colour c.set_colour.ensures.colour
    c.set_colour.ensures.sound

pub returns-clause-colour : goal.returns-clause-colour
returns-clause-colour g c = λ object begins.
    recolour c.self.inside.memory c.self.inside.cells c.self.invariant c.args.self.now c.self.view_is
    c.args.base object begins c.set_colour.new.self c.args.colour c.set_colour.ensures.colour

pub returns-clause-sound : goal.returns-clause-sound
returns-clause-sound g c =
    IsSound-kept c.self.inside.memory c.set_colour.new.self (invariant_of-self g c)
