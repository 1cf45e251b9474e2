-- No cell is taken.
use Rattle.std.proofs.Common.{refl, ◌∙◌}
use Rattle.mm_words.specs.Location.{location_of}
use Rattle.mm_fixed.specs.Fixed.{fresh}
use Rattle.mm_fixed.proofs.Kept.{keeps, sound-shown}
use Rattle.mm_fixed.proofs.Shown.{shown-kept, cells_of-fresh}
use Rattle.mm_fixed.proofs.fixed.Fixed.make.Goals as goal

pub invariant_of-result : goal.invariant_of-result
invariant_of-result c =
    let table = location_of c.args.table in
    keeps c.make.result (fresh table c.args.pages) (c.make.ensures.value ∙ cells_of-fresh table c.args.pages)
    c.make.ensures.sound

pub returns-clause-value : goal.returns-clause-value
returns-clause-value c =
    let table = location_of c.args.table in
    shown-kept c.make.result (fresh table c.args.pages) (c.make.ensures.value ∙ cells_of-fresh table c.args.pages)

pub returns-clause-sound : goal.returns-clause-sound
returns-clause-sound c = sound-shown c.make.result _ (invariant_of-result c) refl
