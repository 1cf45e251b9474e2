-- A parked block begins there.
use Rattle.mm_fixed.specs.Fixed.{block_parked}
use Rattle.mm_fixed.specs.Cells.{cell_of}
use Rattle.mm_fixed.proofs.Kept.{taken-kept, sound-shown}
use Rattle.mm_fixed.proofs.Shown.{kept-shown}
use Rattle.mm_fixed.proofs.fixed.Fixed.extent.Goals as goal

pub extent-requires : goal.extent-requires
extent-requires c =
    let is = kept-shown c.self.inside.cells c.args.self.now c.self.invariant c.self.view_is in (
      _,
      taken-kept c.self.inside.cells c.args.self.now c.args.base (block_parked c.requires.extent) is
          c.requires.begins,
    )

pub returns-clause-extent : goal.returns-clause-extent
returns-clause-extent c = λ extent begins.
    let is = kept-shown c.self.inside.cells c.args.self.now c.self.invariant c.self.view_is in
    c.extent.ensures.extent (cell_of (block_parked extent))
    (taken-kept c.self.inside.cells c.args.self.now c.args.base (block_parked extent) is begins)

pub returns-clause-sound : goal.returns-clause-sound
returns-clause-sound c = sound-shown c.self.inside.cells c.args.self.now c.self.invariant c.self.view_is
