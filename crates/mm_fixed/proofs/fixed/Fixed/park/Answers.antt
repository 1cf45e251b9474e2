-- The cell of the block becomes black.
use Rattle.std.proofs.Common.{◌≡◌, ℕ, true, refl, sym, ap, subst}
use Rattle.std.specs.Prelude.{Some}
use Rattle.mm_model.specs.Views.ByBase.{Begins}
use Rattle.mm_fixed.specs.Fixed.{Fixed, OutBlock, block_parked, block_out, with_block, IsParked}
use Rattle.mm_fixed.specs.Cells.{cells_of}
use Rattle.mm_fixed.proofs.Kept.{keeps, taken-kept, painted-kept, begins-written, sound-shown}
use Rattle.mm_fixed.proofs.Shown.{kept-shown, shown-kept}
use Rattle.mm_fixed.proofs.fixed.Fixed.park.Goals as goal

pub paint-requires : goal.paint-requires
paint-requires c =
    let is = kept-shown c.self.inside.cells c.args.self.now c.self.invariant c.self.view_is in
    let base : c.args.block.base ≡ c.block.inside.base = ap (λ (b : OutBlock). b.base) (sym c.block.view_is) in (
      _,
      taken-kept c.self.inside.cells c.args.self.now c.block.inside.base (block_out c.args.block.extent) is
          (subst (λ (b : ℕ). Begins c.args.self.now.blocks b (block_out c.args.block.extent)) base c.requires.begins),
    )

-- what the cells are afterwards
painted : (c : goal.After-paint) →
    c.paint.new.self ≡ cells_of (with_block c.args.self.now c.args.block.base (Some (block_parked c.args.block.extent)))
painted c =
    let is = kept-shown c.self.inside.cells c.args.self.now c.self.invariant c.self.view_is in
    let base : c.block.inside.base ≡ c.args.block.base = ap (λ (b : OutBlock). b.base) c.block.view_is in
    painted-kept c.self.inside.cells c.paint.new.self c.args.self.now c.args.block.base (block_out c.args.block.extent)
    true is c.requires.begins (rw (← base) c.paint.ensures.colour)

pub invariant_of-self : goal.invariant_of-self
invariant_of-self c = keeps c.paint.new.self _ (painted c) c.paint.ensures.sound

pub returns-clause-parked : goal.returns-clause-parked
returns-clause-parked c = shown-kept c.paint.new.self _ (painted c)

pub returns-clause-there : goal.returns-clause-there
returns-clause-there c =
    let now : Fixed = with_block c.args.self.now c.args.block.base (Some (block_parked c.args.block.extent)) in
    subst (λ (v : Fixed). IsParked v c.args.block.base) (sym (shown-kept c.paint.new.self now (painted c))) (record {
      extent = c.args.block.extent;
      begins = begins-written c.args.self.now c.args.block.base (block_out c.args.block.extent)
          (block_parked c.args.block.extent) c.requires.begins;
    })

pub returns-clause-sound : goal.returns-clause-sound
returns-clause-sound c = sound-shown c.paint.new.self _ (invariant_of-self c) refl
