-- The cell of the block becomes white.
use Rattle.std.proofs.Common.{◌≡◌, ℕ, false, refl, sym, ◌∙◌, ap, subst}
use Rattle.std.specs.Prelude.{Some}
use Rattle.mm_model.specs.Views.ByBase.{Begins}
use Rattle.mm_words.specs.Location.{Location}
use Rattle.mm_cells.specs.Cells.{Cells}
use Rattle.mm_fixed.specs.Fixed.{Fixed, block_parked, block_out, out_at, with_block, IsOut}
use Rattle.mm_fixed.specs.Cells.{cells_of}
use Rattle.mm_fixed.proofs.Kept.{keeps, taken-kept, painted-kept, begins-written, sound-shown}
use Rattle.mm_fixed.proofs.Shown.{kept-shown, shown-kept}
use Rattle.mm_fixed.proofs.fixed.Fixed.unpark.Goals as goal

pub paint-requires : goal.paint-requires
paint-requires c =
    let is = kept-shown c.self.inside.cells c.args.self.now c.self.invariant c.self.view_is in (
      _,
      taken-kept c.self.inside.cells c.args.self.now c.args.base (block_parked c.requires.extent) is
          c.requires.begins,
    )

-- what the cells are afterwards
unpainted : (c : goal.After-of) →
    c.paint.new.self ≡ cells_of (with_block c.args.self.now c.args.base (Some (block_out c.requires.extent)))
unpainted c =
    let is = kept-shown c.self.inside.cells c.args.self.now c.self.invariant c.self.view_is in
    painted-kept c.self.inside.cells c.paint.new.self c.args.self.now c.args.base (block_parked c.requires.extent) false
    is
    c.requires.begins c.paint.ensures.colour

-- the block that was parked there
told : (c : goal.After-of) → c.extent-extent.result ≡ c.requires.extent
told c = c.extent-extent.ensures.extent c.requires.extent c.requires.begins

-- and the cells lie where they lay
same : (c : goal.After-of) → c.of.result.value.table ≡ c.args.self.now.table
same c = ap (λ (w : Cells). w.table) (c.of.ensures ∙ unpainted c)

pub invariant_of-self : goal.invariant_of-self
invariant_of-self c = keeps c.paint.new.self _ (unpainted c) c.paint.ensures.sound

pub returns-clause-block : goal.returns-clause-block
returns-clause-block c = λ extent begins.
    ap (λ (table : Location). record { allocator = table; base = c.args.base; extent = c.extent-extent.result })
    (same c)
    ∙ ap (λ (e : ℕ). out_at c.args.self.now c.args.base e) (c.extent-extent.ensures.extent extent begins)

pub returns-clause-out : goal.returns-clause-out
returns-clause-out c =
    let now : Fixed = with_block c.args.self.now c.args.base (Some (block_out c.requires.extent)) in
    subst (λ (v : Fixed). IsOut v
    (record { allocator = c.of.result.value.table; base = c.args.base; extent = c.extent-extent.result }))
    (sym (shown-kept c.paint.new.self now (unpainted c))) (record {
      own = same c;
      begins = subst (λ (e : ℕ). Begins now.blocks c.args.base (block_out e)) (sym (told c))
          (begins-written c.args.self.now c.args.base (block_parked c.requires.extent) (block_out c.requires.extent)
          c.requires.begins);
    })

pub returns-clause-unparked : goal.returns-clause-unparked
returns-clause-unparked c =
    shown-kept c.paint.new.self _ (unpainted c)
    ∙ ap (λ (e : ℕ). with_block c.args.self.now c.args.base (Some (block_out e))) (sym (told c))

pub returns-clause-sound : goal.returns-clause-sound
returns-clause-sound c = sound-shown c.paint.new.self _ (invariant_of-self c) refl
