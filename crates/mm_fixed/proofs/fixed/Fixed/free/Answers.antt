-- The cell of the block is given back.
use Rattle.std.proofs.Common.{◌≡◌, ℕ, ◌/◌, refl, sym, ap, subst}
use Rattle.std.specs.Prelude.{None}
use Rattle.mm_model.specs.Views.ByBase.{Begins}
use Rattle.mm_pages.specs.Parked.{HaveNoCommonRun, AreAllParked}
use Rattle.mm_fixed.specs.Fixed.{Fixed, OutBlock, block_out, with_block}
use Rattle.mm_fixed.specs.Cells.{cells_of}
use Rattle.mm_fixed.specs.Kept.{fixed_of}
use Rattle.mm_fixed.proofs.Clear.{left-clear}
use Rattle.mm_fixed.proofs.Kept.{keeps, taken-kept, gone-kept, page-kept, sound-shown}
use Rattle.mm_fixed.proofs.Shown.{kept-shown, shown-kept}
use Rattle.mm_fixed.proofs.fixed.Fixed.free.Given.{Over}
use Rattle.mm_fixed.proofs.fixed.Fixed.free.Goals as goal

pub release-requires-clause-taken : goal.release-requires-clause-taken
release-requires-clause-taken g c =
    let is = kept-shown c.self.inside.cells c.args.self.now c.self.invariant c.self.view_is in
    let base : c.args.block.base ≡ c.block.inside.base = ap (λ (b : OutBlock). b.base) (sym c.block.view_is) in (
      _,
      taken-kept c.self.inside.cells c.args.self.now c.block.inside.base (block_out c.args.block.extent) is
          (subst (λ (b : ℕ). Begins c.args.self.now.blocks b (block_out c.args.block.extent)) base
          c.requires.out.begins),
    )

-- what the cells are afterwards
gone : (g : Over) (c : goal.After-release g) →
    c.release.new.self
    ≡ cells_of (record (with_block c.args.self.now c.args.block.base None) { runs = c.release.new.self.runs })
gone g c =
    let is = kept-shown c.self.inside.cells c.args.self.now c.self.invariant c.self.view_is in
    let base : c.block.inside.base ≡ c.args.block.base = ap (λ (b : OutBlock). b.base) c.block.view_is in
    gone-kept c.self.inside.cells c.release.new.self c.args.self.now c.args.block.base c.release.new.self.runs is
    (rw (← base) c.release.ensures.gone)

pub invariant_of-self : goal.invariant_of-self
invariant_of-self g c = keeps c.release.new.self _ (gone g c) c.release.ensures.sound

pub returns-clause-gone : goal.returns-clause-gone
returns-clause-gone g c = shown-kept c.release.new.self _ (gone g c)

pub returns-clause-page : goal.returns-clause-page
returns-clause-page g c =
    let is = kept-shown c.self.inside.cells c.args.self.now c.self.invariant c.self.view_is in
    let base : c.block.inside.base ≡ c.args.block.base = ap (λ (b : OutBlock). b.base) c.block.view_is in
    rw (← base) (page-kept c.self.inside.cells c.release.new.self c.args.self.now (fixed_of c.release.new.self)
    c.args.pages.now c.release.new.pages (c.block.inside.base / 4096) is
    (kept-shown c.release.new.self (fixed_of c.release.new.self) (invariant_of-self g c) refl) c.release.ensures.page)

pub returns-clause-others : goal.returns-clause-others
returns-clause-others g c = λ runs clear parked.
    let own = subst (λ (v : Fixed). HaveNoCommonRun v.runs runs) (sym c.self.view_is) clear in
    let is = kept-shown c.self.inside.cells c.args.self.now c.self.invariant c.self.view_is in
    let base : c.args.block.base ≡ c.block.inside.base = ap (λ (b : OutBlock). b.base) (sym c.block.view_is) in
    let begins = taken-kept c.self.inside.cells c.args.self.now c.block.inside.base (block_out c.args.block.extent) is
    (subst (λ (b : ℕ). Begins c.args.self.now.blocks b (block_out c.args.block.extent)) base c.requires.out.begins) in
    c.release.ensures.others runs
    (own (c.block.inside.base / 4096)
    (c.self.invariant.sound.has_run c.block.inside.base _ begins)) parked

pub returns-clause-apart : goal.returns-clause-apart
returns-clause-apart g c = λ runs clear.
    left-clear c.self.inside.cells c.release.new.self c.args.pages.now c.release.new.pages (c.block.inside.base / 4096)
    runs
    c.release.ensures.page (subst (λ (v : Fixed). HaveNoCommonRun v.runs runs) (sym c.self.view_is) clear)

pub returns-clause-all_parked : goal.returns-clause-all_parked
returns-clause-all_parked g c = λ others all.
    c.release.ensures.all_parked others
    (subst (λ (v : Fixed). AreAllParked v.runs others c.args.pages.now) (sym c.self.view_is) all)

pub returns-clause-sound : goal.returns-clause-sound
returns-clause-sound g c = sound-shown c.release.new.self _ (invariant_of-self g c) refl
