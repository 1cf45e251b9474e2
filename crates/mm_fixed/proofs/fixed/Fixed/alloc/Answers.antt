-- A cell is taken, white.
use Rattle.std.proofs.Common.{◌≡◌, ℕ, ◌/◌, ◌<◌, refl, arith, sym, ◌∙◌, ap, subst}
use Rattle.std.specs.Prelude.{Some, None, Option, slice_get}
use Rattle.mm_model.specs.declared.object.Size.{Size}
use Rattle.mm_model.specs.Places.SizeClass.{size_of, extent_of, extent_of_size}
use Rattle.mm_model.specs.Views.ByBase.{Begins}
use Rattle.mm_pages.specs.Parked.{HaveNoCommonRun, AreAllParked}
use Rattle.mm_model.specs.declared.object.Colour.TheVariants.{White}
use Rattle.mm_cells.specs.Cells.{Cells, newly_taken}
use Rattle.mm_cells.specs.Placing.{IsPlaceFor, run_length}
use Rattle.mm_fixed.specs.Fixed.{Fixed, with_block, with_run, block_out}
use Rattle.mm_fixed.specs.Cells.{cells_of}
use Rattle.mm_fixed.specs.Kept.{fixed_of}
use Rattle.mm_fixed.specs.Placing.{IsPlaceForBlock}
use Rattle.mm_fixed.proofs.Clear.{run_length-some, placed-clear}
use Rattle.mm_fixed.proofs.Kept.{keeps, taken-kept, placed-kept, sound-shown, base_in-err}
use Rattle.mm_fixed.proofs.Shown.{kept-shown, shown-kept, begins-shown}
use Rattle.mm_fixed.proofs.fixed.Fixed.alloc.Given.{Over}
use Rattle.mm_fixed.proofs.fixed.Fixed.alloc.Goals as goal

pub returns-in_err-base-clause-place : goal.returns-in_err-base-clause-place
returns-in_err-base-clause-place g c =
    let is = kept-shown c.self.inside.cells c.args.self.now c.self.invariant c.self.view_is in
    subst (λ (found : Option ℕ). IsPlaceForBlock c.args.self.now c.args.pages.now (size_of c.args.bytes) found)
    (sym (base_in-err c.from_residual.result c.from_residual.ensures.0))
    (subst (λ (w : Cells). IsPlaceFor w c.args.pages.now (size_of c.args.bytes) None) is c.in_err-base.ensures.place)

pub returns-in_err-base-clause-sound : goal.returns-in_err-base-clause-sound
returns-in_err-base-clause-sound g c =
    let is = kept-shown c.self.inside.cells c.args.self.now c.self.invariant c.self.view_is in
    sound-shown c.place.new.self _
    (keeps c.place.new.self c.args.self.now (c.in_err-base.ensures.unchanged.0 ∙ is) c.place.ensures.sound) refl

-- what the cells are afterwards
placed : (g : Over) (c : goal.After-of g) →
    c.place.new.self ≡ cells_of (with_run
    (with_block c.args.self.now c.in_ok-base.base (Some (block_out (extent_of c.args.bytes))))
    (c.in_ok-base.base / 4096) (run_length (size_of c.args.bytes)))
placed g c =
    let is = kept-shown c.self.inside.cells c.args.self.now c.self.invariant c.self.view_is in
    placed-kept c.self.inside.cells c.place.new.self c.args.self.now c.in_ok-base.base (extent_of c.args.bytes)
    (c.in_ok-base.base / 4096) (run_length (size_of c.args.bytes)) is c.in_ok-base.ensures.taken

pub invariant_of-self-2 : goal.invariant_of-self-2
invariant_of-self-2 g c = keeps c.place.new.self _ (placed g c) c.place.ensures.sound

pub returns-clause-place : goal.returns-clause-place
returns-clause-place g c =
    let is = kept-shown c.self.inside.cells c.args.self.now c.self.invariant c.self.view_is in
    subst (λ (w : Cells). IsPlaceFor w c.args.pages.now (size_of c.args.bytes) (Some c.in_ok-base.base)) is
    c.in_ok-base.ensures.place

pub returns-clause-was_free : goal.returns-clause-was_free
returns-clause-was_free g c = λ block begins.
    let is = kept-shown c.self.inside.cells c.args.self.now c.self.invariant c.self.view_is in
    let there = taken-kept c.self.inside.cells c.args.self.now c.in_ok-base.base block is begins in
    let grain : c.in_ok-base.base / 16 ≡ there.grain = omega (arith, there.aligned) in
    let none = sym there.is ∙ ap (λ (k : ℕ). slice_get c.self.inside.cells.taken k) (sym grain)
    ∙ c.in_ok-base.ensures.was_free in
    absurd (cc)

pub returns-clause-out : goal.returns-clause-out
returns-clause-out g c =
    let extent : c.extent_of-extent.result ≡ extent_of c.args.bytes =
    c.extent_of-extent.ensures.value ∙ ap (λ (size : Size). extent_of_size size) c.class_of.ensures.value in
    record {
      own = ap (λ (w : Cells). w.table) c.of.ensures;
      begins = subst (λ (e : ℕ). Begins (fixed_of c.place.new.self).blocks c.in_ok-base.base (block_out e)) (sym extent)
          (begins-shown c.place.new.self c.in_ok-base.base (newly_taken (extent_of c.args.bytes) White)
          c.in_ok-base.ensures.begins);
    }

pub returns-clause-taken : goal.returns-clause-taken
returns-clause-taken g c = shown-kept c.place.new.self _ (placed g c)

pub returns-clause-apart : goal.returns-clause-apart
returns-clause-apart g c = λ runs parked clear.
    let some = subst (λ (size : Size). 0 < run_length size) c.class_of.ensures.value
    (run_length-some c.class_of.result c.class_of.ensures.size) in
    placed-clear c.self.inside.cells c.place.new.self c.args.pages.now (size_of c.args.bytes) c.in_ok-base.base runs
    c.self.invariant.sound some c.in_ok-base.ensures.place (ap (λ (w : Cells). w.runs) c.in_ok-base.ensures.taken)
    parked
    (subst (λ (v : Fixed). HaveNoCommonRun v.runs runs) (sym c.self.view_is) clear)

pub returns-clause-all_parked : goal.returns-clause-all_parked
returns-clause-all_parked g c = λ others all.
    c.place.ensures.all_parked others
    (subst (λ (v : Fixed). AreAllParked v.runs others c.args.pages.now) (sym c.self.view_is) all)

pub returns-clause-sound : goal.returns-clause-sound
returns-clause-sound g c = sound-shown c.place.new.self _ (invariant_of-self-2 g c) refl
