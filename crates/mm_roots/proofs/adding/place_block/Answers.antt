use Rattle.std.proofs.Common.{◌≡◌, ◌/◌, ℕ, List, Some, set, sym, ap, ◌∙◌, subst, arith}
use Rattle.mm_model.specs.Views.ByBase.{Begins}
use Rattle.mm_model.specs.Places.SizeClass.{size_of, extent_of, area_bytes}
use Rattle.mm_pages.specs.Parked.{HaveNoCommonRun, AreAllParked}
use Rattle.mm_cells.specs.Placing.{run_length}
use Rattle.mm_fixed.specs.Fixed.{Fixed, OutBlock, HasNoBlockAt, block_parked, block_out, with_block, with_run}
use Rattle.std.proofs.lemmas.List.{set-set}
use Rattle.mm_roots.proofs.Blocks.{begins-same, run-some, parked-within}
use Rattle.mm_roots.proofs.adding.place_block.Goals as goal

pub returns-clause-within : goal.returns-clause-within
returns-clause-within g c =
    let block = c.in_ok-block.block in
    let v = c.alloc.new.self in
    let new = c.in_ok-block.ensures in
    let is = ap (λ (b : OutBlock). b.extent) new.block in
    let enough = new.enough in
    let bytes = c.requires.some in
    let some = run-some v block.base (block_out block.extent) new.sound new.out.begins (omega arith) in
    let within = parked-within c.alloc.new.pages v.runs (block.base / 4096) new.heap_sound new.parked some in
    omega (arith, c.park.ensures.base)

pub returns-clause-was_free : goal.returns-clause-was_free
returns-clause-was_free g c =
    subst (HasNoBlockAt c.args.fixed.now) (sym c.park.ensures.base) c.in_ok-block.ensures.was_free

-- a block that is parked as soon as it is out
parked-out : (v : Fixed) (base extent page count : ℕ) →
    with_block (with_run (with_block v base (Some (block_out extent))) page count) base (Some (block_parked extent))
    ≡ with_run (with_block v base (Some (block_parked extent))) page count
parked-out v base extent page count =
    ap (λ blocks. record v { blocks = blocks; runs = set v.runs page count })
    (set-set v.blocks (base / 16) (Some (block_out extent)) (Some (block_parked extent)))

pub returns-clause-taken : goal.returns-clause-taken
returns-clause-taken g c =
    let v = c.args.fixed.now in
    let base = c.in_ok-block.block.base in
    let bytes = area_bytes c.args.cells in
    let count = run_length (size_of bytes) in
    c.park.ensures.parked
    ∙ ap (λ (n : ℕ). with_block c.alloc.new.self base (Some (block_parked n)))
    (ap (λ (b : OutBlock). b.extent) c.in_ok-block.ensures.block)
    ∙ ap (λ (w : Fixed). with_block w base (Some (block_parked (extent_of bytes)))) c.in_ok-block.ensures.taken
    ∙ parked-out v base (extent_of bytes) (base / 4096) count
    ∙ ap (λ (at : ℕ). with_run (with_block v at (Some (block_parked (extent_of bytes)))) (at / 4096) count)
    (sym c.park.ensures.base)

pub returns-clause-there : goal.returns-clause-there
returns-clause-there g c =
    let base = c.in_ok-block.block.base in
    let bytes = area_bytes c.args.cells in
    let extent = c.in_ok-block.block.extent in
    let parked = begins-same c.alloc.new.self.blocks base (block_out extent) (block_parked extent)
    c.in_ok-block.ensures.out.begins in
    let there : Begins c.park.new.self.blocks base (block_parked extent) =
    subst (λ (w : Fixed). Begins w.blocks base (block_parked extent)) (sym c.park.ensures.parked) parked in
    let sized : Begins c.park.new.self.blocks base (block_parked (extent_of bytes)) =
    subst (λ (n : ℕ). Begins c.park.new.self.blocks base (block_parked n))
    (ap (λ (b : OutBlock). b.extent) c.in_ok-block.ensures.block) there in
    subst (λ (at : ℕ). Begins c.park.new.self.blocks at (block_parked (extent_of bytes)))
    (sym c.park.ensures.base) sized

pub returns-clause-apart : goal.returns-clause-apart
returns-clause-apart g c = λ runs parked clear.
    subst (λ (own : List ℕ). HaveNoCommonRun own runs) (sym (ap (λ (v : Fixed). v.runs) c.park.ensures.parked))
    (c.in_ok-block.ensures.apart runs parked clear)

pub returns-clause-all_parked : goal.returns-clause-all_parked
returns-clause-all_parked g c = λ others parked.
    subst (λ (own : List ℕ). AreAllParked own others c.alloc.new.pages)
    (sym (ap (λ (v : Fixed). v.runs) c.park.ensures.parked)) (c.in_ok-block.ensures.all_parked others parked)
