use Rattle.std.proofs.Common.{◌≡◌, ℕ, ◌/◌, List, None, Some, sym, ap, ◌∙◌, subst}
use Rattle.std.proofs.lemmas.List.{set-set}
use Rattle.mm_pages.specs.Parked.{HaveNoCommonRun, AreAllParked}
use Rattle.mm_cells.specs.Placing.{LeavesPage}
use Rattle.mm_fixed.specs.Fixed.{Fixed, OutBlock, with_block, block_out}
use Rattle.mm_fixed.specs.Cells.{cells_of}
use Rattle.mm_roots.proofs.Blocks.{leaves-from}
use Rattle.mm_roots.proofs.adding.free_block.Given.{Over}
use Rattle.mm_roots.proofs.adding.free_block.Goals as goal

-- the block that is taken out begins at the base
at_base : (g : Over) (c : goal.After-free g) → c.unpark-block.result.base ≡ c.args.base
at_base g c =
    ap (λ (b : OutBlock). b.base) (c.unpark-block.ensures.block c.requires.there.extent c.requires.there.begins)

pub returns-clause-gone : goal.returns-clause-gone
returns-clause-gone g c =
    let base = c.args.base in
    let runs = c.free.new.self.runs in
    c.free.ensures.gone
    ∙ ap (λ (at : ℕ). record (with_block c.unpark-block.new.self at None) { runs = runs }) (at_base g c)
    ∙ ap (λ (v : Fixed). record (with_block v base None) { runs = runs }) c.unpark-block.ensures.unparked
    ∙ ap (λ blocks. record c.args.fixed.now { blocks = blocks; runs = runs })
    (set-set c.args.fixed.now.blocks (base / 16) (Some (block_out c.unpark-block.result.extent)) None)

pub returns-clause-page : goal.returns-clause-page
returns-clause-page g c =
    leaves-from (cells_of c.args.fixed.now) (cells_of c.unpark-block.new.self) (cells_of c.free.new.self)
    c.args.pages.now c.free.new.pages (c.args.base / 4096)
    (ap (λ (v : Fixed). v.runs) c.unpark-block.ensures.unparked)
    (subst (λ (at : ℕ). LeavesPage (cells_of c.unpark-block.new.self) (cells_of c.free.new.self) c.args.pages.now
    (at / 4096) c.free.new.pages) (at_base g c) c.free.ensures.page)

pub returns-clause-all_parked : goal.returns-clause-all_parked
returns-clause-all_parked g c = λ others parked.
    c.free.ensures.all_parked others
    (subst (λ (own : List ℕ). AreAllParked own others c.args.pages.now)
    (sym (ap (λ (v : Fixed). v.runs) c.unpark-block.ensures.unparked)) parked)

pub returns-clause-others : goal.returns-clause-others
returns-clause-others g c = λ runs clear parked.
    c.free.ensures.others runs
    (subst (λ (own : List ℕ). HaveNoCommonRun own runs)
    (sym (ap (λ (v : Fixed). v.runs) c.unpark-block.ensures.unparked)) clear) parked

pub returns-clause-apart : goal.returns-clause-apart
returns-clause-apart g c = λ runs clear.
    c.free.ensures.apart runs
    (subst (λ (own : List ℕ). HaveNoCommonRun own runs)
    (sym (ap (λ (v : Fixed). v.runs) c.unpark-block.ensures.unparked)) clear)
