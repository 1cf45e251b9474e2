use Rattle.std.proofs.Common.{arith, sym, ap, subst}
use Rattle.mm_cells.specs.declared.marks.Sought.TheVariants as sought
use Rattle.mm_cells.specs.Cells.{Cells, IsSoundCells}
use Rattle.mm_cells.specs.Indexes.{NoneInPage, IsLowestInPage}
use Rattle.mm_cells.proofs.Region.Lowest.{NoneBefore, NoneBefore-first, NoneBefore-more, IsNextOf-lowest}
use Rattle.mm_cells.proofs.Region.Lowest.{NoneOfFrom-before}
use Rattle.mm_cells.proofs.Region.Soundness.{IsSoundCells-kept}
use Rattle.mm_cells.proofs.cells.Cells.next_of.Goals as goal

pub loop-page-init : goal.loop-page-init
loop-page-init g c = record {
  passed = NoneBefore-first c.args.self.now (sought.Of c.args.colour) c.args.from;
  ticked = omega arith;
  few = omega arith;
}

pub returns-in-Some-clause-base : goal.returns-in-Some-clause-base
returns-in-Some-clause-base g c = IsNextOf-lowest c.args.self.now c.loop-page.page c.args.colour c.args.from
    c.in-Some.base
    c.loop-page.invariant.passed
    (subst (λ (v : Cells). IsLowestInPage v c.loop-page.page (sought.Of c.args.colour) c.args.from c.in-Some.base)
    c.self.view_is
    c.in-Some.ensures)

pub loop-page-preserved : goal.loop-page-preserved
loop-page-preserved g c = record {
  passed = NoneBefore-more c.args.self.now c.loop-page.page (sought.Of c.args.colour) c.args.from
      c.loop-page.invariant.passed
      (subst (λ (v : Cells). NoneInPage v c.loop-page.page (sought.Of c.args.colour) c.args.from) c.self.view_is
      c.in_default.ensures);
  ticked = omega (arith, c.tick.ensures, c.loop-page.invariant.ticked, c.loop-page.auto.page);
  few = omega (arith, ap (λ (v : Cells). v.pages) c.self.view_is, c.pages-page-end.ensures.value);
}

pub returns-clause-base : goal.returns-clause-base
returns-clause-base g c = rw (← c.self.view_is)
    (NoneOfFrom-before c.self.inside.table c.loop-page.page c.args.colour c.args.from
    c.self.invariant (omega (arith, c.pages-page-end.ensures.value))
    (subst (λ (v : Cells). NoneBefore v c.loop-page.page (sought.Of c.args.colour) c.args.from) (sym c.self.view_is)
    c.loop-page.invariant.passed))

pub returns-clause-cost : goal.returns-clause-cost
returns-clause-cost g c = omega (arith, c.loop-page.invariant.ticked, c.loop-page.invariant.few)

pub returns-in-Some-clause-sound : goal.returns-in-Some-clause-sound
returns-in-Some-clause-sound g c =
    subst IsSoundCells c.self.view_is (IsSoundCells-kept c.self.inside.table c.self.invariant)

pub returns-clause-sound : goal.returns-clause-sound
returns-clause-sound g c =
    subst IsSoundCells c.self.view_is (IsSoundCells-kept c.self.inside.table c.self.invariant)
