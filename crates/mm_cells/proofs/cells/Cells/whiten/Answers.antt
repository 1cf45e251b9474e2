use Rattle.std.proofs.Common.{◌*◌, arith, ap, subst}
use Rattle.mm_cells.specs.Cells.{Cells, IsSoundCells}
use Rattle.mm_cells.proofs.Region.Soundness.{IsSoundCells-kept}
use Rattle.mm_cells.proofs.Region.Whitening.{Whitens-refl, Whitens-page, all_white-Whitens}
use Rattle.mm_cells.proofs.cells.Cells.whiten.Goals as goal

pub loop-page-init : goal.loop-page-init
loop-page-init g c = record {
  white = Whitens-refl c.args.self.now;
  sound = subst IsSoundCells c.self.view_is (IsSoundCells-kept c.self.inside.table c.self.invariant);
  ticked = omega arith;
}

pub whiten_page-requires : goal.whiten_page-requires
whiten_page-requires g c =
    omega (
      arith,
      ap (λ (v : Cells). v.pages) c.loop-page.invariant.white.same,
      c.pages-page-end.ensures.value,
      ap (λ (v : Cells). v.pages) c.self.view_is,
    )

pub loop-page-preserved : goal.loop-page-preserved
loop-page-preserved g c = record {
  white = Whitens-page c.args.self.now c.loop-page.self c.whiten_page.new.self c.loop-page.page
      c.loop-page.invariant.white c.whiten_page.ensures.white;
  sound = c.whiten_page.ensures.sound;
  ticked = omega (arith, c.tick.ensures, c.loop-page.invariant.ticked);
}

pub returns-clause-white : goal.returns-clause-white
returns-clause-white g c =
    all_white-Whitens c.args.self.now c.loop-page.self (4096 * c.loop-page.page) c.loop-page.invariant.sound
    (omega (
      arith,
      ap (λ (v : Cells). v.pages) c.loop-page.invariant.white.same,
      c.pages-page-end.ensures.value,
      ap (λ (v : Cells). v.pages) c.self.view_is,
    )) c.loop-page.invariant.white

pub returns-clause-cost : goal.returns-clause-cost
returns-clause-cost g c =
    omega (
      arith,
      c.loop-page.invariant.ticked,
      c.pages-page-end.ensures.value,
      ap (λ (v : Cells). v.pages) c.self.view_is,
    )
