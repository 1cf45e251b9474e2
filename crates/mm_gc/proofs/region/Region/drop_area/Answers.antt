use Rattle.std.proofs.Common.{arith, refl, sym, ap, ◌∙◌, subst}
use Rattle.mm_pages.specs.Pages.{Pages}
use Rattle.mm_roots.specs.Areas as areas
use Rattle.mm_roots.specs.Views.{views_of_areas}
use Rattle.mm_gc.specs.Kept.{KeepsRegion}
use Rattle.mm_gc.proofs.Regions.Changed.{same-changed}
use Rattle.mm_gc.proofs.Regions.AreasChanged.{none-refused, views-none, stays-removed, keeps-areas}
use Rattle.mm_gc.proofs.region.Region.drop_area.Goals as goal

pub returns-in-Ok-clause-same : goal.returns-in-Ok-clause-same
returns-in-Ok-clause-same g c =
    same-changed c.args.self.now _
    (stays-removed c.args.self.now c.remove-removed.new.pages c.remove-removed.new.self c.args.number
    c.in-Ok.ensures.cause c.in-Ok.ensures.areas c.in-Ok.ensures.block c.in-Ok.ensures.page)

pub returns-in-Ok-clause-keeps : goal.returns-in-Ok-clause-keeps
returns-in-Ok-clause-keeps g c =
    let r = c.args.self.now in
    let keeps = c.requires.keeps in
    keeps-areas r r.heap c.remove-removed.new.pages c.remove-removed.new.self keeps
    (stays-removed r c.remove-removed.new.pages c.remove-removed.new.self c.args.number c.in-Ok.ensures.cause
    c.in-Ok.ensures.areas c.in-Ok.ensures.block c.in-Ok.ensures.page)
    refl keeps.sound.heap (c.remove-removed.ensures.pages_sound keeps.sound.pages) c.in-Ok.ensures.sound
    (c.in-Ok.ensures.fits r.heap keeps.placed.beside keeps.placed.heap) c.in-Ok.ensures.parked
    (c.in-Ok.ensures.all_parked r.heap.runs (λ page. omega (arith, keeps.placed.all_parked page)))
    (c.in-Ok.ensures.owns keeps.placed.owns)

pub returns-in-Err-clause-areas : goal.returns-in-Err-clause-areas
returns-in-Err-clause-areas g c =
    let r = c.args.self.now in
    ap (λ (a : areas.Areas). views_of_areas a r.heap.raw) c.in-Err.ensures.unchanged.0
    ∙ views-none r.areas r.heap.raw c.args.number
    (none-refused r.areas c.args.number c.in-Err.field-0 c.in-Err.ensures.cause)

pub returns-in-Err-clause-keeps : goal.returns-in-Err-clause-keeps
returns-in-Err-clause-keeps g c =
    let r = c.args.self.now in
    let same = ap (λ (p : Pages). record r { pages = p; areas = c.remove-removed.new.self })
    c.in-Err.ensures.unchanged.1
    ∙ ap (λ (a : areas.Areas). record r { areas = a }) c.in-Err.ensures.unchanged.0 in
    subst KeepsRegion (sym same) c.requires.keeps
