use Rattle.std.proofs.Common.{None, Some}
use Rattle.mm_model.specs.Places.SizeClass.{object_bytes, extent_of}
use Rattle.mm_object.specs.Heap.{cells_in}
use Rattle.mm_fixed.specs.Cells.{cells_of}
use Rattle.mm_roots.proofs.Kept.{views-taken}
use Rattle.mm_gc.specs.Gc.{pieces_in}
use Rattle.mm_gc.proofs.Placing.Places.{object_place}
use Rattle.mm_gc.proofs.Regions.Shown.{region-shown}
use Rattle.mm_gc.proofs.Regions.Changed.{heap-stays, pages-stay, stays-heap, keeps-heap}
use Rattle.mm_gc.proofs.region.Region.place_object.Goals as goal

pub returns-in-Ok-clause-place : goal.returns-in-Ok-clause-place
returns-in-Ok-clause-place g c =
    let r = c.args.self.now in
    object_place r.pages (cells_in r.heap) (cells_of r.areas.fixed) (pieces_in r) (region-shown r c.requires.keeps)
    (object_bytes c.args.shape.slots) (Some c.in-Ok.base) c.in-Ok.ensures.place

pub returns-in-Err-clause-place : goal.returns-in-Err-clause-place
returns-in-Err-clause-place g c =
    let r = c.args.self.now in
    object_place r.pages (cells_in r.heap) (cells_of r.areas.fixed) (pieces_in r) (region-shown r c.requires.keeps)
    (object_bytes c.args.shape.slots) None c.in-Err.ensures.place

pub returns-in-Ok-clause-keeps : goal.returns-in-Ok-clause-keeps
returns-in-Ok-clause-keeps g c =
    let r = c.args.self.now in
    let keeps = c.requires.keeps in
    keeps-heap r c.create.new.self c.create.new.pages keeps
    (stays-heap r c.create.new.self c.create.new.pages
    (heap-stays r.heap c.create.new.self _ _ _ c.in-Ok.ensures.created)
    (pages-stay r.pages c.create.new.pages _ c.in-Ok.ensures.heap))
    c.create.ensures.sound c.create.ensures.heap_sound c.create.ensures.fits
    (c.create.ensures.others r.areas.fixed.runs keeps.placed.areas)
    (c.create.ensures.all_parked r.areas.fixed.runs keeps.placed.all_parked)

pub returns-in-Err-clause-keeps : goal.returns-in-Err-clause-keeps
returns-in-Err-clause-keeps g c =
    let r = c.args.self.now in
    let keeps = c.requires.keeps in
    keeps-heap r c.create.new.self c.create.new.pages keeps
    (stays-heap r c.create.new.self c.create.new.pages
    (heap-stays r.heap c.create.new.self r.heap.objects r.heap.runs r.heap.raw c.in-Err.ensures.unchanged.0)
    (pages-stay r.pages c.create.new.pages r.pages.parked c.in-Err.ensures.unchanged.1))
    c.create.ensures.sound c.create.ensures.heap_sound c.create.ensures.fits
    (c.create.ensures.others r.areas.fixed.runs keeps.placed.areas)
    (c.create.ensures.all_parked r.areas.fixed.runs keeps.placed.all_parked)

pub returns-in-Ok-clause-areas : goal.returns-in-Ok-clause-areas
returns-in-Ok-clause-areas g c =
    let r = c.args.self.now in
    let keeps = returns-in-Ok-clause-keeps g c in
    views-taken r.areas c.requires.keeps.sound.areas c.create.new.self c.create.ensures.sound keeps.placed.beside
    r.heap.raw c.in-Ok.base (extent_of (object_bytes c.args.shape.slots)) c.in-Ok.ensures.raw
