use Rattle.std.proofs.Common.{◌∙◌}
use Rattle.mm_object.specs.Heap.{cells_in}
use Rattle.mm_fixed.specs.Cells.{cells_of}
use Rattle.mm_weak.specs.Links.{made_in}
use Rattle.mm_gc.specs.Gc.{pieces_in}
use Rattle.mm_gc.proofs.Placing.Places.{object_place}
use Rattle.mm_gc.proofs.Regions.Shown.{region-shown}
use Rattle.mm_gc.proofs.Regions.WeakMade.{keeps-weak, areas-weak}
use Rattle.mm_gc.proofs.region.Region.place_weak.Goals as goal

pub made_base-requires : goal.made_base-requires
made_base-requires g c =
    let target = c.requires.target in
    c.weak_of-made.ensures.kept target.object target.begins ∙ c.requires.alone target.object target.begins

pub returns-clause-place : goal.returns-clause-place
returns-clause-place g c =
    let r = c.args.self.now in
    let target = c.requires.target in
    let none = c.weak_of-made.ensures.kept target.object target.begins
    ∙ c.requires.alone target.object target.begins in
    c.made_base.ensures
    ∙ object_place r.pages (cells_in r.heap) (cells_of r.areas.fixed) (pieces_in r) (region-shown r c.requires.keeps) 16
    (made_in c.weak_of-made.result) (c.weak_of-made.ensures.place none)

pub returns-clause-keeps : goal.returns-clause-keeps
returns-clause-keeps g c =
    let target = c.requires.target in
    let none = c.weak_of-made.ensures.kept target.object target.begins
    ∙ c.requires.alone target.object target.begins in
    keeps-weak c.args.self.now c.weak_of-made.new.heap c.weak_of-made.new.pages c.args.target c.args.colour
    c.requires.keeps (made_in c.weak_of-made.result) (record {
      place = c.weak_of-made.ensures.place none;
      made = c.weak_of-made.ensures.made;
      parked = c.weak_of-made.ensures.heap;
      unchanged = c.weak_of-made.ensures.unchanged;
      fits = c.weak_of-made.ensures.fits;
      others = c.weak_of-made.ensures.others;
      sound = c.weak_of-made.ensures.sound;
      pages_sound = c.weak_of-made.ensures.pages_sound c.requires.keeps.sound.pages;
    })

pub returns-clause-areas : goal.returns-clause-areas
returns-clause-areas g c =
    let target = c.requires.target in
    let none = c.weak_of-made.ensures.kept target.object target.begins
    ∙ c.requires.alone target.object target.begins in
    areas-weak c.args.self.now c.weak_of-made.new.heap c.weak_of-made.new.pages c.args.target c.args.colour
    c.requires.keeps (made_in c.weak_of-made.result) (record {
      place = c.weak_of-made.ensures.place none;
      made = c.weak_of-made.ensures.made;
      parked = c.weak_of-made.ensures.heap;
      unchanged = c.weak_of-made.ensures.unchanged;
      fits = c.weak_of-made.ensures.fits;
      others = c.weak_of-made.ensures.others;
      sound = c.weak_of-made.ensures.sound;
      pages_sound = c.weak_of-made.ensures.pages_sound c.requires.keeps.sound.pages;
    })
