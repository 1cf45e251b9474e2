use Rattle.std.proofs.Common.{sym, ap, ◌∙◌}
use Rattle.mm_model.specs.Places.SizeClass.{size_of}
use Rattle.mm_model.specs.Places.Place.{place_among}
use Rattle.mm_gc.specs.declared.wanted.Reach.{Reach}
use Rattle.mm_gc.specs.Gc.{pieces_in}
use Rattle.mm_gc.specs.Regions.{limit_in}
use Rattle.mm_gc.proofs.Regions.Enough.{enough-is, place-enough, place-same}
use Rattle.mm_gc.proofs.Regions.Needed.{pages-end_within, objects-end_within}
use Rattle.mm_gc.proofs.region.Region.open.Goals as goal

pub resize-requires-clause-pages : goal.resize-requires-clause-pages
resize-requires-clause-pages c =
    let r = c.args.self.now in
    let enough = enough-is r c.requires.settled c.args.bytes c.enough_for.result c.enough_for.ensures in
    pages-end_within r c.requires.settled.keeps c.enough_for.result enough.needed

pub resize-requires-clause-objects : goal.resize-requires-clause-objects
resize-requires-clause-objects c =
    let r = c.args.self.now in
    let enough = enough-is r c.requires.settled c.args.bytes c.enough_for.result c.enough_for.ensures in
    objects-end_within r c.requires.settled.keeps c.enough_for.result enough.needed

pub returns-in-Grown-clause-place : goal.returns-in-Grown-clause-place
returns-in-Grown-clause-place c = λ family.
    let r = c.args.self.now in
    let bytes = c.args.bytes in
    let enough = enough-is r c.requires.settled bytes c.enough_for.result c.enough_for.ensures in
    place-same r c.resize.new.self c.resize.new.self.pages.limit c.enough_for.result family bytes
    c.resize.ensures.inside (c.resize.ensures.keeps.limit ∙ c.resize.ensures.size)
    ∙ place-enough r c.requires.settled bytes c.enough_for.result family c.requires.some enough
    ∙ ap (λ (reach : Reach). place_among (pieces_in r) (limit_in reach r) family (size_of bytes)) (sym c.in-Grown.is)
