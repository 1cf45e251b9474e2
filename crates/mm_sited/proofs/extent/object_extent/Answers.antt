use Rattle.std.proofs.Common.{ap, subst, sym, ◌∙◌}
use Rattle.mm_model.specs.Places.SizeClass.{extent_of_size}
use Rattle.mm_sited.specs.Extents.{IsExtent}
use Rattle.mm_sited.proofs.Extents.{extent-is}
use Rattle.mm_sited.proofs.extent.object_extent.Goals as goal

pub returns-clause-extent : goal.returns-clause-extent
returns-clause-extent c =
    subst IsExtent (sym (c.extent_of.ensures.value ∙ ap extent_of_size c.class_of.ensures.value))
    (extent-is c.args.slots c.requires)
