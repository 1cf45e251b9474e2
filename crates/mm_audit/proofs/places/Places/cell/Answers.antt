-- A page with room comes first, and then a fresh one.
use Rattle.std.proofs.Common.{◌-◌, sym, ap, ◌∙◌, arith}
use Rattle.std.specs.Prelude.{slice_index}
use Rattle.mm_model.specs.Places.Place.{has_room, cell_place}
use Rattle.mm_model.specs.Places.SizeClass.{class_sizes}
use Rattle.mm_model.proofs.Lists.Tests.{first_from-Some}
use Rattle.mm_audit.specs.Places.{family_of}
use Rattle.mm_audit.proofs.places.Places.cell.Goals as goal

pub lowest_cell-requires : goal.lowest_cell-requires
lowest_cell-requires c =
    let below = c.in-Some.ensures.below in
    let limit = c.requires.limit in
    record { page = omega arith }

pub returns-in-Some : goal.returns-in-Some
returns-in-Some c pieces tell =
    let family = family_of c.args.owner in
    let extent = slice_index class_sizes c.args.class in
    let found = c.in-Some.ensures.first pieces tell in
    let first = first_from-Some (has_room pieces family extent) 1 (c.args.limit - 1) c.in-Some.page (sym found) in
    c.lowest_cell.ensures pieces family c.args.class tell c.requires.class first.passes
    ∙ ap (λ page. cell_place pieces c.args.limit page extent) found
