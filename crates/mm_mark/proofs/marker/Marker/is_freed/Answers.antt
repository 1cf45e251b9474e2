use Rattle.std.proofs.Common.{ap, sym, ◌∙◌}
use Rattle.std.specs.Option.{option_map}
use Rattle.mm_mark.specs.Marker.{Marker, view_of_partly}
use Rattle.mm_mark.proofs.Forgotten.{freed-told}
use Rattle.mm_mark.proofs.marker.Marker.is_freed.Goals as goal

pub returns-in-Some-clause-freed : goal.returns-in-Some-clause-freed
returns-in-Some-clause-freed g c =
    freed-told c.args.heap.now c.args.self.now (view_of_partly c.in-Some.partly) c.is_free_at.result
    (sym (ap (λ (m : Marker). m.partly) c.self.view_is) ∙ ap (option_map view_of_partly) c.in-Some.is)
    c.is_free_at.ensures.free c.requires
