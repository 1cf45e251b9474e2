-- All pages but the first are vacant.
use Rattle.std.proofs.Common.{List, Bool, subst, ap, ◌∙◌, true}
use Rattle.std.specs.Prelude.{slice_set}
use Rattle.mm_audit.specs.Places.{IsSetFrom}
use Rattle.mm_audit.proofs.VacantPlaces.{empty-told, empty-kept}
use Rattle.mm_audit.proofs.places.Places.make.Goals as goal

pub invariant_of-result : goal.invariant_of-result
invariant_of-result c =
    empty-kept c.args.pages c.requires.least c.requires.most c.set_from.new.numbers c.insert.new.self
    c.in_ok-roomy.roomy c.in_ok-free.free c.in_ok-taken.taken
    (subst (λ (v : List Bool). IsSetFrom v c.set_from.new.numbers 1 c.args.pages true) c.in_ok-vacant.ensures
    c.set_from.ensures)
    (c.insert.ensures ∙ ap (λ (v : List Bool). slice_set v 0 true) c.in_ok-occupied.ensures)
    c.in_ok-roomy.ensures c.in_ok-free.ensures c.in_ok-taken.ensures

pub returns-clause-empty : goal.returns-clause-empty
returns-clause-empty c =
    empty-told c.args.pages c.requires.least c.requires.most c.set_from.new.numbers c.insert.new.self
    c.in_ok-roomy.roomy c.in_ok-free.free c.in_ok-taken.taken
    (subst (λ (v : List Bool). IsSetFrom v c.set_from.new.numbers 1 c.args.pages true) c.in_ok-vacant.ensures
    c.set_from.ensures)
    (c.insert.ensures ∙ ap (λ (v : List Bool). slice_set v 0 true) c.in_ok-occupied.ensures)
    c.in_ok-roomy.ensures c.in_ok-free.ensures c.in_ok-taken.ensures
