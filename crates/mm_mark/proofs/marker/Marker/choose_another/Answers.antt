use Rattle.std.proofs.Common.{Some, refl, ap, ◌∙◌}
use Rattle.mm_mark.specs.Marker.{Marker, marker_of, view_of_partly}
use Rattle.mm_mark.specs.declared.marker.PartlyScanned.{PartlyScanned}
use Rattle.mm_mark.proofs.Choices.{choice-alike}
use Rattle.mm_mark.proofs.Chosen.{taken-chosen, known-once_taken}
use Rattle.mm_mark.proofs.marker.Marker.choose_another.Goals as goal

pub returns-in-Some-clause-next : goal.returns-in-Some-clause-next
returns-in-Some-clause-next g c =
    taken-chosen c.args.heap.now c.args.self.now c.next_base.new.self c.in-Some.base c.requires.none
    c.in-Some.ensures.base

pub returns-in-Some-clause-known : goal.returns-in-Some-clause-known
returns-in-Some-clause-known g c =
    let next : PartlyScanned = record { base = c.in-Some.base; slots_done = 0 } in
    let now : Marker = marker_of c.self.inside.queue c.self.inside.left_out c.self.inside.running (Some next) in
    known-once_taken c.args.heap.now c.next_base.new.self now (view_of_partly next)
    (ap (λ (m : Marker). m.partly) c.next_base.ensures.cycle ∙ c.requires.none)
    (ap (λ (m : Marker). m.queue) c.self.view_is) (ap (λ (m : Marker). m.left_out) c.self.view_is) refl
    c.in-Some.ensures.base

pub returns-in-None-clause-known : goal.returns-in-None-clause-known
returns-in-None-clause-known g c = λ base object begins gray. absurd (c.in-None.ensures.base base object begins gray)

pub returns-in-Some-clause-cost : goal.returns-in-Some-clause-cost
returns-in-Some-clause-cost g c =
    let next : PartlyScanned = record { base = c.in-Some.base; slots_done = 0 } in
    let now : Marker = marker_of c.self.inside.queue c.self.inside.left_out c.self.inside.running (Some next) in
    choice-alike c.next_base.new.self now (ap (λ (m : Marker). m.room) c.self.view_is)
    (ap (λ (m : Marker). m.queue) c.self.view_is) (ap (λ (m : Marker). m.left_out) c.self.view_is)
    c.args.self.now c.args.heap.now.pages c.args.steps.now c.next_base.new.steps c.next_base.ensures.cost
