use Rattle.std.proofs.Common.{ℕ, sym, subst, ◌∙◌}
use Rattle.mm_weak.specs.Links.{IsParted}
use Rattle.mm_weak.proofs.Partners.{link-partner, partner-no_link, partner-none, none-not_some}
use Rattle.mm_weak.proofs.Couples.{couple-named, couple-apart, IsLinked-parted, IsParted-couple}
use Rattle.mm_weak.proofs.links.forget.Goals as goal

pub part-requires-clause-target : goal.part-requires-clause-target
part-requires-clause-target g c =
    let weak = c.requires.weak in
    let couple =
    couple-named c.args.heap.now c.args.w weak.object c.in-Some.base c.requires.linked weak.begins weak.kind
    (sym (c.in-Some.ensures.partner weak.object weak.begins)) in
    (couple.target, couple.target_begins)

pub part-requires-clause-apart : goal.part-requires-clause-apart
part-requires-clause-apart g c =
    let weak = c.requires.weak in
    couple-apart c.args.heap.now.objects c.in-Some.base c.args.w
    (couple-named c.args.heap.now c.args.w weak.object c.in-Some.base c.requires.linked weak.begins weak.kind
    (sym (c.in-Some.ensures.partner weak.object weak.begins)))

pub returns-in-Some-clause-forgotten : goal.returns-in-Some-clause-forgotten
returns-in-Some-clause-forgotten g c =
    λ object begins some.
    let weak = c.requires.weak in
    let couple =
    couple-named c.args.heap.now c.args.w weak.object c.in-Some.base c.requires.linked weak.begins weak.kind
    (sym (c.in-Some.ensures.partner weak.object weak.begins)) in
    subst (λ (n : ℕ). IsParted c.args.heap.now n c.args.w c.part.new.heap)
    (sym (link-partner object c.in-Some.base (sym (c.in-Some.ensures.partner object begins))).link)
    (IsParted-couple c.args.heap.now c.part.new.heap c.in-Some.base c.args.w couple
    (c.part.ensures.partners couple.target couple.weak couple.target_begins couple.weak_begins))

pub returns-in-Some-clause-alone : goal.returns-in-Some-clause-alone
returns-in-Some-clause-alone g c =
    λ object begins none. absurd
    (none-not_some (sym (partner-no_link object none) ∙ sym (c.in-Some.ensures.partner object begins)))

pub returns-in-Some-clause-linked : goal.returns-in-Some-clause-linked
returns-in-Some-clause-linked g c =
    let weak = c.requires.weak in
    let couple =
    couple-named c.args.heap.now c.args.w weak.object c.in-Some.base c.requires.linked weak.begins weak.kind
    (sym (c.in-Some.ensures.partner weak.object weak.begins)) in
    IsLinked-parted c.args.heap.now c.part.new.heap c.in-Some.base c.args.w couple c.requires.linked
    (c.part.ensures.partners couple.target couple.weak couple.target_begins couple.weak_begins)

pub returns-in_default-clause-forgotten : goal.returns-in_default-clause-forgotten
returns-in_default-clause-forgotten g c =
    λ object begins some. absurd (some (partner-none object (sym (c.in_default.ensures.partner object begins))))
