use Rattle.std.proofs.Common.{ℕ, sym, subst, ◌∙◌}
use Rattle.mm_weak.specs.Links.{IsParted}
use Rattle.mm_weak.proofs.Couples.{couple-at, couple-apart, IsLinked-parted, IsParted-couple, not_both}
use Rattle.mm_weak.proofs.links.clear_for.Goals as goal

pub part-requires-clause-weak : goal.part-requires-clause-weak
part-requires-clause-weak g c =
    let object = c.requires.object in
    let couple =
    couple-at c.args.heap.now c.args.base object.0 c.link-w.result c.requires.linked object.1
    (sym (c.has_weak.ensures.flag object.0 object.1) ∙ c.if-has_weak.true) (c.link-w.ensures.word object.0 object.1) in
    (couple.weak, couple.weak_begins)

pub part-requires-clause-apart : goal.part-requires-clause-apart
part-requires-clause-apart g c =
    let object = c.requires.object in
    couple-apart c.args.heap.now.objects c.args.base c.link-w.result
    (couple-at c.args.heap.now c.args.base object.0 c.link-w.result c.requires.linked object.1
    (sym (c.has_weak.ensures.flag object.0 object.1) ∙ c.if-has_weak.true) (c.link-w.ensures.word object.0 object.1))

pub returns-then-has_weak-clause-cleared : goal.returns-then-has_weak-clause-cleared
returns-then-has_weak-clause-cleared g c =
    λ object begins flag.
    let link = c.link-w.ensures.word object begins in
    let couple = couple-at c.args.heap.now c.args.base object c.link-w.result c.requires.linked begins flag link in
    subst (λ (n : ℕ). IsParted c.args.heap.now c.args.base n c.part.new.heap) link
    (IsParted-couple c.args.heap.now c.part.new.heap c.args.base c.link-w.result couple
    (c.part.ensures.partners couple.target couple.weak couple.target_begins couple.weak_begins))

pub returns-then-has_weak-clause-alone : goal.returns-then-has_weak-clause-alone
returns-then-has_weak-clause-alone g c =
    λ object begins flag.
    absurd (not_both (sym flag ∙ sym (c.has_weak.ensures.flag object begins) ∙ c.if-has_weak.true))

pub returns-then-has_weak-clause-linked : goal.returns-then-has_weak-clause-linked
returns-then-has_weak-clause-linked g c =
    let object = c.requires.object in
    let couple =
    couple-at c.args.heap.now c.args.base object.0 c.link-w.result c.requires.linked object.1
    (sym (c.has_weak.ensures.flag object.0 object.1) ∙ c.if-has_weak.true) (c.link-w.ensures.word object.0 object.1) in
    IsLinked-parted c.args.heap.now c.part.new.heap c.args.base c.link-w.result couple c.requires.linked
    (c.part.ensures.partners couple.target couple.weak couple.target_begins couple.weak_begins)

pub returns-else-has_weak-clause-cleared : goal.returns-else-has_weak-clause-cleared
returns-else-has_weak-clause-cleared g c =
    λ object begins flag.
    absurd (not_both (sym c.if-has_weak.false ∙ c.has_weak.ensures.flag object begins ∙ flag))
