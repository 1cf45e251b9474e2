use Rattle.std.proofs.Common.{set, arith, sym, ◌∙◌, ap, subst}
use Rattle.mm_pages.specs.Entries.{Entries}
use Rattle.mm_pages.specs.Pages.{Pages, Run, IsOut, IsQuick}
use Rattle.mm_pages.specs.Kept.{pages_of}
use Rattle.mm_pages.proofs.Digits.{IsQuick-height}
use Rattle.mm_pages.proofs.Kept.{KeepsTree-given, given-small}
use Rattle.mm_pages.proofs.page_heap.PageHeap.give.Goals as goal

pub overflow_add-self : goal.overflow_add-self
overflow_add-self g c =
    let out = subst (λ (r : Run). IsOut (pages_of c.self.inside.table c.self.inside.limit) r) (sym c.run.view_is)
    (subst (λ (v : Pages). IsOut v c.args.run) (sym c.self.view_is) c.requires) in
    omega (arith, given-small c.self.inside.table c.self.inside.limit c.self.inside.free _ c.self.invariant out)

pub invariant_of-self : goal.invariant_of-self
invariant_of-self g c =
    let out = subst (λ (r : Run). IsOut (pages_of c.self.inside.table c.self.inside.limit) r) (sym c.run.view_is)
    (subst (λ (v : Pages). IsOut v c.args.run) (sym c.self.view_is) c.requires) in
    let now = c.set_out.ensures ∙ ap (λ (e : Entries).
    record e { out = set e.out c.run.inside.first 0 }) c.mark.ensures.rest in
    rw now (KeepsTree-given c.self.inside.table c.self.inside.limit c.self.inside.free c.run.inside.first
    c.run.inside.len c.mark.new.self.tree c.self.invariant out.some out.there c.mark.ensures.shows)

pub returns-clause-cost : goal.returns-clause-cost
returns-clause-cost g c = subst (λ (v : Pages). IsQuick v.pages c.args.steps.now c.mark.new.steps) c.self.view_is
    (IsQuick-height c.self.inside.table.pages c.self.inside.table.height c.args.steps.now c.mark.new.steps
    (omega (arith, c.self.invariant.sound.two, c.self.invariant.sound.limit)) c.self.invariant.tight
    (omega (arith, c.mark.ensures.visits.any)))

pub returns-clause-sound : goal.returns-clause-sound
returns-clause-sound g c = (invariant_of-self g c).sound
