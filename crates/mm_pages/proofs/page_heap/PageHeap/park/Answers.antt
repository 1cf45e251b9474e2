use Rattle.std.proofs.Common.{set, inl, refl, arith, sym, ◌∙◌, ap, subst}
use Rattle.mm_pages.specs.Entries.{Entries}
use Rattle.mm_pages.specs.Pages.{Pages, Run, IsOut}
use Rattle.mm_pages.specs.Kept.{pages_of}
use Rattle.mm_pages.proofs.Kept.{KeepsTree-moved, out-whole}
use Rattle.mm_pages.proofs.page_heap.PageHeap.park.Goals as goal

pub invariant_of-self : goal.invariant_of-self
invariant_of-self c =
    let out = subst (λ (r : Run). IsOut (pages_of c.self.inside.table c.self.inside.limit) r) (sym c.run.view_is)
    (subst (λ (v : Pages). IsOut v c.args.run) (sym c.self.view_is) c.requires) in
    let whole = out-whole c.self.inside.table c.self.inside.limit c.self.inside.free _ c.self.invariant out in
    let now = c.set_parked.ensures ∙ ap (λ (e : Entries).
    record e { parked = set e.parked c.run.inside.first c.run.inside.len }) c.set_out.ensures in
    rw now (KeepsTree-moved c.self.inside.table c.self.inside.limit c.self.inside.free c.run.inside.first 0
    c.run.inside.len c.self.invariant
    (omega (arith, whole, out.some)) (omega (arith, whole)) (inl refl))

pub returns-clause-sound : goal.returns-clause-sound
returns-clause-sound c = (invariant_of-self c).sound
