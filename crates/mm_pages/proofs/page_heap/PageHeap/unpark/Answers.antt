use Rattle.std.proofs.Common.{◌≡◌, ◌<◌, slice_index, set, inr, refl, arith, sym, ◌∙◌, ap, subst}
use Rattle.mm_pages.specs.Entries.{Entries}
use Rattle.mm_pages.specs.Pages.{Pages}
use Rattle.mm_pages.specs.Kept.{pages_of}
use Rattle.mm_pages.proofs.Kept.{KeepsTree-moved, parked-whole}
use Rattle.mm_pages.proofs.Parked.{out-parked}
use Rattle.mm_pages.proofs.page_heap.PageHeap.unpark.Goals as goal

pub invariant_of-self : goal.invariant_of-self
invariant_of-self c =
    let there : 0 < slice_index c.self.inside.table.parked c.args.first =
    subst (λ (v : Pages). 0 < slice_index v.parked c.args.first) (sym c.self.view_is) c.requires in
    let now = c.set_out.ensures ∙ ap (λ (e : Entries).
    record e { out = set e.out c.args.first c.parked_at-len.result }) c.set_parked.ensures in
    rw now (KeepsTree-moved c.self.inside.table c.self.inside.limit c.self.inside.free c.args.first
    c.parked_at-len.result 0 c.self.invariant
    (omega arith) (omega (
      arith,
      c.parked_at-len.ensures,
      parked-whole (pages_of c.self.inside.table c.self.inside.limit) c.args.first c.self.invariant.sound there,
    ))
    (inr refl))

pub returns-clause-sound : goal.returns-clause-sound
returns-clause-sound c = (invariant_of-self c).sound

pub returns-clause-not_out : goal.returns-clause-not_out
returns-clause-not_out c =
    let there : 0 < slice_index c.self.inside.table.parked c.args.first =
    subst (λ (v : Pages). 0 < slice_index v.parked c.args.first) (sym c.self.view_is) c.requires in
    subst (λ (v : Pages). slice_index v.out c.args.first ≡ 0) c.self.view_is
    (out-parked (pages_of c.self.inside.table c.self.inside.limit) c.args.first c.self.invariant.sound there)
