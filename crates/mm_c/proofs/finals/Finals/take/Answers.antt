use Rattle.std.proofs.Common.{sym, ap, ◌∙◌}
use Rattle.std.specs.Prelude.{List, slice_get}
use Rattle.mm_c.specs.declared.finals.MmFinal.{MmFinal}
use Rattle.mm_c.specs.Finals.{Waiting, Took}
use Rattle.mm_c.proofs.Keeping.{drop-next, drop-none}
use Rattle.mm_c.proofs.finals.Finals.take.Goals as goal

pub returns-in-Some : goal.returns-in-Some
returns-in-Some c =
    Took c.in-Some.next
    (ap (λ (it : Waiting). it.records) (sym c.self.view_is)
    ∙ drop-next c.self.inside.records.items c.self.inside.told c.in-Some.next
    (ap (λ (records : List MmFinal). slice_get records c.self.inside.told) (sym c.deref.ensures.value)
    ∙ sym c.record_at.ensures ∙ c.in-Some.is))
    (ap (λ (it : Waiting). it.lost) c.self.view_is)

pub start_again-requires : goal.start_again-requires
start_again-requires c =
    ap (λ (it : Waiting). it.records) (sym c.self.view_is)
    ∙ drop-none c.self.inside.records.items c.self.inside.told
    (ap (λ (records : List MmFinal). slice_get records c.self.inside.told) (sym c.deref.ensures.value)
    ∙ sym c.record_at.ensures ∙ c.in-None.is)
