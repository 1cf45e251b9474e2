use Rattle.std.proofs.Common.{◌≡◌, length, sym, ap, ◌∙◌, arith}
use Rattle.std.proofs.lemmas.List.{length-take}
use Rattle.mm_count.specs.Table.{Table}
use Rattle.mm_count.proofs.table.ZeroTable.push.Goals as goal

pub overflow_add-self : goal.overflow_add-self
overflow_add-self c =
    let i = c.self.inside in
    let fits = c.self.invariant.within in
    let size : length c.args.self.now.entries ≡ i.len =
    ap (λ (t : Table). length t.entries) (sym c.self.view_is) ∙ (omega (arith, length-take i.len i.table.words)) in
    let few = c.requires.few in
    omega arith
