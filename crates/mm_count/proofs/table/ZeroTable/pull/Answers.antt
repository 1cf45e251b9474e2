use Rattle.std.proofs.Common.{◌-◌, ◌≡◌, length, sym, ap, ◌∙◌, arith}
use Rattle.std.proofs.lemmas.List.{length-take}
use Rattle.mm_words.specs.Piece.{Piece}
use Rattle.mm_count.specs.Table.{Table, with_entries, without_place}
use Rattle.mm_count.specs.Kept.{table_of}
use Rattle.mm_count.proofs.Entries.{table-pulled}
use Rattle.mm_count.proofs.table.ZeroTable.pull.Goals as goal

pub returns-clause-entries : goal.returns-clause-entries
returns-clause-entries c =
    let i = c.self.inside in
    let fits = c.self.invariant.within in
    let size : length c.args.self.now.entries ≡ i.len =
    ap (λ (t : Table). length t.entries) (sym c.self.view_is) ∙ (omega (arith, length-take i.len i.table.words)) in
    let below = c.requires in
    ap (λ (p : Piece). table_of p (i.len - 1) i.pages) c.set.ensures
    ∙ table-pulled i.table i.len i.pages c.args.place c.get-last.result (omega arith) fits c.get-last.ensures
    ∙ ap (λ (t : Table). with_entries t (without_place t.entries c.args.place)) c.self.view_is
