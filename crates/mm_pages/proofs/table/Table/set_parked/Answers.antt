use Rattle.std.proofs.Common.{ap, arith}
use Rattle.mm_pages.specs.Entries.{Entries}
use Rattle.mm_pages.proofs.Tables.{entries-set_parked}
use Rattle.mm_pages.proofs.table.Table.set_parked.Goals as goal

pub returns : goal.returns
returns c = rw (c.set.ensures, ← c.self.view_is) (entries-set_parked c.self.inside.words c.self.inside.pages
    c.self.inside.height c.args.page c.args.len (omega (
      arith,
      ap (λ (e : Entries). e.pages) c.self.view_is,
    )) c.self.invariant)
