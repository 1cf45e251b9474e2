use Rattle.std.proofs.Common.{◌≡◌, ◌+◌, length, reverse}
use Rattle.std.specs.Prelude.{vec_capacity}
use Rattle.mm_why.specs.Path.{Shown}
use Rattle.mm_why.specs.Search.{HaveReasons, IsEntry, LeadsOn}
use Rattle.mm_why.proofs.queue.Queue.trace_back.Given as goal

abbrev pub invariant-hops : goal.invariant-hops
invariant-hops g l = record {
  entry : IsEntry l.self.found l.entry.base l.entry;
  leads : (shown : Shown) → HaveReasons shown l.self.found
      → LeadsOn shown l.entry.base (reverse l.path.items) l.fn.last.base;
  count : length l.path.items + l.entry.lead.length ≡ l.fn.last.lead.length;
  room : vec_capacity l.path ≡ vec_capacity l.fn.path;
  ticked : l.steps ≡ l.fn.steps + length l.path.items;
}

abbrev pub decreases-hops : goal.decreases-hops
decreases-hops g l = l.entry.lead.length
