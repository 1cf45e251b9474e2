use Rattle.std.proofs.Common.{◌≡◌, ◌+◌, ◌*◌, ◌≤◌, length}
use Rattle.std.specs.Prelude.{vec_capacity}
use Rattle.mm_why.specs.Queue.{IsSoundQueue}
use Rattle.mm_why.proofs.Queues.{IsLeft}
use Rattle.mm_why.proofs.queue.Queue.clear.Given as goal

abbrev pub invariant-loop-i : goal.invariant-loop-i
invariant-loop-i g l = record {
  items : l.self-inside.entries.items ≡ l.fn.self.found;
  places : l.self-inside.places ≡ l.fn.self.places;
  room : l.fn.self.places ≤ vec_capacity l.self-inside.entries;
  sound : IsSoundQueue l.fn.self;
  bits : l.fn.self.places ≤ 32 * length l.self-inside.marks.items;
  left : IsLeft l.fn.self l.self-inside.marks.items l.i;
  end : l.i-end ≡ length l.fn.self.found;
  ticked : l.steps ≡ l.fn.steps + l.i;
}
