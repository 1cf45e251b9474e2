-- How an arena's uncut words and its allocation fit.
use Rattle.std.specs.Prelude.{◌≡◌, ◌+◌, ◌≤◌, []}
use Rattle.std.specs.declared.alloc.Global.{Global}
use Rattle.mm_words.specs.declared.run.Run.{Run}
use Rattle.mm_words.specs.declared.allocation.Allocation.{Allocation}

-- the uncut words are the arena's last ones, and they are owed
pub record IsSoundBacking (rest : Run) (allocation : Allocation Global) : Type 0 where
  pub arena : rest.arena ≡ allocation.arena
  pub end : rest.place + rest.len ≡ allocation.total
  pub blank : rest.words ≡ []
  pub owed : rest.len ≤ allocation.owing
