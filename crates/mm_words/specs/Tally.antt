-- An arena's numbers, as its uncut words and its allocation have them.
use Rattle.std.specs.Prelude.{◌-◌}
use Rattle.mm_words.specs.Arena.{Arena}
use Rattle.mm_words.specs.declared.backing.Backing.{Backing}

abbrev pub arena_of : Backing → Arena
arena_of h = record {
  name = h.allocation.arena;
  total = h.allocation.total;
  spare = h.rest.len;
  out = h.allocation.owing -
      h.rest.len;
}
