-- What callers see of the fields of a heap, and how many words it needs.
use Rattle.std.specs.Prelude.{ℕ, ◌+◌, ◌-◌, ◌*◌}
use Rattle.mm_model.specs.declared.settings.Settings.{Settings}
use Rattle.mm_words.specs.Location.{location_of}
use Rattle.mm_pages.specs.Pages as heaps
use Rattle.mm_cells.specs.Map.{table_size}
use Rattle.mm_gc.specs.declared.gc.Gc.TheInside.{Inside}
use Rattle.mm_gc.specs.Gc.{Gc}

abbrev pub gc_of : Inside → Gc
gc_of g =
    record {
      region = g.region;
      stack = g.stack;
      table = g.count;
      marker = g.marker;
      dead = location_of g.dead;
      settings = g.settings;
      threshold = g.threshold;
      commands = g.commands;
      born = g.born;
      freed = g.freed;
      gone_before = g.gone_before;
    }

-- the tables, the table of areas, the stack, the queue, the bases of the zero-count table and of freed objects, and the
-- greatest memory
abbrev pub words_for : Settings → ℕ
words_for settings =
    heaps.table_size settings.max + table_size settings.max + table_size settings.max + 4096 + settings.stack
    + settings.queue + 2 * 256 * (settings.max - 1) + 1024 * settings.max
