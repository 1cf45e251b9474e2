-- What the entries of sites become as a journal is told of a command.
use Rattle.std.specs.Prelude.{List, map}
use Rattle.mm_model.specs.After.{freed_bases}
use Rattle.mm_sites.specs.Entries.{EntriesByBase, without}
use Rattle.mm_sweep.specs.Told.{Told, line_told}

-- without what the calls free
abbrev pub without_freed : EntriesByBase → List Told → EntriesByBase
without_freed entries told = without entries (freed_bases (map line_told told))
