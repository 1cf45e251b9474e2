use Rattle.std.specs.Prelude.{ℕ, if◌then◌else◌, Option, None, Some, List}
use Rattle.mm_io.specs.declared.store.Store.{Store}

-- the bytes of a store, which it tells until more came than it has room for
abbrev pub told_of : Store → Option (List ℕ)
told_of store = if store.spilled then None else Some store.kept.items
