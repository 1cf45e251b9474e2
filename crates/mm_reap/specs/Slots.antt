-- How many counted slots some objects have.
use Rattle.std.specs.Prelude.{ℕ, List, length, Option, Some, None}
use Rattle.std.specs.List.{sum_by}
use Rattle.mm_model.specs.Views.ObjectView.{ObjectView, ObjectsByBase, counted_words_of}
use Rattle.mm_count.specs.Counts.{entry_at}

abbrev pub counted_slots_told : Option ObjectView → ℕ
counted_slots_told None = 0
counted_slots_told (Some object) = length (counted_words_of object)

-- the object at a base, and those at all of these
abbrev pub counted_slots_at : ObjectsByBase → ℕ → ℕ
counted_slots_at objects base = counted_slots_told (entry_at objects base)

abbrev pub counted_slots_of : ObjectsByBase → List ℕ → ℕ
counted_slots_of objects bases = sum_by (counted_slots_at objects) bases
