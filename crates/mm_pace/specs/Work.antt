-- What a cycle has to do.
use Rattle.std.specs.Prelude.{ℕ, ◌+◌, Bool, is_some, length}
use Rattle.std.specs.List.{sum_by}
use Rattle.mm_model.specs.Object.{live_objects}
use Rattle.mm_model.specs.State.{State, live_count}
use Rattle.mm_model.specs.Words.{scanned_slots}

-- the number of live objects plus the number of their scanned slots
abbrev pub work_of : State → ℕ
work_of a = live_count a + sum_by (λ object. length (scanned_slots object)) (live_objects a.objects)

-- whether a cycle runs
abbrev pub is_running : State → Bool
is_running a = is_some a.cycle
