-- How many steps the calls of a heap count at most.
use Rattle.std.specs.Prelude.{◌≤◌, ◌<◌, ◌+◌, ◌*◌, ◌^◌, ◌||◌, ℕ, if◌then◌else◌, List, length, Option, None, Some}
use Rattle.std.specs.List.{sum_by}
use Rattle.mm_model.specs.Sets.Marking.{is_black}
use Rattle.mm_model.specs.Phase.{lists}
use Rattle.mm_model.specs.Views.ByBase.{Based, based}
use Rattle.mm_model.specs.Views.ObjectView.{ObjectView, ObjectsByBase, scanned_words_of}
use Rattle.mm_model.specs.Views.SetsByBase.{AreBasesAt, IsReapableAt, IsFreedAtFinishAt}
use Rattle.mm_model.specs.Views.ViewWords.{outside_references, marking_words}
use Rattle.mm_mark.specs.Marker.{Marking, marking}
use Rattle.mm_roots.specs.declared.area_shape.AreaShape.{AreaShape}
use Rattle.mm_roots.specs.Areas.{area_at}
use Rattle.mm_reap.specs.Slots.{counted_slots_of}
use Rattle.mm_sweep.specs.Release.{finalized_slots}
use Rattle.mm_gc.specs.Gc.{Gc, objects_in, view_of_gc, freed_since, HasRoomForAll}

-- What a reap of these bases costs at most, where the stack has so many words, the zero-count table so many entries,
-- and the greatest number of pages so many binary digits: some steps for each of them, for each counted slot of what is
-- freed and for each freed object and digit, and one for each slot that a finalizer is told.
abbrev pub reap_bound : ObjectsByBase → List ℕ → ℕ → ℕ → ℕ → ℕ
reap_bound objects dead words entries digits =
    32 * (1 + words + entries + counted_slots_of objects dead) + 64 * (1 + digits) * length dead
    + finalized_slots objects dead

-- what the reapable objects of a heap cost
pub record IsReapCost (old : Gc) (before after : ℕ) : Type 0 where
  pub dead : List ℕ
  pub bases : AreBasesAt (objects_in old.region)
      (IsReapableAt (objects_in old.region) old.stack.words (outside_references (view_of_gc old))) dead
  pub within : (digits : ℕ) → old.settings.max < 2 ^ digits → after ≤ before
      + reap_bound (objects_in old.region) dead (length old.stack.words) (length old.table.entries) digits

-- how many counted cells the area has, where there is one
abbrev pub counted_cells : Option AreaShape → ℕ
counted_cells None = 0
counted_cells (Some area) = area.counted

-- What giving back the area that has the number costs at most: some steps for each counted cell, and some for each
-- binary digit of the greatest number of pages.
abbrev pub IsDropCost : Gc → ℕ → ℕ → ℕ → Type 0
IsDropCost old number before after = (digits : ℕ) → old.settings.max < 2 ^ digits
    → after ≤ before + 9 * counted_cells (area_at old.region.areas number) + 7 * digits

-- how far marking has come
abbrev pub marking_in : Gc → Marking
marking_in gc = marking gc.marker gc.region.heap

-- what scanning parts that cost k together, or all that there are, costs at most
abbrev pub IsStepCost : Gc → ℕ → ℕ → ℕ → Type 0
IsStepCost old k before after = HasRoomForAll old → after ≤ before + 32 * (65 + k + freed_since old)

-- the scanned slots of one object that the end of a cycle makes black: it isn't yet, and isn't freed
abbrev pub blackened_at : List ℕ → Based ObjectView → ℕ
blackened_at dead o =
    if is_black o.value.colour || lists dead o.base then 0 else length (scanned_words_of o.value)

-- What marking the rest costs at most, where so many words are roots and so many entries of the queue are stale: some
-- steps for each object, root word and entry, and for each scanned slot of what becomes black.
abbrev pub mark_bound : ObjectsByBase → List ℕ → ℕ → ℕ → ℕ
mark_bound objects dead words stale =
    16 * (2 + length (based objects) + words + stale + sum_by (blackened_at dead) (based objects))

-- What freeing the white objects costs at most, whose bases these are, where there are so many pages: some steps for
-- each page, object and counted slot of what is freed, and what the release costs.
abbrev pub free_bound : ObjectsByBase → List ℕ → ℕ → ℕ → ℕ
free_bound objects dead pages digits =
    32 * (1 + pages + length (based objects) + counted_slots_of objects dead) + 64 * (1 + digits) * length dead
    + finalized_slots objects dead

-- What ending a cycle costs at most, where so many words are roots and the greatest number of pages has so many binary
-- digits: some steps for each page, object, root word, object that was freed since the cycle began, scanned slot of
-- what becomes black, and counted slot of what is freed, some for each freed object and digit, and one for each slot
-- that a finalizer is told.
abbrev pub finish_bound : Gc → List ℕ → ℕ → ℕ
finish_bound old dead digits =
    let objects = objects_in old.region in
    64 * (1 + old.settings.max + length (based objects) + length (marking_words (view_of_gc old))
    + sum_by (blackened_at dead) (based objects) + freed_since old + counted_slots_of objects dead)
    + 64 * (1 + digits) * length dead + finalized_slots objects dead

pub record IsFinishCost (old : Gc) (before after : ℕ) : Type 0 where
  pub dead : List ℕ
  pub bases : AreBasesAt (objects_in old.region)
      (IsFreedAtFinishAt (objects_in old.region) (marking_words (view_of_gc old))) dead
  pub within : HasRoomForAll old → (digits : ℕ) → old.settings.max < 2 ^ digits
      → after ≤ before + finish_bound old dead digits
