-- What holds of counts and links while a command writes words or frees objects.
use Rattle.std.specs.Prelude.{ℕ}
use Rattle.mm_object.specs.Heap.{Heap}
use Rattle.mm_count.specs.Table.{Table, IsRight}
use Rattle.mm_count.specs.Counts.{IsCountedBy}
use Rattle.mm_count.specs.Listed.{AllListed, NonePinned}
use Rattle.mm_weak.specs.Links.{IsLinked}

-- Counts are right where so many places outside of objects hold each base besides, the table has exactly the zero-count
-- objects, none is pinned, and weak objects and their targets name each other.
pub record HasCounts (table : Table) (heap : Heap) (outside : ℕ → ℕ) : Type 0 where
  pub right : IsRight table heap
  pub counted : IsCountedBy heap.objects outside
  pub listed : AllListed heap.objects
  pub unpinned : NonePinned heap.objects
  pub linked : IsLinked heap
