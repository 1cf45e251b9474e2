-- A region as it is made: nothing lies in it.
use Rattle.std.specs.Prelude.{◌≡◌, ℕ, ◌+◌, ◌*◌, replicate, None}
use Rattle.mm_model.specs.Areas.{most_areas}
use Rattle.mm_words.specs.Arena.{Arena}
use Rattle.mm_pages.specs.Pages as heaps
use Rattle.mm_cells.specs.Map.{table_size}
use Rattle.mm_gc.specs.Gc.{Region}
use Rattle.mm_gc.specs.Kept.{IsSettled}
use Rattle.mm_gc.specs.Regions.{words_of}

-- how many words a region of at most so many pages needs: three tables, that of areas, and the greatest memory
abbrev pub region_words : ℕ → ℕ
region_words most = heaps.table_size most + table_size most + table_size most + 4096 + 1024 * most

-- all tables of a region are pieces of its arena
pub record OwnsPieces (r : Region) : Type 0 where
  pub pages : r.pages.table.arena ≡ r.arena.name
  pub cells : r.heap.table.arena ≡ r.arena.name
  pub fixed : r.areas.fixed.table.arena ≡ r.arena.name
  pub areas : r.areas.table.arena ≡ r.arena.name

-- A region of so many pages at least and at most, without objects and areas. Its words are cut from this arena.
pub record IsNewRegion (before : Arena) (least most : ℕ) (r : Region) : Type 0 where
  pub settled : IsSettled r
  pub objects : r.heap.objects ≡ replicate (256 * most) None
  pub areas : r.areas.areas ≡ replicate most_areas None
  pub least_is : r.least ≡ least
  pub most_is : r.most ≡ most
  pub name : r.arena.name ≡ before.name
  pub out : r.arena.out ≡ before.out + words_of r
  pub pieces : OwnsPieces r
