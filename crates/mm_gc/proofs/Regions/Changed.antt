-- A region in which objects or areas changed keeps what is always kept of it.
use Rattle.std.proofs.Common.{◌≡◌, ℕ, List, Option, slice_index}
use Rattle.std.proofs.Common.{refl, sym, ap, ◌∙◌, subst, arith}
use Rattle.mm_words.specs.Arena.{Arena}
use Rattle.mm_words.specs.Location.{Location}
use Rattle.mm_pages.specs.Pages.{Pages, IsSoundHeap}
use Rattle.mm_pages.specs.Parked.{AreParked, AreAllParked, HaveNoCommonRun}
use Rattle.mm_object.specs.Object.{StoredObjects}
use Rattle.mm_object.specs.Heap.{Heap, IsSound, FitsHeap}
use Rattle.mm_fixed.specs.Fixed.{Fixed}
use Rattle.mm_roots.specs.Areas.{IsBeside, OwnsAll}
use Rattle.mm_roots.proofs.Kept.{IsBeside-parked}
use Rattle.mm_gc.specs.declared.region.Region.{Region}
use Rattle.mm_gc.specs.Kept.{IsSoundRegion, HasTables, KeepsRegion}
use Rattle.mm_gc.specs.Regions.{IsSameRegion}

-- what stays where objects or areas change
pub record StaysBeside (before after : Region) : Type 0 where
  pub arena : after.arena ≡ before.arena
  pub least : after.least ≡ before.least
  pub most : after.most ≡ before.most
  pub heap : after.heap ≡ record before.heap {
    objects = after.heap.objects;
    runs = after.heap.runs;
    raw = after.heap.raw;
  }
  pub pages : after.pages ≡ record before.pages { parked = after.pages.parked }
  pub table : after.areas.table ≡ before.areas.table
  pub fixed : after.areas.fixed ≡ record before.areas.fixed {
    blocks = after.areas.fixed.blocks;
    runs = after.areas.fixed.runs;
  }

-- what is parked once they did
pub record StaysParked (r : Region) : Type 0 where
  pub heap : FitsHeap r.heap r.pages
  pub areas : AreParked r.areas.fixed.runs r.pages
  pub all_parked : AreAllParked r.heap.runs r.areas.fixed.runs r.pages
  pub owns : OwnsAll r.areas

-- two families whose runs are all that is parked have none in common
pub no_common-all_parked : (pages : Pages) (runs others : List ℕ) → AreParked others pages
    → AreAllParked runs others pages → HaveNoCommonRun others runs
no_common-all_parked pages runs others parked all page some =
    omega (arith, all page, parked.parked page some)

pub clear-all_parked : (pages : Pages) (runs others : List ℕ) → AreParked runs pages → AreAllParked runs others pages
    → HaveNoCommonRun runs others
clear-all_parked pages runs others parked all page some = omega (arith, all page, parked.parked page some)

pub beside-parked : (r : Region) → IsSoundRegion r → FitsHeap r.heap r.pages → AreParked r.areas.fixed.runs r.pages
    → AreAllParked r.heap.runs r.areas.fixed.runs r.pages → IsBeside r.areas r.heap
beside-parked r sound fits parked all =
    IsBeside-parked r.areas r.heap r.pages sound.pages parked fits
    (no_common-all_parked r.pages r.heap.runs r.areas.fixed.runs parked all)

module _ (before after : Region) (stays : StaysBeside before after) where
  abbrev pages_is : after.pages ≡ record before.pages { parked = after.pages.parked }
  pages_is = stays.pages

  same_size : after.heap.size ≡ before.heap.size
  same_size = ap (λ (h : Heap). h.size) stays.heap

  pub tables-changed : HasTables before → HasTables after
  tables-changed tables = record {
    two = omega (arith, tables.two, stays.least);
    growing = omega (arith, tables.growing, stays.least, stays.most);
    most = omega (arith, tables.most, stays.most);
    pages = ap (λ (p : Pages). p.pages) stays.pages ∙ tables.pages ∙ sym stays.most;
    heap = ap (λ (h : Heap). h.pages) stays.heap ∙ tables.heap ∙ sym stays.most;
    areas = ap (λ (f : Fixed). f.pages) stays.fixed ∙ tables.areas ∙ sym stays.most;
    last = record {
      own = ap (λ (h : Heap). h.memory.arena) stays.heap ∙ tables.last.own
          ∙ sym (ap (λ (a : Arena). a.name) stays.arena);
      end = omega (
        arith,
        tables.last.end,
        ap (λ (h : Heap). h.memory.start) stays.heap,
        ap (λ (h : Heap). h.memory.size) stays.heap,
        ap (λ (a : Arena). a.total) stays.arena,
        ap (λ (a : Arena). a.spare) stays.arena,
      );
    };
    room = omega (arith, tables.room, stays.most, same_size, ap (λ (a : Arena). a.spare) stays.arena);
    out = omega (arith, tables.out, same_size, ap (λ (a : Arena). a.out) stays.arena);
  }

  pub keeps-changed : KeepsRegion before → IsSoundRegion after → StaysParked after → KeepsRegion after
  keeps-changed keeps sound parked = record {
    sound = sound;
    placed = record {
      heap = parked.heap;
      areas = parked.areas;
      all_parked = parked.all_parked;
      none_out = λ page.
          ap (λ (p : Pages). slice_index p.out page) stays.pages ∙ keeps.placed.none_out page;
      beside = beside-parked after sound parked.heap parked.areas parked.all_parked;
      owns = parked.owns;
    };
    tables = tables-changed keeps.tables;
    limit = ap (λ (p : Pages). p.limit) stays.pages ∙ keeps.limit ∙ sym same_size;
  }

  pub same-changed : IsSameRegion before after
  same-changed = record {
    name = ap (λ (a : Arena). a.name) stays.arena;
    out = omega (
      arith,
      ap (λ (a : Arena). a.out) stays.arena,
      ap (λ (p : Pages). p.table.size) stays.pages,
      ap (λ (h : Heap). h.table.size) stays.heap,
      ap (λ (f : Fixed). f.table.size) stays.fixed,
      ap (λ (t : Location). t.size) stays.table,
      same_size,
    );
    pages = ap (λ (p : Pages). p.table) stays.pages;
    cells = ap (λ (h : Heap). h.table) stays.heap;
    fixed = ap (λ (f : Fixed). f.table) stays.fixed;
    areas = stays.table;
    least = stays.least;
    most = stays.most;
    heap_pages = ap (λ (h : Heap). h.pages) stays.heap;
  }

-- one after the other
pub same-trans : (first next last : Region) → IsSameRegion first next → IsSameRegion next last → IsSameRegion first last
same-trans first next last one two = record {
  name = two.name ∙ one.name;
  out = omega (arith, one.out, two.out);
  pages = two.pages ∙ one.pages;
  cells = two.cells ∙ one.cells;
  fixed = two.fixed ∙ one.fixed;
  areas = two.areas ∙ one.areas;
  least = two.least ∙ one.least;
  most = two.most ∙ one.most;
  heap_pages = two.heap_pages ∙ one.heap_pages;
}

-- what changed is what the heap and the page heap have now
pub heap-stays : (before after : Heap) (objects : StoredObjects) (runs : List ℕ) (raw : List (Option ℕ))
    → after ≡ record before { objects = objects; runs = runs; raw = raw }
    → after ≡ record before { objects = after.objects; runs = after.runs; raw = after.raw }
heap-stays before after objects runs raw e =
    subst (λ (h : Heap). h ≡ record before { objects = h.objects; runs = h.runs; raw = h.raw }) (sym e) refl

pub pages-stay : (before after : Pages) (parked : List ℕ) → after ≡ record before { parked = parked }
    → after ≡ record before { parked = after.parked }
pages-stay before after parked e =
    subst (λ (p : Pages). p ≡ record before { parked = p.parked }) (sym e) refl

-- objects changed, and the areas are as they were
module _ (before : Region) (heap : Heap) (pages : Pages) where
  abbrev with_heap : Region
  with_heap = record before { heap = heap; pages = pages }

  pub stays-heap : heap ≡ record before.heap { objects = heap.objects; runs = heap.runs; raw = heap.raw }
      → pages ≡ record before.pages { parked = pages.parked }
      → StaysBeside before (record before { heap = heap; pages = pages })
  stays-heap heap_is pages_is = record {
    arena = refl;
    least = refl;
    most = refl;
    heap = heap_is;
    pages = pages_is;
    table = refl;
    fixed = refl;
  }

  pub keeps-heap : KeepsRegion before → StaysBeside before (record before { heap = heap; pages = pages }) → IsSound heap
      → IsSoundHeap pages → FitsHeap heap pages → AreParked before.areas.fixed.runs pages
      → AreAllParked heap.runs before.areas.fixed.runs pages
      → KeepsRegion (record before { heap = heap; pages = pages })
  keeps-heap keeps stays sound pages_sound fits parked all =
      keeps-changed before with_heap stays keeps
      (record { pages = pages_sound; heap = sound; areas = keeps.sound.areas })
      (record { heap = fits; areas = parked; all_parked = all; owns = keeps.placed.owns })
