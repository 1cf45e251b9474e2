-- What a heap keeps once something was made at a place in its region, or once it was looked for in vain.
use Rattle.std.proofs.Common.{◌≡◌, ◌≢◌, ℕ, ◌≤◌, List, ◌++◌, map, length, Option, refl, sym, ap, ◌∙◌}
use Rattle.std.proofs.Common.{subst, arith}
use Rattle.std.specs.Prelude.{◌==◌}
use Rattle.std.specs.List.{count_by, flat_map, fold}
use Rattle.mm_model.specs.Places.Place.{page_end}
use Rattle.mm_model.specs.Views.ByBase.{Begins}
use Rattle.mm_model.specs.Views.ObjectView.{ObjectsByBase, pieces_of_objects}
use Rattle.mm_model.specs.Views.View.{View, AreaView}
use Rattle.mm_model.specs.Views.ViewWords.{outside_references, piece_of_area, counted_cells_of}
use Rattle.mm_model.proofs.View.GoodCounts.{shown_totals}
use Rattle.mm_roots.specs.Stack.{Cells}
use Rattle.mm_object.specs.Object.{StoredObject, StoredObjects, views_of}
use Rattle.mm_object.specs.Heap.{Heap, IsSound}
use Rattle.mm_count.specs.Table.{Table, IsRight, IsSameTable}
use Rattle.mm_count.specs.Counts.{IsCountedBy}
use Rattle.mm_count.specs.Listed.{AllListed, NonePinned}
use Rattle.mm_mark.specs.Marker.{AreKnown}
use Rattle.mm_mark.specs.Stale.{HasFewStale}
use Rattle.mm_model.specs.Views.GoodView.{ArePaired}
use Rattle.mm_count.proofs.Null.{none_begins}
use Rattle.mm_weak.specs.Links.{is_linked_target}
use Rattle.mm_gc.specs.declared.wanted.Wanted.{Wanted}
use Rattle.mm_gc.specs.declared.wanted.Made.{Made}
use Rattle.mm_gc.specs.declared.wanted.Reach.{Reach}
use Rattle.mm_gc.specs.Making.{IsMade}
use Rattle.mm_gc.specs.Gc.{Region, Gc, view_of_gc, areas_in, objects_in, freed_since}
use Rattle.mm_gc.specs.Kept.{IsSettled, HasRooms, HasAllPieces, KeepsGc}
use Rattle.mm_gc.specs.Regions.{IsSameRegion}
use Rattle.mm_gc.specs.Showing.{IsShowing}

-- HAS_WEAK is set exactly on the targets that have a weak object
abbrev pub AreFlagged : StoredObjects → Type 0
AreFlagged objects =
    (base : ℕ) (object : StoredObject) → Begins objects base object → object.has_weak ≡ is_linked_target object

-- a table is right for another heap with these objects
pub right-moved : (table : Table) (before after : Heap) → after.pages ≡ before.pages → after.objects ≡ before.objects
    → IsRight table before → IsRight table after
right-moved table before after pages objects right =
    let few = right.pages in
    subst (λ (os : StoredObjects). IsRight table (record after { objects = os })) (sym objects)
    (record {
      pages = omega (arith, few, pages);
      spelled = right.spelled;
      entered = right.entered;
      entries =
          right.entries;
    })

-- a region whose objects have other composite words is as settled
pub settled-entered : (r : Region) (objects : StoredObjects) → IsSettled r → views_of objects ≡ objects_in r
    → IsSound (record r.heap { objects = objects })
    → IsSettled (record r { heap = record r.heap { objects = objects } })
settled-entered r objects settled views sound =
    let keeps = settled.keeps in
    let placed = keeps.placed in
    let tables = keeps.tables in
    record {
      keeps = record {
        sound = record { pages = keeps.sound.pages; heap = sound; areas = keeps.sound.areas };
        placed = record {
          heap = record { parked = placed.heap.parked; memory = placed.heap.memory };
          areas = placed.areas;
          all_parked = placed.all_parked;
          none_out = placed.none_out;
          beside = record { apart = placed.beside.apart; within = placed.beside.within };
          owns = placed.owns;
        };
        tables = record {
          two = tables.two;
          growing = tables.growing;
          most = tables.most;
          pages = tables.pages;
          heap = tables.heap;
          areas = tables.areas;
          last = record { own = tables.last.own; end = tables.last.end };
          room = tables.room;
          out = tables.out;
        };
        limit = keeps.limit;
      };
      size = settled.size
          ∙ ap (λ (vs : ObjectsByBase). fold page_end r.least (map piece_of_area (areas_in r) ++ pieces_of_objects vs))
          (sym views);
    }

-- no more objects were freed than were born
pub freed-most : (gc : Gc) → IsShowing (view_of_gc gc) → gc.freed ≤ gc.born
freed-most gc shown =
    let totals = shown_totals (view_of_gc gc) shown.state shown.good shown.shows in
    let born = totals.born in
    omega (arith, born)

-- a heap with another region, table and stack, and so many objects born
abbrev pub made : Gc → Region → Table → Cells → ℕ → Gc
made gc r table stack born = record gc { region = r; table = table; stack = stack; born = born }

module _ (gc : Gc) (keeps : KeepsGc gc) (r : Region) (same : IsSameRegion gc.region r) where
  module _ (table : Table) (table_same : IsSameTable gc.table table) (stack : Cells)
      (location : stack.location ≡ gc.stack.location) (limit : stack.limit ≡ gc.stack.limit) (born : ℕ) where
    abbrev after : Gc
    after = made gc r table stack born

    pub rooms-made : HasRooms after
    rooms-made =
        let rooms = keeps.rooms in
        record {
          within = rooms.within;
          least = same.least ∙ rooms.least;
          most = same.most ∙ rooms.most;
          stack = limit ∙ rooms.stack;
          queue = rooms.queue;
          table = ap (λ (t : Table). t.pages) table_same ∙ rooms.table;
          dead = rooms.dead;
        }

    pub pieces-made : HasAllPieces after
    pieces-made =
        let pieces = keeps.pieces in
        let at : table.location ≡ gc.table.location = ap (λ (t : Table). t.location) table_same in
        let words = pieces.out in
        let moved = same.out in
        let stack_size : stack.location.size ≡ gc.stack.location.size = ap (λ l. l.size) location in
        let table_size : table.location.size ≡ gc.table.location.size = ap (λ l. l.size) at in
        record {
          pages = ap (λ l. l.arena) same.pages ∙ pieces.pages ∙ sym same.name;
          cells = ap (λ l. l.arena) same.cells ∙ pieces.cells ∙ sym same.name;
          fixed = ap (λ l. l.arena) same.fixed ∙ pieces.fixed ∙ sym same.name;
          areas = ap (λ l. l.arena) same.areas ∙ pieces.areas ∙ sym same.name;
          stack = ap (λ l. l.arena) location ∙ pieces.stack ∙ sym same.name;
          table = ap (λ l. l.arena) at ∙ pieces.table ∙ sym same.name;
          queue = pieces.queue ∙ sym same.name;
          dead = pieces.dead ∙ sym same.name;
          out = omega (arith, words, moved, stack_size, table_size);
        }

  module _ (settled : IsSettled r) (objects : r.heap.objects ≡ gc.region.heap.objects) where
    abbrev other : Gc
    other = record gc { region = r }

    -- Where the objects are what they were, a good state is shown, and counted cells hold what they held, all is kept.
    pub keeps-objects : IsShowing (view_of_gc other)
        → ((base : ℕ) → base ≢ 0 → outside_references (view_of_gc other) base ≡ outside_references (view_of_gc gc) base)
        → KeepsGc other
    keeps-objects shown outside =
        let counts = keeps.counts in
        let counted = subst (λ os. IsCountedBy os (outside_references (view_of_gc gc))) (sym objects) counts.counted in
        let bases = none_begins r.heap settled.keeps.sound.heap 0 refl in
        record {
          shown = shown;
          settled = settled;
          counts = record {
            right = right-moved gc.table gc.region.heap r.heap same.heap_pages objects counts.right;
            counted = record {
              exact = λ b v there is free.
                  let old = counted.exact b v there is free in
                  let held = outside b (bases b v there) in
                  omega (arith, old, held);
              few = counted.few;
            };
            listed = subst AllListed (sym objects) counts.listed;
            unpinned = subst NonePinned (sym objects) counts.unpinned;
          };
          linked = record {
            paired = subst (λ os. ArePaired (views_of os)) (sym objects) keeps.linked.paired;
            flagged = subst (λ os. AreFlagged os) (sym objects) keeps.linked.flagged;
          };
          marking = record {
            known = subst (λ os. AreKnown gc.marker (views_of os)) (sym objects) keeps.marking.known;
            idle = keeps.marking.idle;
            since = keeps.marking.since;
            few = λ runs room.
                subst (λ os. HasFewStale (record { marker = gc.marker; objects = views_of os }) (freed_since gc))
                (sym objects) (keeps.marking.few runs room);
          };
          rooms = rooms-made gc.table refl gc.stack refl refl gc.born;
          pieces = pieces-made gc.table refl gc.stack refl refl gc.born;
        }

    -- and so where the areas are too
    pub view-unmade : areas_in r ≡ areas_in gc.region → view_of_gc other ≡ view_of_gc gc
    view-unmade areas =
        ap (λ (vs : ObjectsByBase). record (view_of_gc other) { objects = vs }) (ap views_of objects)
        ∙ ap (λ (views : List AreaView). record (view_of_gc gc) { areas = views }) areas

    pub keeps-unmade : areas_in r ≡ areas_in gc.region → KeepsGc other
    keeps-unmade areas =
        keeps-objects (subst IsShowing (sym (view-unmade areas)) keeps.shown)
        (λ base some. ap (λ (views : List AreaView). count_by (λ word. word == base) (flat_map counted_cells_of
        views)) areas)

pub room-pushed : (gc : Gc) → KeepsGc gc → length gc.stack.words ≢ gc.settings.stack
    → length gc.stack.words ≢ gc.stack.limit
room-pushed gc keeps room = subst (λ limit. length gc.stack.words ≢ limit) (sym keeps.rooms.stack) room

-- the same of a heap by another name
pub made-of : (gc old : Gc) → gc ≡ old → (w : Wanted) (reach : Reach) (new : View) (result : Option Made)
    → IsMade (view_of_gc gc) w reach new result → IsMade (view_of_gc old) w reach new result
made-of gc old e w reach new result made = subst (λ (gc : Gc). IsMade (view_of_gc gc) w reach new result) e made
