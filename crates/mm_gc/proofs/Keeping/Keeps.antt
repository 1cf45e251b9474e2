-- What is kept between calls stays where one part of a heap changes.
use Rattle.std.proofs.Common.{◌≡◌, ℕ, ◌+◌, ◌*◌, sym, ap, ◌∙◌}
use Rattle.mm_roots.specs.Stack.{Cells}
use Rattle.mm_gc.specs.Gc.{Gc, view_of_gc}
use Rattle.mm_gc.specs.Kept.{KeepsGc}
use Rattle.mm_gc.specs.Showing.{IsShowing}

-- another stack in the same place, if a good state is shown with it
pub keeps-stack : (gc : Gc) (s : Cells) → KeepsGc gc → s.location ≡ gc.stack.location → s.limit ≡ gc.stack.limit
    → IsShowing (view_of_gc (record gc { stack = s })) → KeepsGc (record gc { stack = s })
keeps-stack gc s keeps location limit shown =
    record {
      shown = shown;
      settled = keeps.settled;
      counts = record {
        right = keeps.counts.right;
        counted = keeps.counts.counted;
        listed = keeps.counts.listed;
        unpinned = keeps.counts.unpinned;
      };
      linked = keeps.linked;
      marking = record {
        known = keeps.marking.known;
        idle = keeps.marking.idle;
        since = keeps.marking.since;
        few = keeps.marking.few;
      };
      rooms = record {
        within = keeps.rooms.within;
        least = keeps.rooms.least;
        most = keeps.rooms.most;
        stack = limit ∙ keeps.rooms.stack;
        queue = keeps.rooms.queue;
        table = keeps.rooms.table;
        dead = keeps.rooms.dead;
      };
      pieces = record {
        pages = keeps.pieces.pages;
        cells = keeps.pieces.cells;
        fixed = keeps.pieces.fixed;
        areas = keeps.pieces.areas;
        stack = ap (λ l. l.arena) location ∙ keeps.pieces.stack;
        table = keeps.pieces.table;
        queue = keeps.pieces.queue;
        dead = keeps.pieces.dead;
        out = keeps.pieces.out
            ∙ ap
            (λ (size : ℕ). gc.region.pages.table.size + gc.region.heap.table.size + gc.region.areas.fixed.table.size
            + gc.region.areas.table.size + size + gc.table.location.size + gc.marker.location.size
            + gc.dead.size + 1024 * gc.region.heap.size)
            (ap (λ l. l.size) (sym location));
      };
    }
