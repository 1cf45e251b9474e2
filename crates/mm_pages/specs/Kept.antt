use Rattle.std.specs.Prelude.{◌≡◌, ℕ, ◌*◌, ◌^◌, ◌<◌, ◌≤◌}
use Rattle.mm_pages.specs.Entries.{Entries}
use Rattle.mm_pages.specs.Pages.{Pages, run_at, unused, count_below, IsSoundHeap}
use Rattle.mm_pages.specs.Tree.{Shows}

-- what callers see of a table and a limit
abbrev pub pages_of : Entries → ℕ → Pages
pages_of e limit = record { table = e.location; pages = e.pages; limit = limit; out = e.out; parked = e.parked }

-- a page heap's fields: the tree shows the pages that lie in no run, `free` is how many they are, and the tree has no
-- more pages than it must
pub record KeepsTree (e : Entries) (limit free : ℕ) : Type 0 where
  pub sound : IsSoundHeap (pages_of e limit)
  pub wide : e.pages ≤ 2 ^ e.height
  pub tight : 2 ^ e.height < 2 * e.pages
  pub shows : Shows (unused (run_at (pages_of e limit))) e.height e.tree
  pub counted : free ≡ count_below (unused (run_at (pages_of e limit))) (2 ^ e.height)
