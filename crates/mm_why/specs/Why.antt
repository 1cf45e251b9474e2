-- What callers see of the answer to why an object is kept.
use Rattle.std.specs.Prelude.{◌≡◌, ◌*◌, ◌≤◌, ℕ, List, [], reverse}
use Rattle.mm_why.specs.declared.hop.Hop.{Hop}
use Rattle.mm_why.specs.Queue.{Queue}

-- how many pages a heap may have, and the hops of the path that the last search found
pub record Why : Type 0 where
  pub pages : ℕ
  pub hops : List Hop

-- before the first search
abbrev pub unasked : ℕ → Why
unasked pages = record { pages = pages; hops = [] }

-- the hops are kept from the last one on
abbrev pub why_of : ℕ → List Hop → Why
why_of pages path = record { pages = pages; hops = reverse path }

-- between searches the queue is empty, and there is room for a hop to each object
pub record KeepsWhy (pages : ℕ) (queue : Queue) (capacity : ℕ) : Type 0 where
  pub two : 2 ≤ pages
  pub most : pages ≤ 4096
  pub places : queue.places ≡ 256 * pages
  pub none : queue.found ≡ []
  pub room : 256 * pages ≤ capacity
