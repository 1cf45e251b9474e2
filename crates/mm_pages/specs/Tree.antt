use Rattle.std.specs.Prelude.{Bool, ℕ, zero, suc, ◌+◌, ◌-◌, ◌*◌, ◌^◌, ◌<◌, List, slice_index, take, drop}
use Rattle.mm_pages.specs.declared.runs.Runs.{Runs}
use Rattle.mm_pages.specs.Free.{Marks, LowestFit, TellsRuns, beyond, marked}

-- how many words a tree over 2 ^ height pages takes: three for each node
abbrev pub tree_words : ℕ → ℕ
tree_words height = 3 * (2 * 2 ^ height - 1)

-- what the node at the head of the words says
abbrev pub head_of : List ℕ → Runs
head_of words = record { longest = slice_index words 0; left = slice_index words 1; right = slice_index words 2 }

-- the part of a tree's words that is the tree over the lower half of its pages
abbrev pub lower : ℕ → List ℕ → List ℕ
lower height words = take (tree_words height) (drop 3 words)

-- the part that is the tree over the upper half
abbrev pub upper : ℕ → List ℕ → List ℕ
upper height words = drop (3 + tree_words height) words

-- the words tell which of 2 ^ height pages are free: the node tells their runs, and where some of them are free and
-- some are not, the parts below it tell its halves
abbrev pub Shows : Marks → ℕ → List ℕ → Type 0
Shows free zero words = TellsRuns free 1 (head_of words)
Shows free (suc height) words =
    TellsRuns free (2 ^ suc height) (head_of words)
    × (0 < slice_index words 0 → slice_index words 0 < 2 ^ suc height → Shows free height (lower height words))
    × (0 < slice_index words 0 → slice_index words 0 < 2 ^ suc height →
    Shows (beyond (2 ^ height) free) height (upper height words))

-- the words are a tree, whichever pages it shows as free
pub record IsTree (height : ℕ) (words : List ℕ) : Type 0 where
  pub free : Marks
  pub shows : Shows free height words

-- both parts of a tree show their half of the pages
pub record HalvesShow (free : Marks) (height : ℕ) (words : List ℕ) : Type 0 where
  pub low : Shows free height (lower height words)
  pub high : Shows (beyond (2 ^ height) free) height (upper height words)

-- both parts of a tree are trees
pub record HalvesAreTrees (height : ℕ) (words : List ℕ) : Type 0 where
  pub low : IsTree height (lower height words)
  pub high : IsTree height (upper height words)

-- `first` is the lowest page at which k free pages begin
abbrev pub FindsLowest : ℕ → List ℕ → ℕ → ℕ → Type 0
FindsLowest height words k first = (free : Marks) → Shows free height words → LowestFit free (2 ^ height) k first

-- what the words show has changed in that the pages of from .. to are now free or taken as `value` says
abbrev pub ShowsChange : ℕ → List ℕ → List ℕ → ℕ → ℕ → Bool → Type 0
ShowsChange height before after from to value =
    (free : Marks) → Shows free height before → Shows (marked free from to value) height after
