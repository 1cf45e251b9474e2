-- What the words of the page map say of pages: one for each, and what they come to.
use Rattle.std.specs.Prelude.{◌≡◌, ◌+◌, ◌-◌, ◌<◌, ◌≤◌, ◌⊎◌, ◌==◌, ℕ, if◌then◌else◌, nat_lt, List, slice_index, ⊤}
use Rattle.mm_cells.specs.declared.page_use.PageUse.{PageUse}
use Rattle.mm_cells.specs.declared.page_use.PageUse.TheVariants.{Unused, Class, First, Later}

-- 0, then the classes, then the numbers of pages, then the distances
abbrev pub use_of : ℕ → PageUse
use_of code =
    if code == 0 then Unused
    else (if nat_lt code 32 then Class (code - 1)
    else (if nat_lt code 8192 then First (code - 32) else Later (code - 8192)))

-- a use that a word can say
abbrev pub IsUse : PageUse → Type 0
IsUse Unused = ⊤
IsUse (Class class) = class < 19
IsUse (First count) = count ≤ 4096
IsUse (Later distance) = distance ≤ 4096

-- a use of a page by itself, not as one of the pages of a cell
abbrev pub StandsAlone : PageUse → Type 0
StandsAlone Unused = ⊤
StandsAlone (Class class) = ⊤
StandsAlone (First count) = ⊥
StandsAlone (Later distance) = ⊥

-- what the word of a page says
abbrev pub told_at : List ℕ → ℕ → PageUse
told_at uses page = use_of (slice_index uses page)

-- a page that lies so far behind one of this use: it is a later page of a cell that reaches it, or else unused
abbrev pub behind : PageUse → ℕ → PageUse
behind Unused distance = Unused
behind (Class class) distance = Unused
behind (First count) distance = if nat_lt distance count then Later distance else Unused
behind (Later other) distance = Unused

-- What a page is used for whose word says this. It is a later page only where the word of the page that far before it
-- tells of a cell that reaches it.
abbrev pub meant : List ℕ → ℕ → PageUse → PageUse
meant uses page Unused = Unused
meant uses page (Class class) = Class class
meant uses page (First count) = First count
meant uses page (Later distance) =
    if nat_lt page distance then Unused else behind (told_at uses (page - distance)) distance

-- what a page is used for
abbrev pub use_in : List ℕ → ℕ → PageUse
use_in uses page = meant uses page (told_at uses page)

-- the use of each page of a cell of whole pages, by its distance from the first
abbrev pub use_in_whole : ℕ → ℕ → PageUse
use_in_whole count distance = if distance == 0 then First count else Later distance

-- so many pages from a page on have uses by their distance from it
abbrev pub HaveUses : List ℕ → ℕ → ℕ → (ℕ → PageUse) → Type 0
HaveUses words first count uses = (distance : ℕ) → distance < count → use_in words (first + distance) ≡ uses distance

-- they have them from now on, and all others have the uses that they had
pub record ChangesUses (before after : List ℕ) (first count : ℕ) (uses : ℕ → PageUse) : Type 0 where
  pub here : HaveUses after first count uses
  pub others : (other : ℕ) → (other < first) ⊎ (first + count ≤ other) → use_in after other ≡ use_in before other
