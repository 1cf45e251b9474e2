-- The parts of a table of cells, and what the calls on them change.
use Rattle.std.specs.Prelude.{◌≡◌, ◌≢◌, ◌+◌, ◌*◌, ◌<◌, ◌≤◌, ◌⊎◌, ℕ, Bool, false, List, length, take, drop}
use Rattle.mm_words.specs.Piece.{Piece}
use Rattle.mm_words.specs.Location.{Location, location_of}
use Rattle.mm_sets.specs.Set.{set_size, members, IsSet}
use Rattle.mm_cells.specs.declared.page_use.PageUse.{PageUse}
use Rattle.mm_cells.specs.declared.page_use.PageUse.TheVariants.{Unused}
use Rattle.mm_cells.specs.declared.marks.Mark.{Mark}
use Rattle.mm_cells.specs.declared.marks.Mark.TheVariants.{Free}
use Rattle.mm_cells.specs.Marks.{code_of_cell, mark_of_cell, whitened_mark, IsPlain}
use Rattle.mm_cells.specs.Uses.{use_in}

-- where the table lies, how many pages it is for, the words of the pages' uses, those of their cells' marks, and those
-- of the sets of pages that have room, one for each class
pub record Map : Type 0 where
  pub location : Location
  pub pages : ℕ
  pub uses : List ℕ
  pub marks : List ℕ
  pub rooms : List ℕ

-- for each page a word for its use and 32 words for its cells' marks, and 19 sets of pages
abbrev pub table_size : ℕ → ℕ
table_size pages = 33 * pages + 19 * set_size pages

-- uses come first, then marks, then sets
abbrev pub map_of : Piece → ℕ → Map
map_of p pages =
    record {
      location = location_of p;
      pages = pages;
      uses = take pages p.words;
      marks = take (32 * pages) (drop pages p.words);
      rooms = drop (33 * pages) p.words;
    }

-- what a page is used for
abbrev pub use_at : Map → ℕ → PageUse
use_at m page = use_in m.uses page

-- the mark of a cell of a page
abbrev pub mark_at : Map → ℕ → ℕ → Mark
mark_at m page cell = mark_of_cell m.marks (256 * page + cell)

-- its four bits
abbrev pub code_at : Map → ℕ → ℕ → ℕ
code_at m page cell = code_of_cell m.marks (256 * page + cell)

-- no free cell of a page has a flag
abbrev pub HasPlainMarks : Map → ℕ → Type 0
HasPlainMarks m page = (cell : ℕ) → cell < 256 → IsPlain (code_at m page cell)

-- the words of the set of a class
abbrev pub room_set : Map → ℕ → List ℕ
room_set m class = take (set_size m.pages) (drop (class * set_size m.pages) m.rooms)

-- whether the set of a class has the page
abbrev pub room_at : Map → ℕ → ℕ → Bool
room_at m class page = members (room_set m class) page

-- there is room for all of it, and the sets are sets of pages
pub record FitsTable (p : Piece) (pages : ℕ) : Type 0 where
  pub two : 2 ≤ pages
  pub most : pages ≤ 4096
  pub room : table_size pages ≤ length p.words
  pub sets : (class : ℕ) → class < 19 → IsSet pages (room_set (map_of p pages) class)

-- the same table, for the same pages
pub record IsSame (a b : Map) : Type 0 where
  pub location : b.location ≡ a.location
  pub pages : b.pages ≡ a.pages

-- no page is used, and none has room
pub record IsUntouched (location : Location) (pages : ℕ) (m : Map) : Type 0 where
  pub same_location : m.location ≡ location
  pub same_pages : m.pages ≡ pages
  pub unused : (page : ℕ) → use_at m page ≡ Unused
  pub no_room : (class page : ℕ) → class < 19 → page < pages → room_at m class page ≡ false

-- a page has another use
pub record SetsUse (a b : Map) (page : ℕ) (page_use : PageUse) : Type 0 where
  pub same : IsSame a b
  pub here : use_at b page ≡ page_use
  pub others : (other : ℕ) → other ≢ page → use_at b other ≡ use_at a other
  pub marks : b.marks ≡ a.marks
  pub rooms : b.rooms ≡ a.rooms

-- a cell of a page has another mark
pub record SetsMark (a b : Map) (page cell : ℕ) (mark : Mark) : Type 0 where
  pub same : IsSame a b
  pub here : mark_at b page cell ≡ mark
  pub other_cells : (other : ℕ) → other < 256 → other ≢ cell → mark_at b page other ≡ mark_at a page other
  pub other_pages : (other any : ℕ) → other ≢ page → any < 256 → mark_at b other any ≡ mark_at a other any
  pub plain : (any : ℕ) → HasPlainMarks a any → HasPlainMarks b any
  pub uses : b.uses ≡ a.uses
  pub rooms : b.rooms ≡ a.rooms

-- all cells of a page are free
pub record FreesPage (a b : Map) (page : ℕ) : Type 0 where
  pub same : IsSame a b
  pub here : (cell : ℕ) → cell < 256 → mark_at b page cell ≡ Free
  pub here_plain : HasPlainMarks b page
  pub other_pages : (other any : ℕ) → other ≢ page → any < 256 → mark_at b other any ≡ mark_at a other any
  pub plain : (any : ℕ) → HasPlainMarks a any → HasPlainMarks b any
  pub uses : b.uses ≡ a.uses
  pub rooms : b.rooms ≡ a.rooms

-- the taken ones of the first cells of a page, whose marks stand in so many words, are white
pub record WhitensPage (a b : Map) (page words : ℕ) : Type 0 where
  pub same : IsSame a b
  pub here : (cell : ℕ) → cell < 8 * words → mark_at b page cell ≡ whitened_mark (mark_at a page cell)
  pub behind : (cell : ℕ) → 8 * words ≤ cell → cell < 256 → mark_at b page cell ≡ mark_at a page cell
  pub other_pages : (other any : ℕ) → other ≢ page → any < 256 → mark_at b other any ≡ mark_at a other any
  pub plain : (any : ℕ) → HasPlainMarks a any → HasPlainMarks b any
  pub uses : b.uses ≡ a.uses
  pub rooms : b.rooms ≡ a.rooms

-- a page of a class has room, or has none
pub record SetsRoom (a b : Map) (class page : ℕ) (has_room : Bool) : Type 0 where
  pub same : IsSame a b
  pub here : room_at b class page ≡ has_room
  pub others : (c p : ℕ) → c < 19 → p < a.pages → (c ≢ class) ⊎ (p ≢ page) → room_at b c p ≡ room_at a c p
  pub uses : b.uses ≡ a.uses
  pub marks : b.marks ≡ a.marks

-- no page of the class has room
abbrev pub NoPageWithRoom : Map → ℕ → Type 0
NoPageWithRoom m class = (page : ℕ) → page < m.pages → room_at m class page ≡ false

-- the lowest page of the class that has room
pub record IsLowestRoom (m : Map) (class page : ℕ) : Type 0 where
  pub within : page < m.pages
  pub has_room : room_at m class page ≢ false
  pub lowest : (other : ℕ) → other < page → room_at m class other ≡ false
