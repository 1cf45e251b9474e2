use Rattle.std.specs.Prelude.{ℕ, ◌+◌, ◌*◌, ◌≤◌, ◌≡◌, replicate, List, length, take, drop}
use Rattle.mm_words.specs.Piece.{Piece}
use Rattle.mm_words.specs.Location.{Location, location_of}
use Rattle.mm_pages.specs.Tree.{tree_words}

-- the parts of a table: for each page the length of the run out that begins there and that of the run parked there,
-- 0 where none does, and the tree
pub record Entries : Type 0 where
  pub location : Location
  pub pages : ℕ
  pub height : ℕ
  pub out : List ℕ
  pub parked : List ℕ
  pub tree : List ℕ

-- they stand one after another
abbrev pub entries_of : Piece → ℕ → ℕ → Entries
entries_of p pages height = record {
  location = location_of p;
  pages = pages;
  height = height;
  out = take pages p.words;
  parked = take pages (drop pages p.words);
  tree = take (tree_words height) (drop (2 * pages) p.words);
}

-- a table of that many pages in which no run begins
pub record BeginsEmpty (location : Location) (pages height : ℕ) (e : Entries) : Type 0 where
  pub same_location : e.location ≡ location
  pub same_pages : e.pages ≡ pages
  pub same_height : e.height ≡ height
  pub none_out : e.out ≡ replicate pages 0
  pub none_parked : e.parked ≡ replicate pages 0

-- and they all fit
pub record FitsIn (p : Piece) (pages height : ℕ) : Type 0 where
  pub pages_small : pages ≤ 4096
  pub height_small : height ≤ 12
  pub room : 2 * pages + tree_words height ≤ length p.words
