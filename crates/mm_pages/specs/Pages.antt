use Rattle.std.specs.Prelude.{◌≡◌, ℕ, zero, suc, ◌+◌, ◌*◌, ◌^◌, ◌<◌, ◌≤◌, ◌⊎◌, Bool, false, ◌&&◌, ◌||◌, not, nat_lt}
use Rattle.std.specs.Prelude.{if◌then◌else◌, List, length, replicate, slice_index, slice_set, IsTrue, ◌↔◌}
use Rattle.mm_words.specs.Location.{Location}
use Rattle.mm_pages.specs.Free.{Marks}

-- what callers see of a page heap: where its table lies, how many pages it has, below which page pages may be free, and
-- for each page the length of the run out that begins there and of the run parked there, 0 where none does
pub record Pages : Type 0 where
  pub table : Location
  pub pages : ℕ
  pub limit : ℕ
  pub out : List ℕ
  pub parked : List ℕ

-- a run of pages, with the table of the page heap that it is of
pub record Run : Type 0 where
  pub heap : Location
  pub first : ℕ
  pub len : ℕ

-- how many words the table of a page heap must have
abbrev pub table_size : ℕ → ℕ
table_size pages = 14 * pages

-- a page heap without runs
abbrev pub fresh : Location → ℕ → Pages
fresh table pages = record {
  table = table;
  pages = pages;
  limit = pages;
  out = replicate pages 0;
  parked = replicate pages 0;
}

-- the same page heap, but that a run of n pages is out at page p, or none where n is 0
abbrev pub with_out : Pages → ℕ → ℕ → Pages
with_out v p n = record v { out = slice_set v.out p n }

-- the same of a run that is parked
abbrev pub with_parked : Pages → ℕ → ℕ → Pages
with_parked v p n = record v { parked = slice_set v.parked p n }

-- the run of n pages at page p of this page heap
abbrev pub run_of : Pages → ℕ → ℕ → Run
run_of v p n = record { heap = v.table; first = p; len = n }

-- page p lies in one of the runs of these lengths
pub record Covers (lengths : List ℕ) (p : ℕ) : Type 0 where
  pub first : ℕ
  pub begins : first ≤ p
  pub reaches : p < first + slice_index lengths first

-- page p is free: it is below the limit, it isn't page 0, and it lies in no run
pub record IsFreePage (v : Pages) (p : ℕ) : Type 0 where
  pub off_zero : 0 < p
  pub below_limit : p < v.limit
  pub not_out : ¬ Covers v.out p
  pub not_parked : ¬ Covers v.parked p

-- the test tells of each page that may be free whether it is
abbrev pub TellsFreePages : Pages → (ℕ → Bool) → Type 0
TellsFreePages v test = (p : ℕ) → 0 < p → p < v.limit → IsTrue (test p) ↔ IsFreePage v p

-- the k pages from page p on are free
abbrev pub IsFreeRun : Pages → ℕ → ℕ → Type 0
IsFreeRun v p k = (q : ℕ) → p ≤ q → q < p + k → IsFreePage v q

-- they are, and no lower k pages in a row are
pub record IsLowestRun (v : Pages) (p k : ℕ) : Type 0 where
  pub free : IsFreeRun v p k
  pub lowest : (q : ℕ) → IsFreeRun v q k → p ≤ q

-- the run is one of those of this page heap that are out
pub record IsOut (v : Pages) (run : Run) : Type 0 where
  pub own : run.heap ≡ v.table
  pub some : 0 < run.len
  pub there : slice_index v.out run.first ≡ run.len

-- no run is out or parked
pub record HasNoRun (v : Pages) : Type 0 where
  pub none_out : (p : ℕ) → slice_index v.out p ≡ 0
  pub none_parked : (p : ℕ) → slice_index v.parked p ≡ 0

-- page p is page 0, or it lies in a run
abbrev pub IsUsed : Pages → ℕ → Type 0
IsUsed v p = (p ≡ 0) ⊎ (Covers v.out p ⊎ Covers v.parked p)

-- p is the highest page that is used
pub record IsHighestUsed (v : Pages) (p : ℕ) : Type 0 where
  pub used : IsUsed v p
  pub highest : (q : ℕ) → IsUsed v q → q ≤ p

-- no run reaches beyond the limit
pub record EndsBy (v : Pages) (limit : ℕ) : Type 0 where
  pub out : (p : ℕ) → Covers v.out p → p < limit
  pub parked : (p : ℕ) → Covers v.parked p → p < limit

-- the length of the run, out or parked, that begins at a page
abbrev pub run_at : Pages → ℕ → ℕ
run_at v p = slice_index v.out p + slice_index v.parked p

-- what holds of the runs of every page heap: they are apart, leave out page 0, and end by the limit
pub record IsSoundHeap (v : Pages) : Type 0 where
  pub two : 2 ≤ v.limit
  pub limit : v.limit ≤ v.pages
  pub pages : v.pages ≤ 4096
  pub out_size : length v.out ≡ v.pages
  pub parked_size : length v.parked ≡ v.pages
  pub one_kind : (p : ℕ) → 0 < slice_index v.out p → slice_index v.parked p ≡ 0
  pub off_zero : run_at v 0 ≡ 0
  pub within : (p : ℕ) → 0 < run_at v p → p + run_at v p ≤ v.limit
  pub apart : (p q : ℕ) → p < q → 0 < run_at v p → 0 < run_at v q → p + run_at v p ≤ q

-- whether p lies in a run that begins below page n
abbrev pub reaches : (ℕ → ℕ) → ℕ → ℕ → Bool
reaches runs p zero = false
reaches runs p (suc n) = nat_lt p (n + runs n) || reaches runs p n

-- whether a page isn't page 0 and lies in no run
abbrev pub unused : (ℕ → ℕ) → Marks
unused runs p = nat_lt 0 p && not (reaches runs p (suc p))

-- whether a page is free
abbrev pub is_free_page : Pages → Marks
is_free_page v p = nat_lt p v.limit && unused (run_at v) p

-- how many of the first n pages pass a test
abbrev pub count_below : Marks → ℕ → ℕ
count_below test zero = 0
count_below test (suc n) = (if test n then 1 else 0) + count_below test n

-- at most seven steps for each binary digit of the number of pages
abbrev pub IsQuick : ℕ → ℕ → ℕ → Type 0
IsQuick pages before after = (digits : ℕ) → pages < 2 ^ digits → after ≤ before + 7 * digits
