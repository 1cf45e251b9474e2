-- The marks of a page, word by word.
use Rattle.std.proofs.Common.{◌≡◌, ◌≢◌, ℕ, length, slice_set, ◌+◌, ◌*◌, ◌/◌, ◌%◌, ◌<◌, ◌≤◌, ◌-◌, List, get_or}
use Rattle.std.proofs.Common.{refl, sym, ap, ◌∙◌, inl, inr, arith}
use Rattle.std.proofs.lemmas.Bool.{cases_eq, cases_lt}
use Rattle.std.proofs.lemmas.List.{get_or-set_same, get_or-set_other}
use Rattle.mm_cells.specs.declared.marks.Mark.{Mark}
use Rattle.mm_cells.specs.Marks.{code_in, code_of_cell, mark_in, mark_of_cell, page_marks, NoneFree, IsLowestFree}

pub page_marks-word : (table : List ℕ) (first word place : ℕ) → place < 8 →
    page_marks table first (8 * word + place) ≡ mark_in (get_or table (first + word) 0) place
page_marks-word table first word place within =
    let row : (8 * first + (8 * word + place)) / 8 ≡ first + word = omega arith in
    let column : (8 * first + (8 * word + place)) % 8 ≡ place = omega arith in
    rw (row, column) refl

pub page_codes-word : (table : List ℕ) (first word place : ℕ) → place < 8 →
    code_of_cell table (8 * first + (8 * word + place)) ≡ code_in (get_or table (first + word) 0) place
page_codes-word table first word place within =
    let row : (8 * first + (8 * word + place)) / 8 ≡ first + word = omega arith in
    let column : (8 * first + (8 * word + place)) % 8 ≡ place = omega arith in
    rw (row, column) refl

-- the mark of a cell in the same word
pub mark_of_cell-beside : (table : List ℕ) (cell other : ℕ) → other / 8 ≡ cell / 8 →
    mark_of_cell table other ≡ mark_in (get_or table (cell / 8) 0) (other % 8)
mark_of_cell-beside table cell other here = ap (λ k. mark_in (get_or table k 0) (other % 8)) here

-- the mark of a cell of a word that is replaced
pub mark_of_cell-word : (table : List ℕ) (cell other word : ℕ) → cell / 8 < length table → other / 8 ≡ cell / 8 →
    mark_of_cell (slice_set table (cell / 8) word) other ≡ mark_in word (other % 8)
mark_of_cell-word table cell other word within here =
    mark_of_cell-beside (slice_set table (cell / 8) word) cell other here
    ∙ ap (λ w. mark_in w (other % 8)) (get_or-set_same table (cell / 8) word 0 within)

-- another cell than one of a word that is replaced lies in another word, or at another place of the same one
pub code_of_cell-others : (table : List ℕ) (cell word : ℕ) → cell / 8 < length table →
    ((p : ℕ) → p < 8 → p ≢ cell % 8 → code_in word p ≡ code_in (get_or table (cell / 8) 0) p) →
    (other : ℕ) → other ≢ cell → code_of_cell (slice_set table (cell / 8) word) other ≡ code_of_cell table other
code_of_cell-others table cell word within others other apart = elim (cases_eq (other / 8) (cell / 8)) [
  | inl here ↦
      let there : other % 8 ≢ cell % 8 = λ e. apart (omega arith) in
      ap (λ k. code_in (get_or (slice_set table (cell / 8) word) k 0) (other % 8)) here
      ∙ ap (λ w. code_in w (other % 8)) (get_or-set_same table (cell / 8) word 0 within)
      ∙ others (other % 8) (omega arith) there
      ∙ ap (λ k. code_in (get_or table k 0) (other % 8)) (sym here)
  | inr there ↦ ap (λ w. code_in w (other % 8)) (get_or-set_other table (cell / 8) (other / 8) word 0 there)
]

-- the marks of two words are those of sixteen cells of a page
pub page_marks-pair : (table : List ℕ) (first pair marks place : ℕ) → place < 16 →
    ((p : ℕ) → p < 8 → mark_in marks p ≡ mark_in (get_or table (first + 2 * pair) 0) p) →
    ((p : ℕ) → p < 8 → mark_in marks (8 + p) ≡ mark_in (get_or table (first + 2 * pair + 1) 0) p) →
    page_marks table first (16 * pair + place) ≡ mark_in marks place
page_marks-pair table first pair marks place within low high = elim (cases_lt place 8) [
  | inl h ↦
      ap (page_marks table first) (omega arith) ∙ page_marks-word table first (2 * pair) place h ∙ sym (low place h)
  | inr h ↦
      let at = place - 8 in
      let is : 8 + at ≡ place = omega arith in
      let below : at < 8 = omega arith in
      ap (page_marks table first) (omega arith) ∙ page_marks-word table first (2 * pair + 1) at below
      ∙ ap (λ k. mark_in (get_or table k 0) at) (omega arith)
      ∙ sym (high at below) ∙ ap (mark_in marks) is
]

-- no cell is free up to some, and none of those behind it
pub NoneFree-more : (marks behind : ℕ → Mark) (start place cells : ℕ) → cells ≤ start + place →
    ((p : ℕ) → p < place → marks (start + p) ≡ behind p) → NoneFree marks start → NoneFree behind place →
    NoneFree marks cells
NoneFree-more marks behind start place cells most same before here = λ cell below free.
    elim (cases_lt cell start) [
      | inl earlier ↦ before cell earlier free
      | inr later ↦
          let at = cell - start in
          let is : start + at ≡ cell = omega arith in
          let low : at < place = omega arith in
          here at low (sym (same at low) ∙ ap marks is ∙ free)
    ]

pub IsLowestFree-more : (marks behind : ℕ → Mark) (start place cells most : ℕ) → start + place < cells →
    ((p : ℕ) → p < most → marks (start + p) ≡ behind p) → NoneFree marks start → IsLowestFree behind most place →
    IsLowestFree marks cells (start + place)
IsLowestFree-more marks behind start place cells most within same before here = record {
  within = within;
  free = same place here.within ∙ here.free;
  lowest = NoneFree-more marks behind start place (start + place) (omega arith)
      (λ p low. same p (omega (arith, here.within))) before here.lowest;
}
