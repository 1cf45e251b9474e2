-- How often counted cells hold a base once one of them has another word.
use Rattle.std.proofs.Common.{◌≡◌, ◌≢◌, ⊎_elim, ℕ, ◌+◌, ◌<◌, Bool, true, false, List, [], ◌∷◌, ◌++◌}
use Rattle.std.proofs.Common.{map, take, length, Some, refl, sym, ap, ◌∙◌, subst, cond}
use Rattle.std.proofs.Common.{eqb-true, arith}
use Rattle.std.proofs.lemmas.Bool.{cases_eq}
use Rattle.std.proofs.lemmas.Bool.Decides.{nat_tests}
use Rattle.std.proofs.lemmas.List.{length-take, get_or-take}
use Rattle.std.proofs.lemmas.List.Sums.{sum_by-set, sum_by-append}
use Rattle.std.proofs.Math.Seq.{take-set-lt}
use Rattle.std.specs.Prelude.{◌==◌, if◌then◌else◌, slice_set, slice_index}
use Rattle.std.specs.List.{AllByRecursion, find, flat_map, count_by}
use Rattle.mm_model.specs.Phase.{IsAscending}
use Rattle.mm_model.specs.Views.View.{View, AreaView}
use Rattle.mm_model.specs.Views.ViewWords.{area_in, counted_cells_of, outside_references}
use Rattle.mm_count.specs.Counts.{one_more}
use Rattle.mm_count.proofs.Composites.{decides, refutes}
use Rattle.mm_count.proofs.Counted.{one_more-other}
use Rattle.mm_count.proofs.Stores.Stored.{one_if}
use Rattle.mm_gc.specs.AreaCells.{IsReplaced}
use Rattle.mm_roots.specs.Views.{with_cell}

-- how many of an area's counted cells hold a base
abbrev pub cells_holding : ℕ → AreaView → ℕ
cells_holding base area = count_by (λ word. word == base) (counted_cells_of area)

-- all of them
abbrev pub all_holding : ℕ → List AreaView → ℕ
all_holding base areas = count_by (λ word. word == base) (flat_map counted_cells_of areas)

all_holding-cons : (base : ℕ) (area : AreaView) (areas : List AreaView)
    → all_holding base (area ∷ areas) ≡ cells_holding base area + all_holding base areas
all_holding-cons base area areas =
    sum_by-append (λ (word : ℕ). cond (word == base) 1 0) (counted_cells_of area) (flat_map counted_cells_of areas)

-- no other area has the number
others-same : (number s word : ℕ) (areas : List AreaView)
    → AllByRecursion (λ next. number < next) (map (λ (area : AreaView). area.number) areas)
    → map (with_cell number s word) areas ≡ areas
others-same number s word [] above = refl
others-same number s word (area ∷ areas) above =
    let first = above.0 in
    let test : (area.number == number) ≡ false = grind (arith, nat_tests) in
    ap (λ b. (if b then record area { words = slice_set area.words s word } else area)
    ∷ map (with_cell number s word) areas) test
    ∙ ap (λ (rest : List AreaView). area ∷ rest) (others-same number s word areas above.1)

module _ (number s word base : ℕ) (area : AreaView) (scanned : area.scanned ≡ true) (below : s < area.counted)
    (within : s < length area.words) where
  -- in the area itself
  own-holding : cells_holding base (record area { words = slice_set area.words s word })
      + one_if (slice_index area.words s == base)
      ≡ cells_holding base area + one_if (word == base)
  own-holding =
      let size : s < length (take area.counted area.words) = omega (arith, length-take area.counted area.words) in
      let front = ap (λ (n : ℕ). one_if (n == base)) (get_or-take area.counted area.words s 0 below) in
      let now : cells_holding base (record area { words = slice_set area.words s word })
      ≡ count_by (λ w. w == base) (slice_set (take area.counted area.words) s word) =
      ap (λ b. count_by (λ w. w == base) (if b then take area.counted (slice_set area.words s word) else [])) scanned
      ∙ ap (count_by (λ w. w == base)) (take-set-lt area.counted area.words s word below) in
      let was : cells_holding base area ≡ count_by (λ w. w == base) (take area.counted area.words) =
      ap (λ b. count_by (λ w. w == base) (if b then take area.counted area.words else [])) scanned in
      let sums = sum_by-set (λ (w : ℕ). one_if (w == base)) (take area.counted area.words) s word 0 size in
      omega arith

  pub all-holding : (areas : List AreaView) → IsAscending (map (λ (area : AreaView). area.number) areas)
      → find (λ (a : AreaView). a.number == number) areas ≡ Some area
      → all_holding base (map (with_cell number s word) areas) + one_if (slice_index area.words s == base)
      ≡ all_holding base areas + one_if (word == base)
  all-holding [] ascending found = cc
  all-holding (first ∷ areas) ascending found =
      split (all-holding areas ascending.1) (first.number == number) refl found
    where
      split : (find (λ (a : AreaView). a.number == number) areas ≡ Some area
          → all_holding base (map (with_cell number s word) areas) + one_if (slice_index area.words s == base)
          ≡ all_holding base areas + one_if (word == base)) → (b : Bool) → (first.number == number) ≡ b
          → (if b then Some first else find (λ (a : AreaView). a.number == number) areas) ≡ Some area
          → all_holding base (map (with_cell number s word) (first ∷ areas)) + one_if (slice_index area.words s == base)
          ≡ all_holding base (first ∷ areas) + one_if (word == base)
      split later true e is =
          let same : first ≡ area = cc in
          let at : first.number ≡ number = eqb-true first.number number e in
          let rest = others-same number s word areas
          (subst (λ n. AllByRecursion (λ next. n < next) (map (λ (area : AreaView). area.number) areas)) at
          ascending.0) in
          let changed : map (with_cell number s word) (first ∷ areas)
          ≡ record area { words = slice_set area.words s word } ∷ areas =
          ap (λ b. (if b then record first { words = slice_set first.words s word } else first)
          ∷ map (with_cell number s word) areas) e
          ∙ ap (λ (x : AreaView). record x { words = slice_set x.words s word } ∷ map
          (with_cell number s word) areas) same
          ∙ ap (λ (others : List AreaView). record area { words = slice_set area.words s word } ∷ others) rest in
          let now = ap (all_holding base) changed in
          let was = ap (λ (x : AreaView). all_holding base (x ∷ areas)) same in
          let a = all_holding-cons base (record area { words = slice_set area.words s word }) areas in
          let b = all_holding-cons base area areas in
          let own = own-holding in
          omega arith
      split later false e is =
          let rest = later is in
          let now = ap (λ b. all_holding base
          ((if b then record first { words = slice_set first.words s word } else first)
          ∷ map (with_cell number s word) areas)) e in
          let a = all_holding-cons base first (map (with_cell number s word) areas) in
          let b = all_holding-cons base first areas in
          omega arith

pub one_more-is : (outside : ℕ → ℕ) (base b : ℕ) → one_more outside base b ≡ outside b + one_if (base == b)
one_more-is outside base b =
    ⊎_elim
    (λ (e : b ≡ base).
    let one : one_if (base == b) ≡ 1 = ap one_if (decides base b (sym e)) in
    let same : base ≡ b = sym e in
    let more : one_more outside base b ≡ outside b + 1 =
    ap (λ t. cond t (outside b + 1) (outside b)) (decides b base e) in
    omega arith)
    (λ (n : b ≡ base → ⊥).
    let none : one_if (base == b) ≡ 0 = ap one_if (refutes base b (λ e. n (sym e))) in
    let same = one_more-other outside base b n in
    omega arith)
    (cases_eq b base)

-- the places outside once a counted cell has another word
pub cells-replaced : (view : View) (number s word : ℕ) (area : AreaView) → area.scanned ≡ true → s < area.counted
    → s < length area.words → IsAscending (map (λ (area : AreaView). area.number) view.areas)
    → area_in view number ≡ Some area → slice_index area.words s ≢ word
    → IsReplaced (slice_index area.words s) word (outside_references view)
    (outside_references (record view { areas = map (with_cell number s word) view.areas }))
cells-replaced view number s word area scanned below within ascending lives other =
    record {
      other = other;
      same = λ b.
          let sums = all-holding number s word b area scanned below within view.areas ascending lives in
          let now = one_more-is (outside_references (record view { areas = map (with_cell number s word) view.areas }))
          (slice_index area.words s) b in
          let was = one_more-is (outside_references view) word b in
          omega arith;
    }

-- The areas of a view, once a cell of one has another word.
pub view_with_area-cell : (number s word : ℕ) (area : AreaView) (areas : List AreaView) → area.number ≡ number
    → IsAscending (map (λ (area : AreaView). area.number) areas)
    → find (λ (a : AreaView). a.number == number) areas ≡ Some area
    → map (λ
    (a : AreaView). if a.number == number then record area { words = slice_set area.words s word } else a) areas
    ≡ map (with_cell number s word) areas
view_with_area-cell number s word area [] at ascending found = cc
view_with_area-cell number s word area (first ∷ areas) at ascending found =
    split (view_with_area-cell number s word area areas at ascending.1) (first.number == number) refl found
  where
    new : AreaView
    new = record area { words = slice_set area.words s word }

    none : (areas : List AreaView)
        → AllByRecursion (λ next. number < next) (map (λ (area : AreaView). area.number) areas)
        → map (λ (a : AreaView). if a.number == number then new else a) areas ≡ areas
    none [] above = refl
    none (next ∷ areas) above =
        let first = above.0 in
        let test : (next.number == number) ≡ false = grind (arith, nat_tests) in
        ap (λ b. (if b then new else next) ∷ map (λ (a : AreaView). if a.number == number then new else a) areas) test
        ∙ ap (λ (rest : List AreaView). next ∷ rest) (none areas above.1)

    split : (find (λ (a : AreaView). a.number == number) areas ≡ Some area
        → map (λ (a : AreaView). if a.number == number then new else a) areas ≡ map (with_cell number s word) areas)
        → (b : Bool) → (first.number == number) ≡ b
        → (if b then Some first else find (λ (a : AreaView). a.number == number) areas) ≡ Some area
        → map (λ (a : AreaView). if a.number == number then new else a) (first ∷ areas)
        ≡ map (with_cell number s word) (first ∷ areas)
    split later true e is =
        let same : first ≡ area = cc in
        let here : first.number ≡ number = eqb-true first.number number e in
        let above = subst (λ n. AllByRecursion (λ next. n < next) (map (λ (area : AreaView). area.number) areas)) here
        ascending.0 in
        ap (λ b. (if b then new else first) ∷ map (λ (a : AreaView). if a.number == number then new else a) areas) e
        ∙ ap (λ (rest : List AreaView). new ∷ rest) (none areas above ∙ sym (others-same number s word areas above))
        ∙ ap (λ (x : AreaView). record x { words = slice_set x.words s word } ∷ map (with_cell number s word) areas)
        (sym same)
        ∙ sym (ap (λ b. (if b then record first { words = slice_set first.words s word } else first)
        ∷ map (with_cell number s word) areas) e)
    split later false e is =
        ap (λ b. (if b then new else first) ∷ map (λ (a : AreaView). if a.number == number then new else a) areas) e
        ∙ ap (λ (rest : List AreaView). first ∷ rest) (later is)
        ∙ sym (ap (λ b. (if b then record first { words = slice_set first.words s word } else first)
        ∷ map (with_cell number s word) areas) e)

pub number-is : (number : ℕ) (area : AreaView) (areas : List AreaView)
    → find (λ (a : AreaView). a.number == number) areas ≡ Some area → area.number ≡ number
number-is number area [] found = cc
number-is number area (first ∷ areas) found =
    split (number-is number area areas) (first.number == number) refl found
  where
    split : (find (λ (a : AreaView). a.number == number) areas ≡ Some area → area.number ≡ number) → (b : Bool)
        → (first.number == number) ≡ b
        → (if b then Some first else find (λ (a : AreaView). a.number == number) areas) ≡ Some area
        → area.number ≡ number
    split later true e is =
        let same : first ≡ area = cc in sym (ap (λ (a : AreaView). a.number) same) ∙ eqb-true first.number number e
    split later false e is = later is

-- where the cell isn't counted, the counted cells hold what they held
pub cells-same : (number s word : ℕ) (area : AreaView)
    → counted_cells_of (record area { words = slice_set area.words s word }) ≡ counted_cells_of area
    → (areas : List AreaView) → IsAscending (map (λ (area : AreaView). area.number) areas)
    → find (λ (a : AreaView). a.number == number) areas ≡ Some area
    → flat_map counted_cells_of (map (with_cell number s word) areas) ≡ flat_map counted_cells_of areas
cells-same number s word area plain [] ascending found = cc
cells-same number s word area plain (first ∷ areas) ascending found =
    split (cells-same number s word area plain areas ascending.1) (first.number == number) refl found
  where
    split : (find (λ (a : AreaView). a.number == number) areas ≡ Some area
        → flat_map counted_cells_of (map (with_cell number s word) areas) ≡ flat_map counted_cells_of areas)
        → (b : Bool) → (first.number == number) ≡ b
        → (if b then Some first else find (λ (a : AreaView). a.number == number) areas) ≡ Some area
        → flat_map counted_cells_of (map (with_cell number s word) (first ∷ areas))
        ≡ flat_map counted_cells_of (first ∷ areas)
    split later true e is =
        let same : first ≡ area = cc in
        let here : first.number ≡ number = eqb-true first.number number e in
        let above = subst (λ n. AllByRecursion (λ next. n < next) (map (λ (area : AreaView). area.number) areas)) here
        ascending.0 in
        ap (λ b. counted_cells_of (if b then record first { words = slice_set first.words s word } else first)
        ++ flat_map counted_cells_of (map (with_cell number s word) areas)) e
        ∙ ap (λ (x : AreaView). counted_cells_of (record x { words = slice_set x.words s word })
        ++ flat_map counted_cells_of (map (with_cell number s word) areas)) same
        ∙ ap (λ (ws : List ℕ). ws ++ flat_map counted_cells_of (map (with_cell number s word) areas)) plain
        ∙ ap (λ (x : AreaView). counted_cells_of x ++ flat_map counted_cells_of (map (with_cell number s word) areas))
        (sym same)
        ∙ ap (λ (others : List AreaView). counted_cells_of first ++ flat_map counted_cells_of others)
        (others-same number s word areas above)
    split later false e is =
        ap (λ b. counted_cells_of (if b then record first { words = slice_set first.words s word } else first)
        ++ flat_map counted_cells_of (map (with_cell number s word) areas)) e
        ∙ ap (λ (ws : List ℕ). counted_cells_of first ++ ws) (later is)
