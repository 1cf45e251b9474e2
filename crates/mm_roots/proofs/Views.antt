-- The views of areas, as an entry or the words of cells change.
use Rattle.std.proofs.Common.{◌≡◌, ◌≢◌, ℕ, zero, suc, ◌+◌, ◌<◌, ◌≤◌, true, false, not, cond, List, [], ◌∷◌, ◌++◌}
use Rattle.std.proofs.Common.{Option, Some, None, length, get_or, set, map, drop, refl, sym, ap, ◌∙◌, inl, inr, arith}
use Rattle.std.specs.Prelude.{◌==◌, nat_lt, is_some, if◌then◌else◌}
use Rattle.std.specs.List.{filter, flat_map, count_by}
use Rattle.std.specs.Option.{option_map}
use Rattle.std.proofs.lemmas.Bool.{cases_lt}
use Rattle.std.proofs.lemmas.Bool.Decides.{nat_tests}
use Rattle.std.proofs.lemmas.List.{drop_more, drop_all}
use Rattle.mm_model.specs.Views.View.{AreaView}
use Rattle.mm_model.specs.Views.ViewWords.{scanned_cells_of}
use Rattle.mm_model.specs.Views.ViewEffect.{view_area_inserted}
use Rattle.mm_roots.specs.declared.area_shape.AreaShape.{AreaShape}
use Rattle.mm_roots.proofs.Counts.{count-none, count-some}
use Rattle.mm_roots.specs.Views.{area_words, view_of_area, views_from, view_numbered, with_cell}

-- the view of an area with these words
abbrev view_with : ℕ → AreaShape → List ℕ → AreaView
view_with number area words =
    record {
      number = number;
      base = area.base;
      extent = area.extent;
      scanned = area.scanned;
      counted = area.counted;
      words = words;
    }

pub views_from-same : (raw other : List (Option ℕ)) (number : ℕ) (areas : List (Option AreaShape)) →
    ((k : ℕ) (area : AreaShape) → get_or areas k None ≡ Some area → area_words other area ≡ area_words raw area) →
    views_from other number areas ≡ views_from raw number areas
views_from-same raw other number [] same = refl
views_from-same raw other number (None ∷ areas) same =
    views_from-same raw other (number + 1) areas (λ k. same (suc k))
views_from-same raw other number (Some area ∷ areas) same =
    let first = ap (view_with number area) (same 0 area refl) in
    let rest = views_from-same raw other (number + 1) areas (λ k. same (suc k)) in
    cc

-- a view with a lower number comes first
inserted-first : (raw : List (Option ℕ)) (number : ℕ) (areas : List (Option AreaShape)) (new : AreaView) →
    new.number < number → view_area_inserted new (views_from raw number areas) ≡ new ∷ views_from raw number areas
inserted-first raw number [] new below = refl
inserted-first raw number (None ∷ areas) new below = inserted-first raw (number + 1) areas new (omega arith)
inserted-first raw number (Some area ∷ areas) new below =
    let test : nat_lt new.number number ≡ true = grind (arith, nat_tests) in
    ap (λ b. if b then new ∷ views_from raw number (Some area ∷ areas)
    else view_of_area raw number area ∷ view_area_inserted new (views_from raw (number + 1) areas)) test

pub views_from-entered : (raw : List (Option ℕ)) (number k here : ℕ) (areas : List (Option AreaShape))
    (area : AreaShape) → k < length areas → get_or areas k None ≡ None → here ≡ number + k →
    views_from raw number (set areas k (Some area))
    ≡ view_area_inserted (view_of_area raw here area) (views_from raw number areas)
views_from-entered raw number k here [] area within free is = absurd (omega arith)
views_from-entered raw number zero here (None ∷ areas) area within free is =
    let same : number ≡ here = omega arith in
    ap (λ n. view_of_area raw n area ∷ views_from raw (number + 1) areas) same
    ∙ sym (inserted-first raw (number + 1) areas (view_of_area raw here area) (omega arith))
views_from-entered raw number zero here (Some other ∷ areas) area within free is = absurd (cc)
views_from-entered raw number (suc k) here (None ∷ areas) area within free is =
    views_from-entered raw (number + 1) k here areas area (omega arith) free (omega arith)
views_from-entered raw number (suc k) here (Some other ∷ areas) area within free is =
    let rest = views_from-entered raw (number + 1) k here areas area (omega arith) free (omega arith) in
    let test : nat_lt here number ≡ false = grind (arith, nat_tests) in
    let new = view_of_area raw here area in
    let first = view_of_area raw number other in
    ap (λ views. first ∷ views) rest
    ∙ sym (ap (λ b. if b then new ∷ first ∷ views_from raw (number + 1) areas
    else first ∷ view_area_inserted new (views_from raw (number + 1) areas)) test)

-- all that have a number below are kept where one below is left out
filter-above : (raw : List (Option ℕ)) (number here : ℕ) (areas : List (Option AreaShape)) → here < number →
    filter (λ area. not (area.number == here)) (views_from raw number areas) ≡ views_from raw number areas
filter-above raw number here [] below = refl
filter-above raw number here (None ∷ areas) below = filter-above raw (number + 1) here areas (omega arith)
filter-above raw number here (Some area ∷ areas) below =
    let rest = filter-above raw (number + 1) here areas (omega arith) in
    let test : not (number == here) ≡ true = grind (arith, nat_tests) in
    let views = filter (λ area. not (area.number == here)) (views_from raw (number + 1) areas) in
    ap (λ b. cond b (view_of_area raw number area ∷ views) views) test
    ∙ ap (λ vs. view_of_area raw number area ∷ vs) rest

pub views_from-left : (raw : List (Option ℕ)) (number k here : ℕ) (areas : List (Option AreaShape)) →
    here ≡ number + k →
    views_from raw number (set areas k None)
    ≡ filter (λ area. not (area.number == here)) (views_from raw number areas)
views_from-left raw number k here [] is = refl
views_from-left raw number zero here (None ∷ areas) is =
    sym (filter-above raw (number + 1) here areas (omega arith))
views_from-left raw number zero here (Some area ∷ areas) is =
    let rest = filter-above raw (number + 1) here areas (omega arith) in
    let same : number ≡ here = omega arith in
    let test : not (number == here) ≡ false = grind (arith, nat_tests) in
    let views = filter (λ area. not (area.number == here)) (views_from raw (number + 1) areas) in
    sym (ap (λ b. cond b (view_of_area raw number area ∷ views) views) test ∙ rest)
views_from-left raw number (suc k) here (None ∷ areas) is =
    views_from-left raw (number + 1) k here areas (omega arith)
views_from-left raw number (suc k) here (Some area ∷ areas) is =
    let rest = views_from-left raw (number + 1) k here areas (omega arith) in
    let test : not (number == here) ≡ true = grind (arith, nat_tests) in
    let views = filter (λ area. not (area.number == here)) (views_from raw (number + 1) areas) in
    ap (λ vs. view_of_area raw number area ∷ vs) rest
    ∙ sym (ap (λ b. cond b (view_of_area raw number area ∷ views) views) test)

-- A cell has another word: the area that has it has other words, and all others are as they were.
pub record WritesCell (raw other : List (Option ℕ)) (areas : List (Option AreaShape)) (k s word : ℕ) : Type 0 where
  pub here : (area : AreaShape) → get_or areas k None ≡ Some area
      → area_words other area ≡ set (area_words raw area) s word
  pub others : (j : ℕ) (area : AreaShape) → j ≢ k → get_or areas j None ≡ Some area
      → area_words other area ≡ area_words raw area

map-above : (raw : List (Option ℕ)) (number here s word : ℕ) (areas : List (Option AreaShape)) → here < number →
    map (with_cell here s word) (views_from raw number areas) ≡ views_from raw number areas
map-above raw number here s word [] below = refl
map-above raw number here s word (None ∷ areas) below = map-above raw (number + 1) here s word areas (omega arith)
map-above raw number here s word (Some area ∷ areas) below =
    let rest = map-above raw (number + 1) here s word areas (omega arith) in
    let test : (number == here) ≡ false = grind (arith, nat_tests) in
    let first : with_cell here s word (view_of_area raw number area) ≡ view_of_area raw number area =
    ap (λ b. if b then view_with number area (set (area_words raw area) s word) else view_of_area raw number area)
    test in
    cc

pub views_from-written : (raw other : List (Option ℕ)) (number k here s word : ℕ) (areas : List (Option AreaShape)) →
    WritesCell raw other areas k s word → here ≡ number + k →
    views_from other number areas ≡ map (with_cell here s word) (views_from raw number areas)
views_from-written raw other number k here s word [] writes is = refl
views_from-written raw other number zero here s word (None ∷ areas) writes is =
    views_from-same raw other (number + 1) areas (λ j area there.
    writes.others (suc j) area (λ e. absurd (omega arith)) there)
    ∙ sym (map-above raw (number + 1) here s word areas (omega arith))
views_from-written raw other number zero here s word (Some area ∷ areas) writes is =
    let rest = views_from-same raw other (number + 1) areas (λ j area there.
    writes.others (suc j) area (λ e. absurd (omega arith)) there)
    ∙ sym (map-above raw (number + 1) here s word areas (omega arith)) in
    let test : (number == here) ≡ true = grind (arith, nat_tests) in
    let first : view_of_area other number area ≡ with_cell here s word (view_of_area raw number area) =
    ap (view_with number area) (writes.here area refl)
    ∙ sym (ap (λ b. if b then view_with number area (set (area_words raw area) s word)
    else view_of_area raw number area) test) in
    cc
views_from-written raw other number (suc k) here s word (None ∷ areas) writes is =
    views_from-written raw other (number + 1) k here s word areas
    (record {
      here = writes.here;
      others = λ j area apart. writes.others (suc j) area (λ e. apart (omega arith));
    })
    (omega arith)
views_from-written raw other number (suc k) here s word (Some area ∷ areas) writes is =
    let rest = views_from-written raw other (number + 1) k here s word areas
    (record {
      here = writes.here;
      others = λ j area apart. writes.others (suc j) area (λ e. apart (omega arith));
    })
    (omega arith) in
    let test : (number == here) ≡ false = grind (arith, nat_tests) in
    let first : view_of_area other number area ≡ with_cell here s word (view_of_area raw number area) =
    ap (view_with number area) (writes.others 0 area (λ e. absurd (omega arith)) refl)
    ∙ sym (ap (λ b. if b then view_with number area (set (area_words raw area) s word)
    else view_of_area raw number area) test) in
    cc

pub length-views_from : (raw : List (Option ℕ)) (number : ℕ) (areas : List (Option AreaShape)) →
    length (views_from raw number areas) ≡ count_by is_some areas
length-views_from raw number [] = refl
length-views_from raw number (None ∷ areas) =
    let rest = length-views_from raw (number + 1) areas in
    let one = count-none areas in
    omega (arith, one, rest)
length-views_from raw number (Some area ∷ areas) =
    let rest = length-views_from raw (number + 1) areas in
    let one = count-some area areas in
    omega (arith, one, rest)

find-above : (raw : List (Option ℕ)) (number here : ℕ) (areas : List (Option AreaShape)) → here < number →
    view_numbered (views_from raw number areas) here ≡ None
find-above raw number here [] below = refl
find-above raw number here (None ∷ areas) below = find-above raw (number + 1) here areas (omega arith)
find-above raw number here (Some area ∷ areas) below =
    let rest = find-above raw (number + 1) here areas (omega arith) in
    let test : (number == here) ≡ false = grind (arith, nat_tests) in
    ap (λ b. cond b (Some (view_of_area raw number area))
    (view_numbered (views_from raw (number + 1) areas) here)) test ∙ rest

pub view_numbered-views_from : (raw : List (Option ℕ)) (number k here : ℕ) (areas : List (Option AreaShape)) →
    here ≡ number + k →
    view_numbered (views_from raw number areas) here ≡ option_map (view_of_area raw here) (get_or areas k None)
view_numbered-views_from raw number k here [] is = refl
view_numbered-views_from raw number zero here (None ∷ areas) is =
    find-above raw (number + 1) here areas (omega arith)
view_numbered-views_from raw number zero here (Some area ∷ areas) is =
    let same : number ≡ here = omega arith in
    let test : (number == here) ≡ true = grind (arith, nat_tests) in
    ap (λ b. cond b (Some (view_of_area raw number area))
    (view_numbered (views_from raw (number + 1) areas) here)) test
    ∙ ap (λ n. Some (view_of_area raw n area)) same
view_numbered-views_from raw number (suc k) here (None ∷ areas) is =
    view_numbered-views_from raw (number + 1) k here areas (omega arith)
view_numbered-views_from raw number (suc k) here (Some area ∷ areas) is =
    let rest = view_numbered-views_from raw (number + 1) k here areas (omega arith) in
    let test : (number == here) ≡ false = grind (arith, nat_tests) in
    ap (λ b. cond b (Some (view_of_area raw number area))
    (view_numbered (views_from raw (number + 1) areas) here)) test ∙ rest

-- the words of the scanned areas from a number on
abbrev scanned_from : List (Option ℕ) → List (Option AreaShape) → ℕ → List ℕ
scanned_from raw areas from = flat_map scanned_cells_of (views_from raw from (drop from areas))

-- the words of an entry, if it is a scanned area
abbrev pub scanned_entry : List (Option ℕ) → Option AreaShape → List ℕ
scanned_entry raw None = []
scanned_entry raw (Some area) = if area.scanned then area_words raw area else []

pub scanned_from-next : (raw : List (Option ℕ)) (areas : List (Option AreaShape)) (from : ℕ) → from < length areas →
    scanned_from raw areas from ≡ scanned_entry raw (get_or areas from None) ++ scanned_from raw areas (from + 1)
scanned_from-next raw areas from within =
    ap (λ (rest : List (Option AreaShape)). flat_map scanned_cells_of (views_from raw from rest))
    (drop_more areas from None within)
    ∙ split (get_or areas from None)
  where
    split : (entry : Option AreaShape) →
        flat_map scanned_cells_of (views_from raw from (entry ∷ drop (from + 1) areas))
        ≡ scanned_entry raw entry ++ scanned_from raw areas (from + 1)
    split None = refl
    split (Some area) = refl

pub scanned_from-end : (raw : List (Option ℕ)) (areas : List (Option AreaShape)) (from : ℕ) → length areas ≤ from →
    scanned_from raw areas from ≡ []
scanned_from-end raw areas from past =
    ap (λ (rest : List (Option AreaShape)). flat_map scanned_cells_of (views_from raw from rest))
    (drop_all from areas past)

-- numbers without a scanned area are passed over
pub scanned_from-skip : (raw : List (Option ℕ)) (areas : List (Option AreaShape)) (from count to : ℕ) →
    to ≡ from + count →
    ((number : ℕ) → from ≤ number → number < to → scanned_entry raw (get_or areas number None) ≡ []) →
    scanned_from raw areas from ≡ scanned_from raw areas to
scanned_from-skip raw areas from zero to is none =
    let same : from ≡ to = omega arith in ap (scanned_from raw areas) same
scanned_from-skip raw areas from (suc count) to is none =
    let rest = scanned_from-skip raw areas (from + 1) count to (omega arith)
    (λ number reached below. none number (omega arith) below) in
    elim (cases_lt from (length areas)) [
      | inl within ↦
          scanned_from-next raw areas from within
          ∙ ap (λ words. words ++ scanned_from raw areas (from + 1)) (none from (omega arith) (omega arith))
          ∙ rest
      | inr past ↦
          scanned_from-end raw areas from past ∙ sym (scanned_from-end raw areas (from + 1) (omega arith)) ∙ rest
    ]
