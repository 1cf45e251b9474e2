-- How many of the entries are areas.
use Rattle.std.proofs.Common.{◌≡◌, ◌≢◌, ℕ, zero, suc, ◌+◌, ◌<◌, ◌≤◌, List, [], ◌∷◌, length, Option, Some, None, cond}
use Rattle.std.proofs.Common.{get_or, set, replicate, refl, ap, ◌∙◌, zero-add, arith}
use Rattle.std.specs.Prelude.{is_some}
use Rattle.std.specs.List.{count_by}
use Rattle.std.proofs.lemmas.List.Sums.{sum_by-cons}
use Rattle.mm_roots.specs.declared.area_shape.AreaShape.{AreaShape}

pub count-none : (areas : List (Option AreaShape)) → count_by is_some (None ∷ areas) ≡ count_by is_some areas
count-none areas = sum_by-cons (λ (entry : Option AreaShape). cond (is_some entry) 1 0) None areas ∙ zero-add _

pub count-some : (area : AreaShape) (areas : List (Option AreaShape)) →
    count_by is_some (Some area ∷ areas) ≡ 1 + count_by is_some areas
count-some area areas = sum_by-cons (λ (entry : Option AreaShape). cond (is_some entry) 1 0) (Some area) areas

pub none-fresh : (n number : ℕ) (entry : Option AreaShape) → entry ≡ None →
    get_or (replicate n entry) number None ≡ None
none-fresh zero number entry is = refl
none-fresh (suc n) zero entry is = is
none-fresh (suc n) (suc number) entry is = none-fresh n number entry is

pub count-fresh : (n : ℕ) (entry : Option AreaShape) → entry ≡ None → count_by is_some (replicate n entry) ≡ 0
count-fresh zero entry is = refl
count-fresh (suc n) entry is =
    ap (λ (e : Option AreaShape). count_by is_some (e ∷ replicate n entry)) is ∙ count-none (replicate n entry)
    ∙ count-fresh n entry is

-- how many areas live, as one is added or removed
pub count-entered : (areas : List (Option AreaShape)) (number : ℕ) (area : AreaShape) → number < length areas →
    get_or areas number None ≡ None → count_by is_some (set areas number (Some area)) ≡ count_by is_some areas + 1
count-entered [] number area within free = absurd (omega arith)
count-entered (None ∷ areas) zero area within free =
    let before : count_by is_some (None ∷ areas) ≡ count_by is_some areas = count-none areas in
    let after : count_by is_some (Some area ∷ areas) ≡ 1 + count_by is_some areas = count-some area areas in
    omega (arith, before, after)
count-entered (Some other ∷ areas) zero area within free = absurd (cc)
count-entered (None ∷ areas) (suc number) area within free =
    let rest = count-entered areas number area (omega arith) free in
    let before : count_by is_some (None ∷ areas) ≡ count_by is_some areas = count-none areas in
    let after : count_by is_some (None ∷ set areas number (Some area))
    ≡ count_by is_some (set areas number (Some area)) = count-none (set areas number (Some area)) in
    omega (arith, rest, before, after)
count-entered (Some other ∷ areas) (suc number) area within free =
    let rest = count-entered areas number area (omega arith) free in
    let before : count_by is_some (Some other ∷ areas) ≡ 1 + count_by is_some areas = count-some other areas in
    let after : count_by is_some (Some other ∷ set areas number (Some area))
    ≡ 1 + count_by is_some (set areas number (Some area)) = count-some other (set areas number (Some area)) in
    omega (arith, rest, before, after)

pub count-left : (areas : List (Option AreaShape)) (number : ℕ) (area : AreaShape) →
    get_or areas number None ≡ Some area → count_by is_some (set areas number None) + 1 ≡ count_by is_some areas
count-left [] number area lives = absurd (cc)
count-left (None ∷ areas) zero area lives = absurd (cc)
count-left (Some other ∷ areas) zero area lives =
    let before : count_by is_some (Some other ∷ areas) ≡ 1 + count_by is_some areas = count-some other areas in
    let after : count_by is_some (None ∷ areas) ≡ count_by is_some areas = count-none areas in
    omega (arith, before, after)
count-left (None ∷ areas) (suc number) area lives =
    let rest = count-left areas number area lives in
    let before : count_by is_some (None ∷ areas) ≡ count_by is_some areas = count-none areas in
    let after : count_by is_some (None ∷ set areas number None) ≡ count_by is_some (set areas number None) =
    count-none (set areas number None) in
    omega (arith, rest, before, after)
count-left (Some other ∷ areas) (suc number) area lives =
    let rest = count-left areas number area lives in
    let before : count_by is_some (Some other ∷ areas) ≡ 1 + count_by is_some areas = count-some other areas in
    let after : count_by is_some (Some other ∷ set areas number None)
    ≡ 1 + count_by is_some (set areas number None) = count-some other (set areas number None) in
    omega (arith, rest, before, after)

-- all entries are areas where each number has one
pub count-full : (areas : List (Option AreaShape)) →
    ((number : ℕ) → number < length areas → get_or areas number None ≢ None) →
    count_by is_some areas ≡ length areas
count-full [] all = refl
count-full (None ∷ areas) all = absurd (all 0 (omega arith) refl)
count-full (Some area ∷ areas) all =
    let rest = count-full areas (λ number within. all (suc number) (omega arith)) in
    let one : count_by is_some (Some area ∷ areas) ≡ 1 + count_by is_some areas = count-some area areas in
    omega (arith, rest, one)

count-most : (areas : List (Option AreaShape)) → count_by is_some areas ≤ length areas
count-most [] = omega arith
count-most (None ∷ areas) =
    let one : count_by is_some (None ∷ areas) ≡ count_by is_some areas = count-none areas in
    omega (arith, count-most areas, one)
count-most (Some area ∷ areas) =
    let one : count_by is_some (Some area ∷ areas) ≡ 1 + count_by is_some areas = count-some area areas in
    omega (arith, count-most areas, one)

pub count-free : (areas : List (Option AreaShape)) (number : ℕ) → number < length areas →
    get_or areas number None ≡ None → count_by is_some areas < length areas
count-free [] number within free = absurd (omega arith)
count-free (None ∷ areas) zero within free =
    let one : count_by is_some (None ∷ areas) ≡ count_by is_some areas = count-none areas in
    omega (arith, count-most areas, one)
count-free (Some area ∷ areas) zero within free = absurd (cc)
count-free (None ∷ areas) (suc number) within free =
    let rest = count-free areas number (omega arith) free in
    let one : count_by is_some (None ∷ areas) ≡ count_by is_some areas = count-none areas in
    omega (arith, rest, one)
count-free (Some area ∷ areas) (suc number) within free =
    let rest = count-free areas number (omega arith) free in
    let one : count_by is_some (Some area ∷ areas) ≡ 1 + count_by is_some areas = count-some area areas in
    omega (arith, rest, one)
