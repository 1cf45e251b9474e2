-- The lowest number that no view has.
use Rattle.std.proofs.Common.{◌≡◌, ◌≢◌, ℕ, zero, suc, ◌+◌, ◌-◌, ◌<◌}
use Rattle.std.proofs.Common.{◌≤◌, Bool, true, false, not, List, Option, Some, None}
use Rattle.std.proofs.Common.{refl, ap, ◌∙◌, arith}
use Rattle.std.specs.Prelude.{is_some}
use Rattle.std.specs.Option.{option_map}
use Rattle.mm_model.specs.Areas.{most_areas}
use Rattle.mm_model.specs.Places.Place.{first_from}
use Rattle.mm_model.specs.Views.View.{AreaView}
use Rattle.mm_model.proofs.Lists.Tests.{first_from-next, first_from-here}
use Rattle.mm_roots.specs.declared.area_shape.AreaShape.{AreaShape}
use Rattle.mm_roots.specs.Areas.{Areas, area_at, IsLowestNumber}
use Rattle.mm_roots.specs.Views.{view_of_area, view_numbered, views_of_areas, free_number_in}
use Rattle.mm_roots.proofs.Views.{view_numbered-views_from}

first-lowest : (test : ℕ → Bool) (from count distance n : ℕ) → n ≡ from + distance → distance < count →
    test n ≡ true → ((k : ℕ) → from ≤ k → k < n → test k ≡ false) → first_from test from count ≡ Some n
first-lowest test from count zero n is within here lower =
    let same : from ≡ n = omega arith in
    first_from-here test from count (omega arith) (ap test same ∙ here) ∙ ap Some same
first-lowest test from count (suc distance) n is within here lower =
    first_from-next test from count (omega arith) (lower from (omega arith) (omega arith))
    ∙ first-lowest test (from + 1) (count - 1) distance n (omega arith) (omega arith) here
    (λ k reached below. lower k (omega arith) below)

some-mapped : (raw : List (Option ℕ)) (number : ℕ) (entry : Option AreaShape) →
    not (is_some (option_map (view_of_area raw number) entry)) ≡ not (is_some entry)
some-mapped raw number None = refl
some-mapped raw number (Some area) = refl

taken-entry : (entry : Option AreaShape) → entry ≢ None → not (is_some entry) ≡ false
taken-entry None some = absurd (some refl)
taken-entry (Some area) some = refl

pub free_number_in-lowest : (a : Areas) (raw : List (Option ℕ)) (number : ℕ) → IsLowestNumber a number →
    free_number_in (views_of_areas a raw) ≡ Some number
unfolding free_number_in
free_number_in-lowest a raw number lowest =
    let told : (n : ℕ) → not (is_some (view_numbered (views_of_areas a raw) n)) ≡ not (is_some (area_at a n)) =
    λ n. ap (λ (found : Option AreaView). not (is_some found))
    (view_numbered-views_from raw 0 n n a.areas (omega arith)) ∙ some-mapped raw n (area_at a n) in
    first-lowest (λ n. not (is_some (view_numbered (views_of_areas a raw) n))) 0 most_areas number number
    (omega arith) lowest.below
    (told number ∙ ap (λ (entry : Option AreaShape). not (is_some entry)) lowest.free)
    (λ k reached below. told k ∙ taken-entry (area_at a k) (lowest.lowest k below))
