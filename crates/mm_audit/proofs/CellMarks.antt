-- The cells of a page, set one after another.
use Rattle.std.proofs.Common.{◌≡◌, ◌≢◌, ℕ, ◌+◌, ◌*◌, ◌/◌, ◌<◌, ◌≤◌, Bool, List, length, Some, ap, ◌∙◌, ⊎_elim, arith}
use Rattle.std.specs.Prelude.{slice_get, slice_set}
use Rattle.std.specs.List.{Contains}
use Rattle.std.proofs.Math.ListN.{get_or}
use Rattle.std.proofs.lemmas.Bool.{cases_eq, cases_lt}
use Rattle.std.proofs.lemmas.List.{length-set}
use Rattle.std.proofs.lemmas.Option.{slice_get-get_or}
use Rattle.mm_model.specs.Places.SizeClass.{class_sizes}
use Rattle.mm_model.proofs.Lists.Replaced.{get-set_same, get-set_other}
use Rattle.mm_model.proofs.Places.SizeClasses.{class_bounds}
use Rattle.mm_audit.specs.Places.{IsCellAt}
use Rattle.mm_audit.proofs.LowestPlaces.{cell-ends, sixteens}

-- the first so many cells of a page are set
pub record AreFirstSet (before after : List Bool) (extent page cells : ℕ) (member : Bool) : Type 0 where
  pub size : length after ≡ length before
  pub here : (grain : ℕ) → (at : IsCellAt extent page grain) → at.cell < cells → slice_get after grain ≡ Some member
  pub others : (grain : ℕ) → (IsCellAt extent page grain → ⊥) → slice_get after grain ≡ slice_get before grain

module _ (before after : List Bool) (extent page cell : ℕ) (member : Bool) (known : Contains class_sizes extent)
    (below : cell < 4096 / extent) (set : AreFirstSet before after extent page cell member) where
  abbrev own : ℕ
  own = 256 * page + cell * (extent / 16)

  own-at : 16 * own ≡ 4096 * page + cell * extent
  own-at =
      let bounds = class_bounds extent known in
      let even = bounds.even in
      let whole : extent ≡ 16 * (extent / 16) = omega arith in
      omega (arith, sixteens cell (extent / 16) extent whole)

  pub own-inside : 256 * page + 256 ≤ length before → own < length after
  own-inside inside =
      let bounds = class_bounds extent known in
      let least = bounds.least in
      let size = set.size in
      omega (arith, own-at, cell-ends extent page known cell below)

  pub one-more : own < length after → AreFirstSet before (slice_set after own member) extent page (cell + 1) member
  one-more inside =
      record {
        size = length-set after own member ∙ set.size;
        here = λ grain at up.
            ⊎_elim
            (λ (e : grain ≡ own).
            ap (slice_get (slice_set after own member)) e
            ∙ get-set_same after own (get_or after own member) member (slice_get-get_or after own member inside))
            (λ (ne : grain ≢ own).
            get-set_other after own grain member ne ∙ set.here grain at (lower grain at up ne))
            (cases_eq grain own);
        others = λ grain none.
            get-set_other after own grain member
            (λ e. none (record { cell = cell; below = below; at = ap (λ n. 16 * n) e ∙ own-at }))
            ∙ set.others grain none;
      }
    where
      lower : (grain : ℕ) → (at : IsCellAt extent page grain) → at.cell < cell + 1 → grain ≢ own → at.cell < cell
      lower grain at up ne =
          ⊎_elim (λ (less : at.cell < cell). less)
          (λ (last : cell ≤ at.cell).
          let same : at.cell ≡ cell = omega arith in
          let here = at.at in
          let there : 16 * grain ≡ 4096 * page + cell * extent =
          here ∙ ap (λ n. 4096 * page + n * extent) same in
          absurd (ne (omega (arith, own-at))))
          (cases_lt at.cell cell)
