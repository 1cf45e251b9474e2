-- Cells are cleared one after the other.
use Rattle.std.proofs.Common.{◌≡◌, ◌≢◌, ℕ, ◌+◌, ◌*◌, ◌/◌, inl, inr, List, Option, Some, set}
use Rattle.std.proofs.Common.{ap, ◌∙◌, arith}
use Rattle.std.specs.Prelude.{slice_get}
use Rattle.std.proofs.lemmas.Bool.{cases_eq}
use Rattle.std.proofs.lemmas.List.{length-set}
use Rattle.mm_model.proofs.Lists.Replaced.{get-set_same, get-set_other}
use Rattle.mm_object.specs.Heap.{Heap, IsRaw, with_raw}
use Rattle.mm_roots.specs.Areas.{ClearsCells}

module _ (before so_far : Heap) (base s word : ℕ) (aligned : base ≡ 4 * (base / 4))
    (clears : ClearsCells before so_far base s)
    (raw : slice_get before.raw (base / 4 + s) ≡ Some (Some word)) where
  -- the next cell is as it was
  next : slice_get so_far.raw (base / 4 + s) ≡ Some (Some word)
  next = clears.above (base / 4 + s) (omega arith) ∙ raw

  pub next-IsRaw : IsRaw so_far (base + 4 * s) word
  next-IsRaw = record { place = base / 4 + s; aligned = omega (arith, aligned); is = next }

  place : (base + 4 * s) / 4 ≡ base / 4 + s
  place = omega (arith, aligned)

  abbrev cleared : List (Option ℕ)
  cleared = (with_raw so_far (base + 4 * s) 0).raw

  cleared-other : (at : ℕ) → at ≢ base / 4 + s → slice_get cleared at ≡ slice_get so_far.raw at
  cleared-other at apart =
      get-set_other so_far.raw ((base + 4 * s) / 4) at (Some 0) (λ e. apart (e ∙ place))

  cleared-here : slice_get cleared (base / 4 + s) ≡ Some (Some 0)
  cleared-here =
      ap (λ at. slice_get (set so_far.raw at (Some 0)) (base / 4 + s)) place
      ∙ get-set_same so_far.raw (base / 4 + s) (Some word) (Some 0) next

  pub ClearsCells-more : ClearsCells before (with_raw so_far (base + 4 * s) 0) base (s + 1)
  ClearsCells-more = record {
    same = ap (λ (h : Heap). record h { raw = cleared }) clears.same;
    size = length-set so_far.raw ((base + 4 * s) / 4) (Some 0) ∙ clears.size;
    cleared = λ at below. elim (cases_eq at s) [
      | inl same ↦ ap (λ n. slice_get cleared (base / 4 + n)) same ∙ cleared-here
      | inr apart ↦
          cleared-other (base / 4 + at) (λ e. apart (omega arith)) ∙ clears.cleared at (omega (arith, below, apart))
    ];
    below = λ at less. cleared-other at (λ e. absurd (omega arith)) ∙ clears.below at less;
    above = λ at past. cleared-other at (λ e. absurd (omega arith)) ∙ clears.above at (omega arith);
  }
