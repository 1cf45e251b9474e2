-- No counted place of a good view holds a base at which nothing begins.
use Rattle.std.proofs.Common.{◌≡◌, ◌≢◌, ◌⊎◌, inl, inr, ℕ, sym, ◌∙◌, subst}
use Rattle.std.specs.Prelude.{◌==◌}
use Rattle.std.specs.List.{count_by}
use Rattle.mm_model.specs.Views.ByBase.{Begins}
use Rattle.mm_model.specs.Views.ObjectView.{ObjectView, references_in}
use Rattle.mm_model.specs.Views.View.{View}
use Rattle.mm_model.specs.Views.ViewWords.{outside_references, counted_cells_of}
use Rattle.mm_model.specs.Views.GoodView.{IsGoodView}
use Rattle.mm_model.proofs.Lists.KeyedSums.{count-flat_map}
use Rattle.mm_model.proofs.View.GoodWords.{BeginsCounted, counted_slot, counted_cell}
use Rattle.mm_count.proofs.References.{count-other, sum-zero, references-unnamed}

module _ (view : View) (good : IsGoodView view) (base : ℕ) (some : base ≢ 0)
    (none : (object : ObjectView) → Begins view.objects base object → ⊥) where
  apart : (word : ℕ) → (word ≡ 0) ⊎ BeginsCounted view.objects word → word ≢ base
  apart word (inl none) e = some (sym e ∙ none)
  apart word (inr there) e = none there.object (subst (λ b. Begins view.objects b there.object) e there.begins)

  -- no counted slot holds a base at which nothing begins
  pub references-none : references_in view.objects base ≡ 0
  references-none =
      references-unnamed view.objects base
      (λ holder object there s word is. apart word (counted_slot view good holder object there s word is))

  -- and no counted cell does
  pub outside-none : outside_references view base ≡ 0
  outside-none =
      count-flat_map (λ word. word == base) counted_cells_of view.areas
      ∙ sum-zero (λ area. count_by (λ word. word == base) (counted_cells_of area)) view.areas
      (λ n area is.
      count-other (counted_cells_of area) base
      (λ s word cell. apart word (counted_cell view good n area is s word cell)))
