-- The words of areas once the cells of a new one are 0.
use Rattle.std.proofs.Common.{◌≡◌, ◌≢◌, ℕ, ◌+◌, ◌-◌, ◌*◌, ◌/◌, inl, inr, List, Option, Some}
use Rattle.std.proofs.Common.{replicate, sym, ap, ◌∙◌, subst, arith}
use Rattle.std.specs.Prelude.{slice_get}
use Rattle.mm_model.specs.Views.ByBase.{Begins}
use Rattle.mm_model.specs.Places.SizeClass.{extent_of, area_bytes}
use Rattle.mm_model.proofs.Places.Choosing.{extent_of-enough}
use Rattle.mm_object.specs.Heap.{Heap}
use Rattle.mm_fixed.specs.Fixed.{Fixed, Block, block_parked}
use Rattle.mm_roots.specs.declared.area_shape.AreaShape.{AreaShape}
use Rattle.mm_roots.specs.Areas.{Areas, area_at, IsSoundAreas, ClearsCells}
use Rattle.mm_roots.specs.Views.{words_from, area_words, views_from}
use Rattle.mm_roots.proofs.Blocks.{begins-other}
use Rattle.mm_roots.proofs.CellWords.{cells-fit, base-aligned}
use Rattle.mm_roots.proofs.Sound.{IsNewBlock}
use Rattle.mm_roots.proofs.Views.{views_from-same}
use Rattle.mm_roots.proofs.Words.{word_at-get, word_at-alike, words_from-same, words_from-zeros}

module _ (a : Areas) (sound : IsSoundAreas a) (fixed : Fixed) (base cells : ℕ)
    (new : IsNewBlock a.fixed fixed base (block_parked (extent_of (area_bytes cells)))) (before after : Heap)
    (clears : ClearsCells before after base cells) where
  aligned : base ≡ 16 * (base / 16)
  aligned = omega (arith, new.there.aligned)

  -- the block of an older area is apart from the new one
  old-block : (number : ℕ) (area : AreaShape) → area_at a number ≡ Some area →
      Begins fixed.blocks area.base (block_parked area.extent) × (base ≢ area.base)
  old-block number area lives =
      let apart : area.base ≢ base = λ same.
      new.vacant (block_parked area.extent)
      (subst (λ (b : ℕ). Begins a.fixed.blocks b (block_parked area.extent)) same (sound.blocks number area lives)) in (
        subst (λ (blocks : List (Option Block)). Begins blocks area.base (block_parked area.extent)) (sym new.entries)
            (begins-other a.fixed.blocks base area.base (Some (block_parked (extent_of (area_bytes cells))))
            (block_parked area.extent) aligned apart (sound.blocks number area lives)),
        λ e. apart (sym e),
      )

  pub old-words : (number : ℕ) (area : AreaShape) → area_at a number ≡ Some area →
      area_words after.raw area ≡ area_words before.raw area
  old-words number area lives =
      let block = old-block number area lives in
      let fits = cells-fit a sound number area lives in
      let at = base-aligned a sound number area lives in
      let enough = extent_of-enough (area_bytes cells) in
      let disjoint = (new.sound.apart base area.base (block_parked (extent_of (area_bytes cells)))
      (block_parked area.extent) new.there block.0 block.1).disjoint in
      words_from-same before.raw after.raw (area.base / 4) area.cells (λ here from to.
      word_at-alike before.raw after.raw here (elim disjoint [
        | inl first ↦ clears.above here (omega (arith, from, to, at, fits, enough, first, aligned))
        | inr later ↦ clears.below here (omega (arith, from, to, at, fits, later, aligned))
      ]))

  pub old-views : views_from after.raw 0 a.areas ≡ views_from before.raw 0 a.areas
  old-views = views_from-same before.raw after.raw 0 a.areas old-words

  pub new-words : words_from after.raw (base / 4) cells ≡ replicate cells 0
  new-words = words_from-zeros after.raw (base / 4) cells (λ here from to.
      let s : base / 4 + (here - base / 4) ≡ here = omega arith in
      word_at-get after.raw here 0
      (sym (ap (slice_get after.raw) s) ∙ clears.cleared (here - base / 4) (omega (arith, from, to))))
