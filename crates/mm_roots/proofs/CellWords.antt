-- The words of the cells of an area are words of a heap that lie in no object, and no two areas share one.
use Rattle.std.proofs.Common.{◌≡◌, ℕ, ◌+◌, ◌*◌, ◌/◌, ◌^◌, ◌<◌, ◌≤◌, inl, inr, Some}
use Rattle.std.proofs.Common.{set, refl, sym, ap, ◌∙◌, subst, arith}
use Rattle.std.specs.Prelude.{slice_get, slice_index}
use Rattle.std.proofs.lemmas.Option.{slice_get_within}
use Rattle.mm_model.specs.Places.SizeClass.{area_bytes}
use Rattle.mm_model.proofs.Places.Choosing.{extent_of-enough}
use Rattle.mm_object.specs.Heap.{Heap, IsRaw, IsSound, with_raw}
use Rattle.mm_fixed.specs.Fixed.{block_parked}
use Rattle.mm_roots.specs.declared.area_shape.AreaShape.{AreaShape}
use Rattle.mm_roots.specs.Areas.{Areas, area_at, IsSoundAreas, IsBeside}
use Rattle.mm_roots.specs.Views.{area_words}
use Rattle.mm_roots.proofs.Blocks.{raw-block, run-some}
use Rattle.mm_roots.proofs.Views.{WritesCell}
use Rattle.mm_roots.proofs.Words.{word_at-get, word_at-set_other, words_from-same, words_from-set, get_or-words_from}

module _ (a : Areas) (sound : IsSoundAreas a) (number : ℕ) (area : AreaShape)
    (lives : area_at a number ≡ Some area) where
  -- the cells lie in the block
  pub cells-fit : 4 * area.cells ≤ area.extent
  cells-fit =
      let enough = extent_of-enough (area_bytes area.cells) in
      omega (arith, (sound.shapes number area lives).extent, enough)

  pub base-aligned : area.base ≡ 4 * (area.base / 4)
  base-aligned = omega (arith, (sound.blocks number area lives).aligned)

  -- and below the end of the greatest region
  pub block-end : area.base + area.extent ≤ 2 ^ 24
  block-end =
      omega (
        arith,
        (sound.fixed.inside area.base (block_parked area.extent) (sound.blocks number area lives)).to,
        sound.fixed.most,
      )

  -- and in the memory
  pub block-below : (heap : Heap) → IsBeside a heap → area.base / 4096 < heap.size
  block-below heap beside =
      let block = sound.blocks number area lives in
      let some = run-some a.fixed area.base (block_parked area.extent) sound.fixed block
      (omega (arith, cells-fit, (sound.shapes number area lives).some)) in
      omega (arith, some, beside.within (area.base / 4096) some)

  module _ (heap : Heap) (heap_sound : IsSound heap) (beside : IsBeside a heap) (s : ℕ) (within : s < area.cells) where
    pub cell-raw : (word : ℕ) × (slice_get heap.raw (area.base / 4 + s) ≡ Some (Some word))
    cell-raw =
        raw-block a heap sound.fixed heap_sound beside area.base (block_parked area.extent)
        (sound.blocks number area lives) (area.base / 4 + s) (omega (arith, base-aligned))
        (omega (arith, base-aligned, cells-fit, within))

    pub cell-IsRaw : (word : ℕ) × IsRaw heap (area.base + 4 * s) word
    cell-IsRaw =
        let raw = cell-raw in
        (raw.0, record { place = area.base / 4 + s; aligned = omega (arith, base-aligned); is = raw.1 })

    pub cell-word : (word : ℕ) → IsRaw heap (area.base + 4 * s) word →
        slice_index (area_words heap.raw area) s ≡ word
    cell-word word raw =
        let place : raw.place ≡ area.base / 4 + s = omega (arith, base-aligned, raw.aligned) in
        get_or-words_from heap.raw (area.base / 4) area.cells s (area.base / 4 + s) 0 within refl
        ∙ word_at-get heap.raw (area.base / 4 + s) word (ap (slice_get heap.raw) (sym place) ∙ raw.is)

    -- another word in the cell
    pub WritesCell-with_raw : (word : ℕ) →
        WritesCell heap.raw (with_raw heap (area.base + 4 * s) word).raw a.areas number s word
    WritesCell-with_raw word =
        let place : (area.base + 4 * s) / 4 ≡ area.base / 4 + s = omega (arith, base-aligned) in
        let raw = cell-raw in
        record {
          here = λ shape told.
              let both = sym lives ∙ told in
              let same : area ≡ shape = cc in
              subst (λ (sh : AreaShape). area_words (with_raw heap (area.base + 4 * s) word).raw sh
              ≡ set (area_words heap.raw sh) s word) same
              (words_from-set heap.raw (area.base / 4) area.cells s ((area.base + 4 * s) / 4) word within
              place
              (omega (arith, place, slice_get_within heap.raw (area.base / 4 + s) (Some raw.0) raw.1)));
          others = λ j shape apart told.
              let block = sound.blocks j shape told in
              let shape_fits = extent_of-enough (area_bytes shape.cells) in
              let shape_extent = (sound.shapes j shape told).extent in
              let disjoint = (sound.fixed.apart area.base shape.base (block_parked area.extent)
              (block_parked shape.extent) (sound.blocks number area lives) block
              (sound.bases number j area shape lives told (λ e. apart (sym e)))).disjoint in
              words_from-same heap.raw (with_raw heap (area.base + 4 * s) word).raw (shape.base / 4) shape.cells
              (λ here from to.
              word_at-set_other heap.raw ((area.base + 4 * s) / 4) here (Some word) (λ e.
              elim disjoint [
                | inl before ↦
                    absurd (omega (
                      arith,
                      e,
                      place,
                      from,
                      to,
                      base-aligned,
                      block.aligned,
                      cells-fit,
                      shape_fits,
                      shape_extent,
                      within,
                      before,
                    ))
                | inr later ↦
                    absurd (omega (
                      arith,
                      e,
                      place,
                      from,
                      to,
                      base-aligned,
                      block.aligned,
                      cells-fit,
                      shape_fits,
                      shape_extent,
                      within,
                      later,
                    ))
              ]));
        }
