-- The words of areas, which graying leaves as they are.
use Rattle.std.proofs.Common.{◌≡◌, ℕ, zero, suc, ◌+◌, ◌*◌, ◌/◌, List, [], ◌++◌, length, Option, refl, sym, ap, subst}
use Rattle.std.proofs.Common.{◌∙◌, arith, append_assoc, length-append}
use Rattle.mm_object.specs.Heap.{Heap}
use Rattle.mm_roots.specs.Areas.{Areas, IsBeside, ShareNoPage}
use Rattle.mm_roots.specs.Views.{words_from, cell_words, scanned_words_from}
use Rattle.mm_mark.specs.Colours.{IsGrayed, IsSameButColours, AreShaded}
use Rattle.mm_mark.proofs.Grayed.{nothing-grayed, grayed-then}

-- areas beside a heap are beside it whatever its colours
pub beside-same : (areas : Areas) (before after : Heap) → IsSameButColours before after → IsBeside areas before
    → IsBeside areas after
beside-same areas before after same beside =
    let runs : before.runs ≡ after.runs = sym (ap (λ (h : Heap). h.runs) same) in
    let size : before.size ≡ after.size = sym (ap (λ (h : Heap). h.size) same) in
    record {
      apart = subst (λ (rs : List ℕ). ShareNoPage areas.fixed.runs rs) runs beside.apart;
      within = λ page some. let h = beside.within page some in omega arith;
    }

-- so many words there are in an area
pub length-words_from : (raw : List (Option ℕ)) (place count : ℕ) → length (words_from raw place count) ≡ count
length-words_from raw place zero = refl
length-words_from raw place (suc count) = ap suc (length-words_from raw (place + 1) count)

pub length-cell_words : (raw : List (Option ℕ)) (base cells : ℕ) → length (cell_words raw base cells) ≡ cells
length-cell_words raw base cells = length-words_from raw (base / 4) cells

-- before the first area
pub none-shaded : (areas : Areas) (h : Heap) (steps : ℕ) → AreShaded areas h h 0 steps steps
none-shaded areas h steps = record { words = []; grayed = nothing-grayed h; rest = refl; paid = omega arith }

-- one area more
pub area-shaded : (areas : Areas) (before mid after : Heap) (from next base cells : ℕ) (start spent steps : ℕ)
    → AreShaded areas before mid from start spent
    → scanned_words_from areas before.raw from ≡ cell_words before.raw base cells ++ scanned_words_from areas
    before.raw next
    → IsGrayed mid after (cell_words mid.raw base cells) → steps ≡ spent + 2 * cells
    → AreShaded areas before after next start steps
area-shaded areas before mid after from next base cells start spent steps so_far is grayed cost =
    let raw : mid.raw ≡ before.raw = ap (λ (h : Heap). h.raw) so_far.grayed.rest in
    let own : IsGrayed mid after (cell_words before.raw base cells) =
    subst (λ (r : List (Option ℕ)). IsGrayed mid after (cell_words r base cells)) raw grayed in
    record {
      words = so_far.words ++ cell_words before.raw base cells;
      grayed = grayed-then before mid after so_far.words (cell_words before.raw base cells) so_far.grayed own;
      rest =
          append_assoc so_far.words (cell_words before.raw base cells) (scanned_words_from areas before.raw next)
          ∙ ap (λ ws. so_far.words ++ ws) (sym is) ∙ so_far.rest;
      paid =
          let size = length-append so_far.words (cell_words before.raw base cells) in
          let own_size = length-cell_words before.raw base cells in
          let paid = so_far.paid in
          omega arith;
    }
