-- Newlines among the bytes that are searched at once.
use Rattle.std.proofs.Common.{◌≡◌, ◌≢◌, ℕ, ◌+◌, ◌<◌, ◌≤◌, ◌*◌, zero, suc, Bool, true, false, not, cond, List, [], ◌∷◌}
use Rattle.std.proofs.Common.{length, take, drop, get_or, map, Some, sym, ap, ◌∙◌, subst, ⊎_elim, arith}
use Rattle.std.proofs.lemmas.Bool.{eqb-true, cases_lt}
use Rattle.std.proofs.lemmas.Bool.Decides.{nat_tests}
use Rattle.std.proofs.lemmas.List.{get_or-take, length-take-le, drop_more}
use Rattle.std.proofs.lemmas.List.Elements.{All-from_get_or}
use Rattle.std.proofs.lemmas.Simd.{length-chunk, trailing_mask_l, run_in_chunk_fails, run_in_chunk_stops}
use Rattle.std.proofs.lemmas.Simd.{none_from_empty_mask}
use Rattle.std.specs.List.{prefix_len}
use lib.Count.{count_trailing_zeros}
use lib.Lanes.{mask_l}
use Rattle.mm_trace.specs.Lines.{IsWithinLine, IsLineEnd, is_newline}

other : (byte : ℕ) → is_newline byte ≡ false → byte ≢ 10
other byte fails = grind (arith, nat_tests)

-- a front without newlines, and bytes behind it that are none
front-more : (bytes : List ℕ) (at n : ℕ) → at ≤ n → n ≤ length bytes → IsWithinLine (take at bytes) →
    ((k : ℕ) → at ≤ k → k < n → is_newline (get_or bytes k 0) ≡ false) → IsWithinLine (take n bytes)
front-more bytes at n short room front none =
    All-from_get_or (λ (byte : ℕ). byte ≢ 10) (take n bytes) 0 (λ k below.
    let inside : k < n = omega (arith, length-take-le n bytes room, below) in
    let here = get_or-take n bytes k 0 inside in
    subst (λ byte. byte ≢ 10) (sym here) (⊎_elim
    (λ (before : k < at).
    subst (λ byte. byte ≢ 10) (get_or-take at bytes k 0 before)
    (front k 0 (omega (arith, length-take-le at bytes (omega arith), before))))
    (λ behind. other (get_or bytes k 0) (none k behind inside))
    (cases_lt k at)))

short-by_one : (b : Bool) (mask len longest : ℕ) → 0 < cond b 1 zero + 2 * mask → (0 < mask → len < longest) →
    cond (not b) (1 + len) 0 < suc longest
short-by_one true mask len longest some shorter = omega arith
short-by_one false mask len longest some shorter = let below = shorter (omega arith) in omega (arith, below)

-- a bit that is set is that of a newline
prefix_len-short : (bytes : List ℕ) → 0 < mask_l (map is_newline bytes) →
    prefix_len (λ x. not (is_newline x)) bytes < length bytes
prefix_len-short [] some = absurd (omega arith)
prefix_len-short (b ∷ bytes) some =
    short-by_one (is_newline b) (mask_l (map is_newline bytes)) (prefix_len (λ x. not (is_newline x)) bytes)
    (length bytes) some (prefix_len-short bytes)

-- What the bits tell of the next 16 bytes, one for each newline.
module _ (bytes : List ℕ) (at bits : ℕ) (room : at + 16 ≤ length bytes) (front : IsWithinLine (take at bytes))
    (are : bits ≡ mask_l (map is_newline (take 16 (drop at bytes)))) where
  -- none of the bytes is a newline
  pub front-all : bits ≡ 0 → IsWithinLine (take (at + 16) bytes)
  front-all none =
      front-more bytes at (at + 16) (omega arith) room front
      (none_from_empty_mask is_newline bytes at 16 0 room (sym are ∙ none))

  -- The lowest bit that is set is the first newline.
  module _ (some : 0 < bits) where
    abbrev first : ℕ
    first = count_trailing_zeros 64 bits

    set : 0 < mask_l (map is_newline (take 16 (drop at bytes)))
    set = omega (arith, are, some)

    counted : first ≡ prefix_len (λ x. not (is_newline x)) (take 16 (drop at bytes))
    counted =
        ap (count_trailing_zeros 64) are
        ∙ trailing_mask_l is_newline 64 (take 16 (drop at bytes)) (omega (arith, length-chunk at 16 bytes room)) set

    below : first < 16
    below = omega (arith, counted, length-chunk at 16 bytes room, prefix_len-short (take 16 (drop at bytes)) set)

    pub line_end-first : IsLineEnd bytes (Some (at + first))
    line_end-first = (
      omega (arith, below),
      front-more bytes at (at + first) (omega arith) (omega (arith, below)) front
          (run_in_chunk_fails is_newline bytes at 16 first 0 room counted),
      drop_more bytes (at + first) 0 (omega (arith, below))
          ∙ ap (λ byte. byte ∷ drop (at + first + 1) bytes)
          (eqb-true _ _ (run_in_chunk_stops is_newline bytes at 16 first 0 room counted below)),
    )
