-- What a write to one word does to the bits.
use Rattle.std.proofs.Common.{◌≡◌, ◌≢◌, ℕ, ◌/◌, ◌%◌, ◌<◌, List, length, slice_index, slice_set}
use Rattle.std.proofs.Common.{arith, inl, inr, ap, sym, ◌∙◌}
use Rattle.std.proofs.lemmas.Bool.{cases_eq}
use Rattle.std.proofs.lemmas.List.{get_or-set_same, get_or-set_other, drop-set-lt}
use Rattle.std.specs.Int.{bit_at}
use Rattle.mm_sets.specs.Bits.{ChangesBit}

-- a word is written in which bit k mod 32 alone differs, and is now `value`
pub ChangesBit-write : (words : List ℕ) (k word value : ℕ) → k / 32 < length words →
    bit_at word (k % 32) ≡ value →
    ((i : ℕ) → i < 32 → i ≢ k % 32 → bit_at word i ≡ bit_at (slice_index words (k / 32)) i) →
    ChangesBit words (slice_set words (k / 32) word) k value
ChangesBit-write words k word value within here others =
    let same : slice_index (slice_set words (k / 32) word) (k / 32) ≡ word =
    get_or-set_same words (k / 32) word 0 within in record {
      here = ap (λ (w : ℕ). bit_at w (k % 32)) same ∙ here;
      other_bits = λ j apart. elim (cases_eq (j / 32) (k / 32)) [
        | inl e ↦ let there : j % 32 ≢ k % 32 = omega arith in
            ap (λ (i : ℕ). bit_at (slice_index (slice_set words (k / 32) word) i) (j % 32)) e
            ∙ ap (λ (w : ℕ). bit_at w (j % 32)) same
            ∙ others (j % 32) (omega arith) there
            ∙ sym (ap (λ (i : ℕ). bit_at (slice_index words i) (j % 32)) e)
        | inr ne ↦ ap (λ (w : ℕ). bit_at w (j % 32)) (get_or-set_other words (k / 32) (j / 32) word 0 ne)
      ];
      other_words = λ i ne. get_or-set_other words (k / 32) i word 0 ne;
      behind = λ d lt. drop-set-lt d words (k / 32) word lt;
    }
