-- What a change of one number's bits does to a set.
use Rattle.std.proofs.Common.{◌≡◌, ◌≢◌, ℕ, ◌+◌, ◌/◌, ◌<◌, ◌≤◌, List, length, slice_index, nat_eq}
use Rattle.std.proofs.Common.{arith, inl, inr, ap, sym, ◌∙◌, refl, subst}
use Rattle.std.proofs.lemmas.Bool.{cases_eq, cases_lt}
use Rattle.mm_sets.specs.Bits.{bit_of, ChangesBit}
use Rattle.mm_sets.specs.Set.{IsSet}
use Rattle.mm_sets.proofs.LowestBits.{bit_of-zero}

-- the bits of number n have changed alone, and the summary is right of its member word
record ChangesNumber (n : ℕ) (before after : List ℕ) : Type 0 where
  same_words : (i : ℕ) → i ≢ n / 32 → slice_index after (4 + i) ≡ slice_index before (4 + i)
  same_shown : (i : ℕ) → i < 128 → i ≢ n / 32 → bit_of after i ≡ bit_of before i
  same_members : (m : ℕ) → m ≢ n → bit_of after (128 + m) ≡ bit_of before (128 + m)
  shown : 0 < slice_index after (4 + n / 32) → bit_of after (n / 32) ≡ 1
  some : bit_of after (n / 32) ≡ 1 → 0 < slice_index after (4 + n / 32)

IsSet-ChangesNumber : (limit n : ℕ) (before after : List ℕ) → n < limit → IsSet limit before →
    length after ≡ length before → ChangesNumber n before after → IsSet limit after
IsSet-ChangesNumber limit n before after below s long c = record {
  small = s.small;
  room = omega (arith, s.room);
  shown = λ i lt pos. elim (cases_eq i (n / 32)) [
    | inl e ↦ ap (bit_of after) e ∙ c.shown (subst (λ (x : ℕ). 0 < slice_index after (4 + x)) e pos)
    | inr ne ↦ c.same_shown i (omega (arith, s.small)) ne ∙ s.shown i lt (omega (arith, c.same_words i ne))
  ];
  own = λ i lt one. elim (cases_eq i (n / 32)) [
    | inl e ↦ omega arith
    | inr ne ↦ s.own i lt (sym (c.same_shown i lt ne) ∙ one)
  ];
  some = λ i lt one. elim (cases_eq i (n / 32)) [
    | inl e ↦ subst (λ (x : ℕ). 0 < slice_index after (4 + x)) (sym e) (c.some (ap (bit_of after) (sym e) ∙ one))
    | inr ne ↦ omega (arith, c.same_words i ne, s.some i lt (sym (c.same_shown i lt ne) ∙ one))
  ];
  below = λ m ge lt. ap (λ (b : ℕ). nat_eq b 1) (c.same_members m (omega arith)) ∙ s.below m ge lt;
}

-- the bit among the members changes, and then that in the summary
ChangesNumber-both : (n value shown : ℕ) (before middle after : List ℕ) → n < 4096 →
    ChangesBit before middle (128 + n) value → ChangesBit middle after (n / 32) shown →
    (0 < slice_index middle (4 + n / 32) → shown ≡ 1) → (shown ≡ 1 → 0 < slice_index middle (4 + n / 32)) →
    ChangesNumber n before after
ChangesNumber-both n value shown before middle after small first second right some =
    let word : slice_index after (4 + n / 32) ≡ slice_index middle (4 + n / 32) =
    second.other_words (4 + n / 32) (omega arith) in record {
      same_words = λ i ne. second.other_words (4 + i) (omega arith) ∙ first.other_words (4 + i) (omega arith);
      same_shown = λ i lt ne. second.other_bits i ne ∙ first.other_bits i (omega arith);
      same_members = λ m ne. second.other_bits (128 + m) (omega arith) ∙ first.other_bits (128 + m) (omega arith);
      shown = λ pos. second.here ∙ right (omega arith);
      some = λ one. omega (arith, some (sym second.here ∙ one));
    }

pub IsSet-inserted : (limit n : ℕ) (before middle after : List ℕ) → n < limit → IsSet limit before →
    length after ≡ length before → ChangesBit before middle (128 + n) 1 → ChangesBit middle after (n / 32) 1 →
    IsSet limit after
IsSet-inserted limit n before middle after below s long first second =
    let small : limit ≤ 4096 = s.small in
    let place : (128 + n) / 32 ≡ 4 + n / 32 = omega arith in
    let some : 0 < slice_index middle (4 + n / 32) = elim (cases_lt 0 (slice_index middle (4 + n / 32))) [
      | inl lt ↦ lt
      | inr none ↦ absurd (omega (
        arith,
        first.here,
        bit_of-zero middle (128 + n) (ap (slice_index middle) place ∙ omega arith),
      ))
    ] in
    IsSet-ChangesNumber limit n before after below s long
    (ChangesNumber-both n 1 1 before middle after (omega arith) first second (λ _. refl) (λ _. some))

-- no other member is left in the word
pub IsSet-emptied : (limit n : ℕ) (before middle after : List ℕ) → n < limit → IsSet limit before →
    length after ≡ length before → ChangesBit before middle (128 + n) 0 → ChangesBit middle after (n / 32) 0 →
    slice_index middle (4 + n / 32) ≡ 0 → IsSet limit after
IsSet-emptied limit n before middle after below s long first second none =
    let small : limit ≤ 4096 = s.small in
    IsSet-ChangesNumber limit n before after below s long
    (ChangesNumber-both n 0 0 before middle after (omega arith) first second
    (λ pos. absurd (omega arith)) (λ one. absurd (omega arith)))

-- others are left in it
pub IsSet-cleared : (limit n : ℕ) (before after : List ℕ) → n < limit → IsSet limit before →
    length after ≡ length before → ChangesBit before after (128 + n) 0 →
    slice_index after (4 + n / 32) ≢ 0 → slice_index after (4 + n / 32) ≤ slice_index before (4 + n / 32) →
    IsSet limit after
IsSet-cleared limit n before after below s long change left falls =
    let small : limit ≤ 4096 = s.small in
    let same : bit_of after (n / 32) ≡ bit_of before (n / 32) = change.other_bits (n / 32) (omega arith) in
    IsSet-ChangesNumber limit n before after below s long (record {
      same_words = λ i ne. change.other_words (4 + i) (omega arith);
      same_shown = λ i lt ne. change.other_bits i (omega arith);
      same_members = λ m ne. change.other_bits (128 + m) (omega arith);
      shown = λ pos. same ∙ s.shown (n / 32) (omega arith) (omega arith);
      some = λ one. omega arith;
    })
