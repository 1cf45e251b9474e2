-- The words that have a mark, where a mark is set or taken away.
use Rattle.std.proofs.Common.{◌≡◌, ◌≢◌, ℕ, ◌+◌, ◌*◌, ◌/◌, ◌^◌, ◌<◌, ◌≤◌, Bool, true, false, List, length, replicate}
use Rattle.std.proofs.Common.{Some, ⊎_elim, sym, ap, ◌∙◌, subst, arith}
use Rattle.std.specs.Prelude.{slice_get, slice_set}
use Rattle.std.proofs.Math.ListN.{get_or}
use Rattle.std.proofs.lemmas.Bool.{cases_eq, cases_lt}
use Rattle.std.proofs.lemmas.List.{length-set, length-replicate, get_or-replicate}
use Rattle.std.proofs.lemmas.Option.{slice_get-get_or, slice_get_within, get_or_from_slice_get}
use Rattle.mm_model.proofs.Lists.Replaced.{get-set_same, get-set_other, get-set_cases}
use Rattle.mm_audit.specs.Bits.{IsMarked, NoneBetween, NoneFrom, IsNext}
use Rattle.mm_audit.specs.Numbers.{KeepsUsed}

mark-same : (marks : List Bool) (n : ℕ) → n < length marks → IsMarked (slice_set marks n true) n
mark-same marks n inside =
    get-set_same marks n (get_or marks n false) true (slice_get-get_or marks n false inside)

-- what is marked stays so where another mark is set
mark-keeps : (marks : List Bool) (n k : ℕ) → IsMarked marks k → IsMarked (slice_set marks n true) k
mark-keeps marks n k marked =
    ⊎_elim
    (λ (e : k ≡ n).
    subst (λ i. IsMarked (slice_set marks i true) k) e (get-set_same marks k true true marked))
    (λ (ne : k ≢ n). get-set_other marks n k true ne ∙ marked) (cases_eq k n)

-- what is marked once a mark was taken away was marked before, and is another one
cleared-marked : (marks : List Bool) (n k : ℕ) → IsMarked (slice_set marks n false) k
    → (k ≢ n) × IsMarked marks k
cleared-marked marks n k marked =
    ⊎_elim (λ (here : (k ≡ n) × (false ≡ true)). absurd (clash here.1))
    (λ (was : IsMarked marks k). (other was, was)) (get-set_cases marks n k false true marked)
  where
    clash : false ≡ true → ⊥
    clash e = cc

    unlike : Some false ≡ Some true → ⊥
    unlike e = cc

    other : IsMarked marks k → k ≢ n
    other was e =
        let cleared = get-set_same marks k true false was in
        unlike (sym cleared ∙ subst (λ i. slice_get (slice_set marks i false) k ≡ Some true) (sym e) marked)

module _ (marks used : List Bool) (keeps : KeepsUsed marks used) where
  word-within : (n : ℕ) → n < length marks → n / 64 < length used
  word-within n inside = let size = keeps.size in omega arith

  pub used-set : (n : ℕ) → n < length marks → KeepsUsed (slice_set marks n true) (slice_set used (n / 64) true)
  used-set n inside =
      record {
        few = omega (arith, length-set marks n true, keeps.few);
        size = omega (arith, length-set marks n true, length-set used (n / 64) true, keeps.size);
        shown = λ k marked.
            ⊎_elim
            (λ (here : (k ≡ n) × (true ≡ true)).
            subst (λ i. IsMarked (slice_set used (n / 64) true) (i / 64)) (sym here.0)
            (mark-same used (n / 64) (word-within n inside)))
            (λ (was : IsMarked marks k). mark-keeps used (n / 64) (k / 64) (keeps.shown k was))
            (get-set_cases marks n k true true marked);
        some = λ word marked.
            ⊎_elim
            (λ (here : (word ≡ n / 64) × (true ≡ true)).
            record { number = n; marked = mark-same marks n inside; in_word = sym here.0 })
            (λ (was : IsMarked used word).
            let one = keeps.some word was in
            record { number = one.number; marked = mark-keeps marks n one.number one.marked; in_word = one.in_word })
            (get-set_cases used (n / 64) word true true marked);
      }

  -- another number of the word is still marked
  pub used-left : (n k : ℕ) → IsMarked (slice_set marks n false) k → k / 64 ≡ n / 64
      → KeepsUsed (slice_set marks n false) used
  used-left n k left beside =
      record {
        few = omega (arith, length-set marks n false, keeps.few);
        size = omega (arith, length-set marks n false, keeps.size);
        shown = λ j marked. keeps.shown j (cleared-marked marks n j marked).1;
        some = λ word marked.
            let one = keeps.some word marked in
            ⊎_elim
            (λ (e : one.number ≡ n).
            record {
              number = k;
              marked = left;
              in_word = beside ∙ ap (λ i. i / 64) (sym e) ∙ one.in_word;
            })
            (λ (ne : one.number ≢ n).
            record {
              number = one.number;
              marked = get-set_other marks n one.number false ne ∙ one.marked;
              in_word = one.in_word;
            })
            (cases_eq one.number n);
      }

  -- no other is
  pub used-cleared : (n : ℕ) → NoneBetween (slice_set marks n false) (64 * (n / 64)) (64 * (n / 64 + 1))
      → KeepsUsed (slice_set marks n false) (slice_set used (n / 64) false)
  used-cleared n none =
      record {
        few = omega (arith, length-set marks n false, keeps.few);
        size = omega (arith, length-set marks n false, length-set used (n / 64) false, keeps.size);
        shown = λ j marked.
            ⊎_elim (λ (e : j / 64 ≡ n / 64). absurd (none j (omega arith) (omega arith) marked))
            (λ (ne : j / 64 ≢ n / 64).
            get-set_other used (n / 64) (j / 64) false ne ∙ keeps.shown j (cleared-marked marks n j marked).1)
            (cases_eq (j / 64) (n / 64));
        some = λ word marked.
            let was = cleared-marked used (n / 64) word marked in
            let one = keeps.some word was.1 in
            let in_word = one.in_word in
            record {
              number = one.number;
              marked = get-set_other marks n one.number false (λ e. was.0 (sym in_word ∙ ap (λ i. i / 64) e))
                  ∙ one.marked;
              in_word = in_word;
            };
      }

  -- the next member stands in the next word that has one
  pub next-word : (from word n : ℕ) → NoneBetween marks from (64 * (from / 64 + 1)) → IsNext used (from / 64 + 1) word
      → IsNext marks (64 * word) n → IsNext marks from n
  next-word from word n none first found =
      record {
        reached = let low = first.reached in let high = found.reached in omega arith;
        marked = found.marked;
        least = λ lower from_on marked.
            ⊎_elim (λ (below : lower < 64 * (from / 64 + 1)). absurd (none lower from_on below marked))
            (λ (past : 64 * (from / 64 + 1) ≤ lower).
            let least = first.least (lower / 64) (omega arith) (keeps.shown lower marked) in
            found.least lower (omega arith) marked) (cases_lt lower (64 * (from / 64 + 1)));
      }

  pub none-further : (from : ℕ) → NoneBetween marks from (64 * (from / 64 + 1)) → NoneFrom used (from / 64 + 1)
      → NoneFrom marks from
  none-further from none further n from_on marked =
      ⊎_elim (λ (below : n < 64 * (from / 64 + 1)). none n from_on below marked)
      (λ (past : 64 * (from / 64 + 1) ≤ n). further (n / 64) (omega arith) (keeps.shown n marked))
      (cases_lt n (64 * (from / 64 + 1)))

  pub used-within : (word : ℕ) → IsMarked used word → 64 * word < length marks
  used-within word marked =
      let within = slice_get_within used word true marked in let size = keeps.size in omega arith

  -- a used word has a member
  pub none-used : (word : ℕ) → IsMarked used word → NoneBetween marks (64 * word) (64 * (64 * word / 64 + 1)) → ⊥
  none-used word marked none =
      let one = keeps.some word marked in
      let in_word = one.in_word in
      none one.number (omega arith) (omega arith) one.marked

none-marked : (limit n : ℕ) → IsMarked (replicate limit false) n → ⊥
none-marked limit n marked =
    let within : n < limit =
    omega (arith, slice_get_within (replicate limit false) n true marked, length-replicate limit false) in
    clash
    (sym (get_or-replicate limit n false false within)
    ∙ get_or_from_slice_get (replicate limit false) n true false marked)
  where
    clash : false ≡ true → ⊥
    clash e = cc

pub used-none : (limit count : ℕ) → limit ≤ 2 ^ 20 → count ≡ (limit + 63) / 64
    → KeepsUsed (replicate limit false) (replicate count false)
used-none limit count few size =
    record {
      few = omega (arith, length-replicate limit false);
      size = omega (arith, length-replicate limit false, length-replicate count false);
      shown = λ n marked. absurd (none-marked limit n marked);
      some = λ word marked. absurd (none-marked count word marked);
    }
