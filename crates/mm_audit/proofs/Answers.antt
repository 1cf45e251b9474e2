-- There is one answer for each log.
use Rattle.std.proofs.Common.{◌≡◌, ℕ, zero, suc, ◌+◌, ◌≤◌, ◌<◌, List, length, refl, ap, Bool, true, false, nat_le}
use Rattle.std.proofs.Common.{arith}
use Rattle.std.proofs.lemmas.Bool.Decides.{nat_tests}
use Rattle.mm_model.specs.declared.command.Command.{Command}
use Rattle.mm_model.specs.declared.settings.Settings.{Settings}
use Rattle.mm_model.specs.Logs.Trace.{pieces_of, ended_lines}
use Rattle.mm_audit.specs.declared.answer.Answer.{Answer}
use Rattle.mm_audit.specs.declared.answer.Answer.TheVariants as answers
use Rattle.mm_audit.specs.Audit.{Fits, IsAudited}
use Rattle.mm_audit.proofs.Fitting.{none_fit, fewer_fit, few_fit}

-- where a number has a property and none above a bound has it, some greatest number has it
module _ (P : ℕ → Type 0) (bound : ℕ) (few : (n : ℕ) → P n → n ≤ bound)
    (none : (m : ℕ) → P m → ((n : ℕ) → P n → n ≤ m) → ⊥) where
  above : (d m : ℕ) → bound ≤ m + d → P m → ⊥
  above zero m near p = none m p (λ n q. let least = few n q in omega arith)
  above (suc d) m near p = none m p (within (above d))
    where
      within : ((n : ℕ) → bound ≤ n + d → P n → ⊥) → (n : ℕ) → P n → n ≤ m
      within no_more n q = at (nat_le n m) refl
        where
          at : (t : Bool) → nat_le n m ≡ t → n ≤ m
          at true e = grind (arith, nat_tests)
          at false e = absurd (no_more n (grind (arith, nat_tests)) q)

  pub some_greatest : (m : ℕ) → P m → ⊥
  some_greatest m p = above bound m (omega arith) p

module _ (settings : Settings) (commands : List Command) (bytes : List ℕ) where
  pub answers_same : (answer other : Answer) → IsAudited settings commands bytes answer
      → IsAudited settings commands bytes other → answer ≡ other
  answers_same answers.Yes answers.Yes p q = refl
  answers_same answers.Yes (answers.No n) p q = absurd (q.0 p)
  answers_same (answers.No n) answers.Yes p q = absurd (p.0 q)
  answers_same (answers.No n) (answers.No k) p q =
      let less = q.3.greatest p.1 p.3.fits in
      let more = p.3.greatest q.1 q.3.fits in
      let same : n ≡ k = omega (arith, p.2, q.2) in
      ap answers.No same

  pub some_answer : settings.pages ≤ settings.max → ((answer : Answer) → IsAudited settings commands bytes answer → ⊥)
      → ⊥
  some_answer growing none =
      some_greatest (Fits settings commands bytes) (length (ended_lines (pieces_of bytes)))
      (few_fit settings commands bytes)
      (λ m fits greatest. none (answers.No (m + 1))
      (none answers.Yes, m, refl, record { fits = fits; greatest = greatest }))
      0 (none_fit settings commands bytes growing)

  pub before_fits : (n count : ℕ) → IsAudited settings commands bytes (answers.No n) → count < n
      → Fits settings commands bytes count
  before_fits n count p less = fewer_fit settings commands bytes p.1 count p.3.fits (omega (arith, p.2))

  pub this_fits_not : (n : ℕ) → IsAudited settings commands bytes (answers.No n) → Fits settings commands bytes n → ⊥
  this_fits_not n p fits = let most = p.3.greatest n fits in absurd (omega (arith, p.2))
