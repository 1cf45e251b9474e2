-- Runs of an arena's words, by their numbers.
use Rattle.std.specs.Prelude.{◌≡◌, ℕ, List}
use Rattle.mm_words.specs.Piece.{Name}
use Rattle.mm_words.specs.declared.loan.Loan.{Loan}
use Rattle.mm_words.specs.declared.run.Run.{Run}

-- the run has n words of the arena from the place x on, of which the first hold ws
abbrev pub IsRun : Run → Name → ℕ → ℕ → List ℕ → Type 0
IsRun l a x n ws = (l.arena ≡ a) × (l.place ≡ x) × (l.len ≡ n) × (l.words ≡ ws)

-- the loan is for n words of the arena from the place x on
abbrev pub IsLoan : Loan → Name → ℕ → ℕ → Type 0
IsLoan d a x n = (d.arena ≡ a) × (d.place ≡ x) × (d.len ≡ n)
