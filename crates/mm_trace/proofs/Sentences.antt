-- A name and numbers, as a line has them one after another.
use Rattle.std.proofs.Common.{◌≡◌, ℕ, List, [], ◌∷◌, ◌++◌, map, decimal, refl, sym, ◌∙◌, ap, append_assoc}
use Rattle.std.specs.List.{flat_map}
use Rattle.mm_model.specs.Logs.Spelling.{sentence}

-- a number as it stands behind a name
abbrev pub behind_space : ℕ → List ℕ
behind_space n = 32 ∷ decimal n

pub sentence-numbers : (name : List ℕ) (numbers : List ℕ)
    → sentence (name ∷ map decimal numbers) ≡ name ++ (flat_map behind_space numbers ++ 10 ∷ [])
sentence-numbers name [] = refl
sentence-numbers name (n ∷ numbers) =
    ap (λ (xs : List ℕ). name ++ 32 ∷ xs) (sentence-numbers (decimal n) numbers)
    ∙ ap (λ (xs : List ℕ). name ++ xs) (sym (append_assoc (behind_space n) (flat_map behind_space numbers) (10 ∷ [])))
