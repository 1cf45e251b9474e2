-- What a write makes of a list of words.
use Rattle.std.specs.Prelude.{ℕ, ◌+◌, List, ◌++◌, length, take, drop}

-- the list with the words of ws from the place `from` on, as far as they fit
abbrev pub written : ℕ → List ℕ → List ℕ → List ℕ
written from ws xs = take (length xs) (take from xs ++ ws ++ drop (from + length ws) xs)
