-- How bytes are cut into lines.
use Rattle.std.specs.Prelude.{◌≡◌, ◌≢◌, ◌<◌, ℕ, ◌+◌, Bool, ◌==◌, List, ◌∷◌, length, take, drop, Option, None, Some}
use Rattle.std.specs.List.{All}

abbrev pub is_newline : ℕ → Bool
is_newline byte = byte == 10

-- bytes within a line
abbrev pub IsWithinLine : List ℕ → Type 0
IsWithinLine bytes = All (λ (byte : ℕ). byte ≢ 10) bytes

-- the place of the first newline, or that there is none
abbrev pub IsLineEnd : List ℕ → Option ℕ → Type 0
IsLineEnd bytes None = IsWithinLine bytes
IsLineEnd bytes (Some n) =
    (n < length bytes) × IsWithinLine (take n bytes) × (drop n bytes ≡ 10 ∷ drop (n + 1) bytes)
