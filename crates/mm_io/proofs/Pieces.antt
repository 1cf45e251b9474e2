-- Bytes that are moved piece by piece.
use Rattle.std.proofs.Common.{◌≡◌, ℕ, ◌+◌, ◌≤◌, Option, List, ◌++◌, length, take, drop, sym}
use Rattle.std.proofs.lemmas.List.{take-append-drop, drop-drop}
use Rattle.std.proofs.Math.Seq.{take-add, take-append_seam}
use Rattle.mm_io.specs.Told.{Appends, KeepsFirst, StillTells}
use Rattle.mm_io.proofs.ToldLemmas.{Appends-append, KeepsFirst-append}

-- a buffer begins with the piece that was copied into it
take-copied : (piece rest : List ℕ) (n : ℕ) → length piece ≡ n → take n (piece ++ rest) ≡ piece
take-copied piece rest n e = rw (← e) (take-append_seam piece rest)

-- the front of the buffer has the next bytes, and what is left goes on behind them
pub split_at_piece : (bytes piece rest : List ℕ) (at n : ℕ) → length piece ≡ n → piece ≡ take n (drop at bytes)
    → drop at bytes ≡ take n (piece ++ rest) ++ drop (at + n) bytes
split_at_piece bytes piece rest at n fits copied =
    rw (take-copied piece rest n fits, copied, ← drop-drop n at bytes) (sym (take-append-drop n (drop at bytes)))

-- a front of the bytes and the next n of them are a longer front
pub front_grows : (a b c : Option (List ℕ)) (bytes : List ℕ) (at n : ℕ)
    → Appends a b (take at bytes) → Appends b c (take n (drop at bytes)) → Appends a c (take (at + n) bytes)
front_grows a b c bytes at n first second =
    rw (take-add at n bytes) (Appends-append a b c (take at bytes) (take n (drop at bytes)) first second)

-- and so of what is kept of them
pub kept_front_grows : (room : ℕ) (a b c : Option (List ℕ)) (bytes : List ℕ) (at n : ℕ)
    → KeepsFirst room a b (take at bytes) → KeepsFirst room b c (take n (drop at bytes))
    → KeepsFirst room a c (take (at + n) bytes)
kept_front_grows room a b c bytes at n first second =
    rw (take-add at n bytes) (KeepsFirst-append room a b c (take at bytes) (take n (drop at bytes)) first second)

-- how far a loop that writes these bytes has come
pub record IsWritten {K : Type 0}
    (faults : K → ℕ) (taken : K → Option (List ℕ)) (room : K → ℕ) (kept : K → Option (List ℕ))
    (before now : K) (bytes : List ℕ) (at : ℕ) : Type 0 where
  pub within : at ≤ length bytes
  pub front : Appends (taken before) (taken now) (take at bytes)
  pub told : StillTells (room before) (taken before) (taken now) at
  pub keeps : KeepsFirst (room before) (kept before) (kept now) (take at bytes)
  pub same_room : room now ≡ room before
  pub untouched : at ≡ 0 → now ≡ before
  pub no_fault : faults now ≡ faults before
