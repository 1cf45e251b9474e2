-- What a call does to the bytes that a source or a sink tells. `None` stands for one that doesn't tell them.
use Rattle.std.specs.Prelude.{◌≡◌, ◌≤◌, ◌+◌, ◌-◌, ℕ, if◌then◌else◌, ⊤}
use Rattle.std.specs.Prelude.{Option, None, Some, IsSome, List, [], ◌++◌, length, take}
use Rattle.std.specs.Str.{bytes_eq}

-- a file that a source holds ready, by its name
pub record NamedFile : Type 0 where
  pub name : List ℕ
  pub bytes : List ℕ

-- A sink took these bytes behind those that it had.
abbrev pub Appends : Option (List ℕ) → Option (List ℕ) → List ℕ → Type 0
-- it doesn't tell any more
Appends before None bytes = ⊤
-- what once doesn't tell doesn't tell later
Appends None (Some after) bytes = ⊥
-- it tells all of them, in this order
Appends (Some before) (Some after) bytes = after ≡ before ++ bytes

-- A sink took some front of these bytes.
abbrev pub AppendsFront : Option (List ℕ) → Option (List ℕ) → List ℕ → Type 0
AppendsFront before after bytes = (n : ℕ) × Appends before after (take n bytes)

-- A sink that told its bytes tells them after n more, unless there are then more of them than it has room for.
abbrev pub StillTells : ℕ → Option (List ℕ) → Option (List ℕ) → ℕ → Type 0
StillTells room None after n = ⊤
StillTells room (Some before) after n = length before + n ≤ room → IsSome after

-- A sink that keeps the first bytes it takes, as many as it has room for, took these. `None` stands for one that
-- doesn't tell what it keeps.
abbrev pub KeepsFirst : ℕ → Option (List ℕ) → Option (List ℕ) → List ℕ → Type 0
KeepsFirst room None None bytes = ⊤
KeepsFirst room None (Some after) bytes = ⊥
KeepsFirst room (Some before) None bytes = ⊥
-- what there is still room for stands behind what it kept
KeepsFirst room (Some before) (Some after) bytes = after ≡ before ++ take (room - length before) bytes

-- It took some front of these bytes.
abbrev pub KeepsFront : ℕ → Option (List ℕ) → Option (List ℕ) → List ℕ → Type 0
KeepsFront room before after bytes = (n : ℕ) × KeepsFirst room before after (take n bytes)

-- A source gave these bytes, the first of those that it had left.
abbrev pub Gives : Option (List ℕ) → Option (List ℕ) → List ℕ → Type 0
-- it doesn't tell any more
Gives before None bytes = ⊤
-- what once doesn't tell doesn't tell later
Gives None (Some after) bytes = ⊥
-- they stood before the bytes that are left now
Gives (Some before) (Some after) bytes = before ≡ bytes ++ after

-- the bytes under a name: those of the named file if that is its name, and no bytes otherwise
abbrev pub file_bytes : Option NamedFile → List ℕ → List ℕ
file_bytes None name = []
file_bytes (Some file) name = if bytes_eq file.name name then file.bytes else []

-- A source turned to the bytes under this name.
abbrev pub Chooses : Option (List ℕ) → Option (List ℕ) → Option NamedFile → List ℕ → Type 0
-- it doesn't tell any more
Chooses before None file name = ⊤
-- what once doesn't tell doesn't tell later
Chooses None (Some after) file name = ⊥
-- they are all that is left
Chooses (Some before) (Some after) file name = after ≡ file_bytes file name
