-- What a source over a reader of the host and a file tells.
use Rattle.std.specs.Prelude.{ℕ, Option, None, Some, List}

-- what is left in the reader, or in the file that was turned to, where both tell it
abbrev pub told_left : Option (List ℕ) → Option (Option (List ℕ)) → Option (List ℕ)
told_left own None = own
told_left None (Some file) = None
told_left (Some own) (Some file) = file
