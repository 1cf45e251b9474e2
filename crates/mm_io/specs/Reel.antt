-- The bytes that a source in memory holds.
use Rattle.std.specs.Prelude.{ℕ, Bool, true, false, Option, None, Some, List, string_bytes}
use Rattle.std.specs.Str.{bytes_eq}
use Rattle.mm_io.specs.Told.{NamedFile}
use Rattle.mm_io.specs.declared.tape.StoredFile.{StoredFile}

-- the file as contracts see it
abbrev pub named_by : Option StoredFile → Option NamedFile
named_by None = None
named_by (Some file) = Some (record { name = string_bytes file.name; bytes = file.bytes.items })

-- there is a file, and this is its name
abbrev pub is_name_of : Option NamedFile → List ℕ → Bool
is_name_of None name = false
is_name_of (Some file) name = bytes_eq file.name name

-- the bytes that are read: the file's where it was chosen, and the source's own otherwise
abbrev pub playing : Option StoredFile → Bool → List ℕ → List ℕ
playing None chosen own = own
playing (Some file) true own = file.bytes.items
playing (Some file) false own = own
