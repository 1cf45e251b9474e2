use Rattle.std.specs.Prelude.{ℕ, Option, List, drop}
use Rattle.mm_io.specs.Told.{NamedFile}
use Rattle.mm_io.specs.Reel.{named_by, playing}
use Rattle.mm_io.specs.declared.tape.Tape.{Tape}

-- the bytes that a tape has left
abbrev pub rest_of : Tape → List ℕ
rest_of tape = drop tape.at (playing tape.file tape.chosen tape.own.items)

-- the named file of a tape
abbrev pub file_of : Tape → Option NamedFile
file_of tape = named_by tape.file
