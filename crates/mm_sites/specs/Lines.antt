-- Which lines of a trace name a site, and the site of each command.
use Rattle.std.specs.Prelude.{ℕ, nat_eq, if◌then◌else◌, ◌&&◌, nat_lt, List, [], ◌∷◌, ◌++◌, length, drop, reverse}
use Rattle.std.specs.Prelude.{Option, Some, None, is_some, unwrap_or, Result, Ok, Err, codes}
use Rattle.std.specs.List.{find, starts_with}
use Rattle.std.specs.Option.{option_and_then}
use Rattle.mm_model.specs.declared.command.Command.{Command}
use Rattle.mm_model.specs.declared.refusal.LineFault.{LineFault}
use Rattle.mm_model.specs.Logs.Trace.{is_number, digits_value, line_reading, lines_of}

-- how many sites there are
abbrev pub most_sites : ℕ
most_sites = 4096

-- a number of the trace's grammar that is below 4,096
abbrev pub site_number : List ℕ → Option ℕ
site_number word =
    if is_number word && nat_lt (digits_value word) most_sites then Some (digits_value word) else None

abbrev pub site_mark : List ℕ
site_mark = codes "#site "

-- The site that a line names: it is the bytes `#site `, then the site's number, and nothing more. No other line names
-- one.
abbrev pub site_line : List ℕ → Option ℕ
site_line line = if starts_with nat_eq line site_mark then site_number (drop (length site_mark) line) else None

-- the number in the last of the lines that names a site, and 0 where none does
abbrev pub site_after : List (List ℕ) → ℕ
site_after lines =
    unwrap_or (option_and_then site_line (find (λ line. is_some (site_line line)) (reverse lines))) 0

-- a line that is a command has the site, and its site comes before those of the lines behind
abbrev pub site_before : Result (Option Command) LineFault → ℕ → List ℕ → List ℕ
site_before (Err fault) site sites = []
site_before (Ok None) site sites = sites
site_before (Ok (Some command)) site sites = site ∷ sites

-- The site of each command of the lines before the first fault, where other lines stand before them: the site that the
-- lines before the command's own name last.
abbrev pub sites_behind : List (List ℕ) → List (List ℕ) → List ℕ
sites_behind earlier [] = []
sites_behind earlier (line ∷ lines) =
    site_before (line_reading line) (site_after earlier) (sites_behind (earlier ++ line ∷ []) lines)

abbrev pub sites_of_lines : List (List ℕ) → List ℕ
sites_of_lines lines = sites_behind [] lines

-- the site of each command of a trace, in order
abbrev pub sites_of_trace : List ℕ → List ℕ
sites_of_trace bytes = sites_of_lines (lines_of bytes)
