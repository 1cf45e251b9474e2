-- The sites of one more line, and of one more turn.
use Rattle.std.proofs.Common.{◌≡◌, ℕ, ◌+◌, Bool, cond, List, [], ◌∷◌, ◌++◌, map, length, Option, Some, None}
use Rattle.std.proofs.Common.{Result, Ok, Err, refl, sym, ap, ◌∙◌, append_assoc}
use Rattle.std.proofs.lemmas.List.{append-nil, reverse-append}
use Rattle.std.specs.Prelude.{is_some, reverse, unwrap_or}
use Rattle.std.specs.List.{find}
use Rattle.std.specs.Option.{option_and_then}
use Rattle.mm_model.specs.declared.command.Command.{Command}
use Rattle.mm_model.specs.declared.refusal.LineFault.{LineFault}
use Rattle.mm_model.specs.Logs.Trace.{line_reading, reading_before, reading_from, FaultAt}
use Rattle.mm_model.specs.Logs.Turns.{Turn, Born, births_of}
use Rattle.mm_sites.specs.Births.{birth_sites}
use Rattle.mm_sites.specs.Following.{sites_with}
use Rattle.mm_sites.specs.Lines.{site_line, site_after, site_before, sites_behind, sites_of_lines}

-- what is born in the last turn has the last site
pub birth_sites-more : (turns : List Turn) (turn : Turn) (sites : List ℕ) (site : ℕ) → length sites ≡ length turns
    → birth_sites (turns ++ turn ∷ []) (sites ++ site ∷ [])
    ≡ sites_with site (birth_sites turns sites) (births_of turn)
birth_sites-more [] turn [] site same = append-nil (map (λ (born : Born). site) (births_of turn))
birth_sites-more [] turn (s ∷ sites) site same = cc
birth_sites-more (t ∷ turns) turn [] site same = cc
birth_sites-more (t ∷ turns) turn (s ∷ sites) site same =
    let fewer : length sites ≡ length turns = cc in
    let own : List ℕ = map (λ (born : Born). s) (births_of t) in
    ap (λ (rest : List ℕ). own ++ rest) (birth_sites-more turns turn sites site fewer)
    ∙ sym (append_assoc own (birth_sites turns sites) (map (λ (born : Born). site) (births_of turn)))

-- the site of the lines, and the last line's own one where it names one
pub site_after-more : (lines : List (List ℕ)) (line : List ℕ)
    → site_after (lines ++ line ∷ []) ≡ unwrap_or (site_line line) (site_after lines)
site_after-more lines line =
    ap (λ (ls : List (List ℕ)). last_named (find names ls)) (reverse-append lines (line ∷ []))
    ∙ split (site_line line) refl
  where
    names : List ℕ → Bool
    names l = is_some (site_line l)

    last_named : Option (List ℕ) → ℕ
    last_named found = unwrap_or (option_and_then site_line found) 0

    split : (own : Option ℕ) → site_line line ≡ own
        → last_named (cond (is_some own) (Some line) (find names (reverse lines))) ≡ unwrap_or own (site_after lines)
    split None e = refl
    split (Some site) e = ap (λ (s : Option ℕ). unwrap_or s 0) e

-- where no fault stands before it
pub sites_behind-more : (n : ℕ) (earlier lines : List (List ℕ)) (line : List ℕ)
    → (reading_from line_reading n lines).fault ≡ None
    → sites_behind earlier (lines ++ line ∷ [])
    ≡ sites_behind earlier lines ++ site_before (line_reading line) (site_after (earlier ++ lines)) []
sites_behind-more n earlier [] line clean =
    ap (λ (ls : List (List ℕ)). site_before (line_reading line) (site_after ls) []) (sym (append-nil earlier))
sites_behind-more n earlier (l ∷ lines) line clean =
    split (line_reading l) clean
    (λ rest.
    sites_behind-more (n + 1) (earlier ++ l ∷ []) lines line rest
    ∙ ap
    (λ (ls : List (List ℕ)).
    sites_behind (earlier ++ l ∷ []) lines ++ site_before (line_reading line) (site_after ls) [])
    (append_assoc earlier (l ∷ []) lines))
  where
    split : (reading : Result (Option Command) LineFault)
        → (reading_before n reading (reading_from line_reading (n + 1) lines)).fault ≡ None
        → ((reading_from line_reading (n + 1) lines).fault ≡ None
        → sites_behind (earlier ++ l ∷ []) (lines ++ line ∷ [])
        ≡ sites_behind (earlier ++ l ∷ []) lines
        ++ site_before (line_reading line) (site_after (earlier ++ l ∷ lines)) [])
        → site_before reading (site_after earlier) (sites_behind (earlier ++ l ∷ []) (lines ++ line ∷ []))
        ≡ site_before reading (site_after earlier) (sites_behind (earlier ++ l ∷ []) lines)
        ++ site_before (line_reading line) (site_after (earlier ++ l ∷ lines)) []
    split (Err fault) clean more = cc
    split (Ok None) clean more = more clean
    split (Ok (Some command)) clean more = ap (λ (sites : List ℕ). site_after earlier ∷ sites) (more clean)

-- behind a fault no line counts
pub sites_behind-fault : (n : ℕ) (earlier lines : List (List ℕ)) (line : List ℕ) (fault : FaultAt)
    → (reading_from line_reading n lines).fault ≡ Some fault
    → sites_behind earlier (lines ++ line ∷ []) ≡ sites_behind earlier lines
sites_behind-fault n earlier [] line fault stands = cc
sites_behind-fault n earlier (l ∷ lines) line fault stands =
    split (line_reading l) stands (sites_behind-fault (n + 1) (earlier ++ l ∷ []) lines line fault)
  where
    split : (reading : Result (Option Command) LineFault)
        → (reading_before n reading (reading_from line_reading (n + 1) lines)).fault ≡ Some fault
        → ((reading_from line_reading (n + 1) lines).fault ≡ Some fault
        → sites_behind (earlier ++ l ∷ []) (lines ++ line ∷ []) ≡ sites_behind (earlier ++ l ∷ []) lines)
        → site_before reading (site_after earlier) (sites_behind (earlier ++ l ∷ []) (lines ++ line ∷ []))
        ≡ site_before reading (site_after earlier) (sites_behind (earlier ++ l ∷ []) lines)
    split (Err other) stands same = refl
    split (Ok None) stands same = same stands
    split (Ok (Some command)) stands same = ap (λ (sites : List ℕ). site_after earlier ∷ sites) (same stands)

-- a command has the site of the lines before it
pub sites_of_lines-command : (n : ℕ) (lines : List (List ℕ)) (line : List ℕ) (command : Command)
    → (reading_from line_reading n lines).fault ≡ None → line_reading line ≡ Ok (Some command)
    → sites_of_lines (lines ++ line ∷ []) ≡ sites_of_lines lines ++ site_after lines ∷ []
sites_of_lines-command n lines line command clean says =
    sites_behind-more n [] lines line clean
    ∙ ap (λ (r : Result (Option Command) LineFault). sites_of_lines lines ++ site_before r (site_after lines) []) says

-- any other line has none
sites_of_lines-without : (lines : List (List ℕ)) (line : List ℕ)
    → site_before (line_reading line) (site_after lines) [] ≡ []
    → sites_of_lines (lines ++ line ∷ []) ≡ sites_of_lines lines
sites_of_lines-without lines line none = split (reading_from line_reading 1 lines).fault refl
  where
    split : (fault : Option FaultAt) → (reading_from line_reading 1 lines).fault ≡ fault
        → sites_of_lines (lines ++ line ∷ []) ≡ sites_of_lines lines
    split None e =
        sites_behind-more 1 [] lines line e
        ∙ ap (λ (sites : List ℕ). sites_of_lines lines ++ sites) none
        ∙ append-nil (sites_of_lines lines)
    split (Some fault) e = sites_behind-fault 1 [] lines line fault e

pub sites_of_lines-passed : (lines : List (List ℕ)) (line : List ℕ) → line_reading line ≡ Ok None
    → sites_of_lines (lines ++ line ∷ []) ≡ sites_of_lines lines
sites_of_lines-passed lines line says =
    sites_of_lines-without lines line
    (ap (λ (r : Result (Option Command) LineFault). site_before r (site_after lines) []) says)

-- what stands from the first fault on has none
sites_behind-stops : (earlier lines later : List (List ℕ)) (line : List ℕ) (fault : LineFault)
    → line_reading line ≡ Err fault → sites_behind earlier (lines ++ line ∷ later) ≡ sites_behind earlier lines
sites_behind-stops earlier [] later line fault says =
    ap (λ (r : Result (Option Command) LineFault).
    site_before r (site_after earlier) (sites_behind (earlier ++ line ∷ []) later)) says
sites_behind-stops earlier (l ∷ lines) later line fault says =
    ap (site_before (line_reading l) (site_after earlier))
    (sites_behind-stops (earlier ++ l ∷ []) lines later line fault says)

pub sites_of_lines-fault : (lines later : List (List ℕ)) (line : List ℕ) (fault : LineFault)
    → line_reading line ≡ Err fault → sites_of_lines (lines ++ line ∷ later) ≡ sites_of_lines lines
sites_of_lines-fault lines later line fault says = sites_behind-stops [] lines later line fault says
