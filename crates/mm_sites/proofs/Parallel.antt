-- Sites stand beside the commands and the births that they belong to.
use Rattle.std.proofs.Common.{◌≡◌, ℕ, suc, ◌+◌, ◌≤◌, Bool, true, false, cond, List, [], ◌∷◌, ◌++◌, map, length, drop}
use Rattle.std.proofs.Common.{Option, Some, None, Result, Ok, Err, refl, ap, ◌∙◌, arith, length-append}
use Rattle.std.proofs.Common.{length-drop}
use Rattle.std.proofs.lemmas.Bool.{and_parts}
use Rattle.std.proofs.lemmas.Bool.Decides.{nat_tests}
use Rattle.std.proofs.lemmas.List.{length-map}
use Rattle.std.specs.Prelude.{nat_eq, nat_lt, nat_le, ◌&&◌}
use Rattle.std.specs.List.{list_all, starts_with}
use Rattle.mm_model.specs.declared.command.Command.{Command}
use Rattle.mm_model.specs.declared.refusal.LineFault.{LineFault}
use Rattle.mm_model.specs.declared.refusal.LineFault.TheVariants.{LineTooLong}
use Rattle.mm_model.specs.Logs.Trace.{is_comment, is_digit, digits_value, is_number, line_reading, words_reading}
use Rattle.mm_model.specs.Logs.Trace.{words_of}
use Rattle.mm_model.specs.Logs.Trace.{reading_before, reading_from}
use Rattle.mm_model.specs.Logs.Turns.{Turn, Born, births_of, births_in}
use Rattle.mm_sites.specs.Births.{birth_sites}
use Rattle.mm_sites.specs.Lines.{site_number, site_line, site_mark, site_after, site_before, sites_behind}

pub commands_have_sites : (n : ℕ) (earlier lines : List (List ℕ))
    → length (sites_behind earlier lines) ≡ length (reading_from line_reading n lines).commands
commands_have_sites n earlier [] = refl
commands_have_sites n earlier (line ∷ lines) =
    split (line_reading line) (commands_have_sites (n + 1) (earlier ++ line ∷ []) lines)
  where
    split : (reading : Result (Option Command) LineFault)
        → length (sites_behind (earlier ++ line ∷ []) lines)
        ≡ length (reading_from line_reading (n + 1) lines).commands
        → length (site_before reading (site_after earlier) (sites_behind (earlier ++ line ∷ []) lines))
        ≡ length (reading_before n reading (reading_from line_reading (n + 1) lines)).commands
    split (Err fault) rest = refl
    split (Ok None) rest = rest
    split (Ok (Some command)) rest = ap suc rest

pub births_have_sites : (turns : List Turn) (sites : List ℕ) → length sites ≡ length turns
    → length (birth_sites turns sites) ≡ length (births_in turns)
births_have_sites [] sites same = refl
births_have_sites (turn ∷ turns) [] same = cc
births_have_sites (turn ∷ turns) (site ∷ sites) same =
    let fewer : length sites ≡ length turns = cc in
    let rest = births_have_sites turns sites fewer in
    let own = length-map (births_of turn) (λ (born : Born). site) in
    let here = length-append (map (λ (born : Born). site) (births_of turn)) (birth_sites turns sites) in
    let there = length-append (births_of turn) (births_in turns) in
    omega arith

-- a number has ten digits at most
number-short : (word : List ℕ) (site : ℕ) → site_number word ≡ Some site → length word ≤ 10
number-short word site named = split (is_number word) refl named
  where
    split : (b : Bool) → is_number word ≡ b
        → cond (b && nat_lt (digits_value word) 4096) (Some (digits_value word)) None ≡ Some site → length word ≤ 10
    split false e is = cc
    split true e is =
        let parts = and_parts (nat_le 1 (length word) && nat_le (length word) 10 && list_all is_digit word)
        (nat_lt (digits_value word) 4294967296) e in
        let more = and_parts (nat_le 1 (length word) && nat_le (length word) 10) (list_all is_digit word) parts.0 in
        let short = (and_parts (nat_le 1 (length word)) (nat_le (length word) 10) more.0).1 in
        grind (arith, nat_tests)

marked-comment : (line : List ℕ) → starts_with nat_eq line site_mark ≡ true → is_comment line ≡ true
marked-comment [] e = cc
marked-comment (b ∷ line) e =
    let first : nat_eq 35 b ≡ true = (and_parts (nat_eq 35 b) _ e).0 in
    grind (arith, nat_tests)

pub site_line-passed : (line : List ℕ) (site : ℕ) → site_line line ≡ Some site → line_reading line ≡ Ok None
unfolding line_reading
site_line-passed line site named = split (starts_with nat_eq line site_mark) refl named
  where
    split : (b : Bool) → starts_with nat_eq line site_mark ≡ b
        → cond b (site_number (drop 6 line)) None ≡ Some site → line_reading line ≡ Ok None
    split false e is = cc
    split true e is =
        let short = number-short (drop 6 line) site is in
        let length_is = length-drop 6 line in
        let fits : nat_lt 1024 (length line) ≡ false = grind (arith, nat_tests) in
        ap (λ c. cond c (Err LineTooLong) (cond (is_comment line) (Ok None) (words_reading (words_of line)))) fits
        ∙ ap (λ c. cond c (Ok None) (words_reading (words_of line))) (marked-comment line e)
