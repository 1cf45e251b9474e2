-- How long a paced list is.
use Rattle.std.proofs.Common.{◌≡◌, ℕ, ◌+◌, ◌*◌, ◌≤◌, List, [], ◌∷◌, ◌++◌, length, Option, Some, None, sym, ap}
use Rattle.std.proofs.Common.{◌∙◌, arith, length-append}
use Rattle.std.proofs.lemmas.List.{length-map}
use Rattle.std.specs.List.{flat_map}
use Rattle.mm_model.specs.declared.command.Command.{Command}
use Rattle.mm_model.specs.declared.line.Line.{Line}
use Rattle.mm_model.specs.declared.settings.Settings.{Settings}
use Rattle.mm_model.specs.Logs.Turns.{Turn}
use Rattle.mm_pace.specs.Rules.{Rule, rules_at}
use Rattle.mm_pace.specs.Paced.{Stretch, turns_in, list_of, AreAdded, AreRuled, IsPacedList}

at_most_one : (due : Option Command) → length (list_of due) ≤ 1
at_most_one None = omega arith
at_most_one (Some command) = omega arith

-- each rule adds a command at most
length-added : (rules : List Rule) (earlier added : List Turn) → AreAdded rules earlier added
    → length added ≤ length rules
length-added [] earlier added e = let none : length added ≡ 0 = ap length e in omega arith
length-added (rule ∷ rules) earlier added are =
    let whole : length added ≡ length are.0 + length are.1 = ap length are.2 ∙ length-append are.0 are.1 in
    let first : length are.0 ≡ length (list_of (rule earlier)) =
    sym (length-map are.0 (λ (t : Turn). t.command)) ∙ ap length are.3 in
    let one = at_most_one (rule earlier) in
    let rest = length-added rules (earlier ++ are.0) are.1 are.4 in
    omega arith

length-ruled : (rate : ℕ) (earlier : List Turn) (stretches : List Stretch) → AreRuled rate earlier stretches
    → length (flat_map turns_in stretches) ≤ 4 * length stretches
length-ruled rate earlier [] ruled = omega arith
length-ruled rate earlier (stretch ∷ stretches) ruled =
    let here = length-added (rules_at rate) (earlier ++ stretch.own ∷ []) stretch.added ruled.0 in
    let rest = length-ruled rate (earlier ++ turns_in stretch) stretches ruled.1 in
    let whole = length-append (turns_in stretch) (flat_map turns_in stretches) in
    omega arith

pub length-paced : (rate : ℕ) (settings : Settings) (trace : List Command) (log : List Line) (commands : List Command)
    → IsPacedList rate settings trace log commands → length commands ≤ 4 * length trace
length-paced rate settings trace log commands list =
    let all : length commands ≡ length list.turns =
    sym (ap length list.are.each_command) ∙ length-map list.turns (λ (t : Turn). t.command) in
    let turns : length list.turns ≡ length (flat_map turns_in list.paced.stretches) =
    sym (ap length list.paced.turns_are) in
    let own : length trace ≡ length list.own =
    sym (ap length list.paced.each_command) ∙ length-map list.own (λ (t : Turn). t.command) in
    let each : length list.own ≡ length list.paced.stretches =
    sym (ap length list.paced.own_are) ∙ length-map list.paced.stretches (λ (s : Stretch). s.own) in
    let ruled = length-ruled rate [] list.paced.stretches list.paced.ruled in
    omega arith
