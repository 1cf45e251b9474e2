-- What is born in the turns of a paced list is what is born in the trace's own.
use Rattle.std.proofs.Common.{◌≡◌, ℕ, true, false, cond, List, [], ◌∷◌, ◌++◌, map, Option, Some, None, refl, sym, ap}
use Rattle.std.proofs.Common.{◌∙◌, subst, Bool}
use Rattle.std.specs.Prelude.{⊤, ◌*◌, ◌/◌}
use Rattle.std.specs.List.{flat_map}
use Rattle.std.specs.Option.{option_and_then}
use Rattle.std.proofs.lemmas.List.{append-nil}
use Rattle.std.proofs.lemmas.Grind.{flat_map-append}
use Rattle.mm_model.specs.declared.command.Command.{Command}
use Rattle.mm_model.specs.declared.command.Command.TheVariants as commands
use Rattle.mm_model.specs.declared.reply.Reply.{Reply}
use Rattle.mm_model.specs.declared.reply.Reply.TheVariants as replies
use Rattle.mm_model.specs.State.{State}
use Rattle.mm_model.specs.Logs.Turns.{Turn, Born, births_of, births_in, births_if, born_at, reply_of}
use Rattle.mm_pace.specs.Recent.{extent_born}
use Rattle.mm_pace.specs.Rules.{Rule, rules_at, due_step, due_finish, due_begin, command_if, step_for, last_turn}
use Rattle.mm_pace.specs.Rules.{runs_after}
use Rattle.mm_pace.specs.Paced.{Stretch, turns_in, commands_in, list_of, AreAdded, AreRuled, IsPaced}

-- whatever it replies, the command bears nothing
abbrev BearsNothing : Command → Type 0
BearsNothing command = (a : State) (base : ℕ) → born_at a command base ≡ []

abbrev DueBearsNothing : Option Command → Type 0
DueBearsNothing due = (command : Command) → due ≡ Some command → BearsNothing command

abbrev BearNothing : List Rule → Type 0
BearNothing [] = ⊤
BearNothing (rule ∷ rules) = ((turns : List Turn) → DueBearsNothing (rule turns)) × BearNothing rules

none-due : DueBearsNothing None
none-due command e = cc

-- a step is due, or nothing
step-due : (rate : ℕ) (turns : List Turn) → DueBearsNothing (due_step rate turns)
step-due rate turns = split (runs_after turns) (last_turn turns)
  where
    one : (births : List Born) → DueBearsNothing (step_for rate births)
    one [] command e = cc
    one (born ∷ births) command e =
        let same : commands.Step (rate * extent_born born / 16) ≡ command = cc in
        subst BearsNothing same (λ a base. refl)

    split : (runs : Bool) (last : Option Turn)
        → DueBearsNothing (cond runs (option_and_then (λ (t : Turn). step_for rate (births_of t)) last) None)
    split false last = none-due
    split true None = none-due
    split true (Some turn) = one (births_of turn)

command-due : (due : Bool) (command : Command) → BearsNothing command → DueBearsNothing (command_if due command)
command-due false command nothing other e = cc
command-due true command nothing other e =
    let same : command ≡ other = cc in subst BearsNothing same nothing

rules-nothing : (rate : ℕ) → BearNothing (rules_at rate)
rules-nothing rate = (
  step-due rate,
  (
    (λ turns. command-due _ commands.Finish (λ a base. refl)),
    ((λ turns. command-due _ commands.Begin (λ a base. refl)), tt),
  ),
)

reply-nothing : (a : State) (command : Command) (reply : Option Reply) → BearsNothing command
    → births_if a command reply ≡ []
reply-nothing a command None nothing = refl
reply-nothing a command (Some replies.Done) nothing = refl
reply-nothing a command (Some replies.Loose) nothing = refl
reply-nothing a command (Some (replies.New base)) nothing = nothing a base
reply-nothing a command (Some (replies.Word word)) nothing = refl
reply-nothing a command (Some (replies.Area area)) nothing = refl
reply-nothing a command (Some (replies.Object found)) nothing = refl
reply-nothing a command (Some replies.Nothing) nothing = refl
reply-nothing a command (Some (replies.Stat stat)) nothing = refl
reply-nothing a command (Some (replies.Refused because)) nothing = refl

births-due : (due : Option Command) (turns : List Turn) → DueBearsNothing due → commands_in turns ≡ list_of due
    → births_in turns ≡ []
births-due due [] nothing e = refl
births-due None (turn ∷ turns) nothing e = cc
births-due (Some command) (turn ∷ []) nothing e =
    let same : command ≡ turn.command = cc in
    append-nil (births_of turn)
    ∙ reply-nothing turn.before turn.command (reply_of turn) (subst BearsNothing same (nothing command refl))
births-due (Some command) (turn ∷ next ∷ turns) nothing e = cc

births-added : (rules : List Rule) (earlier added : List Turn) → BearNothing rules → AreAdded rules earlier added
    → births_in added ≡ []
births-added [] earlier added nothing e = ap births_in e
births-added (rule ∷ rules) earlier added nothing are =
    let here = births-due (rule earlier) are.0 (nothing.0 earlier) are.3 in
    let rest = births-added rules (earlier ++ are.0) are.1 nothing.1 are.4 in
    ap births_in are.2 ∙ flat_map-append births_of are.0 are.1
    ∙ (λ i. here i ++ rest i)

births-ruled : (rate : ℕ) (earlier : List Turn) (stretches : List Stretch) → AreRuled rate earlier stretches
    → births_in (flat_map turns_in stretches) ≡ births_in (map (λ (s : Stretch). s.own) stretches)
births-ruled rate earlier [] ruled = refl
births-ruled rate earlier (stretch ∷ stretches) ruled =
    let here = births-added (rules_at rate) (earlier ++ stretch.own ∷ []) stretch.added (rules-nothing rate) ruled.0 in
    let rest = births-ruled rate (earlier ++ turns_in stretch) stretches ruled.1 in
    ap (λ (births : List Born). births_of stretch.own ++ births)
    (flat_map-append births_of stretch.added (flat_map turns_in stretches) ∙ (λ i. here i ++ rest i))

pub births-paced : (rate : ℕ) (trace : List Command) (turns own : List Turn) → IsPaced rate trace turns own
    → births_in turns ≡ births_in own
births-paced rate trace turns own paced =
    sym (ap births_in paced.turns_are) ∙ births-ruled rate [] paced.stretches paced.ruled
    ∙ ap births_in paced.own_are
