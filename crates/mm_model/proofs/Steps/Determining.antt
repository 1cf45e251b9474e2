-- The state before a command and the lines of its group determine the state after it.
use Rattle.std.proofs.Common.{◌≡◌, ℕ, Bool, true, false, cond, List, [], ◌∷◌, ◌++◌, Option, Some, None, sym, ap, ◌∙◌}
use Rattle.std.proofs.Common.{append_assoc, arith}
use Rattle.std.specs.Prelude.{nat_le}
use Rattle.std.specs.Option.{option_and_then, option_map_or}
use Rattle.std.proofs.lemmas.Bool.Decides.{nat_tests}
use Rattle.mm_model.specs.declared.command.Command.{Command}
use Rattle.mm_model.specs.declared.command.Command.TheVariants as commands
use Rattle.mm_model.specs.declared.refusal.Refusal.{Refusal}
use Rattle.mm_model.specs.declared.reply.Reply.{Reply}
use Rattle.mm_model.specs.declared.reply.Reply.TheVariants as replies
use Rattle.mm_model.specs.declared.line.Line.{Line}
use Rattle.mm_model.specs.declared.line.Line.TheVariants as lines
use Rattle.mm_model.specs.declared.line.Phase.TheVariants.{Reap, Collect}
use Rattle.mm_model.specs.Places.SizeClass.{object_bytes, area_bytes}
use Rattle.mm_model.specs.Places.Place.{Family, Objects, Areas, live_pieces}
use Rattle.mm_model.specs.Object.{Object}
use Rattle.mm_model.specs.State.{State, one_more_command}
use Rattle.mm_model.specs.Count.{zero_count}
use Rattle.mm_model.specs.Good.{IsGood, IsPlaced}
use Rattle.mm_model.specs.Meaning.{object_meant}
use Rattle.mm_model.specs.Sets.Marking.{part_done}
use Rattle.mm_model.specs.Phase.{phase_lines, reaped, collected}
use Rattle.mm_model.specs.Places.Search.{place_now, place_grown, Searches, At_once, After_reap, After_collection}
use Rattle.mm_model.specs.Sets.Scan.{AreScanned}
use Rattle.mm_model.specs.Effect.{Effect, done, new_effect, weak_effect, area_effect, pushes_object, plain_effect}
use Rattle.mm_model.specs.Refusing.{refusal}
use Rattle.mm_model.specs.Step.{Makes, IsPlain, MakesWeak, Carries, is_full, Ends, Refused_as_full, Below_threshold}
use Rattle.mm_model.specs.Step.{At_threshold, IsCarriedOut, IsStepUnless, IsStep}
use Rattle.mm_model.specs.After.{phases_in, scanned_bases, first_phase, later_phases, Searched, collected_unless}
use Rattle.mm_model.specs.After.{reaped_unless, searched, Row, row_made, part_done_at, parts_done, weak_row, row_after}
use Rattle.mm_model.specs.After.{ended, after_unless, after}
use Rattle.mm_model.proofs.Steps.Groups.{phases_in-phase_lines, scanned_bases-phase_lines}
use Rattle.mm_model.proofs.Good.LiveLists.{birth_at-lives}

-- parts that are scanned leave the objects as they are
parts_done-scanned : (a : State) → IsPlaced a.settings.max (live_pieces a) → (births : List ℕ) (log tail : List Line)
    (b : State) → AreScanned a births log b → scanned_bases tail ≡ []
    → parts_done a (scanned_bases (log ++ tail)) ≡ b
parts_done-scanned a placed [] log tail b scanned none =
    let log_is : log ≡ [] = scanned.0 in
    ap (λ log. parts_done a (scanned_bases (log ++ tail))) log_is ∙ ap (parts_done a) none ∙ sym scanned.1
parts_done-scanned a placed (birth ∷ births) log tail b scanned none =
    let object = scanned.0 in
    let rest = scanned.1 in
    ap (λ log. parts_done a (scanned_bases (log ++ tail))) scanned.3
    ∙ ap (λ found. parts_done (part_done_at a found) (scanned_bases (rest ++ tail)))
    (birth_at-lives a placed birth object scanned.2.lives)
    ∙ ap
    (λ (found : Option Object).
    parts_done (option_map_or (part_done a birth) found a) (scanned_bases (rest ++ tail)))
    scanned.2.lives.is
    ∙ parts_done-scanned (part_done a birth object) placed births rest tail b scanned.4 none

-- what a search comes to, and the phases that follow it in the group
abbrev searched_as : State → Option ℕ → List (List ℕ) → Searched
searched_as state found rest = record { state = state; found = found; rest = rest }

module _ (a : State) (family : Family) (bytes : ℕ) where
  searched-reap : (dead : List ℕ) (rest : List (List ℕ)) → place_now a family bytes ≡ None
      → searched a family bytes (dead ∷ rest)
      ≡ collected_unless (place_grown (reaped dead a) family bytes) (reaped dead a) family bytes rest
  searched-reap dead rest none =
      ap (λ (place : Option ℕ). reaped_unless place a family bytes (dead ∷ rest)) none

  searched-is : (log tail : List Line) (b : State) (found : Option ℕ) → Searches a family bytes log b found
      → searched a family bytes (phases_in (log ++ tail)) ≡ searched_as b found (phases_in tail)
  searched-is log tail b found (At_once base here log_is b_is found_is) =
      ap (λ log. searched a family bytes (phases_in (log ++ tail))) log_is
      ∙ ap (λ (place : Option ℕ). reaped_unless place a family bytes (phases_in tail)) here
      ∙ ap (λ (s : State). searched_as s (Some base) (phases_in tail)) (sym b_is)
      ∙ ap (λ (o : Option ℕ). searched_as b o (phases_in tail)) (sym found_is)
  searched-is log tail b found (After_reap base dead none are here log_is b_is found_is) =
      ap (λ log. searched a family bytes (phases_in (log ++ tail))) log_is
      ∙ ap (searched a family bytes) (phases_in-phase_lines Reap a dead tail)
      ∙ searched-reap dead (phases_in tail) none
      ∙ ap (λ (place : Option ℕ). collected_unless place (reaped dead a) family bytes (phases_in tail)) here
      ∙ ap (λ (s : State). searched_as s (Some base) (phases_in tail)) (sym b_is)
      ∙ ap (λ (o : Option ℕ). searched_as b o (phases_in tail)) (sym found_is)
  searched-is log tail b found (After_collection dead lost none are still_none gone log_is b_is found_is) =
      let after_reap : State = reaped dead a in
      let second : List Line = phase_lines Collect after_reap lost in
      ap (λ log. searched a family bytes (phases_in (log ++ tail))) log_is
      ∙ ap (λ log. searched a family bytes (phases_in log)) (append_assoc (phase_lines Reap a dead) second tail)
      ∙ ap (searched a family bytes) (phases_in-phase_lines Reap a dead (second ++ tail))
      ∙ ap (λ (rest : List (List ℕ)). searched a family bytes (dead ∷ rest))
      (phases_in-phase_lines Collect after_reap lost tail)
      ∙ searched-reap dead (lost ∷ phases_in tail) none
      ∙ ap (λ (place : Option ℕ). collected_unless place after_reap family bytes (lost ∷ phases_in tail)) still_none
      ∙ ap (λ (s : State). searched_as s (place_grown (collected lost after_reap) family bytes) (phases_in tail))
      (sym b_is)
      ∙ ap (λ (o : Option ℕ). searched_as b o (phases_in tail)) (sym found_is)

-- what a row comes to
abbrev pub row_as : Effect → List (List ℕ) → Row
row_as effect rest = record { effect = effect; rest = rest }

row-makes : (a : State) (family : Family) (bytes : ℕ) (then : State → Option ℕ → Effect) (log tail : List Line)
    (effect : Effect) → Makes a family bytes then log effect
    → row_made (searched a family bytes (phases_in (log ++ tail))) then ≡ row_as effect (phases_in tail)
row-makes a family bytes then log tail effect makes =
    ap (λ (s : Searched). row_made s then)
    (searched-is a family bytes log tail makes.state makes.found makes.search)
    ∙ ap (λ (e : Effect). row_as e (phases_in tail)) (sym makes.effect_is)

row-plain : (log tail : List Line) (effect is : Effect) → IsPlain log effect is
    → row_as is (phases_in (log ++ tail)) ≡ row_as effect (phases_in tail)
row-plain log tail effect is plain =
    ap (λ log. row_as is (phases_in (log ++ tail))) plain.no_lines
    ∙ ap (λ (e : Effect). row_as e (phases_in tail)) (sym plain.effect_is)

row-weak : (a : State) (target : ℕ) (partner : Option ℕ) (log tail : List Line) (effect : Effect)
    → MakesWeak a target partner log effect
    → weak_row a (Some target) partner (phases_in (log ++ tail)) ≡ row_as effect (phases_in tail)
row-weak a target (Some weak) log tail effect makes = row-plain log tail effect (pushes_object a weak) makes
row-weak a target None log tail effect makes =
    row-makes a Objects (object_bytes 0) (λ b found. weak_effect b target found) log tail effect makes

effect-done : (effect : Effect) (b : State) → b ≡ effect.state → effect.reply ≡ replies.Done → done b ≡ effect
effect-done effect b state_is reply_is =
    ap done state_is ∙ ap (λ (r : Reply). record { state = effect.state; reply = r }) (sym reply_is)

-- a row of one phase
module _ (a : State) (left : List ℕ → State → State) where
  abbrev phase_row : List (List ℕ) → Row
  phase_row phases = row_as (done (left (first_phase phases) a)) (later_phases phases)

  row-phase : (log tail : List Line) (bases : List ℕ) (effect : Effect)
      → phases_in (log ++ tail) ≡ bases ∷ phases_in tail → effect.state ≡ left bases a → effect.reply ≡ replies.Done
      → phase_row (phases_in (log ++ tail)) ≡ row_as effect (phases_in tail)
  row-phase log tail bases effect read state_is reply_is =
      ap phase_row read
      ∙ ap (λ (e : Effect). row_as e (phases_in tail)) (effect-done effect (left bases a) (sym state_is) reply_is)

-- scans free nothing
phases_in-scanned : (a : State) (births : List ℕ) (log tail : List Line) (b : State) → AreScanned a births log b
    → phases_in (log ++ tail) ≡ phases_in tail
phases_in-scanned a [] log tail b scanned = ap (λ log. phases_in (log ++ tail)) scanned.0
phases_in-scanned a (birth ∷ births) log tail b scanned =
    ap (λ log. phases_in (log ++ tail)) scanned.3
    ∙ phases_in-scanned (part_done a birth scanned.0) births scanned.1 tail b scanned.4

-- Each row is read back from its lines, whatever follows them that scans nothing.
pub row-is : (a : State) (command : Command) (log tail : List Line) (effect : Effect)
    → IsPlaced a.settings.max (live_pieces a) → Carries a command log effect → scanned_bases tail ≡ []
    → row_after a command (log ++ tail) ≡ row_as effect (phases_in tail)
row-is a (commands.New shape) log tail effect placed carries none =
    row-makes a Objects (object_bytes shape.slots) (λ b found. new_effect b shape found) log tail effect carries
row-is a (commands.Weak i) log tail effect placed carries none =
    ap (λ (target : Option ℕ).
    weak_row a target (option_and_then (λ object. object.partner) (object_meant a i)) (phases_in (log ++ tail)))
    carries.target_is
    ∙ ap (λ (object : Option Object).
    weak_row a (Some carries.target) (option_and_then (λ object. object.partner) object) (phases_in (log ++ tail)))
    carries.object_is
    ∙ row-weak a carries.target carries.object.partner log tail effect carries.makes
row-is a (commands.Root counted cells) log tail effect placed carries none =
    row-makes a Areas (area_bytes cells) (λ b found. area_effect b true counted cells found) log tail effect carries
row-is a (commands.Fixed cells) log tail effect placed carries none =
    row-makes a Areas (area_bytes cells) (λ b found. area_effect b false 0 cells found) log tail effect carries
row-is a commands.Reap log tail effect placed carries none =
    let reaps = carries.0 in
    row-phase a reaped log tail reaps.dead effect
    (ap (λ log. phases_in (log ++ tail)) reaps.log_is ∙ phases_in-phase_lines Reap a reaps.dead tail)
    reaps.state carries.1
row-is a commands.Collect log tail effect placed carries none =
    let collects = carries.0 in
    row-phase a collected log tail collects.lost effect
    (ap (λ log. phases_in (log ++ tail)) collects.log_is ∙ phases_in-phase_lines Collect a collects.lost tail)
    collects.state carries.1
row-is a commands.Finish log tail effect placed carries none =
    let finishes = carries.0 in
    row-phase a collected log tail finishes.lost effect
    (ap (λ log. phases_in (log ++ tail)) finishes.log_is ∙ phases_in-phase_lines Collect a finishes.lost tail)
    finishes.state carries.1
row-is a (commands.Step k) log tail effect placed carries none =
    let scans = carries.0 in
    ap (λ (e : Effect). row_as e (phases_in (log ++ tail)))
    (effect-done effect (parts_done a (scanned_bases (log ++ tail)))
    (parts_done-scanned a placed scans.births log tail effect.state scans.scanned none) carries.1)
    ∙ ap (λ (rest : List (List ℕ)). row_as effect rest)
    (phases_in-scanned a scans.births log tail effect.state scans.scanned)
row-is a command log tail effect placed carries none = row-plain log tail effect (plain_effect a command) carries

-- the reap at the end scans nothing, and is read back from its lines
module _ (a : State) (full : Bool) (end : State) (reply : Reply) where
  abbrev pub replied : List Line → List Line
  replied log = log ++ lines.Reply reply ∷ []

  pub scanned_bases-end : (log : List Line) → Ends a full log end → scanned_bases (replied log) ≡ []
  scanned_bases-end log (Refused_as_full is log_is end_is) = ap (λ log. scanned_bases (replied log)) log_is
  scanned_bases-end log (Below_threshold is below log_is end_is) = ap (λ log. scanned_bases (replied log)) log_is
  scanned_bases-end log (At_threshold is reached reaps) =
      ap (λ log. scanned_bases (replied log)) reaps.log_is
      ∙ scanned_bases-phase_lines Reap a reaps.dead (lines.Reply reply ∷ [])

  abbrev end_of : Bool → Bool → List (List ℕ) → State
  end_of full reached phases = cond full a (cond reached (reaped (first_phase phases) a) a)

  end-is : (log : List Line) → Ends a full log end
      → end_of full (nat_le a.threshold (zero_count a)) (phases_in (replied log)) ≡ end
  end-is log (Refused_as_full is log_is end_is) =
      ap (λ (b : Bool). end_of b (nat_le a.threshold (zero_count a)) (phases_in (replied log))) is ∙ sym end_is
  end-is log (Below_threshold is below log_is end_is) =
      let short : nat_le a.threshold (zero_count a) ≡ false = grind (arith, nat_tests) in
      ap (λ (b : Bool). end_of b (nat_le a.threshold (zero_count a)) (phases_in (replied log))) is
      ∙ ap (λ (b : Bool). end_of false b (phases_in (replied log))) short ∙ sym end_is
  end-is log (At_threshold is reached reaps) =
      let long : nat_le a.threshold (zero_count a) ≡ true = grind (arith, nat_tests) in
      ap (λ (b : Bool). end_of b (nat_le a.threshold (zero_count a)) (phases_in (replied log))) is
      ∙ ap (λ (b : Bool). end_of false b (phases_in (replied log))) long
      ∙ ap (λ log. end_of false true (phases_in (replied log))) reaps.log_is
      ∙ ap (end_of false true) (phases_in-phase_lines Reap a reaps.dead (lines.Reply reply ∷ []))
      ∙ sym reaps.state

-- the lines behind the row's own
abbrev pub tail_of : {a : State} {command : Command} {group : List Line} {b : State} → IsCarriedOut a command group b
    → List Line
tail_of step = step.end_log ++ lines.Reply step.effect.reply ∷ []

module _ (a : State) (command : Command) (group : List Line) (b : State)
    (placed : IsPlaced a.settings.max (live_pieces a))
    (step : IsCarriedOut a command group b) where
  -- the row of a command that is carried out, as it is read back from the group
  pub row_after-carried : row_after a command group ≡ row_as step.effect (phases_in (tail_of step))
  row_after-carried =
      let full = is_full step.effect.reply in
      let none = scanned_bases-end step.effect.state full step.end step.effect.reply step.end_log step.ends in
      ap (row_after a command)
      (step.group_is ∙ append_assoc step.log step.end_log (lines.Reply step.effect.reply ∷ []))
      ∙ row-is a command step.log (tail_of step) step.effect placed step.carries none

  carried_out-is : b ≡ one_more_command (after_unless None a command group)
  carried_out-is =
      step.state_is
      ∙ ap one_more_command
      (sym (ap ended row_after-carried
      ∙ end-is step.effect.state (is_full step.effect.reply) step.end step.effect.reply step.end_log step.ends))

step-is : (a : State) (command : Command) (group : List Line) (b : State) → IsPlaced a.settings.max (live_pieces a)
    → (refused : Option Refusal) → IsStepUnless refused a command group b
    → b ≡ one_more_command (after_unless refused a command group)
step-is a command group b placed None step = carried_out-is a command group b placed step
step-is a command group b placed (Some because) step = step.state_is

pub lines_determine_the_state : (a : State) (command : Command) (group : List Line) (b : State) → IsGood a
    → IsStep a command group b → b ≡ after a command group
lines_determine_the_state a command group b good step =
    step-is a command group b good.placed (refusal a command) step

pub one_group_leads_to_one_state : (a : State) (command : Command) (group : List Line) (b c : State) → IsGood a
    → IsStep a command group b → IsStep a command group c → b ≡ c
one_group_leads_to_one_state a command group b c good step other =
    lines_determine_the_state a command group b good step
    ∙ sym (lines_determine_the_state a command group c good other)
