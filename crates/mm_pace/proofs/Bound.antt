-- Where a cycle runs after what the rules added, it hasn't reached its end yet.
use Rattle.std.proofs.Common.{◌≡◌, ℕ, ◌+◌, ◌*◌, ◌<◌, Bool, true, false, cond, not, ◌&&◌, List, [], ◌∷◌, ◌++◌}
use Rattle.std.proofs.Common.{Option, refl, sym, ap, ◌∙◌, subst, append_assoc, arith}
use Rattle.std.proofs.lemmas.List.{append-nil}
use Rattle.std.proofs.lemmas.Bool.Decides.{nat_tests}
use Rattle.std.specs.Prelude.{nat_le, nat_lt}
use Rattle.std.specs.List.{flat_map, sum_by}
use Rattle.std.specs.Option.{option_map_or}
use Rattle.mm_model.specs.declared.command.Command.{Command}
use Rattle.mm_model.specs.declared.command.Command.TheVariants as commands
use Rattle.mm_model.specs.declared.reply.Reply.{Reply}
use Rattle.mm_model.specs.declared.settings.Settings.{Settings}
use Rattle.mm_model.specs.State.{State, empty_state}
use Rattle.mm_model.specs.Step.{IsStep}
use Rattle.mm_model.specs.Logs.Turns.{Turn, AreSteps, begins, births_of, births_if, is_refusal, is_begin}
use Rattle.mm_pace.specs.Work.{work_of, is_running}
use Rattle.mm_pace.specs.Recent.{changes_cycle, extent_born, since, work_begun}
use Rattle.mm_pace.specs.Rules.{command_if, due_finish, due_begin, rules_at, runs_after, work_after}
use Rattle.mm_pace.specs.Paced.{Stretch, turns_in, commands_in, list_of, AreAdded, AreRuled, EachOwn, IsPaced}
use Rattle.mm_pace.proofs.Beginning.{begin-step, finish-step}
use Rattle.mm_pace.proofs.Joined.{steps-cut, steps-join, runs_after-steps, work_after-steps}
use Rattle.mm_pace.proofs.OneMore.{bytes_in, since-more, work_begun-more}

-- the bytes since, times the rate, are below 16 times the work, where a cycle runs
abbrev pub IsInTime : ℕ → List Turn → State → Type 0
IsInTime rate turns a = is_running a ≡ true → rate * since turns < 16 * work_begun turns

-- turns of no command, and of one
pub none_carried : (turns : List Turn) → commands_in turns ≡ [] → turns ≡ []
none_carried [] e = refl
none_carried (turn ∷ turns) e = cc

pub record IsOneTurn (turns : List Turn) (command : Command) : Type 0 where
  pub turn : Turn
  pub is : turns ≡ turn ∷ []
  pub carries : turn.command ≡ command

pub one_carried : (turns : List Turn) (command : Command) → commands_in turns ≡ command ∷ [] → IsOneTurn turns command
one_carried [] command e = cc
one_carried (turn ∷ turns) command e =
    let rest : commands_in turns ≡ [] = cc in
    let carries : turn.command ≡ command = cc in
    record { turn = turn; is = ap (λ (ts : List Turn). turn ∷ ts) (none_carried turns rest); carries = carries }

module _ (settings : Settings) (rate : ℕ) (turns : List Turn) (a : State)
    (steps : AreSteps (empty_state settings) turns a) where
  -- no turn changes nothing
  in_time-none : (more : List Turn) (b : State) → AreSteps a more b → more ≡ [] → IsInTime rate turns a
      → IsInTime rate (turns ++ more) b
  in_time-none more b added none fits =
      let same : b ≡ a = subst (λ (ts : List Turn). AreSteps a ts b) none added in
      let all : turns ++ more ≡ turns = ap (λ ts. turns ++ ts) none ∙ append-nil turns in
      subst (λ ts. IsInTime rate ts b) (sym all) (subst (IsInTime rate turns) (sym same) fits)

  -- after rule two a cycle runs only where its end isn't due
  pub in_time-finish : (more : List Turn) (b : State) → AreSteps a more b
      → commands_in more ≡ list_of (due_finish rate turns) → IsInTime rate (turns ++ more) b
  in_time-finish more b added are =
      split (runs_after turns) (nat_le (16 * work_begun turns) (rate * since turns)) refl refl
      are
    where
      split : (runs reached : Bool) → runs_after turns ≡ runs
          → nat_le (16 * work_begun turns) (rate * since turns) ≡ reached
          → commands_in more ≡ list_of (command_if (runs && reached) commands.Finish) → IsInTime rate (turns ++ more) b
      split false reached idle _ e =
          in_time-none more b added (none_carried more e)
          (λ runs. let no : is_running a ≡ false = sym (runs_after-steps settings turns a steps) ∙ idle in cc)
      split true false runs early e =
          in_time-none more b added (none_carried more e) (λ _. grind (arith, nat_tests))
      split true true runs late e =
          let one = one_carried more commands.Finish e in
          let own : AreSteps a (one.turn ∷ []) b = subst (λ (ts : List Turn). AreSteps a ts b) one.is added in
          let step : IsStep one.turn.before commands.Finish one.turn.group one.turn.after =
          subst (λ (c : Command). IsStep one.turn.before c one.turn.group one.turn.after) one.carries own.1 in
          let ran : is_running one.turn.before ≡ true =
          ap is_running own.0 ∙ sym (runs_after-steps settings turns a steps) ∙ runs in
          let ended : is_running b ≡ false = ap is_running own.2 ∙ finish-step one.turn.before one.turn.group
          one.turn.after ran step in
          λ still. cc

  -- a cycle that begins now has work, and nothing was born since
  begun-fits : (turn : Turn) → turn.before ≡ a → is_running a ≡ false → 0 < work_of a → turn.command ≡ commands.Begin
      → IsStep turn.before turn.command turn.group turn.after
      → rate * since (turns ++ turn ∷ []) < 16 * work_begun (turns ++ turn ∷ [])
  begun-fits turn before idle busy carries step =
      let was_idle : is_running turn.before ≡ false = ap is_running before ∙ idle in
      let begun = begin-step turn.before turn.group turn.after was_idle
      (subst (λ (c : Command). IsStep turn.before c turn.group turn.after) carries step) in
      let changes : changes_cycle turn ≡ true =
      ap (λ c. cond c (not (is_running turn.after)) (is_running turn.after)) was_idle ∙ begun.runs in
      let bears : births_of turn ≡ [] = ap (births_if turn.before turn.command) begun.reply in
      let begins_now : begins turn ≡ true =
      ap (λ (found : Option Reply). cond (option_map_or is_refusal found false) false (is_begin turn.command))
      begun.reply
      ∙ ap is_begin carries in
      let none : since (turns ++ turn ∷ []) ≡ 0 =
      since-more turns turn ∙ ap (λ c. cond c 0 (since turns) + bytes_in turn) changes
      ∙ ap (λ births. 0 + sum_by extent_born births) bears in
      let work : work_begun (turns ++ turn ∷ []) ≡ work_of a =
      work_begun-more turns turn ∙ ap (λ c. cond c (work_of turn.before) (work_begun turns)) begins_now
      ∙ ap work_of before in
      subst (λ n. rate * n < 16 * work_begun (turns ++ turn ∷ [])) (sym none)
      (subst (λ n. rate * 0 < 16 * n) (sym work) (omega arith))

  -- rule three keeps it so
  pub in_time-begin : (more : List Turn) (b : State) → AreSteps a more b → IsInTime rate turns a
      → commands_in more ≡ list_of (due_begin turns) → IsInTime rate (turns ++ more) b
  in_time-begin more b added fits are =
      split (runs_after turns) (nat_le 65536 (since turns)) (nat_lt 0 (work_after turns)) refl refl are
    where
      split : (runs reached works : Bool) → runs_after turns ≡ runs → nat_lt 0 (work_after turns) ≡ works
          → commands_in more ≡ list_of (command_if (not runs && reached && works) commands.Begin)
          → IsInTime rate (turns ++ more) b
      split true reached works _ _ e = in_time-none more b added (none_carried more e) fits
      split false false works _ _ e = in_time-none more b added (none_carried more e) fits
      split false true false _ _ e = in_time-none more b added (none_carried more e) fits
      split false true true idle works e =
          let one = one_carried more commands.Begin e in
          let own : AreSteps a (one.turn ∷ []) b = subst (λ (ts : List Turn). AreSteps a ts b) one.is added in
          let busy : nat_lt 0 (work_of a) ≡ true =
          ap (nat_lt 0) (sym (work_after-steps settings turns a steps)) ∙ works in
          let positive : 0 < work_of a = grind (arith, nat_tests) in
          let fits_now = begun-fits one.turn own.0 (sym (runs_after-steps settings turns a steps) ∙ idle) positive
          one.carries own.1 in
          λ _.
          subst (λ (ts : List Turn). rate * since (turns ++ ts) < 16 * work_begun (turns ++ ts)) (sym one.is) fits_now

-- Rules one, two and three, applied to the turns so far.
pub in_time-added : (settings : Settings) (rate : ℕ) (earlier added : List Turn) (a b : State)
    → AreSteps (empty_state settings) earlier a → AreSteps a added b → AreAdded (rules_at rate) earlier added
    → IsInTime rate (earlier ++ added) b
in_time-added settings rate earlier added a b before steps rules =
    let stepped = rules.0 in
    let two = rules.4 in
    let finished = two.0 in
    let three = two.4 in
    let begun = three.0 in
    let cut = steps-cut a stepped rules.1 b (subst (λ (ts : List Turn). AreSteps a ts b) rules.2 steps) in
    let next = steps-cut cut.mid finished two.1 b
    (subst (λ (ts : List Turn). AreSteps cut.mid ts b) two.2 cut.second) in
    let rest : two.1 ≡ begun = three.2 ∙ ap (λ ts. begun ++ ts) three.4 ∙ append-nil begun in
    let last : AreSteps next.mid begun b = subst (λ (ts : List Turn). AreSteps next.mid ts b) rest next.second in
    let first = steps-join (empty_state settings) earlier stepped a cut.mid before cut.first in
    let second = steps-join (empty_state settings) (earlier ++ stepped) finished cut.mid next.mid first next.first in
    let fits = in_time-begin settings rate (earlier ++ stepped ++ finished) next.mid second begun b last
    (in_time-finish settings rate (earlier ++ stepped) cut.mid first finished next.mid next.first two.3) three.3 in
    let all : earlier ++ stepped ++ finished ++ begun ≡ earlier ++ added =
    append_assoc (earlier ++ stepped) finished begun ∙ append_assoc earlier stepped (finished ++ begun)
    ∙ ap (λ ts. earlier ++ (stepped ++ (finished ++ ts))) (sym rest)
    ∙ ap (λ ts. earlier ++ (stepped ++ ts)) (sym two.2) ∙ ap (λ ts. earlier ++ ts) (sym rules.2) in
    subst (λ ts. IsInTime rate ts b) all fits

in_time-own : (settings : Settings) (rate : ℕ) (earlier : List Turn) (a b : State) (front : List Stretch)
    (stretch : Stretch) (later : List Stretch) → AreSteps (empty_state settings) earlier a → IsInTime rate earlier a
    → AreRuled rate earlier (front ++ stretch ∷ later)
    → AreSteps a (flat_map turns_in (front ++ stretch ∷ later)) b → is_running stretch.own.before ≡ true
    → rate * since (earlier ++ flat_map turns_in front) < 16 * work_begun (earlier ++ flat_map turns_in front)
in_time-own settings rate earlier a b [] stretch later before fits ruled steps runs =
    subst (λ ts. rate * since ts < 16 * work_begun ts) (sym (append-nil earlier))
    (fits (ap is_running (sym steps.0) ∙ runs))
in_time-own settings rate earlier a b (first ∷ front) stretch later before fits ruled steps runs =
    let own : List Turn = first.own ∷ [] in
    let others : List Turn = flat_map turns_in (front ++ stretch ∷ later) in
    let cut = steps-cut a own (first.added ++ others) b steps in
    let next = steps-cut cut.mid first.added others b cut.second in
    let with_own = steps-join (empty_state settings) earlier own a cut.mid before cut.first in
    let all : earlier ++ own ++ first.added ≡ earlier ++ turns_in first = append_assoc earlier own first.added in
    let after_all = steps-join (empty_state settings) (earlier ++ own) first.added cut.mid next.mid with_own
    next.first in
    let fits_after = in_time-added settings rate (earlier ++ own) first.added cut.mid next.mid with_own next.first
    ruled.0 in
    subst (λ ts. rate * since ts < 16 * work_begun ts)
    (append_assoc earlier (turns_in first) (flat_map turns_in front))
    (in_time-own settings rate (earlier ++ turns_in first) next.mid b front stretch later
    (subst (λ (ts : List Turn). AreSteps (empty_state settings) ts next.mid) all after_all)
    (subst (λ ts. IsInTime rate ts next.mid) all fits_after) ruled.1 next.second runs)

pub own-in_time : (settings : Settings) (rate : ℕ) (trace : List Command) (turns own : List Turn) (b : State)
    (paced : IsPaced rate trace turns own) → AreSteps (empty_state settings) turns b
    → EachOwn paced.stretches
    (λ earlier turn. is_running turn.before ≡ true → rate * since earlier < 16 * work_begun earlier)
own-in_time settings rate trace turns own b paced steps = λ front stretch later is runs.
    in_time-own settings rate [] (empty_state settings) b front stretch later refl (λ idle. cc)
    (subst (AreRuled rate []) (sym is) paced.ruled)
    (subst (λ ts. AreSteps (empty_state settings) (flat_map turns_in ts) b) (sym is)
    (subst (λ (ts : List Turn). AreSteps (empty_state settings) ts b) (sym paced.turns_are) steps)) runs
