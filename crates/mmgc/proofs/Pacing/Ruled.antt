-- What each rule adds, by what a pacer counts.
use Rattle.std.proofs.Common.{◌≡◌, ℕ, ◌+◌, ◌*◌, ◌/◌, ◌≤◌, Bool, true, false, cond, List, [], ◌∷◌, ◌++◌}
use Rattle.std.proofs.Common.{length, Option, Some, None, IsTrue, refl, sym, ap, ◌∙◌, arith}
use Rattle.std.proofs.lemmas.Bool.Decides.{nat_tests}
use Rattle.std.proofs.lemmas.List.Sums.{sum_by-cons}
use Rattle.std.specs.Prelude.{nat_le, nat_lt, IsNone, IfSome, ◌↔◌}
use Rattle.std.specs.List.{sum_by}
use Rattle.std.specs.Option.{option_map, option_map_or, option_and_then}
use Rattle.mm_model.specs.declared.command.Command.{Command}
use Rattle.mm_model.specs.declared.command.Command.TheVariants as commands
use Rattle.mm_model.specs.declared.reply.Reply.{Reply}
use Rattle.mm_model.specs.declared.reply.Reply.TheVariants as replies
use Rattle.mm_model.specs.Object.{live_objects}
use Rattle.mm_model.specs.Words.{scanned_slots}
use Rattle.mm_model.specs.State.{State, live_count}
use Rattle.mm_model.specs.Logs.Turns.{Turn, Born, births_of, births_if, born_at}
use Rattle.mm_model.proofs.Lists.Keyed.{refuted}
use Rattle.mm_pace.specs.Work.{work_of, is_running}
use Rattle.mm_pace.specs.Recent.{extent_born}
use Rattle.mm_pace.specs.Rules.{last_turn, step_for, due_step}

pub last_turn-push : (turns : List Turn) (turn : Turn) → last_turn (turns ++ turn ∷ []) ≡ Some turn
last_turn-push [] turn = refl
last_turn-push (x ∷ []) turn = refl
last_turn-push (x ∷ y ∷ turns) turn = last_turn-push (y ∷ turns) turn

-- the step for what was born in the last turn
pub due_step-push : (rate : ℕ) (turns : List Turn) (turn : Turn) → due_step rate (turns ++ turn ∷ [])
    ≡ cond (is_running turn.after) (step_for rate (births_of turn)) None
due_step-push rate turns turn =
    ap (λ (found : Option Turn). cond (option_map_or (λ (t : Turn). is_running t.after) found false)
    (option_and_then (λ (t : Turn). step_for rate (births_of t)) found) None) (last_turn-push turns turn)

-- one object at most is born in a turn
pub data AreFew : List Born → Type 0 where
  None_born : AreFew []
  One_born : (born : Born) → AreFew (born ∷ [])

pub births-few : (a : State) (command : Command) (reply : Option Reply) → AreFew (births_if a command reply)
births-few a command None = None_born
births-few a command (Some (replies.New base)) = at_base command
  where
    at_base : (c : Command) → AreFew (born_at a c base)
    at_base (commands.New shape) = One_born _
    at_base (commands.Weak i) = One_born _
    at_base c = None_born
births-few a command (Some reply) = None_born

-- The pacer's answer is the step of the rule, where each object has some bytes.
pub step-is : (rate last : ℕ) (births : List Born) (size : Option ℕ) → AreFew births
    → ((born : Born) → births ≡ born ∷ [] → 16 ≤ extent_born born)
    → last ≡ sum_by extent_born births → (IsNone size ↔ (last ≡ 0)) → IfSome size (λ k. k ≡ rate * last / 16)
    → option_map (λ k. commands.Step k) size ≡ step_for rate births
step-is rate last births None None_born some is none one = refl
step-is rate last births (Some k) None_born some is none one =
    let zero : last ≡ 0 = is in
    let no = none.1 zero in
    cc
step-is rate last births None (One_born born) some is none one =
    let zero : last ≡ 0 = none.0 refl in
    let least = some born refl in
    let all = sum_by-cons extent_born born [] in
    absurd (omega (arith, zero, least, all, is))
step-is rate last births (Some k) (One_born born) some is none one =
    let all : sum_by extent_born (born ∷ []) ≡ extent_born born = sum_by-cons extent_born born [] ∙ more in
    ap (λ n. Some (commands.Step n)) (one ∙ ap (λ n. rate * n / 16) (is ∙ all))
  where
    more : extent_born born + 0 ≡ extent_born born
    more = omega arith

-- there is work where an object lives
pub works-count : (a : State) → nat_lt 0 (work_of a) ≡ nat_lt 0 (live_count a)
works-count a = split (λ object. length (scanned_slots object)) (live_objects a.objects)
  where
    split : {X : Type 0} (f : X → ℕ) (xs : List X) → nat_lt 0 (length xs + sum_by f xs) ≡ nat_lt 0 (length xs)
    split f [] = refl
    split f (x ∷ xs) =
        let yes : nat_lt 0 (length (x ∷ xs) + sum_by f (x ∷ xs)) ≡ true = grind (arith, nat_tests) in
        let also : nat_lt 0 (length (x ∷ xs)) ≡ true = grind (arith, nat_tests) in
        yes ∙ sym also

-- a test that tells whether one number is at most another
pub test-le : (b : Bool) (m n : ℕ) → (IsTrue b ↔ (m ≤ n)) → b ≡ nat_le m n
test-le true m n is = let less = is.0 refl in let yes : nat_le m n ≡ true = grind (arith, nat_tests) in sym yes
test-le false m n is =
    sym (refuted (nat_le m n) (λ e. let less : m ≤ n = grind (arith, nat_tests) in clash (is.1 less)))
  where
    clash : false ≡ true → ⊥
    clash e = cc
