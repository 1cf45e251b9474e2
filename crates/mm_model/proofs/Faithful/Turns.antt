-- The turns of a log are determined by settings, commands and log.
use Rattle.std.proofs.Common.{◌≡◌, true, List, [], ◌∷◌, ◌++◌, map, refl, sym, ap, ◌∙◌, subst}
use Rattle.std.specs.Prelude.{IsTrue}
use Rattle.std.specs.List.{AllByRecursion, flat_map}
use Rattle.mm_model.specs.declared.command.Command.{Command}
use Rattle.mm_model.specs.declared.line.Line.{Line}
use Rattle.mm_model.specs.declared.line.Line.TheVariants as lines
use Rattle.mm_model.specs.declared.settings.Settings.{Settings}
use Rattle.mm_model.specs.State.{State, empty_state}
use Rattle.mm_model.specs.After.{after}
use Rattle.mm_model.specs.Logs.Turns.{Turn, is_group, AreJoined, AreTurns}

-- two groups in front of the same lines are one
pub group-same : (group other rest more : List Line) → is_group group ≡ true → is_group other ≡ true
    → group ++ rest ≡ other ++ more → (group ≡ other) × (rest ≡ more)
group-same [] other rest more p q e = cc
group-same (line ∷ group) [] rest more p q e = cc
group-same (lines.Reply reply ∷ []) (next ∷ []) rest more p q e =
    let first : lines.Reply reply ≡ next = cc in
    (ap (λ (l : Line). l ∷ []) first, cc)
group-same (lines.Reply reply ∷ []) (next ∷ line ∷ other) rest more p q e =
    let first : lines.Reply reply ≡ next = cc in
    let none : is_group (lines.Reply reply ∷ line ∷ other) ≡ true =
    subst (λ l. is_group (l ∷ line ∷ other) ≡ true) (sym first) q in
    cc
group-same (lines.Reply reply ∷ line ∷ group) (next ∷ other) rest more p q e = cc
group-same (line ∷ group) (next ∷ other) rest more p q e =
    let first : line ≡ next = cc in
    let behind : group ++ rest ≡ other ++ more = cc in
    let both = group-same group other rest more p (subst (λ l. is_group (l ∷ other) ≡ true) (sym first) q) behind in
    (ap (λ (l : Line). l ∷ group) first ∙ ap (λ (ls : List Line). next ∷ ls) both.0, both.1)

groups-same : (turns others : List Turn) (a : State)
    → map (λ (t : Turn). t.command) turns ≡ map (λ (t : Turn). t.command) others
    → flat_map (λ (t : Turn). t.group) turns ≡ flat_map (λ (t : Turn). t.group) others
    → AllByRecursion (λ turn. IsTrue (is_group turn.group)) turns
    → AllByRecursion (λ turn. IsTrue (is_group turn.group)) others → AreJoined a turns → AreJoined a others
    → turns ≡ others
groups-same [] [] a c g p q j k = refl
groups-same [] (other ∷ others) a c g p q j k = cc
groups-same (turn ∷ turns) [] a c g p q j k = cc
groups-same (turn ∷ turns) (other ∷ others) a c g p q j k =
    let command : turn.command ≡ other.command = cc in
    let later : map (λ (t : Turn). t.command) turns ≡ map (λ (t : Turn). t.command) others = cc in
    let groups = group-same turn.group other.group (flat_map (λ (t : Turn). t.group) turns)
    (flat_map (λ (t : Turn). t.group) others) p.0 q.0 g in
    let before : turn.before ≡ other.before = j.0 ∙ sym k.0 in
    let next : turn.after ≡ other.after =
    j.1 ∙ (λ i. after (before i) (command i) (groups.0 i)) ∙ sym k.1 in
    let first : turn ≡ other =
    λ i. record { before = before i; command = command i; group = groups.0 i; after = next i } in
    let rest = groups-same turns others turn.after later groups.1 p.1 q.1 j.2
    (subst (λ s. AreJoined s others) (sym next) k.2) in
    ap (λ (t : Turn). t ∷ turns) first ∙ ap (λ (ts : List Turn). other ∷ ts) rest

pub turns-same : (settings : Settings) (commands : List Command) (log : List Line) (turns others : List Turn)
    → AreTurns settings commands log turns → AreTurns settings commands log others → turns ≡ others
turns-same settings commands log turns others p q =
    groups-same turns others (empty_state settings) (p.each_command ∙ sym q.each_command) (p.cut ∙ sym q.cut) p.groups
    q.groups p.joined q.joined
