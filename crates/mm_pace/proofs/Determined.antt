-- Settings, rate, trace and log determine a paced list.
use Rattle.std.proofs.Common.{◌≡◌, ℕ, List, [], ◌∷◌, ◌++◌, map, Some, refl, sym, ap, ◌∙◌, subst, append_assoc}
use Rattle.std.proofs.lemmas.Grind.{flat_map-append}
use Rattle.std.specs.Prelude.{IsTrue}
use Rattle.std.specs.List.{AllByRecursion, flat_map}
use Rattle.mm_model.specs.declared.command.Command.{Command}
use Rattle.mm_model.specs.declared.line.Line.{Line}
use Rattle.mm_model.specs.declared.settings.Settings.{Settings}
use Rattle.mm_model.specs.State.{State, empty_state}
use Rattle.mm_model.specs.After.{after}
use Rattle.mm_model.specs.Logs.Turns.{Turn, is_group, AreJoined}
use Rattle.mm_model.proofs.Faithful.Turns.{group-same}
use Rattle.mm_pace.specs.Rules.{Rule, rules_at}
use Rattle.mm_pace.specs.Paced.{Stretch, turns_in, commands_in, AreAdded, AreRuled, IsPacedList}

abbrev lines_in : List Turn → List Line
lines_in turns = flat_map (λ (t : Turn). t.group) turns

abbrev AreGroups : List Turn → Type 0
AreGroups turns = AllByRecursion (λ (t : Turn). IsTrue (is_group t.group)) turns

lines-append : (turns more : List Turn) (rest : List Line)
    → lines_in (turns ++ more) ++ rest ≡ lines_in turns ++ (lines_in more ++ rest)
lines-append turns more rest =
    ap (λ lines. lines ++ rest) (flat_map-append (λ (t : Turn). t.group) turns more)
    ∙ append_assoc (lines_in turns) (lines_in more) rest

-- the state that turns leave
left_by : State → List Turn → State
left_by a [] = a
left_by a (turn ∷ turns) = left_by turn.after turns

groups-cut : (turns more : List Turn) → AreGroups (turns ++ more) → AreGroups turns × AreGroups more
groups-cut [] more groups = (tt, groups)
groups-cut (turn ∷ turns) more groups =
    let rest = groups-cut turns more groups.1 in
    ((groups.0, rest.0), rest.1)

joined-cut : (a : State) (turns more : List Turn) → AreJoined a (turns ++ more)
    → AreJoined a turns × AreJoined (left_by a turns) more
unfolding left_by
joined-cut a [] more joined = (tt, joined)
joined-cut a (turn ∷ turns) more joined =
    let rest = joined-cut turn.after turns more joined.2 in
    ((joined.0, joined.1, rest.0), rest.1)

-- turns that follow one another from a state, with the lines behind them
record AreTold (a : State) (turns : List Turn) : Type 0 where
  groups : AreGroups turns
  joined : AreJoined a turns

told-cut : (a : State) (turns more : List Turn) → AreTold a (turns ++ more)
    → AreTold a turns × AreTold (left_by a turns) more
told-cut a turns more told =
    let groups = groups-cut turns more told.groups in
    let joined = joined-cut a turns more told.joined in
    (record { groups = groups.0; joined = joined.0 }, record { groups = groups.1; joined = joined.1 })

-- turns of the same commands in front of the same lines are the same
front-same : (a : State) (turns others : List Turn) (rest more : List Line) → commands_in turns ≡ commands_in others
    → lines_in turns ++ rest ≡ lines_in others ++ more → AreTold a turns → AreTold a others
    → (turns ≡ others) × (rest ≡ more)
front-same a [] [] rest more commands lines p q = (refl, lines)
front-same a [] (other ∷ others) rest more commands lines p q = cc
front-same a (turn ∷ turns) [] rest more commands lines p q = cc
front-same a (turn ∷ turns) (other ∷ others) rest more commands lines p q =
    let command : turn.command ≡ other.command = cc in
    let later : commands_in turns ≡ commands_in others = cc in
    let groups = group-same turn.group other.group (lines_in turns ++ rest) (lines_in others ++ more) p.groups.0
    q.groups.0
    (sym (append_assoc turn.group (lines_in turns) rest) ∙ lines
    ∙ append_assoc other.group (lines_in others) more) in
    let before : turn.before ≡ other.before = p.joined.0 ∙ sym q.joined.0 in
    let next : turn.after ≡ other.after =
    p.joined.1 ∙ (λ i. after (before i) (command i) (groups.0 i)) ∙ sym q.joined.1 in
    let first : turn ≡ other =
    λ i. record { before = before i; command = command i; group = groups.0 i; after = next i } in
    let both = front-same turn.after turns others rest more later groups.1
    (record { groups = p.groups.1; joined = p.joined.2 })
    (record { groups = q.groups.1; joined = subst (λ s. AreJoined s others) (sym next) q.joined.2 }) in
    (ap (λ (t : Turn). t ∷ turns) first ∙ ap (λ (ts : List Turn). other ∷ ts) both.0, both.1)

-- what rules add is the same
added-same : (rules : List Rule) (earlier : List Turn) (a : State) (added others : List Turn) (rest more : List Line)
    → AreAdded rules earlier added → AreAdded rules earlier others
    → lines_in added ++ rest ≡ lines_in others ++ more → AreTold a added → AreTold a others
    → (added ≡ others) × (rest ≡ more)
added-same [] earlier a added others rest more p q lines told known =
    (p ∙ sym q, ap (λ ts. lines_in ts ++ rest) (sym p) ∙ lines ∙ ap (λ ts. lines_in ts ++ more) q)
added-same (rule ∷ rules) earlier a added others rest more p q lines told known =
    let here = told-cut a p.0 p.1 (subst (AreTold a) p.2 told) in
    let there = told-cut a q.0 q.1 (subst (AreTold a) q.2 known) in
    let same = front-same a p.0 q.0 (lines_in p.1 ++ rest) (lines_in q.1 ++ more) (p.3 ∙ sym q.3)
    (sym (lines-append p.0 p.1 rest) ∙ ap (λ ts. lines_in ts ++ rest) (sym p.2) ∙ lines
    ∙ ap (λ ts. lines_in ts ++ more) q.2 ∙ lines-append q.0 q.1 more) here.0 there.0 in
    let later = added-same rules (earlier ++ p.0) (left_by a p.0) p.1 q.1 rest more p.4
    (subst (λ ts. AreAdded rules (earlier ++ ts) q.1) (sym same.0) q.4) same.1 here.1
    (subst (λ ts. AreTold (left_by a ts) q.1) (sym same.0) there.1) in
    (p.2 ∙ ap (λ ts. ts ++ p.1) same.0 ∙ ap (λ ts. q.0 ++ ts) later.0 ∙ sym q.2, later.1)

-- the turn of the trace's command, as if a rule added it
own-added : (rate : ℕ) (earlier : List Turn) (stretch : Stretch) (command : Command) → stretch.own.command ≡ command
    → AreAdded (rules_at rate) (earlier ++ stretch.own ∷ []) stretch.added
    → AreAdded ((λ _. Some command) ∷ rules_at rate) earlier (turns_in stretch)
own-added rate earlier stretch command carries added =
    (stretch.own ∷ [], stretch.added, refl, ap (λ (c : Command). c ∷ []) carries, added)

abbrev own_commands : List Stretch → List Command
own_commands stretches = map (λ (s : Stretch). s.own.command) stretches

stretches-same : (rate : ℕ) (earlier : List Turn) (a : State) (stretches others : List Stretch)
    → own_commands stretches ≡ own_commands others → AreRuled rate earlier stretches → AreRuled rate earlier others
    → lines_in (flat_map turns_in stretches) ≡ lines_in (flat_map turns_in others)
    → AreTold a (flat_map turns_in stretches) → AreTold a (flat_map turns_in others) → stretches ≡ others
stretches-same rate earlier a [] [] commands p q lines told known = refl
stretches-same rate earlier a [] (other ∷ others) commands p q lines told known = cc
stretches-same rate earlier a (stretch ∷ stretches) [] commands p q lines told known = cc
stretches-same rate earlier a (stretch ∷ stretches) (other ∷ others) commands p q lines told known =
    let carries : other.own.command ≡ stretch.own.command = cc in
    let later : own_commands stretches ≡ own_commands others = cc in
    let rest : List Turn = flat_map turns_in stretches in
    let more : List Turn = flat_map turns_in others in
    let here = told-cut a (turns_in stretch) rest told in
    let there = told-cut a (turns_in other) more known in
    let same = added-same ((λ _. Some stretch.own.command) ∷ rules_at rate) earlier a (turns_in stretch)
    (turns_in other)
    (lines_in rest) (lines_in more) (own-added rate earlier stretch stretch.own.command refl p.0)
    (own-added rate earlier other stretch.own.command carries q.0)
    (sym (flat_map-append (λ (t : Turn). t.group) (turns_in stretch) rest) ∙ lines
    ∙ flat_map-append (λ (t : Turn). t.group) (turns_in other) more) here.0 there.0 in
    let own : stretch.own ≡ other.own = let e = same.0 in cc in
    let added : stretch.added ≡ other.added = let e = same.0 in cc in
    let first : stretch ≡ other = λ i. record { own = own i; added = added i } in
    let others_same = stretches-same rate (earlier ++ turns_in stretch) (left_by a (turns_in stretch)) stretches others
    later p.1 (subst (λ ts. AreRuled rate (earlier ++ ts) others) (sym same.0) q.1) same.1 here.1
    (subst (λ ts. AreTold (left_by a ts) more) (sym same.0) there.1) in
    ap (λ (s : Stretch). s ∷ stretches) first ∙ ap (λ (ss : List Stretch). other ∷ ss) others_same

own_commands-map : (stretches : List Stretch)
    → commands_in (map (λ (s : Stretch). s.own) stretches) ≡ own_commands stretches
own_commands-map [] = refl
own_commands-map (stretch ∷ stretches) =
    ap (λ (cs : List Command). stretch.own.command ∷ cs) (own_commands-map stretches)

pub paced-same : (rate : ℕ) (settings : Settings) (trace : List Command) (log : List Line)
    (commands others : List Command) (p : IsPacedList rate settings trace log commands)
    (q : IsPacedList rate settings trace log others)
    → (p.turns ≡ q.turns) × (p.own ≡ q.own) × (commands ≡ others)
paced-same rate settings trace log commands others p q =
    let p_own = sym (own_commands-map p.paced.stretches) ∙ ap commands_in p.paced.own_are ∙ p.paced.each_command in
    let q_own = sym (own_commands-map q.paced.stretches) ∙ ap commands_in q.paced.own_are ∙ q.paced.each_command in
    let p_told : AreTold (empty_state settings) (flat_map turns_in p.paced.stretches) =
    subst (AreTold (empty_state settings)) (sym p.paced.turns_are)
    (record { groups = p.are.groups; joined = p.are.joined }) in
    let q_told : AreTold (empty_state settings) (flat_map turns_in q.paced.stretches) =
    subst (AreTold (empty_state settings)) (sym q.paced.turns_are)
    (record { groups = q.are.groups; joined = q.are.joined }) in
    let same = stretches-same rate [] (empty_state settings) p.paced.stretches q.paced.stretches (p_own ∙ sym q_own)
    p.paced.ruled q.paced.ruled
    (ap lines_in p.paced.turns_are ∙ p.are.cut ∙ sym q.are.cut ∙ ap lines_in (sym q.paced.turns_are)) p_told q_told in
    let turns : p.turns ≡ q.turns =
    sym p.paced.turns_are ∙ ap (flat_map turns_in) same ∙ q.paced.turns_are in (
      turns,
      sym p.paced.own_are ∙ ap (map (λ (s : Stretch). s.own)) same ∙ q.paced.own_are,
      sym p.are.each_command ∙ ap commands_in turns ∙ q.are.each_command,
    )
