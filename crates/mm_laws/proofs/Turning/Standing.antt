-- A step keeps what is promised of places: blocks lie apart, and new ones where the log says.
use Rattle.std.proofs.Common.{◌≡◌, ℕ, ◌<◌, Bool, true, false, cond, zero, suc, eq-eqb, eqb-true, List, [], ◌∷◌, ◌++◌}
use Rattle.std.proofs.Common.{map, length, Option, Some, None, refl, sym, ap, ◌∙◌, subst, ◌⊎◌, ⊎_elim, inl, inr, arith}
use Rattle.std.proofs.lemmas.List.{length-map}
use Rattle.std.proofs.lemmas.Option.{slice_get-map}
use Rattle.std.specs.Prelude.{slice_get, nat_lt, ◌==◌}
use Rattle.std.specs.List.{find}
use Rattle.std.specs.Option.{option_map}
use Rattle.mm_model.specs.declared.command.Command.{Command}
use Rattle.mm_model.specs.declared.command.Command.TheVariants as commands
use Rattle.mm_model.specs.declared.object.Shape.{Shape}
use Rattle.mm_model.specs.declared.refusal.Refusal.{Refusal}
use Rattle.mm_model.specs.declared.reply.Reply.{Reply}
use Rattle.mm_model.specs.declared.reply.Reply.TheVariants as replies
use Rattle.mm_model.specs.declared.line.Line.{Line}
use Rattle.mm_model.specs.declared.line.Line.TheVariants as lines
use Rattle.mm_model.specs.declared.settings.Settings.{Settings}
use Rattle.mm_model.specs.Places.Place.{live_pieces}
use Rattle.mm_model.specs.Value.{reference}
use Rattle.mm_model.specs.Object.{Object}
use Rattle.mm_model.specs.State.{State, Area}
use Rattle.mm_model.specs.Meaning.{meant_at}
use Rattle.mm_model.specs.Areas.{free_number, new_area, area_inserted}
use Rattle.mm_model.specs.Phase.{IsAscending}
use Rattle.mm_model.specs.Good.{IsGood, IsPlaced}
use Rattle.mm_model.specs.Effect.{Effect, with_some, new_effect, weak_effect, area_effect, plain_effect, weak_made}
use Rattle.mm_model.specs.Effect.{weak_shape}
use Rattle.mm_model.specs.Refusing.{refusal}
use Rattle.mm_model.specs.Step.{MakesWeak, Ends, Refused_as_full, Below_threshold, At_threshold, IsCarriedOut}
use Rattle.mm_model.specs.Step.{IsStepUnless, IsStep}
use Rattle.mm_model.specs.Logs.Turns.{Turn, Born, births_if, births_of, reply_in}
use Rattle.mm_model.specs.Logs.Faithful.{HasArea, IsThere, KeepsApart}
use Rattle.mm_model.proofs.Good.Living.{each_get}
use Rattle.mm_model.proofs.Good.Steps.{step_is_good}
use Rattle.mm_model.proofs.Lists.Growing.{get-last}
use Rattle.mm_laws.proofs.Keeping.FollowingSteps.{length-searched}
use Rattle.mm_laws.proofs.Meaning.Referring.{lives-reference}
use Rattle.mm_laws.proofs.Targets.WeakReferences.{stack-ended, made_at-step}
use Rattle.mm_laws.proofs.Turning.Cycles.{follows-step}
use Rattle.mm_laws.proofs.Turning.Knowing.{turn_of, Outline, outline, outline_of, outlines-step}
use Rattle.mm_laws.proofs.Turning.Remembering.{Knows}
use Rattle.mm_laws.proofs.Turning.PlainReplies.{IsQuietReply, object-replies, plain-replies}
use Rattle.mm_laws.proofs.Turning.Replies.{reply-carried}

-- the reply tells where something new lies
abbrev tells_place : Reply → Bool
tells_place (replies.New base) = true
tells_place (replies.Area area) = true
tells_place reply = false

told_quiet : IsQuietReply tells_place
told_quiet =
    record {
      done = refl;
      loose = refl;
      word = λ _. refl;
      nothing = refl;
      object = λ _. refl;
      stat = λ _. refl;
    }

-- what isn't told needn't be there
there-untold : (turn : Turn) (reply : Reply) → tells_place reply ≡ false → IsThere turn (Some reply)
there-untold turn (replies.New base) e = cc
there-untold turn (replies.Area area) e = cc
there-untold turn replies.Done e = tt
there-untold turn replies.Loose e = tt
there-untold turn (replies.Word word) e = tt
there-untold turn (replies.Object found) e = tt
there-untold turn replies.Nothing e = tt
there-untold turn (replies.Stat stat) e = tt
there-untold turn (replies.Refused because) e = tt

-- an area that was put in its place stands there
inserted_stands : (new : Area) (areas : List Area) → (n : ℕ) × (slice_get (area_inserted new areas) n ≡ Some new)
inserted_stands new [] = (0, refl)
inserted_stands new (area ∷ areas) =
    let rest = inserted_stands new areas in
    let split : (b : Bool)
    → (n : ℕ) × (slice_get (cond b (new ∷ area ∷ areas) (area ∷ area_inserted new areas)) n ≡ Some new) =
    elim [ true ↦ (0, refl) | false ↦ (suc rest.0, rest.1) ] in
    split (nat_lt new.number area.number)

-- among areas by ascending number, one that stands is found by its number
find-ascending : (areas : List Area) (n : ℕ) (area : Area) → IsAscending (map (λ area. area.number) areas)
    → slice_get areas n ≡ Some area → find (λ x. x.number == area.number) areas ≡ Some area
find-ascending [] n area up e = cc
find-ascending (x ∷ areas) zero area up e =
    let same : x ≡ area = cc in
    ap (λ b. cond b (Some x) (find (λ x. x.number == area.number) areas))
    (eq-eqb x.number area.number (ap (λ (x : Area). x.number) same))
    ∙ ap (λ (x : Area). Some x) same
find-ascending (x ∷ areas) (suc n) area up e =
    let less : x.number < area.number =
    each_get (λ next. x.number < next) (map (λ area. area.number) areas) n area.number up.0
    (slice_get-map (λ (x : Area). x.number) areas n ∙ ap (option_map (λ (x : Area). x.number)) e) in
    ap (λ b. cond b (Some x) (find (λ x. x.number == area.number) areas)) (other x.number area.number less)
    ∙ find-ascending areas n area up.1 e
  where
    other : (k m : ℕ) → k < m → (k == m) ≡ false
    other k m less = split (k == m) refl
      where
        split : (b : Bool) → (k == m) ≡ b → (k == m) ≡ false
        split true p = let same = eqb-true k m p in absurd (omega (arith, less, same))
        split false p = p

areas-ended : (a : State) (full : Bool) (log : List Line) (b : State) → Ends a full log b → b.areas ≡ a.areas
areas-ended a full log b (Refused_as_full is none same) = ap (λ (s : State). s.areas) same
areas-ended a full log b (Below_threshold is below none same) = ap (λ (s : State). s.areas) same
areas-ended a full log b (At_threshold is above reaps) = ap (λ (s : State). s.areas) reaps.state

module _ (a : State) (command : Command) (group : List Line) (b : State) (good : IsGood b)
    (step : IsStep a command group b) (m : IsCarriedOut a command group b) where
  abbrev this : Turn
  this = turn_of a command group b

  -- a new area
  there-area : (mid : State) (scanned : Bool) (counted cells : ℕ) (found : Option ℕ)
      → m.effect ≡ area_effect mid scanned counted cells found → IsThere this (Some m.effect.reply)
  there-area mid scanned counted cells None is =
      subst (λ (r : Reply). IsThere this (Some r)) (sym (ap (λ (e : Effect). e.reply) is)) tt
  there-area mid scanned counted cells (Some base) is =
      subst (λ (r : Reply). IsThere this (Some r)) (sym (ap (λ (e : Effect). e.reply) is)) there
    where
      new : Area
      new = new_area (free_number mid) base scanned counted cells

      areas_are : b.areas ≡ area_inserted new mid.areas
      areas_are =
          ap (λ (s : State). s.areas) m.state_is
          ∙ areas-ended m.effect.state _ m.end_log m.end m.ends
          ∙ ap (λ (e : Effect). e.state.areas) is

      there : HasArea b (free_number mid) base
      there =
          let stands = inserted_stands new mid.areas in
          record {
            area = new;
            is = find-ascending b.areas stands.0 new good.numbered.ascending
                (ap (λ areas. slice_get areas stands.0) areas_are ∙ stands.1);
            at = refl;
          }

  -- what was born lives on top of the stack, where the reply says
  there-born : (base : ℕ) (born : Born) → m.effect.reply ≡ replies.New base → births_of this ≡ born ∷ []
      → born.base ≡ base → slice_get b.stack 0 ≡ Some (reference base (length a.objects))
      → IsThere this (Some m.effect.reply)
  there-born base born reply births at top =
      let lives = lives-reference b 0 (length a.objects) (reference base (length a.objects)) good top refl in
      let seen : map outline b.objects ≡ map outline a.objects ++ outline_of born ∷ [] =
      outlines-step a command group b step
      ∙ ap (λ (bs : List Born). map outline a.objects ++ map outline_of bs) births in
      let last : slice_get (map outline b.objects) (length a.objects) ≡ Some (outline_of born) =
      ap (λ xs. slice_get xs (length a.objects)) seen
      ∙ subst
      (λ n. slice_get (map outline a.objects ++ outline_of born ∷ []) n ≡ Some (outline_of born))
      (length-map a.objects outline) (get-last (map outline a.objects) (outline_of born)) in
      let own = sym last ∙ slice_get-map outline b.objects (length a.objects)
      ∙ ap (option_map outline) lives.1.is in
      let same : outline_of born ≡ outline lives.0 = cc in
      subst (λ (r : Reply). IsThere this (Some r)) (sym reply)
      (record {
        object = lives.0;
        lives = lives.1;
        at = sym (ap (λ (o : Outline). o.base) same) ∙ at;
      })

-- `weak` bears a weak reference, or tells of no place
weak-tells : (a : State) (target : ℕ) (partner : Option ℕ) (log : List Line) (effect : Effect)
    → MakesWeak a target partner log effect
    → (tells_place effect.reply ≡ false) ⊎ ((base : ℕ) × (effect.reply ≡ replies.New base))
weak-tells a target (Some weak) log effect m =
    inl (ap (λ (e : Effect). tells_place e.reply) m.effect_is ∙ object-replies tells_place told_quiet a weak)
weak-tells a target None log effect m =
    subst (λ (e : Effect). (tells_place e.reply ≡ false) ⊎ ((base : ℕ) × (e.reply ≡ replies.New base)))
    (sym m.effect_is)
    (split m.found)
  where
    split : (found : Option ℕ)
        → (tells_place (weak_effect m.state target found).reply ≡ false)
        ⊎ ((base : ℕ) × ((weak_effect m.state target found).reply ≡ replies.New base))
    split None = inl refl
    split (Some base) = by_target (slice_get m.state.objects target)
      where
        by_target : (found : Option Object)
            → (tells_place
            (with_some found m.state
            (λ x. record { state = weak_made m.state target x base; reply = replies.New base })).reply
            ≡ false)
            ⊎ ((place : ℕ)
            × ((with_some found m.state
            (λ x. record { state = weak_made m.state target x base; reply = replies.New base })).reply
            ≡ replies.New place))
        by_target None = inl refl
        by_target (Some x) = inr (base, refl)

module _ (a : State) (group : List Line) (b : State) (good : IsGood b) where
  there-new : (shape : Shape) → IsStep a (commands.New shape) group b
      → (m : IsCarriedOut a (commands.New shape) group b)
      → IsThere (turn_of a (commands.New shape) group b) (Some m.effect.reply)
  there-new shape step m = split m.carries.found refl
    where
      this : Turn
      this = turn_of a (commands.New shape) group b

      split : (found : Option ℕ) → m.carries.found ≡ found
          → IsThere (turn_of a (commands.New shape) group b) (Some m.effect.reply)
      split None e =
          there-untold (turn_of a (commands.New shape) group b) m.effect.reply
          (ap (λ (x : Effect). tells_place x.reply) m.carries.effect_is
          ∙ ap (λ found. tells_place (new_effect m.carries.state shape found).reply) e)
      split (Some base) e =
          let effect : m.effect ≡ new_effect m.carries.state shape (Some base) =
          m.carries.effect_is ∙ ap (new_effect m.carries.state shape) e in
          let reply : m.effect.reply ≡ replies.New base = ap (λ (x : Effect). x.reply) effect in
          let counted = length-searched a _ _ m.log m.carries.state m.carries.found m.carries.search in
          there-born a (commands.New shape) group b good step m base
          (record { base = base; shape = shape; target = None })
          reply
          (ap (births_if a (commands.New shape)) (reply-carried a (commands.New shape) group b m)
          ∙ ap (λ (r : Reply). births_if a (commands.New shape) (Some r)) reply)
          refl
          (ap (λ (s : State). slice_get s.stack 0) m.state_is
          ∙ ap (λ stack. slice_get stack 0) (stack-ended m.effect.state _ m.end_log m.end m.ends)
          ∙ ap (λ (x : Effect). slice_get x.state.stack 0) effect
          ∙ ap (λ n. Some (reference base n)) counted)

  there-weak : (i : ℕ) → IsStep a (commands.Weak i) group b → (m : IsCarriedOut a (commands.Weak i) group b)
      → IsThere (turn_of a (commands.Weak i) group b) (Some m.effect.reply)
  there-weak i step m =
      ⊎_elim
      (λ (l : tells_place m.effect.reply ≡ false).
      there-untold (turn_of a (commands.Weak i) group b) m.effect.reply l)
      (λ (r : (base : ℕ) × (m.effect.reply ≡ replies.New base)).
      let made = made_at-step a i m.carries.target group (m.log ++ m.end_log) r.0 b step
      (m.group_is ∙ ap (λ reply. m.log ++ m.end_log ++ lines.Reply reply ∷ []) r.1) m.carries.target_is in
      there-born a (commands.Weak i) group b good step m r.0
      (record { base = r.0; shape = weak_shape; target = meant_at a i })
      r.1
      (ap (births_if a (commands.Weak i)) (reply-carried a (commands.Weak i) group b m)
      ∙ ap (λ (reply : Reply). births_if a (commands.Weak i) (Some reply)) r.1)
      refl made.top)
      (weak-tells a m.carries.target m.carries.object.partner m.log m.effect m.carries.makes)

  there-done : (command : Command) (m : IsCarriedOut a command group b) → m.effect.reply ≡ replies.Done
      → IsThere (turn_of a command group b) (Some m.effect.reply)
  there-done command m e = there-untold (turn_of a command group b) m.effect.reply (ap tells_place e)

  there-plain : (command : Command) (m : IsCarriedOut a command group b) → m.effect ≡ plain_effect a command
      → IsThere (turn_of a command group b) (Some m.effect.reply)
  there-plain command m e =
      there-untold (turn_of a command group b) m.effect.reply
      (ap (λ (x : Effect). tells_place x.reply) e ∙ plain-replies tells_place told_quiet a command)

  there-carried : (command : Command) → IsStep a command group b → (m : IsCarriedOut a command group b)
      → IsThere (turn_of a command group b) (Some m.effect.reply)
  there-carried (commands.New shape) step m = there-new shape step m
  there-carried (commands.Weak i) step m = there-weak i step m
  there-carried (commands.Root counted cells) step m =
      there-area a (commands.Root counted cells) group b good step m m.carries.state true counted cells m.carries.found
      m.carries.effect_is
  there-carried (commands.Fixed cells) step m =
      there-area a (commands.Fixed cells) group b good step m m.carries.state false 0 cells m.carries.found
      m.carries.effect_is
  there-carried commands.Reap step m = there-done commands.Reap m m.carries.1
  there-carried commands.Collect step m = there-done commands.Collect m m.carries.1
  there-carried (commands.Step k) step m = there-done (commands.Step k) m m.carries.1
  there-carried commands.Finish step m = there-done commands.Finish m m.carries.1
  there-carried command step m = there-plain command m m.carries.effect_is

pub apart-step : (settings : Settings) (turns : List Turn) (a : State) (command : Command) (group : List Line)
    (b : State) → Knows settings turns a → IsStep a command group b
    → KeepsApart settings (turn_of a command group b)
apart-step settings turns a command group b known step =
    let good = step_is_good a command group b known.good step in
    let same = (follows-step a command group b step).settings ∙ known.settings_are in
    record {
      placed = subst (λ (s : Settings). IsPlaced s.max (live_pieces b)) same good.placed;
      there = split good (refusal a command) refl step;
    }
  where
    split : IsGood b → (because : Option Refusal) → refusal a command ≡ because → IsStepUnless because a command group b
        → IsThere (turn_of a command group b) (reply_in group)
    split good (Some because) e m =
        subst (λ log. IsThere (turn_of a command group b) (reply_in log)) (sym m.group_is) tt
    split good None e m =
        subst (IsThere (turn_of a command group b)) (sym (reply-carried a command group b m))
        (there-carried a group b good command step m)
