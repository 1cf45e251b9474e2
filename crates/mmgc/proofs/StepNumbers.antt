-- A step counts one command, bears at most one object, and keeps the settings.
use Rattle.std.proofs.Common.{◌≡◌, ℕ, ◌+◌, ◌≤◌, Bool, true, false, List, [], ◌∷◌, length, Option, Some, None, refl, sym}
use Rattle.std.proofs.Common.{ap, ◌∙◌, subst, arith}
use Rattle.std.proofs.lemmas.List.{length_push, length-map, length-set}
use Rattle.std.specs.Prelude.{slice_get}
use Rattle.mm_model.specs.declared.command.Command.{Command}
use Rattle.mm_model.specs.declared.command.Command.TheVariants as commands
use Rattle.mm_model.specs.declared.object.Shape.{Shape}
use Rattle.mm_model.specs.declared.refusal.Refusal.{Refusal}
use Rattle.mm_model.specs.declared.line.Line.{Line}
use Rattle.mm_model.specs.Object.{Object, newborn}
use Rattle.mm_model.specs.Places.Place.{Family, Objects, Areas}
use Rattle.mm_model.specs.Places.SizeClass.{object_bytes, area_bytes}
use Rattle.mm_model.specs.State.{State, one_more_command}
use Rattle.mm_model.specs.Store.{with_object}
use Rattle.mm_model.specs.Phase.{after_release, reaped, collected}
use Rattle.mm_model.specs.Sets.Marking.{part_done}
use Rattle.mm_model.specs.Sets.Scan.{AreScanned}
use Rattle.mm_model.specs.Places.Search.{Searches, At_once, After_reap, After_collection}
use Rattle.mm_model.specs.Effect.{Effect, with_some, weak_shape, weak_made, weak_effect, new_effect, area_effect}
use Rattle.mm_model.specs.Effect.{plain_effect}
use Rattle.mm_model.specs.Refusing.{refusal}
use Rattle.mm_model.specs.Step.{IsPlain, Makes, MakesWeak, Reaps, Carries, Ends, Refused_as_full, Below_threshold}
use Rattle.mm_model.specs.Step.{At_threshold, is_full, IsStepUnless, IsStep}
use Rattle.mm_model.proofs.Good.Numbers.{BearsFew, bears_few-new, bears_few-plain}

-- as many objects and commands
record HasSame (a b : State) : Type 0 where
  births : length b.objects ≡ length a.objects
  commands : b.commands ≡ a.commands
  settings : b.settings ≡ a.settings

-- at most one more object, and as many commands
record BearsOne (a b : State) : Type 0 where
  births : length b.objects ≤ length a.objects + 1
  commands : b.commands ≡ a.commands
  settings : b.settings ≡ a.settings

-- at most one more object, and one more command
pub record CountsOne (a b : State) : Type 0 where
  pub births : length b.objects ≤ length a.objects + 1
  pub commands : b.commands ≡ a.commands + 1
  pub settings : b.settings ≡ a.settings

same : (a : State) → HasSame a a
same a = record { births = refl; commands = refl; settings = refl }

same-then : (a b c : State) → HasSame a b → HasSame b c → HasSame a c
same-then a b c h k =
    record { births = k.births ∙ h.births; commands = k.commands ∙ h.commands; settings = k.settings ∙ h.settings }

same-reaped : (dead : List ℕ) (a : State) → HasSame a (reaped dead a)
same-reaped dead a =
    record { births = length-map a.objects (after_release a dead); commands = refl; settings = refl }

same-collected : (lost : List ℕ) (a : State) → HasSame a (collected lost a)
same-collected lost a =
    record { births = length-map a.objects (after_release a lost); commands = refl; settings = refl }

one_of_same : (a b : State) → HasSame a b → BearsOne a b
one_of_same a b h = let births = h.births in
    record { births = omega arith; commands = h.commands; settings = h.settings }

one_behind : (a b c : State) → HasSame a b → BearsOne b c → BearsOne a c
one_behind a b c h k =
    let first = h.births in
    let next = k.births in
    record { births = omega arith; commands = k.commands ∙ h.commands; settings = k.settings ∙ h.settings }

one_before : (a b c : State) → BearsOne a b → HasSame b c → BearsOne a c
one_before a b c h k =
    let first = h.births in
    let next = k.births in
    record { births = omega arith; commands = k.commands ∙ h.commands; settings = k.settings ∙ h.settings }

one_of_few : (a : State) (effect : Effect) → BearsFew a effect → BearsOne a effect.state
one_of_few a effect h = record { births = h.births; commands = h.commands; settings = h.settings }

-- a search frees objects, and no number of a birth is given again
searched : (a : State) (family : Family) (bytes : ℕ) (log : List Line) (b : State) (found : Option ℕ)
    → Searches a family bytes log b found → HasSame a b
searched a family bytes log b found (At_once base is none left place) = subst (HasSame a) (sym left) (same a)
searched a family bytes log b found (After_reap base dead none reaps grown text left place) =
    subst (HasSame a) (sym left) (same-reaped dead a)
searched a family bytes log b found (After_collection dead lost none reaps still collects text left place) =
    subst (HasSame a) (sym left)
    (same-then a (reaped dead a) (collected lost (reaped dead a)) (same-reaped dead a)
    (same-collected lost (reaped dead a)))

makes_one : (a : State) (family : Family) (bytes : ℕ) (after : State → Option ℕ → Effect) (log : List Line)
    (effect : Effect) → ((b : State) (found : Option ℕ) → BearsOne b (after b found).state)
    → Makes a family bytes after log effect → BearsOne a effect.state
makes_one a family bytes after log effect one m =
    subst (λ (e : Effect). BearsOne a e.state) (sym m.effect_is)
    (one_behind a m.state (after m.state m.found).state (searched a family bytes log m.state m.found m.search)
    (one m.state m.found))

new_one : (shape : Shape) (b : State) (found : Option ℕ) → BearsOne b (new_effect b shape found).state
new_one shape b found = one_of_few b (new_effect b shape found) (bears_few-new b shape found)

area_one : (scanned : Bool) (counted cells : ℕ) (b : State) (found : Option ℕ)
    → BearsOne b (area_effect b scanned counted cells found).state
area_one scanned counted cells b None = one_of_same b b (same b)
area_one scanned counted cells b (Some base) = record { births = omega arith; commands = refl; settings = refl }

one_with_some : {X : Type 0} (found : Option X) (b : State) (effect : X → Effect)
    → ((x : X) → BearsOne b (effect x).state) → BearsOne b (with_some found b effect).state
one_with_some None b effect one = one_of_same b b (same b)
one_with_some (Some x) b effect one = one x

weak_made_one : (b : State) (target : ℕ) (object : Object) (base : ℕ) → BearsOne b (weak_made b target object base)
weak_made_one b target object base =
    let linked = record object { partner = Some (length b.objects) } in
    let weak = record (newborn weak_shape base) { partner = Some target } in
    let set = length-set b.objects target linked in
    let more = length_push (with_object target linked b).objects weak in
    record { births = omega (arith, set, more); commands = refl; settings = refl }

weak_one : (target : ℕ) (b : State) (found : Option ℕ) → BearsOne b (weak_effect b target found).state
weak_one target b None = one_of_same b b (same b)
weak_one target b (Some base) =
    one_with_some (slice_get b.objects target) b _ (λ object. weak_made_one b target object base)

plain_one : (a : State) (command : Command) (log : List Line) (effect : Effect)
    → IsPlain log effect (plain_effect a command) → BearsOne a effect.state
plain_one a command log effect m =
    subst (λ (e : Effect). BearsOne a e.state) (sym m.effect_is)
    (one_of_few a (plain_effect a command) (bears_few-plain a command))

makes_weak_one : (a : State) (target : ℕ) (partner : Option ℕ) (log : List Line) (effect : Effect)
    → MakesWeak a target partner log effect → BearsOne a effect.state
makes_weak_one a target (Some weak) log effect m =
    subst (λ (e : Effect). BearsOne a e.state) (sym m.effect_is)
    (one_with_some (slice_get a.objects weak) a _ (λ object.
    record { births = omega arith; commands = refl; settings = refl }))
makes_weak_one a target None log effect m =
    makes_one a Objects (object_bytes 0) (λ b found. weak_effect b target found) log effect (weak_one target) m

scanned_same : (a : State) (births : List ℕ) (log : List Line) (b : State) → AreScanned a births log b → HasSame a b
scanned_same a [] log b m = subst (HasSame a) (sym m.1) (same a)
scanned_same a (birth ∷ births) log b m =
    let rest = scanned_same (part_done a birth m.0) births m.1 b m.4 in
    record { births = rest.births; commands = rest.commands; settings = rest.settings }

reaps_same : (a : State) (log : List Line) (b : State) → Reaps a log b → HasSame a b
reaps_same a log b m = subst (HasSame a) (sym m.state) (same-reaped m.dead a)

carries_one : (a : State) (command : Command) (log : List Line) (effect : Effect) → Carries a command log effect
    → BearsOne a effect.state
carries_one a (commands.New shape) log effect m =
    makes_one a Objects (object_bytes shape.slots) (λ b found. new_effect b shape found) log effect (new_one shape) m
carries_one a (commands.Weak i) log effect m = makes_weak_one a m.target m.object.partner log effect m.makes
carries_one a (commands.Root counted cells) log effect m =
    makes_one a Areas (area_bytes cells) (λ b found. area_effect b true counted cells found) log effect
    (area_one true counted cells) m
carries_one a (commands.Fixed cells) log effect m =
    makes_one a Areas (area_bytes cells) (λ b found. area_effect b false 0 cells found) log effect
    (area_one false 0 cells) m
carries_one a commands.Reap log effect m = one_of_same a effect.state (reaps_same a log effect.state m.0)
carries_one a commands.Collect log effect m =
    one_of_same a effect.state (subst (HasSame a) (sym m.0.state) (same-collected m.0.lost a))
carries_one a (commands.Step k) log effect m =
    one_of_same a effect.state (scanned_same a m.0.births log effect.state m.0.scanned)
carries_one a commands.Finish log effect m =
    one_of_same a effect.state (subst (HasSame a) (sym m.0.state) (same-collected m.0.lost a))
carries_one a (commands.Push word) log effect m = plain_one a (commands.Push word) log effect m
carries_one a (commands.Dup i) log effect m = plain_one a (commands.Dup i) log effect m
carries_one a (commands.Pop k) log effect m = plain_one a (commands.Pop k) log effect m
carries_one a (commands.Inner i bytes) log effect m = plain_one a (commands.Inner i bytes) log effect m
carries_one a (commands.Get i s) log effect m = plain_one a (commands.Get i s) log effect m
carries_one a (commands.Put i s j) log effect m = plain_one a (commands.Put i s j) log effect m
carries_one a (commands.Look i) log effect m = plain_one a (commands.Look i) log effect m
carries_one a (commands.DropArea n) log effect m = plain_one a (commands.DropArea n) log effect m
carries_one a (commands.AreaGet n s) log effect m = plain_one a (commands.AreaGet n s) log effect m
carries_one a (commands.AreaPut n s j) log effect m = plain_one a (commands.AreaPut n s j) log effect m
carries_one a commands.Begin log effect m = plain_one a commands.Begin log effect m
carries_one a (commands.Map i) log effect m = plain_one a (commands.Map i) log effect m
carries_one a commands.Stat log effect m = plain_one a commands.Stat log effect m

ends_same : (a : State) (full : Bool) (log : List Line) (b : State) → Ends a full log b → HasSame a b
ends_same a full log b (Refused_as_full is none left) = subst (HasSame a) (sym left) (same a)
ends_same a full log b (Below_threshold is below none left) = subst (HasSame a) (sym left) (same a)
ends_same a full log b (At_threshold is above reaps) = reaps_same a log b reaps

counted_one : (a b c : State) → BearsOne a b → c ≡ one_more_command b → CountsOne a c
counted_one a b c h is =
    subst (CountsOne a) (sym is) (record {
      births = h.births;
      commands = ap (λ n. n + 1) h.commands;
      settings = h.settings;
    })

-- a step counts one command and bears at most one object
pub step_counts_one : (a : State) (command : Command) (group : List Line) (b : State) → IsStep a command group b
    → CountsOne a b
step_counts_one a command group b step = split (refusal a command) step
  where
    split : (because : Option Refusal) → IsStepUnless because a command group b → CountsOne a b
    split (Some because) m = counted_one a a b (one_of_same a a (same a)) m.state_is
    split None m =
        counted_one a m.end b
        (one_before a m.effect.state m.end (carries_one a command m.log m.effect m.carries)
        (ends_same m.effect.state (is_full m.effect.reply) m.end_log m.end m.ends)) m.state_is
