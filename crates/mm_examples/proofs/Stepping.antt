-- The group of a command, as it is computed from what a given group frees and scans, and that it is a step.
use Rattle.std.proofs.Common.{◌≡◌, ℕ, nat_le, Bool, true, false, ◌&&◌, if◌then◌else◌, List, [], ◌∷◌, ◌++◌, Option, Some}
use Rattle.std.proofs.Common.{None, is_some, slice_get, option_and_then, refl, subst, leb-true, leb-false}
use Rattle.std.proofs.lemmas.Bool.{and_parts}
use Rattle.mm_model.specs.declared.command.Command.{Command}
use Rattle.mm_model.specs.declared.command.Command.TheVariants as commands
use Rattle.mm_model.specs.declared.refusal.Refusal.{Refusal}
use Rattle.mm_model.specs.declared.reply.Reply.TheVariants as replies
use Rattle.mm_model.specs.declared.line.Line.{Line}
use Rattle.mm_model.specs.declared.line.Line.TheVariants as lines
use Rattle.mm_model.specs.declared.line.Phase.TheVariants.{Reap, Collect}
use Rattle.mm_model.specs.Places.SizeClass.{object_bytes, area_bytes}
use Rattle.mm_model.specs.Places.Place.{Family, Objects, Areas}
use Rattle.mm_model.specs.Object.{Object}
use Rattle.mm_model.specs.State.{State, one_more_command}
use Rattle.mm_model.specs.Count.{zero_count}
use Rattle.mm_model.specs.Meaning.{meant_at, object_meant}
use Rattle.mm_model.specs.Phase.{phase_lines, reaped}
use Rattle.mm_model.specs.Refusing.{refusal}
use Rattle.mm_model.specs.Effect.{Effect}
use Rattle.mm_model.specs.Step.{Makes, MakesWeak, MakesWeakOf, Carries, Ends, Refused_as_full, Below_threshold}
use Rattle.mm_model.specs.Step.{At_threshold, IsStep, IsStepUnless, is_full}
use Rattle.mm_model.specs.After.{phases_in, first_phase, scanned_bases, weak_row, Row, row_made, row_after, searched}
use Rattle.mm_model.specs.After.{ended, after, after_unless}
use Rattle.mm_examples.proofs.Freeing.{reaps, collects, finishes, reaped_if, collected_if, finished_if}
use Rattle.mm_examples.proofs.Searching.{search_log, search_checks, searches_if}
use Rattle.mm_examples.proofs.Scanning.{scan_log, scan_checks, scans_if}

-- the weak reference that the object has, if it has one
abbrev partner_of : Option Object → Option ℕ
partner_of found = option_and_then (λ object. object.partner) found

abbrev weak_log : State → Option ℕ → List (List ℕ) → List Line
weak_log a (Some weak) phases = []
weak_log a None phases = search_log a Objects (object_bytes 0) phases

abbrev weak_checks : State → Option ℕ → List (List ℕ) → Bool
weak_checks a (Some weak) phases = true
weak_checks a None phases = search_checks a Objects (object_bytes 0) phases

-- the lines in front of the reply, without the reap at the end
abbrev row_log : State → Command → List Line → List Line
row_log a (commands.New shape) group = search_log a Objects (object_bytes shape.slots) (phases_in group)
row_log a (commands.Weak i) group = weak_log a (partner_of (object_meant a i)) (phases_in group)
row_log a (commands.Root counted cells) group = search_log a Areas (area_bytes cells) (phases_in group)
row_log a (commands.Fixed cells) group = search_log a Areas (area_bytes cells) (phases_in group)
row_log a commands.Reap group = phase_lines Reap a (first_phase (phases_in group))
row_log a commands.Collect group = phase_lines Collect a (first_phase (phases_in group))
row_log a (commands.Step k) group = scan_log a (scanned_bases group)
row_log a commands.Finish group = phase_lines Collect a (first_phase (phases_in group))
row_log a command group = []

abbrev row_checks : State → Command → List Line → Bool
row_checks a (commands.New shape) group = search_checks a Objects (object_bytes shape.slots) (phases_in group)
row_checks a (commands.Weak i) group =
    is_some (object_meant a i) && weak_checks a (partner_of (object_meant a i)) (phases_in group)
row_checks a (commands.Root counted cells) group = search_checks a Areas (area_bytes cells) (phases_in group)
row_checks a (commands.Fixed cells) group = search_checks a Areas (area_bytes cells) (phases_in group)
row_checks a commands.Reap group = reaps a (first_phase (phases_in group))
row_checks a commands.Collect group = collects a (first_phase (phases_in group))
row_checks a (commands.Step k) group = scan_checks a k (scanned_bases group)
row_checks a commands.Finish group = finishes a (first_phase (phases_in group))
row_checks a command group = true

-- the reap at the end
abbrev is_at_threshold : State → Bool
is_at_threshold a = nat_le a.threshold (zero_count a)

abbrev end_log : State → Bool → Bool → List ℕ → List Line
end_log a true at bases = []
end_log a false true bases = phase_lines Reap a bases
end_log a false false bases = []

abbrev end_checks : State → Bool → Bool → List ℕ → Bool
end_checks a true at bases = true
end_checks a false true bases = reaps a bases
end_checks a false false bases = true

abbrev row_end_log : Row → List Line
row_end_log row =
    end_log row.effect.state (is_full row.effect.reply) (is_at_threshold row.effect.state) (first_phase row.rest)

abbrev row_end_checks : Row → Bool
row_end_checks row =
    end_checks row.effect.state (is_full row.effect.reply) (is_at_threshold row.effect.state) (first_phase row.rest)

abbrev group_of_row : List Line → Row → List Line
group_of_row log row = log ++ row_end_log row ++ lines.Reply row.effect.reply ∷ []

abbrev group_unless : Option Refusal → State → Command → List Line → List Line
group_unless (Some because) a command group = lines.Reply (replies.Refused because) ∷ []
group_unless None a command group = group_of_row (row_log a command group) (row_after a command group)

abbrev checks_unless : Option Refusal → State → Command → List Line → Bool
checks_unless (Some because) a command group = true
checks_unless None a command group = row_checks a command group && row_end_checks (row_after a command group)

-- the group of a command
abbrev pub step_log : State → Command → List Line → List Line
step_log a command group = group_unless (refusal a command) a command group

-- the given group tells what its phases free and its parts scan as the definitions want it
abbrev pub step_checks : State → Command → List Line → Bool
step_checks a command group = checks_unless (refusal a command) a command group

makes_weak_if : (a : State) (target : ℕ) (weak : Option ℕ) (phases : List (List ℕ)) → weak_checks a weak phases ≡ true
    → MakesWeak a target weak (weak_log a weak phases) (weak_row a (Some target) weak phases).effect
makes_weak_if a target (Some weak) phases e = record { no_lines = refl; effect_is = refl }
makes_weak_if a target None phases e =
    let s = searched a Objects (object_bytes 0) phases in
    record {
      state = s.state;
      found = s.found;
      search = searches_if a Objects (object_bytes 0) phases e;
      effect_is = refl;
    }

makes_weak_of_if : (a : State) (i : ℕ) (phases : List (List ℕ)) (target : Option ℕ) → meant_at a i ≡ target
    → (object : Option Object) → object_meant a i ≡ object
    → (is_some object && weak_checks a (partner_of object) phases) ≡ true
    → MakesWeakOf a i (weak_log a (partner_of object) phases) (weak_row a target (partner_of object) phases).effect
makes_weak_of_if a i phases target is None object_is e = cc
makes_weak_of_if a i phases None is (Some object) object_is e =
    let none : ◌≡◌ {A = Option Object} None (Some object) =
    subst (λ birth. option_and_then (slice_get a.objects) birth ≡ Some object) is object_is in
    cc
makes_weak_of_if a i phases (Some target) is (Some object) object_is e =
    record {
      target = target;
      object = object;
      target_is = is;
      object_is = object_is;
      makes = makes_weak_if a target object.partner phases e;
    }

made_if : (a : State) (family : Family) (bytes : ℕ) (phases : List (List ℕ)) (effect : State → Option ℕ → Effect)
    → search_checks a family bytes phases ≡ true
    → Makes a family bytes effect (search_log a family bytes phases)
    (row_made (searched a family bytes phases) effect).effect
made_if a family bytes phases effect e =
    let s = searched a family bytes phases in
    record {
      state = s.state;
      found = s.found;
      search = searches_if a family bytes phases e;
      effect_is = refl;
    }

carries_if : (a : State) (command : Command) (group : List Line) → row_checks a command group ≡ true
    → Carries a command (row_log a command group) (row_after a command group).effect
carries_if a (commands.New shape) group e = made_if a Objects (object_bytes shape.slots) (phases_in group) _ e
carries_if a (commands.Weak i) group e =
    makes_weak_of_if a i (phases_in group) (meant_at a i) refl (object_meant a i) refl e
carries_if a (commands.Root counted cells) group e = made_if a Areas (area_bytes cells) (phases_in group) _ e
carries_if a (commands.Fixed cells) group e = made_if a Areas (area_bytes cells) (phases_in group) _ e
carries_if a commands.Reap group e =
    let bases = first_phase (phases_in group) in
    (record { dead = bases; reapable = reaped_if a bases e; log_is = refl; state = refl }, refl)
carries_if a commands.Collect group e =
    let bases = first_phase (phases_in group) in
    (record { lost = bases; unreached = collected_if a bases e; log_is = refl; state = refl }, refl)
carries_if a (commands.Step k) group e = (scans_if a k (scanned_bases group) e, refl)
carries_if a commands.Finish group e =
    let bases = first_phase (phases_in group) in
    (record { lost = bases; unmarked = finished_if a bases e; log_is = refl; state = refl }, refl)
carries_if a command group e = record { no_lines = refl; effect_is = refl }

ends_if : (a : State) (full at : Bool) (bases : List ℕ) → is_at_threshold a ≡ at → end_checks a full at bases ≡ true
    → Ends a full (end_log a full at bases) (if full then a else if at then reaped bases a else a)
ends_if a true at bases is e = Refused_as_full refl refl refl
ends_if a false true bases is e =
    At_threshold refl (leb-true a.threshold (zero_count a) is)
    (record { dead = bases; reapable = reaped_if a bases e; log_is = refl; state = refl })
ends_if a false false bases is e = Below_threshold refl (leb-false a.threshold (zero_count a) is) refl refl

step_unless : (a : State) (command : Command) (group : List Line) (because : Option Refusal)
    → checks_unless because a command group ≡ true
    → IsStepUnless because a command (group_unless because a command group)
    (one_more_command (after_unless because a command group))
step_unless a command group (Some because) e = record { group_is = refl; state_is = refl }
step_unless a command group None e =
    let row = row_after a command group in
    let parts = and_parts (row_checks a command group) (row_end_checks row) e in
    record {
      log = row_log a command group;
      effect = row.effect;
      carries = carries_if a command group parts.0;
      end_log = row_end_log row;
      end = ended row;
      ends = ends_if row.effect.state (is_full row.effect.reply) (is_at_threshold row.effect.state)
          (first_phase row.rest) refl parts.1;
      group_is = refl;
      state_is = refl;
    }

pub step_if : (a : State) (command : Command) (group : List Line) → step_checks a command group ≡ true
    → IsStep a command (step_log a command group) (after a command group)
step_if a command group e = step_unless a command group (refusal a command) e
