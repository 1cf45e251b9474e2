-- From each good state each command has a step.
use Rattle.std.proofs.Common.{◌≡◌, ℕ, ◌<◌, ◌≤◌, Bool, true, false, List, [], ◌∷◌, ◌++◌, Option, Some, None, refl, ◌⊎◌}
use Rattle.std.proofs.Common.{⊎_elim, inl, inr}
use Rattle.std.proofs.lemmas.Bool.{cases_lt}
use Rattle.mm_model.specs.declared.command.Command.{Command}
use Rattle.mm_model.specs.declared.command.Command.TheVariants as commands
use Rattle.mm_model.specs.declared.object.Shape.{Shape}
use Rattle.mm_model.specs.declared.refusal.Refusal.{Refusal}
use Rattle.mm_model.specs.declared.refusal.Refusal.TheVariants as refusals
use Rattle.mm_model.specs.declared.reply.Reply.TheVariants as replies
use Rattle.mm_model.specs.declared.line.Line.{Line}
use Rattle.mm_model.specs.declared.line.Line.TheVariants as lines
use Rattle.mm_model.specs.declared.line.Phase.TheVariants.{Reap, Collect}
use Rattle.mm_model.specs.Places.SizeClass.{object_bytes, area_bytes}
use Rattle.mm_model.specs.Places.Place.{Family, Objects, Areas}
use Rattle.mm_model.specs.State.{State, one_more_command}
use Rattle.mm_model.specs.Count.{zero_count}
use Rattle.mm_model.specs.Sets.Reached.{IsReached, IsUnreached}
use Rattle.mm_model.specs.Sets.Reapable.{IsReapable}
use Rattle.mm_model.specs.Sets.Marking.{IsFreedAtFinish}
use Rattle.mm_model.specs.Phase.{phase_lines, reaped, collected, AreReaped, AreCollected}
use Rattle.mm_model.specs.Places.Search.{place_now, place_grown, Searches, At_once, After_reap, After_collection}
use Rattle.mm_model.specs.Effect.{Effect, new_effect, weak_effect, area_effect, pushes_object, plain_effect, done}
use Rattle.mm_model.specs.Refusing.{refusal, no_cell, means_nothing, means_weak, is_stack_full}
use Rattle.mm_model.specs.Step.{IsPlain, Makes, MakesWeak, Reaps, Collects, Finishes, Carries, Ends, Refused_as_full}
use Rattle.mm_model.specs.Step.{Below_threshold, At_threshold, is_full, IsStepUnless, IsStep}
use Rattle.mm_model.specs.Good.{IsGood}
use Rattle.mm_model.proofs.Good.Meanings.{is_meant}
use Rattle.mm_model.proofs.Good.Allowed.{all_allowed, found_some}
use Rattle.mm_model.proofs.Decided.Bases.{bases_of_decided}
use Rattle.mm_model.proofs.Decided.Sets.{reached_or_not, reapable_or_not, freed_at_finish_or_not}
use Rattle.mm_model.proofs.Steps.Scans.{scans_exist}

-- each phase has its list of bases
reapable_bases : (a : State) → (bases : List ℕ) × AreReaped a bases
reapable_bases a = bases_of_decided a (IsReapable a) (λ birth object lives. reapable_or_not a birth)

unreached_bases : (a : State) → (bases : List ℕ) × AreCollected a bases
unreached_bases a = bases_of_decided a (IsUnreached a) (λ birth object lives. unreached_or_not birth)
  where
    unreached_or_not : (birth : ℕ) → IsUnreached a birth ⊎ (IsUnreached a birth → ⊥)
    unreached_or_not birth =
        ⊎_elim (λ (is : IsReached a birth). inr (λ (u : IsUnreached a birth). u is))
        (λ (none : IsUnreached a birth). inl none) (reached_or_not a birth)

reap_exists : (a : State) → (log : List Line) × (b : State) × Reaps a log b
reap_exists a =
    let bases = reapable_bases a in (
      phase_lines Reap a bases.0,
      reaped bases.0 a,
      record { dead = bases.0; reapable = bases.1; log_is = refl; state = refl },
    )

collection_exists : (a : State) → (log : List Line) × (b : State) × Collects a log b
collection_exists a =
    let bases = unreached_bases a in (
      phase_lines Collect a bases.0,
      collected bases.0 a,
      record { lost = bases.0; unreached = bases.1; log_is = refl; state = refl },
    )

finish_exists : (a : State) → (log : List Line) × (b : State) × Finishes a log b
finish_exists a =
    let bases = bases_of_decided a (IsFreedAtFinish a) (λ birth object lives. freed_at_finish_or_not a birth) in (
      phase_lines Collect a bases.0,
      collected bases.0 a,
      record { lost = bases.0; unmarked = bases.1; log_is = refl; state = refl },
    )

-- what a search comes to
record IsSearched (a : State) (family : Family) (bytes : ℕ) : Type 0 where
  log : List Line
  state : State
  found : Option ℕ
  search : Searches a family bytes log state found

search_exists : (a : State) (family : Family) (bytes : ℕ) → IsSearched a family bytes
search_exists a family bytes = at_once (place_now a family bytes) refl
  where
    grown : place_now a family bytes ≡ None → (dead : List ℕ) → AreReaped a dead → (place : Option ℕ)
        → place_grown (reaped dead a) family bytes ≡ place → IsSearched a family bytes
    grown none dead reapable (Some base) e =
        record {
          log = phase_lines Reap a dead;
          state = reaped dead a;
          found = Some base;
          search = After_reap base dead none reapable e refl refl refl;
        }
    grown none dead reapable None e =
        let lost = unreached_bases (reaped dead a) in
        record {
          log = phase_lines Reap a dead ++ phase_lines Collect (reaped dead a) lost.0;
          state = collected lost.0 (reaped dead a);
          found = place_grown (collected lost.0 (reaped dead a)) family bytes;
          search = After_collection dead lost.0 none reapable e lost.1 refl refl refl;
        }

    at_once : (place : Option ℕ) → place_now a family bytes ≡ place → IsSearched a family bytes
    at_once (Some base) e =
        record { log = []; state = a; found = Some base; search = At_once base e refl refl refl }
    at_once None e =
        let dead = reapable_bases a in
        grown e dead.0 dead.1 (place_grown (reaped dead.0 a) family bytes) refl

-- what the row of a command comes to
record IsCarried (a : State) (command : Command) : Type 0 where
  log : List Line
  effect : Effect
  carries : Carries a command log effect

record IsMade (a : State) (family : Family) (bytes : ℕ) (after : State → Option ℕ → Effect) : Type 0 where
  log : List Line
  effect : Effect
  makes : Makes a family bytes after log effect

made_exists : (a : State) (family : Family) (bytes : ℕ) (after : State → Option ℕ → Effect)
    → IsMade a family bytes after
made_exists a family bytes after =
    let one = search_exists a family bytes in
    record {
      log = one.log;
      effect = after one.state one.found;
      makes = record { state = one.state; found = one.found; search = one.search; effect_is = refl };
    }

module _ (a : State) (good : IsGood a) where
  weak_carried : (i : ℕ) → refusal a (commands.Weak i) ≡ None → IsCarried a (commands.Weak i)
  weak_carried i allowed =
      let row = all_allowed (no_cell a i) (means_nothing a i) (means_weak a i) (is_stack_full a)
      refusals.NoCell refusals.Nothing refusals.NoWeak refusals.StackFull allowed in
      let found = found_some _ row.second_is in
      let one = is_meant a good i found.0 found.1 in
      let weak = by_partner one.0 found.0.partner in
      record {
        log = weak.0;
        effect = weak.1;
        carries = record {
          target = one.0;
          object = found.0;
          target_is = one.1.meant_is;
          object_is = found.1;
          makes = weak.2;
        };
      }
    where
      by_partner : (target : ℕ) (partner : Option ℕ)
          → (log : List Line) × (effect : Effect) × MakesWeak a target partner log effect
      by_partner target (Some weak) = ([], pushes_object a weak, record { no_lines = refl; effect_is = refl })
      by_partner target None =
          let one = made_exists a Objects (object_bytes 0) (λ b found. weak_effect b target found) in
          (one.log, one.effect, one.makes)

  step_carried : (k : ℕ) → IsCarried a (commands.Step k)
  step_carried k =
      let one = scans_exist a k good in record { log = one.0; effect = done one.1; carries = (one.2, refl) }

  reap_carried : IsCarried a commands.Reap
  reap_carried = let one = reap_exists a in record { log = one.0; effect = done one.1; carries = (one.2, refl) }

  collect_carried : IsCarried a commands.Collect
  collect_carried =
      let one = collection_exists a in record { log = one.0; effect = done one.1; carries = (one.2, refl) }

  finish_carried : IsCarried a commands.Finish
  finish_carried = let one = finish_exists a in record { log = one.0; effect = done one.1; carries = (one.2, refl) }

  new_carried : (shape : Shape) → IsCarried a (commands.New shape)
  new_carried shape =
      let one = made_exists a Objects (object_bytes shape.slots) (λ b found. new_effect b shape found) in
      record { log = one.log; effect = one.effect; carries = one.makes }

  root_carried : (counted cells : ℕ) → IsCarried a (commands.Root counted cells)
  root_carried counted cells =
      let one = made_exists a Areas (area_bytes cells) (λ b found. area_effect b true counted cells found) in
      record { log = one.log; effect = one.effect; carries = one.makes }

  fixed_carried : (cells : ℕ) → IsCarried a (commands.Fixed cells)
  fixed_carried cells =
      let one = made_exists a Areas (area_bytes cells) (λ b found. area_effect b false 0 cells found) in
      record { log = one.log; effect = one.effect; carries = one.makes }

  plain : (command : Command) → IsPlain [] (plain_effect a command) (plain_effect a command)
  plain command = record { no_lines = refl; effect_is = refl }

  plain_carried : (command : Command) → Carries a command [] (plain_effect a command) → IsCarried a command
  plain_carried command h = record { log = []; effect = plain_effect a command; carries = h }

  carried : (command : Command) → refusal a command ≡ None → IsCarried a command
  carried (commands.New shape) e = new_carried shape
  carried (commands.Weak i) e = weak_carried i e
  carried (commands.Root counted cells) e = root_carried counted cells
  carried (commands.Fixed cells) e = fixed_carried cells
  carried commands.Reap e = reap_carried
  carried commands.Collect e = collect_carried
  carried (commands.Step k) e = step_carried k
  carried commands.Finish e = finish_carried
  carried (commands.Push word) e = plain_carried (commands.Push word) (plain (commands.Push word))
  carried (commands.Dup i) e = plain_carried (commands.Dup i) (plain (commands.Dup i))
  carried (commands.Pop k) e = plain_carried (commands.Pop k) (plain (commands.Pop k))
  carried (commands.Inner i d) e = plain_carried (commands.Inner i d) (plain (commands.Inner i d))
  carried (commands.Get i s) e = plain_carried (commands.Get i s) (plain (commands.Get i s))
  carried (commands.Put i s j) e = plain_carried (commands.Put i s j) (plain (commands.Put i s j))
  carried (commands.Look i) e = plain_carried (commands.Look i) (plain (commands.Look i))
  carried (commands.DropArea n) e = plain_carried (commands.DropArea n) (plain (commands.DropArea n))
  carried (commands.AreaGet n s) e = plain_carried (commands.AreaGet n s) (plain (commands.AreaGet n s))
  carried (commands.AreaPut n s j) e = plain_carried (commands.AreaPut n s j) (plain (commands.AreaPut n s j))
  carried commands.Begin e = plain_carried commands.Begin (plain commands.Begin)
  carried (commands.Map i) e = plain_carried (commands.Map i) (plain (commands.Map i))
  carried commands.Stat e = plain_carried commands.Stat (plain commands.Stat)

end_exists : (a : State) (full : Bool) → (log : List Line) × (b : State) × Ends a full log b
end_exists a true = ([], a, Refused_as_full refl refl refl)
end_exists a false =
    ⊎_elim (λ (below : zero_count a < a.threshold). ([], a, Below_threshold refl below refl refl))
    (λ (most : a.threshold ≤ zero_count a). let one = reap_exists a in (one.0, one.1, At_threshold refl most one.2))
    (cases_lt (zero_count a) a.threshold)

-- Each command has a group of lines that takes a good state to another one.
pub steps_exist : (a : State) (command : Command) → IsGood a
    → (group : List Line) × (b : State) × IsStep a command group b
steps_exist a command good = split (refusal a command) refl
  where
    split : (because : Option Refusal) → refusal a command ≡ because
        → (group : List Line) × (b : State) × IsStepUnless because a command group b
    split (Some because) e = (
      lines.Reply (replies.Refused because) ∷ [],
      one_more_command a,
      record { group_is = refl; state_is = refl },
    )
    split None e =
        let row = carried a good command e in
        let end = end_exists row.effect.state (is_full row.effect.reply) in (
          row.log ++ end.0 ++ lines.Reply row.effect.reply ∷ [],
          one_more_command end.1,
          record {
            log = row.log;
            effect = row.effect;
            carries = row.carries;
            end_log = end.0;
            end = end.1;
            ends = end.2;
            group_is = refl;
            state_is = refl;
          },
        )
