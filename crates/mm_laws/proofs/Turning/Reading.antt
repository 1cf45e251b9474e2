-- A step keeps what is promised of references: it acts on the object for which a reference was made, as it was born.
use Rattle.std.proofs.Common.{◌≡◌, ℕ, ◌+◌, ◌<◌, ◌≤◌, Bool, true, false, not, List, [], ◌∷◌, map, length, Option, Some}
use Rattle.std.proofs.Common.{None, refl, sym, ap, ◌∙◌, subst, ◌⊎◌, ⊎_elim, inl, inr, get_or, arith}
use Rattle.std.proofs.lemmas.Bool.Decides.{nat_tests}
use Rattle.std.proofs.lemmas.Option.{slice_get-map, slice_get_cases}
use Rattle.std.specs.Prelude.{IfSome, is_some, slice_get, nat_le, nat_lt, ◌||◌, if◌then◌else◌}
use Rattle.std.specs.List.{AllByRecursion}
use Rattle.std.specs.Option.{option_map, option_map_or, option_and_then, option_or}
use Rattle.mm_model.specs.declared.command.Command.{Command}
use Rattle.mm_model.specs.declared.command.Command.TheVariants as commands
use Rattle.mm_model.specs.declared.refusal.Refusal.{Refusal}
use Rattle.mm_model.specs.declared.refusal.Refusal.TheVariants as refusals
use Rattle.mm_model.specs.declared.reply.Reply.{Reply}
use Rattle.mm_model.specs.declared.reply.Reply.TheVariants as replies
use Rattle.mm_model.specs.declared.line.Line.{Line}
use Rattle.mm_model.specs.declared.settings.Settings.{Settings}
use Rattle.mm_model.specs.Places.SizeClass.{extent_of, object_bytes}
use Rattle.mm_model.specs.Value.{Value, reference}
use Rattle.mm_model.specs.Object.{Object, is_scanned, is_weak}
use Rattle.mm_model.specs.State.{State, Lives, one_more_command}
use Rattle.mm_model.specs.Words.{slot_kind_at, slot_kind, falls}
use Rattle.mm_model.specs.Meaning.{resolved, meant, meant_at, object_meant}
use Rattle.mm_model.specs.Places.Place.{Family, Objects}
use Rattle.mm_model.specs.Store.{refuses_word, store_reply}
use Rattle.mm_model.specs.Places.Search.{place_grown, Searches, At_once, After_reap, After_collection}
use Rattle.mm_model.specs.Good.{IsPaired, IsGood}
use Rattle.mm_model.specs.Effect.{Effect, with_some, map_reply, pushes, put_effect, weak_effect, weak_made}
use Rattle.mm_model.specs.Effect.{pushes_object, plain_effect}
use Rattle.mm_model.specs.Refusing.{first_refusal, refusal, no_cell, means_nothing, means_weak, is_outside, has_no_slot}
use Rattle.mm_model.specs.Refusing.{refuses_in_slot, is_stack_full, word_at}
use Rattle.mm_model.specs.Step.{Makes, MakesWeak, Carries, is_full, Ends, Refused_as_full, Below_threshold}
use Rattle.mm_model.specs.Step.{At_threshold, IsCarriedOut, IsStepUnless, IsStep}
use Rattle.mm_model.specs.Logs.Turns.{Turn, Born, born_at, births_if, births_of, births_in, made_for, last_written}
use Rattle.mm_model.specs.Logs.Turns.{reply_in}
use Rattle.mm_model.specs.Logs.Faithful.{unless_full, inner_answer, get_answer, map_answer, born_slot_kind}
use Rattle.mm_model.specs.Logs.Faithful.{stored_answer}
use Rattle.mm_model.specs.Logs.Faithful.{put_answer, HoldsReference, FindsNoPlace, HasWeak, AnswersWeak, ActsOnOrigin}
use Rattle.mm_model.specs.Logs.Faithful.{ReadsThroughReferences}
use Rattle.mm_model.proofs.Good.Allowed.{word_at-value}
use Rattle.mm_model.proofs.Good.Living.{each_get, each_append}
use Rattle.mm_model.specs.WeakReferences.{IsTarget, Partner, Freed, IsMadeFor}
use Rattle.mm_model.proofs.Cycle.Courses.{gone_lives_not}
use Rattle.mm_model.proofs.Lists.Keyed.{refuted}
use Rattle.mm_model.proofs.Lists.Truth.{no_other}
use Rattle.mm_laws.proofs.Keeping.FollowingSteps.{keeps-searched, strong-allowed}
use Rattle.mm_laws.proofs.Meaning.Referring.{lives-reference, resolved-reference, within-get, past-get}
use Rattle.mm_laws.proofs.Turning.Grids.{word_in}
use Rattle.mm_laws.proofs.Turning.Knowing.{turn_of, Outline, outline, outline_of, slot_words}
use Rattle.mm_laws.proofs.Turning.Remembering.{Knows}
use Rattle.mm_laws.proofs.Turning.Replies.{reply-carried}

-- the reply of a command that makes nothing
abbrev answered : Option Refusal → Reply → Reply
answered (Some because) reply = replies.Refused because
answered None reply = reply

module _ (a : State) (command : Command) (group : List Line) (b : State) (step : IsStep a command group b)
    (plain : (log : List Line) (effect : Effect) → Carries a command log effect → effect ≡ plain_effect a command) where
  answered-step : reply_in group ≡ Some (answered (refusal a command) (plain_effect a command).reply)
  answered-step = split (refusal a command) step
    where
      split : (because : Option Refusal) → IsStepUnless because a command group b
          → reply_in group ≡ Some (answered because (plain_effect a command).reply)
      split (Some because) m = ap reply_in m.group_is
      split None m =
          reply-carried a command group b m ∙ ap (λ (e : Effect). Some e.reply) (plain m.log m.effect m.carries)

-- a row of which the first two tests fail, with a test that must hold and one that must not
row-answer : (one two three four : Refusal) (fits full : Bool) (reply : Reply)
    → answered (first_refusal ((false, one) ∷ (false, two) ∷ (not fits, three) ∷ (full, four) ∷ [])) reply
    ≡ (if fits then (if full then replies.Refused four else reply) else replies.Refused three)
row-answer one two three four true true reply = refl
row-answer one two three four true false reply = refl
row-answer one two three four false full reply = refl

nat_le-not : (n s : ℕ) → nat_le n s ≡ not (nat_lt s n)
nat_le-not n s = split (nat_lt s n) refl
  where
    split : (b : Bool) → nat_lt s n ≡ b → nat_le n s ≡ not b
    split true e = let less : s < n = grind (arith, nat_tests) in grind (arith, nat_tests)
    split false e = let past : n ≤ s = grind (arith, nat_tests) in grind (arith, nat_tests)

-- what has a target is a weak reference
abbrev IsWeakIfTargeted : Born → Type 0
IsWeakIfTargeted born = (target : ℕ) → born.target ≡ Some target → is_weak born.shape.kind ≡ true

targeted-births : (turn : Turn) → AllByRecursion IsWeakIfTargeted (births_of turn)
targeted-births turn = by_reply (reply_in turn.group)
  where
    by_command : (command : Command) (base : ℕ) → AllByRecursion IsWeakIfTargeted (born_at turn.before command base)
    by_command (commands.New shape) base = (λ target e. cc, tt)
    by_command (commands.Weak i) base = (λ target e. refl, tt)
    by_command command base = tt

    by_reply : (reply : Option Reply) → AllByRecursion IsWeakIfTargeted (births_if turn.before turn.command reply)
    by_reply (Some (replies.New base)) = by_command turn.command base
    by_reply reply = tt

targeted : (turns : List Turn) → AllByRecursion IsWeakIfTargeted (births_in turns)
targeted [] = tt
targeted (turn ∷ turns) =
    each_append IsWeakIfTargeted (births_of turn) (births_in turns) (targeted-births turn) (targeted turns)

target_is_weak : (turns : List Turn) (k : ℕ) (born : Born) → slice_get (births_in turns) k ≡ Some born
    → (target : ℕ) → born.target ≡ Some target → is_weak born.shape.kind ≡ true
target_is_weak turns k born e = each_get IsWeakIfTargeted (births_in turns) k born (targeted turns) e

-- a search that finds nothing leaves a state in which there is no place
searched-none : (a : State) (family : Family) (bytes : ℕ) (log : List Line) (b : State) (found : Option ℕ)
    → Searches a family bytes log b found → found ≡ None → place_grown b family bytes ≡ None
searched-none a family bytes log b found (At_once base place lines same is) e = cc
searched-none a family bytes log b found (After_reap base dead none reapable place lines same is) e = cc
searched-none a family bytes log b found (After_collection dead lost none reapable no_place unreached lines same is) e =
    ap (λ s. place_grown s family bytes) same ∙ sym is ∙ e

module _ (settings : Settings) (turns : List Turn) (a : State) (known : Knows settings turns a) (i birth : ℕ)
    (holds : HoldsReference a i birth) where
  abbrev value : Value
  value = holds.value

  abbrev good : IsGood a
  good = known.good

  referred : (object : Object) × Lives a birth object
  referred = lives-reference a i birth holds.value known.good holds.cell holds.origin

  abbrev object : Object
  object = referred.0

  means : meant_at a i ≡ Some birth
  means =
      ap (λ c. option_and_then (meant a) c) holds.cell
      ∙ ap (λ o. option_or o (resolved a holds.value.word)) holds.origin

  meant_object : object_meant a i ≡ Some object
  meant_object = ap (option_and_then (slice_get a.objects)) means ∙ referred.1.is

  there : no_cell a i ≡ false
  there = within-get a.stack i holds.value holds.cell

  something : means_nothing a i ≡ false
  something = ap (λ o. not (is_some o)) meant_object

  -- as it was born
  record Origin : Type 0 where
    born : Born
    is : slice_get (births_in turns) birth ≡ Some born
    outlined : outline_of born ≡ outline object

  origin : Origin
  origin =
      split (slice_get (births_in turns) birth) refl
      (sym (slice_get-map outline_of (births_in turns) birth)
      ∙ sym (ap (λ os. slice_get os birth) known.as_born)
      ∙ slice_get-map outline a.objects birth
      ∙ ap (option_map outline) referred.1.is)
    where
      split : (found : Option Born) → slice_get (births_in turns) birth ≡ found
          → option_map outline_of found ≡ Some (outline object) → Origin
      split None e f = cc
      split (Some born) e f =
          record { born = born; is = e; outlined = let same : outline_of born ≡ outline object = cc in same }

  abbrev born : Born
  born = origin.born

  count_is : length object.slots ≡ born.shape.slots
  count_is = sym (ap (λ (o : Outline). o.count) origin.outlined)

  -- `inner`
  inner-answer : (bytes : ℕ)
      → answered (refusal a (commands.Inner i bytes)) (plain_effect a (commands.Inner i bytes)).reply
      ≡ inner_answer a born (holds.value.word + bytes)
  inner-answer bytes =
      let outside : is_outside a i bytes
      ≡ not (falls (holds.value.word + bytes) born.base (extent_of (object_bytes born.shape.slots))) =
      ap (λ o. option_map_or (λ (x : Object). not (falls (word_at a i + bytes) x.base x.extent)) o false) meant_object
      ∙ ap (λ word. not (falls (word + bytes) object.base object.extent)) (word_at-value a i holds.value holds.cell)
      ∙ ap (λ (o : Outline). not (falls (holds.value.word + bytes) o.base o.extent)) (sym origin.outlined) in
      let reply : (plain_effect a (commands.Inner i bytes)).reply ≡ replies.Word (holds.value.word + bytes) =
      ap
      (λ found. (with_some found a (λ v. pushes (record v { word = v.word + bytes }) a)).reply) holds.cell in
      ap (answered (refusal a (commands.Inner i bytes))) reply
      ∙ (λ t. answered
      (first_refusal ((there t, refusals.NoCell) ∷ (something t, refusals.Nothing) ∷ (outside t, refusals.Outside)
      ∷ (is_stack_full a, refusals.StackFull) ∷ [])) (replies.Word (holds.value.word + bytes)))
      ∙ row-answer refusals.NoCell refusals.Nothing refusals.Outside refusals.StackFull
      (falls (holds.value.word + bytes) born.base (extent_of (object_bytes born.shape.slots))) (is_stack_full a)
      (replies.Word (holds.value.word + bytes))

  missing : (s : ℕ) → has_no_slot a i s ≡ not (nat_lt s born.shape.slots)
  missing s =
      ap (λ o. option_map_or (λ (x : Object). nat_le (length x.slots) s) o false) meant_object
      ∙ ap (λ n. nat_le n s) count_is ∙ nat_le-not born.shape.slots s

  -- `get`
  get-answer : (s : ℕ) → answered (refusal a (commands.Get i s)) (plain_effect a (commands.Get i s)).reply
      ≡ get_answer a born s (last_written turns birth s)
  get-answer s =
      ap (answered (refusal a (commands.Get i s))) effect
      ∙ (λ t. answered
      (first_refusal ((there t, refusals.NoCell) ∷ (something t, refusals.Nothing) ∷ (missing s t, refusals.NoSlot)
      ∷ (is_stack_full a, refusals.StackFull) ∷ [])) (read (slice_get object.slots s)))
      ∙ row-answer refusals.NoCell refusals.Nothing refusals.NoSlot refusals.StackFull (nat_lt s born.shape.slots)
      (is_stack_full a) (read (slice_get object.slots s))
      ∙ by_slot (nat_lt s born.shape.slots) refl
    where
      read : Option Value → Reply
      read found = (with_some found a (λ v. pushes v a)).reply

      effect : (plain_effect a (commands.Get i s)).reply ≡ read (slice_get object.slots s)
      effect =
          ap (λ o. (with_some o a (λ (x : Object). with_some (slice_get x.slots s) a (λ v. pushes v a))).reply)
          meant_object

      by_slot : (fits : Bool) → nat_lt s born.shape.slots ≡ fits
          → (if nat_lt s born.shape.slots
          then (if is_stack_full a then replies.Refused refusals.StackFull else read (slice_get object.slots s))
          else replies.Refused refusals.NoSlot)
          ≡ get_answer a born s (last_written turns birth s)
      by_slot false e =
          ap
          (λ fits.
          if fits
          then (if is_stack_full a then replies.Refused refusals.StackFull else read (slice_get object.slots s))
          else replies.Refused refusals.NoSlot) e
          ∙ sym
          (ap
          (λ fits.
          if fits then unless_full a (replies.Word (last_written turns birth s))
          else replies.Refused refusals.NoSlot) e)
      by_slot true e =
          ap
          (λ reply.
          if nat_lt s born.shape.slots
          then (if is_stack_full a then replies.Refused refusals.StackFull else reply)
          else replies.Refused refusals.NoSlot)
          (⊎_elim
          (λ (l : (v : Value) × (s < length object.slots) × (slice_get object.slots s ≡ Some v)
          × (get_or object.slots s v ≡ v)).
          ap read l.2 ∙ ap (λ (word : ℕ). replies.Word word) (known.written.last birth s l.0.word (stands l.0 l.2)))
          (λ (r : (length object.slots ≤ s) × (slice_get object.slots s ≡ None)).
          let past = r.0 in
          let same = count_is in
          let less : s < born.shape.slots = grind (arith, nat_tests) in
          absurd (omega arith))
          (slice_get_cases object.slots s).1)
        where
          stands : (v : Value) → slice_get object.slots s ≡ Some v
              → word_in (map slot_words a.objects) birth s ≡ Some v.word
          stands v is =
              ap (option_and_then (λ row. slice_get row s))
              (slice_get-map slot_words a.objects birth ∙ ap (option_map slot_words) referred.1.is)
              ∙ slice_get-map (λ (x : Value). x.word) object.slots s
              ∙ ap (option_map (λ (x : Value). x.word)) is

  -- `map`
  map-answer : answered (refusal a (commands.Map i)) (plain_effect a (commands.Map i)).reply ≡ map_answer born
  map-answer =
      ap (λ missing. answered (first_refusal ((missing, refusals.NoCell) ∷ [])) (map_reply (object_meant a i))) there
      ∙ ap map_reply meant_object
      ∙ ap
      (λ (o : Outline).
      replies.Object (record { base = o.base; kind = o.kind; finalize = o.finalize; extent = o.extent }))
      (sym origin.outlined)

  -- `put`
  kind_is : (s : ℕ) → slot_kind object s ≡ born_slot_kind born s
  kind_is s = ap (λ (o : Outline). slot_kind_at (is_scanned o.kind) o.counted s) (sym origin.outlined)

  stored-answer : (s j : ℕ) (stored : Value) → slice_get a.stack j ≡ Some stored
      → answered (refusal a (commands.Put i s j)) (plain_effect a (commands.Put i s j)).reply
      ≡ stored_answer a born s stored.word
  stored-answer s j stored cell =
      let cells : (no_cell a i || no_cell a j) ≡ false =
      ap (λ c. c || no_cell a j) there ∙ within-get a.stack j stored cell in
      let refuses : refuses_in_slot a i s j ≡ refuses_word a (born_slot_kind born s) stored.word =
      ap (λ o. option_map_or (λ (x : Object). refuses_word a (slot_kind x s) (word_at a j)) o false) meant_object
      ∙ ap (λ word. refuses_word a (slot_kind object s) word) (word_at-value a j stored cell)
      ∙ ap (λ kind. refuses_word a kind stored.word) (kind_is s) in
      let effect : (plain_effect a (commands.Put i s j)).reply ≡ store_reply a (born_slot_kind born s) stored.word =
      ap
      (λ (found : Option ℕ).
      (with_some found a
      (λ birth. with_some (slice_get a.objects birth) a
      (λ object. with_some (slice_get a.stack j) a (put_effect a birth object s)))).reply)
      means
      ∙ ap
      (λ (found : Option Object).
      (with_some found a (λ object. with_some (slice_get a.stack j) a (put_effect a birth object s))).reply)
      referred.1.is
      ∙ ap (λ (found : Option Value). (with_some found a (put_effect a birth object s)).reply) cell
      ∙ ap (λ kind. store_reply a kind stored.word) (kind_is s) in
      ap (answered (refusal a (commands.Put i s j))) effect
      ∙ (λ t. answered
      (first_refusal ((cells t, refusals.NoCell) ∷ (something t, refusals.Nothing) ∷ (missing s t, refusals.NoSlot)
      ∷ (refuses t, refusals.NotCounted) ∷ [])) (store_reply a (born_slot_kind born s) stored.word))
      ∙ row-answer refusals.NoCell refusals.Nothing refusals.NoSlot refusals.NotCounted (nat_lt s born.shape.slots)
      (refuses_word a (born_slot_kind born s) stored.word) (store_reply a (born_slot_kind born s) stored.word)

  put-answer : (s j : ℕ) (stored : Option Value) → slice_get a.stack j ≡ stored
      → answered (refusal a (commands.Put i s j)) (plain_effect a (commands.Put i s j)).reply
      ≡ put_answer a born s stored
  put-answer s j (Some stored) cell = stored-answer s j stored cell
  put-answer s j None cell =
      let cells : (no_cell a i || no_cell a j) ≡ true =
      ap (λ c. c || no_cell a j) there ∙ past-get a.stack j cell in
      λ t. answered
      (first_refusal ((cells t, refusals.NoCell) ∷ (means_nothing a i, refusals.Nothing)
      ∷ (has_no_slot a i s, refusals.NoSlot) ∷ (refuses_in_slot a i s j, refusals.NotCounted) ∷ []))
      (plain_effect a (commands.Put i s j)).reply

  -- `weak`, of the weak reference that there is
  born_of : (k : ℕ) (x : Object) → slice_get a.objects k ≡ Some x
      → (old : Born) × (slice_get (births_in turns) k ≡ Some old) × (outline_of old ≡ outline x)
  born_of k x is =
      split (slice_get (births_in turns) k) refl
      (sym (slice_get-map outline_of (births_in turns) k)
      ∙ sym (ap (λ os. slice_get os k) known.as_born)
      ∙ slice_get-map outline a.objects k
      ∙ ap (option_map outline) is)
    where
      split : (found : Option Born) → slice_get (births_in turns) k ≡ found
          → option_map outline_of found ≡ Some (outline x)
          → (old : Born) × (slice_get (births_in turns) k ≡ Some old) × (outline_of old ≡ outline x)
      split None e f = cc
      split (Some old) e f = (old, e, let same : outline_of old ≡ outline x = cc in same)

  -- the weak reference of an object was made for it
  made_for-partner : (weak : ℕ) → object.partner ≡ Some weak → is_weak object.kind ≡ false
      → made_for turns weak ≡ Some birth
  made_for-partner weak is strong =
      let pair = subst (λ p. IfSome p (IsPaired a birth object)) is
      (known.good.paired birth object referred.1) in
      let old = born_of weak pair.partner pair.lives.is in
      let kind : is_weak old.0.shape.kind ≡ true =
      other_kind (is_weak old.0.shape.kind)
      (λ e. pair.one_weak
      (sym (ap (λ (o : Outline). is_weak o.kind) old.2) ∙ e ∙ sym strong)) in
      let target = known.targets weak old.0 old.1 kind in
      let first = target.made.is in
      let second = pair.lives.is in
      let same : target.made.object ≡ pair.partner = cc in
      let own : IsTarget a pair.partner target.target =
      subst (λ o. IsTarget a o target.target) same target.made.of_target in
      let at : target.target ≡ birth = of_target pair.partner target.target pair.back own in
      ap (option_and_then (λ (x : Born). x.target)) old.1 ∙ target.is ∙ ap (λ (n : ℕ). Some n) at
    where
      other_kind : (b : Bool) → (b ≡ false → ⊥) → b ≡ true
      other_kind true f = refl
      other_kind false f = absurd (f refl)

      of_target : (x : Object) (target : ℕ) → x.partner ≡ Some birth → IsTarget a x target → target ≡ birth
      of_target x target back (Partner own) = let same : target ≡ birth = cc in same
      of_target x target back (Freed none gone) = cc

  -- and what was made for it is its weak reference
  partner-made_for : (base : ℕ) → HasWeak turns a birth base
      → (w : ℕ) × (object.partner ≡ Some w) × (is_weak object.kind ≡ false)
      × (x : Object) × (slice_get a.objects w ≡ Some x) × (x.base ≡ base)
  partner-made_for base h = split (slice_get (births_in turns) h.weak) refl h.made
    where
      split : (found : Option Born) → slice_get (births_in turns) h.weak ≡ found
          → option_and_then (λ (x : Born). x.target) found ≡ Some birth
          → (w : ℕ) × (object.partner ≡ Some w) × (is_weak object.kind ≡ false)
          × (x : Object) × (slice_get a.objects w ≡ Some x) × (x.base ≡ base)
      split None e f = cc
      split (Some old) e f =
          let kind = target_is_weak turns h.weak old e birth f in
          let target = known.targets h.weak old e kind in
          let targeted = target.is in
          let at : target.target ≡ birth = cc in
          let made : IsMadeFor a h.weak birth = subst (IsMadeFor a h.weak) at target.made in
          let first = made.is in
          let second = h.lives.lives.is in
          let same : made.object ≡ h.lives.object = cc in
          let own : IsTarget a h.lives.object birth = subst (λ o. IsTarget a o birth) same made.of_target in
          let weak_kind : is_weak h.lives.object.kind ≡ true =
          ap (λ (o : Object). is_weak o.kind) (sym same) ∙ made.is_weak in
          partner_of own weak_kind
        where
          partner_of : IsTarget a h.lives.object birth → is_weak h.lives.object.kind ≡ true
              → (w : ℕ) × (object.partner ≡ Some w) × (is_weak object.kind ≡ false)
              × (x : Object) × (slice_get a.objects w ≡ Some x) × (x.base ≡ base)
          partner_of (Freed none gone) kind = absurd (gone_lives_not a birth gone object referred.1)
          partner_of (Partner is) kind =
              let pair = subst (λ p. IfSome p (IsPaired a h.weak h.lives.object)) is
              (known.good.paired h.weak h.lives.object h.lives.lives) in
              let first = pair.lives.is in
              let second = referred.1.is in
              let same : pair.partner ≡ object = cc in (
                h.weak,
                ap (λ (o : Object). o.partner) (sym same) ∙ pair.back,
                refuted (is_weak object.kind)
                    (λ e. pair.one_weak (ap (λ (o : Object). is_weak o.kind) same ∙ e ∙ sym kind)),
                h.lives.object,
                h.lives.lives.is,
                h.lives.at,
              )

  module _ (group : List Line) (b : State) (step : IsStep a (commands.Weak i) group b) where
    kind-meant : means_weak a i ≡ is_weak object.kind
    kind-meant = ap (λ o. option_map_or (λ (x : Object). is_weak x.kind) o false) meant_object

    -- what refuses it is that it is a weak reference, or a full stack
    weak_row : (own full : Bool) → is_weak object.kind ≡ own → is_stack_full a ≡ full
        → refusal a (commands.Weak i)
        ≡ first_refusal ((own, refusals.NoWeak) ∷ (full, refusals.StackFull) ∷ [])
    weak_row own full kind room =
        let weak : means_weak a i ≡ own = kind-meant ∙ kind in
        λ t. first_refusal ((there t, refusals.NoCell) ∷ (something t, refusals.Nothing) ∷ (weak t, refusals.NoWeak)
        ∷ (room t, refusals.StackFull) ∷ [])

    refused-replied : (because : Refusal) → refusal a (commands.Weak i) ≡ Some because
        → reply_in group ≡ Some (replies.Refused because)
    refused-replied because is =
        let m = subst (λ r. IsStepUnless r a (commands.Weak i) group b) is step in ap reply_in m.group_is

    of_weak-replied : is_weak object.kind ≡ true → reply_in group ≡ Some (replies.Refused refusals.NoWeak)
    of_weak-replied kind = refused-replied refusals.NoWeak (weak_row true (is_stack_full a) kind refl)

    full-replied : is_weak object.kind ≡ false → is_stack_full a ≡ true
        → reply_in group ≡ Some (replies.Refused refusals.StackFull)
    full-replied kind full = refused-replied refusals.StackFull (weak_row false true kind full)

  module _ (group : List Line) (b : State) (step : IsStep a (commands.Weak i) group b) (fits : is_stack_full a ≡ false)
    where
      weak_allowed : is_weak object.kind ≡ false → refusal a (commands.Weak i) ≡ None
      weak_allowed strong = weak_row group b step false false strong fits

      kept-replied : (base : ℕ) → HasWeak turns a birth base → reply_in group ≡ Some (replies.Word base)
      kept-replied base h =
          let found = partner-made_for base h in
          let m = subst (λ r. IsStepUnless r a (commands.Weak i) group b) (weak_allowed found.2) step in
          let object_is = m.carries.object_is in
          let meant_is = meant_object in
          let same : m.carries.object ≡ object = cc in
          let partner : m.carries.object.partner ≡ Some found.0 =
          ap (λ (o : Object). o.partner) same ∙ found.1 in
          let kept = subst (λ p. MakesWeak a m.carries.target p m.log m.effect) partner m.carries.makes in
          reply-carried a (commands.Weak i) group b m
          ∙ ap (λ (e : Effect). Some e.reply) kept.effect_is
          ∙ ap (λ o. Some (with_some o a (λ (x : Object). pushes (reference x.base found.0) a)).reply) found.4
          ∙ ap (λ (n : ℕ). Some (replies.Word n)) found.5

      replied-kept : (base : ℕ) → reply_in group ≡ Some (replies.Word base) → HasWeak turns a birth base
      replied-kept base e = split (refusal a (commands.Weak i)) refl step
        where
          by_partner : (partner : Option ℕ) → object.partner ≡ partner → is_weak object.kind ≡ false → (target : ℕ)
              → (log : List Line) (effect : Effect) → MakesWeak a target partner log effect
              → effect.reply ≡ replies.Word base → HasWeak turns a birth base
          by_partner (Some weak) is strong target log effect m replied =
              let pair = subst (λ p. IfSome p (IsPaired a birth object)) is
              (known.good.paired birth object referred.1) in
              let first : (pushes_object a weak).reply ≡ replies.Word base =
              ap (λ (x : Effect). x.reply) (sym m.effect_is) ∙ replied in
              let told : replies.Word pair.partner.base ≡ replies.Word base =
              sym (ap (λ o. (with_some o a (λ (x : Object). pushes (reference x.base weak) a)).reply) pair.lives.is)
              ∙ first in
              record {
                weak = weak;
                made = made_for-partner weak is strong;
                lives = record {
                  object = pair.partner;
                  lives = pair.lives;
                  at = let same : pair.partner.base ≡ base = cc in same;
                };
              }
          by_partner None is strong target log effect m replied =
              absurd (no_word m.found (ap (λ (x : Effect). x.reply) (sym m.effect_is) ∙ replied))
            where
              by_target : (place : ℕ) (found : Option Object)
                  → (with_some found m.state
                  (λ x. record { state = weak_made m.state target x place; reply = replies.New place })).reply
                  ≡ replies.Word base → ⊥
              by_target place None q = cc
              by_target place (Some x) q = cc

              no_word : (found : Option ℕ) → (weak_effect m.state target found).reply ≡ replies.Word base → ⊥
              no_word None q = cc
              no_word (Some place) q = by_target place (slice_get m.state.objects target) q

          split : (because : Option Refusal) → refusal a (commands.Weak i) ≡ because
              → IsStepUnless because a (commands.Weak i) group b → HasWeak turns a birth base
          split (Some because) r m = let refused = sym (ap reply_in m.group_is) ∙ e in cc
          split None r m =
              let object_is = m.carries.object_is in
              let meant_is = meant_object in
              let same : m.carries.object ≡ object = cc in
              let strong = strong-allowed a i m.carries.target m.carries.object r m.carries.target_is
              m.carries.object_is
              in
              let first = sym (reply-carried a (commands.Weak i) group b m) ∙ e in
              let replied : m.effect.reply ≡ replies.Word base = cc in
              by_partner m.carries.object.partner (ap (λ (o : Object). o.partner) (sym same))
              (ap (λ (o : Object). is_weak o.kind) (sym same) ∙ strong.strong) m.carries.target m.log m.effect
              m.carries.makes replied

  module _ (group : List Line) (b : State) (step : IsStep a (commands.Weak i) group b) (fits : is_stack_full a ≡ false)
      (strong : is_weak object.kind ≡ false) where
    carried : IsCarriedOut a (commands.Weak i) group b
    carried =
        subst (λ r. IsStepUnless r a (commands.Weak i) group b) (weak_allowed group b step fits strong) step

    same-target : carried.carries.target ≡ birth
    same-target = let first = carried.carries.target_is in let second = means in cc

    same-meant : carried.carries.object ≡ object
    same-meant = let first = carried.carries.object_is in let second = meant_object in cc

    replied-is : reply_in group ≡ Some carried.effect.reply
    replied-is = reply-carried a (commands.Weak i) group b carried

    this-weak : (weak : ℕ) → object.partner ≡ Some weak → (base : ℕ) × HasWeak turns a birth base
    this-weak weak is =
        let pair = subst (λ p. IfSome p (IsPaired a birth object)) is
        (known.good.paired birth object referred.1) in (
          pair.partner.base,
          record {
            weak = weak;
            made = made_for-partner weak is strong;
            lives = record { object = pair.partner; lives = pair.lives; at = refl };
          },
        )

    -- where no place was found, the state after is that of the search, but for the number of commands
    refused-full : carried.effect.reply ≡ replies.Refused refusals.Full
        → place_grown carried.effect.state Objects (object_bytes 0) ≡ None
        → FindsNoPlace (turn_of a (commands.Weak i) group b)
    refused-full full none =
        record {
          refused = replied-is ∙ ap (λ (r : Reply). Some r) full;
          none = ap (λ s. place_grown s Objects (object_bytes 0)) (carried.state_is ∙ ap one_more_command end_is)
              ∙ none;
        }
      where
        end_is : carried.end ≡ carried.effect.state
        end_is = split (is_full carried.effect.reply) (ap is_full full) carried.ends
          where
            split : (c : Bool) → c ≡ true → Ends carried.effect.state c carried.end_log carried.end
                → carried.end ≡ carried.effect.state
            split c e (Refused_as_full is lines same) = same
            split c e (Below_threshold is below lines same) = absurd (no_other is e)
            split c e (At_threshold is above reaps) = absurd (no_other is e)

    made-replied : ((base : ℕ) → HasWeak turns a birth base → ⊥)
        → ((base : ℕ) × (reply_in group ≡ Some (replies.New base)))
        ⊎ FindsNoPlace (turn_of a (commands.Weak i) group b)
    made-replied none =
        by_partner object.partner refl
        (subst (λ (x : Object). MakesWeak a carried.carries.target x.partner carried.log carried.effect) same-meant
        carried.carries.makes)
      where
        by_found : (m : Makes a Objects (object_bytes 0) (λ b found. weak_effect b carried.carries.target found)
            carried.log carried.effect) → (found : Option ℕ) → m.found ≡ found
            → ((base : ℕ) × (reply_in group ≡ Some (replies.New base)))
            ⊎ FindsNoPlace (turn_of a (commands.Weak i) group b)
        by_found m None e =
            let effect : carried.effect ≡ weak_effect m.state carried.carries.target None =
            m.effect_is ∙ ap (weak_effect m.state carried.carries.target) e in
            inr (refused-full (ap (λ (x : Effect). x.reply) effect)
            (ap (λ (x : Effect). place_grown x.state Objects (object_bytes 0)) effect
            ∙ searched-none a Objects (object_bytes 0) carried.log m.state m.found m.search e))
        by_found m (Some place) e =
            let kept = keeps-searched a Objects (object_bytes 0) carried.log m.state m.found m.search birth object
            referred.1.is in
            let there : slice_get m.state.objects carried.carries.target ≡ Some kept.after =
            ap (slice_get m.state.objects) same-target ∙ kept.is in
            let reply : carried.effect.reply ≡ replies.New place =
            ap (λ (x : Effect). x.reply) (m.effect_is ∙ ap (weak_effect m.state carried.carries.target) e)
            ∙ ap
            (λ o. (with_some o m.state
            (λ x. record {
              state = weak_made m.state carried.carries.target x place;
              reply = replies.New place;
            })).reply)
            there in
            inl (place, replied-is ∙ ap (λ (r : Reply). Some r) reply)

        by_partner : (partner : Option ℕ) → object.partner ≡ partner
            → MakesWeak a carried.carries.target partner carried.log carried.effect
            → ((base : ℕ) × (reply_in group ≡ Some (replies.New base)))
            ⊎ FindsNoPlace (turn_of a (commands.Weak i) group b)
        by_partner (Some weak) is m = let one = this-weak weak is in absurd (none one.0 one.1)
        by_partner None is m = by_found m m.found refl

  weak-answer : (group : List Line) (b : State) → IsStep a (commands.Weak i) group b
      → AnswersWeak turns (turn_of a (commands.Weak i) group b) birth born
  weak-answer group b step =
      let kind : is_weak born.shape.kind ≡ is_weak object.kind = ap (λ (o : Outline). is_weak o.kind) origin.outlined in
      record {
        of_weak = λ e. of_weak-replied group b step (sym kind ∙ e);
        full = λ e room. full-replied group b step (sym kind ∙ e) room;
        kept = λ e fits base. (kept-replied group b step fits base, replied-kept group b step fits base);
        made = λ e fits none. made-replied group b step fits (sym kind ∙ e) none;
      }

  -- all of it
  acts_on_origin : (command : Command) (group : List Line) (b : State) → IsStep a command group b
      → ActsOnOrigin turns (turn_of a command group b) i birth holds.value.word
  acts_on_origin command group b step =
      record {
        born = origin.born;
        was_born = origin.is;
        lives = record {
          object = object;
          lives = referred.1;
          at = sym (ap (λ (o : Outline). o.base) origin.outlined);
        };
        means = resolved-reference a i birth holds.value known.good holds.cell holds.origin;
        inner = λ bytes e.
            answered-step a (commands.Inner i bytes) group b (subst (λ c. IsStep a c group b) e step)
            (λ log effect m. m.effect_is)
            ∙ ap (λ (r : Reply). Some r) (inner-answer bytes);
        get = λ s e.
            answered-step a (commands.Get i s) group b (subst (λ c. IsStep a c group b) e step)
            (λ log effect m. m.effect_is)
            ∙ ap (λ (r : Reply). Some r) (get-answer s);
        map = λ e.
            answered-step a (commands.Map i) group b (subst (λ c. IsStep a c group b) e step)
            (λ log effect m. m.effect_is)
            ∙ ap (λ (r : Reply). Some r) map-answer;
        put = λ s j e.
            answered-step a (commands.Put i s j) group b (subst (λ c. IsStep a c group b) e step)
            (λ log effect m. m.effect_is)
            ∙ ap (λ (r : Reply). Some r) (put-answer s j (slice_get a.stack j) refl);
        weak = λ e.
            subst (λ c. AnswersWeak turns (turn_of a c group b) birth born) (sym e)
            (weak-answer group b (subst (λ c. IsStep a c group b) e step));
      }

-- the commands that act on what a cell means
abbrev pub goes_through : Command → Bool
goes_through (commands.Inner i bytes) = true
goes_through (commands.Get i s) = true
goes_through (commands.Put i s j) = true
goes_through (commands.Weak i) = true
goes_through (commands.Map i) = true
goes_through command = false

-- any other one answers nothing through a reference, whatever it writes
pub references-idle : (settings : Settings) (turns : List Turn) (a : State) (command : Command) (group : List Line)
    (b : State) → Knows settings turns a → goes_through command ≡ false
    → ReadsThroughReferences turns (turn_of a command group b)
references-idle settings turns a command group b known idle i birth holds =
    let own = origin settings turns a known i birth holds in
    let found = referred settings turns a known i birth holds in
    record {
      born = own.born;
      was_born = own.is;
      lives = record {
        object = found.0;
        lives = found.1;
        at = sym (ap (λ (o : Outline). o.base) own.outlined);
      };
      means = resolved-reference a i birth holds.value known.good holds.cell holds.origin;
      inner = λ bytes e. absurd (no_other idle (ap goes_through e));
      get = λ s e. absurd (no_other idle (ap goes_through e));
      map = λ e. absurd (no_other idle (ap goes_through e));
      put = λ s j e. absurd (no_other idle (ap goes_through e));
      weak = λ e. absurd (no_other idle (ap goes_through e));
    }

pub references-step : (settings : Settings) (turns : List Turn) (a : State) (command : Command) (group : List Line)
    (b : State) → Knows settings turns a → IsStep a command group b
    → ReadsThroughReferences turns (turn_of a command group b)
references-step settings turns a command group b known step i birth holds =
    acts_on_origin settings turns a known i birth holds command group b step
