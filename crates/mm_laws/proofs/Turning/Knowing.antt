-- What turns tell of the state that they lead to.
use Rattle.std.proofs.Common.{◌≡◌, ℕ, ◌+◌, ◌<◌, ◌≤◌, Bool, true, false, zero, suc, eqb-true, get_or, List, [], ◌∷◌}
use Rattle.std.proofs.Common.{◌++◌, map, length, Option, Some, None, refl, sym, ap, ◌∙◌, subst, ⊎_elim, arith}
use Rattle.std.proofs.lemmas.List.{append-nil, map-append, length-map, length-append, length-set, length-replicate}
use Rattle.std.proofs.lemmas.List.Sums.{fold-append}
use Rattle.std.proofs.lemmas.Grind.{flat_map-append}
use Rattle.std.proofs.lemmas.Bool.{and_parts, eq-eqb}
use Rattle.std.proofs.lemmas.Bool.Decides.{nat_tests}
use Rattle.std.proofs.lemmas.Option.{slice_get-map, slice_get_within, slice_get_cases}
use Rattle.std.specs.Prelude.{nat_le, slice_get, slice_set, replicate, ◌&&◌, ◌||◌, ◌==◌, if◌then◌else◌}
use Rattle.std.specs.Option.{option_map, option_map_or, option_and_then}
use Rattle.mm_model.specs.declared.command.Command.{Command}
use Rattle.mm_model.specs.declared.command.Command.TheVariants as commands
use Rattle.mm_model.specs.declared.object.Kind.{Kind}
use Rattle.mm_model.specs.declared.object.Shape.{Shape}
use Rattle.mm_model.specs.declared.refusal.Refusal.{Refusal}
use Rattle.mm_model.specs.declared.refusal.Refusal.TheVariants as refusals
use Rattle.mm_model.specs.declared.reply.Reply.TheVariants as replies
use Rattle.mm_model.specs.declared.line.Line.{Line}
use Rattle.mm_model.specs.Places.SizeClass.{extent_of, object_bytes}
use Rattle.mm_model.specs.Value.{Value, integer, words_of}
use Rattle.mm_model.specs.Object.{Object}
use Rattle.mm_model.specs.State.{State}
use Rattle.mm_model.specs.Meaning.{meant_at, object_meant, stored}
use Rattle.mm_model.specs.Words.{SlotKind, slot_kind}
use Rattle.mm_model.specs.Store.{with_slot, is_loose, store_reply}
use Rattle.mm_model.specs.Phase.{is_freed, unless_freed}
use Rattle.mm_model.specs.Effect.{Effect, with_some, put_effect}
use Rattle.mm_model.specs.Refusing.{refusal, word_at, no_cell, means_nothing, has_no_slot, refuses_in_slot}
use Rattle.mm_model.specs.Step.{IsCarriedOut, IsStepUnless, IsStep}
use Rattle.mm_model.specs.Logs.Turns.{Turn, Born, births_if, births_of, births_in, write_in, write_of, word_after}
use Rattle.mm_model.specs.Logs.Turns.{last_written, was_refused, is_refusal, reply_in}
use Rattle.mm_model.proofs.Lists.Replaced.{map-set}
use Rattle.mm_model.proofs.Lists.Truth.{together, no_other}
use Rattle.mm_model.proofs.Good.Allowed.{all_allowed, found_some, word_at-value}
use Rattle.mm_laws.proofs.Keeping.Seeing.{is_put, same-put}
use Rattle.mm_laws.proofs.Turning.Bearing.{Views, SeesBorn, IsStable, bears-same, bears-carried, same-ended}
use Rattle.mm_laws.proofs.Turning.Grids.{word_in, zeros, word_in-more, with_word, word_in-set_same, word_in-set_other}
use Rattle.mm_laws.proofs.Turning.Replies.{reply-carried}

-- the turn of a step
abbrev pub turn_of : State → Command → List Line → State → Turn
turn_of a command group b = record { before = a; command = command; group = group; after = b }

-- what never changes of an object
pub record Outline : Type 0 where
  pub base : ℕ
  pub extent : ℕ
  pub kind : Kind
  pub finalize : Bool
  pub counted : ℕ
  pub count : ℕ

abbrev pub outline : Object → Outline
outline object =
    record {
      base = object.base;
      extent = object.extent;
      kind = object.kind;
      finalize = object.finalize;
      counted = object.counted;
      count = length object.slots;
    }

abbrev pub outline_of : Born → Outline
outline_of born =
    record {
      base = born.base;
      extent = extent_of (object_bytes born.shape.slots);
      kind = born.shape.kind;
      finalize = born.shape.finalize;
      counted = born.shape.counted;
      count = born.shape.slots;
    }

abbrev with_count : Shape → ℕ → ℕ → Outline
with_count shape base count =
    record {
      base = base;
      extent = extent_of (object_bytes shape.slots);
      kind = shape.kind;
      finalize = shape.finalize;
      counted = shape.counted;
      count = count;
    }

outlines : Views outline outline_of
outlines =
    record {
      unstuck = λ _ _ _. refl;
      unpaired = λ _ _. refl;
      born = λ shape base target. ap (with_count shape base) (length-replicate shape.slots (integer 0));
    }

-- a release changes neither this nor the words in slots
module _ {P : Type 0} (view : Object → P)
    (gone : (object : Object) → view (record object { gone = true }) ≡ view object)
    (alone : (object : Object) (partner : Option ℕ) → view (record object { partner = partner }) ≡ view object) where
  stable_view : IsStable view
  stable_view a bases object = split (is_freed bases object)
    where
      split : (freed : Bool)
          → view (if freed then record object { gone = true }
          else record object { partner = unless_freed a bases object.partner })
          ≡ view object
      split true = gone object
      split false = alone object (unless_freed a bases object.partner)

-- the words in the slots of an object, and of one that is born
abbrev pub slot_words : Object → List ℕ
slot_words object = words_of object.slots

abbrev no_words : Born → List ℕ
no_words born = replicate born.shape.slots 0

words_of-zeros : (n : ℕ) → words_of (replicate n (integer 0)) ≡ replicate n 0
words_of-zeros zero = refl
words_of-zeros (suc n) = ap (λ (words : List ℕ). 0 ∷ words) (words_of-zeros n)

words : Views slot_words no_words
words =
    record {
      unstuck = λ _ _ _. refl;
      unpaired = λ _ _. refl;
      born = λ shape base target. words_of-zeros shape.slots;
    }

-- the births of a turn, by its last line
births_of-carried : (a : State) (command : Command) (group : List Line) (b : State)
    → (m : IsCarriedOut a command group b)
    → births_of (turn_of a command group b) ≡ births_if a command (Some m.effect.reply)
births_of-carried a command group b m = ap (births_if a command) (reply-carried a command group b m)

module _ {P : Type 0} (view : Object → P) (as_born : Born → P) (views : Views view as_born) (stable : IsStable view)
    (a : State) (command : Command) (group : List Line) (b : State)
    (kept : is_put command ≡ true → (object : Object) (s : ℕ) (value : Value)
    → view (with_slot a object s value) ≡ view object) where
  -- a step leaves a view of the objects before it, and adds that of those that are born
  bears-step : IsStep a command group b → SeesBorn view as_born a (births_of (turn_of a command group b)) b
  bears-step step = split (refusal a command) refl step
    where
      split : (because : Option Refusal) → refusal a command ≡ because → IsStepUnless because a command group b
          → SeesBorn view as_born a (births_of (turn_of a command group b)) b
      split (Some because) e m =
          bears-same view as_born views a _ b (ap (λ (s : State). map view s.objects) m.state_is)
          (ap (λ log. births_if a command (reply_in log)) m.group_is)
      split None e m =
          ap (λ (s : State). map view s.objects) m.state_is
          ∙ same-ended view as_born views stable m.effect.state _ m.end_log m.end m.ends
          ∙ bears-carried view as_born views stable a m.log m.effect command e kept m.carries
          ∙ ap (λ births. map view a.objects ++ map as_born births) (sym (births_of-carried a command group b m))

-- each object is as it was born
abbrev pub AreAsBorn : List Turn → State → Type 0
AreAsBorn turns a = map outline a.objects ≡ map outline_of (births_in turns)

pub births_in-more : (turns : List Turn) (turn : Turn)
    → births_in (turns ++ turn ∷ []) ≡ births_in turns ++ births_of turn
births_in-more turns turn =
    flat_map-append births_of turns (turn ∷ [])
    ∙ ap (λ (born : List Born). births_in turns ++ born) (append-nil (births_of turn))

pub outlines-step : (a : State) (command : Command) (group : List Line) (b : State) → IsStep a command group b
    → SeesBorn outline outline_of a (births_of (turn_of a command group b)) b
outlines-step a command group b step =
    bears-step outline outline_of outlines (stable_view outline (λ _. refl) (λ _ _. refl)) a command group b
    (λ _ object s value.
    ap
    (λ (n : ℕ). record (outline object) { count = n })
    (length-set object.slots s (stored a (slot_kind object s) value)))
    step

pub as_born-step : (turns : List Turn) (a : State) (command : Command) (group : List Line) (b : State)
    → AreAsBorn turns a → IsStep a command group b → AreAsBorn (turns ++ turn_of a command group b ∷ []) b
as_born-step turns a command group b known step =
    let turn = turn_of a command group b in
    outlines-step a command group b step
    ∙ ap (λ (seen : List Outline). seen ++ map outline_of (births_of turn)) known
    ∙ sym (map-append outline_of (births_in turns) (births_of turn))
    ∙ ap (map outline_of) (sym (births_in-more turns turn))

-- The word in each slot is the one that was written last, and none is written before its object is born.
pub record AreWritten (turns : List Turn) (a : State) : Type 0 where
  pub last : (birth s word : ℕ) → word_in (map slot_words a.objects) birth s ≡ Some word
      → word ≡ last_written turns birth s
  pub later : (birth s : ℕ) → length a.objects ≤ birth → last_written turns birth s ≡ 0

last_written-more : (turns : List Turn) (turn : Turn) (birth s : ℕ)
    → last_written (turns ++ turn ∷ []) birth s ≡ word_after birth s (last_written turns birth s) (write_of turn)
last_written-more turns turn birth s =
    fold-append (λ word turn. word_after birth s word (write_of turn)) 0 turns (turn ∷ [])

-- where a turn writes nothing
module _ (turns : List Turn) (a : State) (command : Command) (group : List Line) (b : State)
    (known : AreWritten turns a)
    (none : write_of (turn_of a command group b) ≡ None) where
  turn : Turn
  turn = turn_of a command group b

  still : (birth s : ℕ) → last_written (turns ++ turn_of a command group b ∷ []) birth s ≡ last_written turns birth s
  still birth s =
      last_written-more turns (turn_of a command group b) birth s
      ∙ ap (word_after birth s (last_written turns birth s)) none

  written-unwritten : (counts : List ℕ)
      → map slot_words b.objects ≡ map slot_words a.objects ++ zeros counts
      → AreWritten (turns ++ turn_of a command group b ∷ []) b
  written-unwritten counts rows =
      record {
        last = λ birth s word e.
            ⊎_elim
            (λ (l : word_in (map slot_words a.objects) birth s ≡ Some word).
            known.last birth s word l ∙ sym (still birth s))
            (λ (r : (length (map slot_words a.objects) ≤ birth) × (word ≡ 0)).
            let behind : length a.objects ≤ birth =
            subst (λ n. n ≤ birth) (length-map a.objects slot_words) r.0 in
            r.1 ∙ sym (known.later birth s behind) ∙ sym (still birth s))
            (word_in-more (map slot_words a.objects) counts birth s word
            (sym (ap (λ rows. word_in rows birth s) rows) ∙ e));
        later = λ birth s behind.
            let before : length a.objects ≤ birth =
            let count = sym (length-map b.objects slot_words) ∙ ap length rows
            ∙ length-append (map slot_words a.objects) (zeros counts)
            ∙ ap (λ n. n + length (zeros counts)) (length-map a.objects slot_words) in
            omega arith in
            still birth s ∙ known.later birth s before;
      }

rows_of-births : (births : List Born) → map no_words births ≡ zeros (map (λ (born : Born). born.shape.slots) births)
rows_of-births [] = refl
rows_of-births (born ∷ births) = ap (λ (rows : List (List ℕ)). no_words born ∷ rows) (rows_of-births births)

write_in-none : (a : State) (command : Command) → is_put command ≡ false → write_in a command ≡ None
write_in-none a (commands.Put i s j) e = cc
write_in-none a command e = refl

write_of-none : (turn : Turn) → write_in turn.before turn.command ≡ None → write_of turn ≡ None
write_of-none turn e = split (was_refused turn)
  where
    split : (b : Bool) → (if b then None else write_in turn.before turn.command) ≡ None
    split true = refl
    split false = e

-- a `put` that isn't refused
pub record IsPut (a : State) (i s j : ℕ) : Type 0 where
  pub birth : ℕ
  pub object : Object
  pub value : Value
  pub means : meant_at a i ≡ Some birth
  pub is : slice_get a.objects birth ≡ Some object
  pub cell : slice_get a.stack j ≡ Some value

-- what stands at an index that isn't past the end
pub get-within : {X : Type 0} (xs : List X) (s : ℕ) → nat_le (length xs) s ≡ false → (x : X) × (slice_get xs s ≡ Some x)
get-within {X} xs s e =
    ⊎_elim
    (λ (l : (x : X) × (s < length xs) × (slice_get xs s ≡ Some x) × (get_or xs s x ≡ x)). (l.0, l.2))
    (λ (r : (length xs ≤ s) × (slice_get xs s ≡ None)).
    absurd (no_other e (let past = r.0 in grind (arith, nat_tests))))
    (slice_get_cases xs s).1

pub put-allowed : (a : State) (i s j : ℕ) → refusal a (commands.Put i s j) ≡ None → IsPut a i s j
put-allowed a i s j allowed =
    let row = all_allowed (no_cell a i || no_cell a j) (means_nothing a i) (has_no_slot a i s) (refuses_in_slot a i s j)
    refusals.NoCell refusals.Nothing refusals.NoSlot refusals.NotCounted allowed in
    let found = found_some (object_meant a i) row.second_is in
    let cell = get-within a.stack j (second (no_cell a i) (no_cell a j) row.first_is) in
    split (meant_at a i) refl found cell
  where
    second : (p q : Bool) → (p || q) ≡ false → q ≡ false
    second true q e = cc
    second false q e = e

    split : (meant : Option ℕ) → meant_at a i ≡ meant → (o : Object) × (object_meant a i ≡ Some o)
        → (v : Value) × (slice_get a.stack j ≡ Some v) → IsPut a i s j
    split None e found cell =
        let none = sym (ap (option_and_then (slice_get a.objects)) e) ∙ found.1 in cc
    split (Some birth) e found cell =
        record {
          birth = birth;
          object = found.0;
          value = cell.0;
          means = e;
          is = sym (ap (option_and_then (slice_get a.objects)) e) ∙ found.1;
          cell = cell.1;
        }

store_reply-kept : (a : State) (kind : SlotKind) (word : ℕ) → is_refusal (store_reply a kind word) ≡ false
store_reply-kept a kind word = split (is_loose a kind word)
  where
    split : (b : Bool) → is_refusal (if b then replies.Loose else replies.Done) ≡ false
    split true = refl
    split false = refl

module _ (turns : List Turn) (a : State) (i s j : ℕ) (group : List Line) (b : State) (known : AreWritten turns a)
    (put : IsPut a i s j) (m : IsCarriedOut a (commands.Put i s j) group b) where
  abbrev this : Turn
  this = turn_of a (commands.Put i s j) group b

  abbrev rows : List (List ℕ)
  rows = map slot_words a.objects

  effect_is : m.effect ≡ put_effect a put.birth put.object s put.value
  effect_is =
      m.carries.effect_is
      ∙ ap
      (λ (found : Option ℕ).
      with_some found a
      (λ birth. with_some (slice_get a.objects birth) a
      (λ object. with_some (slice_get a.stack j) a (put_effect a birth object s))))
      put.means
      ∙ ap
      (λ (found : Option Object).
      with_some found a (λ object. with_some (slice_get a.stack j) a (put_effect a put.birth object s)))
      put.is
      ∙ ap (λ (found : Option Value). with_some found a (put_effect a put.birth put.object s)) put.cell

  rows_is : slice_get rows put.birth ≡ Some (slot_words put.object)
  rows_is = slice_get-map slot_words a.objects put.birth ∙ ap (option_map slot_words) put.is

  rows_are : map slot_words b.objects ≡ with_word rows (slot_words put.object) put.birth s put.value.word rows_is
  rows_are =
      ap (λ (x : State). map slot_words x.objects) m.state_is
      ∙ same-ended slot_words no_words words (stable_view slot_words (λ _. refl) (λ _ _. refl)) m.effect.state _
      m.end_log m.end m.ends
      ∙ ap (λ (e : Effect). map slot_words e.state.objects) effect_is
      ∙ same-put slot_words (λ _ _ _. refl) a put.birth put.object s put.value
      ∙ map-set slot_words a.objects put.birth (with_slot a put.object s put.value)
      ∙ ap (slice_set rows put.birth)
      (map-set (λ (v : Value). v.word) put.object.slots s (stored a (slot_kind put.object s) put.value))

  write_is : write_of this ≡ Some (record { object = put.birth; slot = s; word = put.value.word })
  write_is =
      let reply : reply_in group ≡ Some (store_reply a (slot_kind put.object s) put.value.word) =
      reply-carried a (commands.Put i s j) group b m ∙ ap (λ (e : Effect). Some e.reply) effect_is in
      let kept : was_refused this ≡ false =
      ap (λ found. option_map_or is_refusal found false) reply
      ∙ store_reply-kept a (slot_kind put.object s) put.value.word in
      ap (λ c. if c then None else write_in a (commands.Put i s j)) kept
      ∙ ap (option_map (λ birth. record { object = birth; slot = s; word = word_at a j })) put.means
      ∙ ap (λ (word : ℕ). Some (record { object = put.birth; slot = s; word = word }))
      (word_at-value a j put.value put.cell)

  written : (k t : ℕ) → last_written (turns ++ this ∷ []) k t
      ≡ (if put.birth == k && s == t then put.value.word else last_written turns k t)
  written k t = last_written-more turns this k t ∙ ap (word_after k t (last_written turns k t)) write_is

  written-put : AreWritten (turns ++ this ∷ []) b
  written-put =
      record {
        last = λ k t word e.
            by_place k t word (sym (ap (λ rows. word_in rows k t) rows_are) ∙ e) (put.birth == k && s == t) refl
            ∙ sym (written k t);
        later = λ k t behind.
            let before : length a.objects ≤ k =
            let count = sym (length-map b.objects slot_words) ∙ ap length rows_are
            ∙ length-set rows put.birth (slice_set (slot_words put.object) s put.value.word)
            ∙ length-map a.objects slot_words in
            omega arith in
            let within = slice_get_within a.objects put.birth put.object put.is in
            let other : (put.birth == k) ≡ false = grind (arith, nat_tests) in
            written k t ∙ ap (λ c. if c && s == t then put.value.word else last_written turns k t) other
            ∙ known.later k t before;
      }
    where
      by_place : (k t word : ℕ)
          → word_in (with_word rows (slot_words put.object) put.birth s put.value.word rows_is) k t ≡ Some word
          → (c : Bool) → (put.birth == k && s == t) ≡ c
          → word ≡ (if put.birth == k && s == t then put.value.word else last_written turns k t)
      by_place k t word e true here =
          let parts = and_parts (put.birth == k) (s == t) here in
          let own : word_in (with_word rows (slot_words put.object) put.birth s put.value.word rows_is) put.birth s ≡
          Some word =
          subst
          (λ n. word_in (with_word rows (slot_words put.object) put.birth s put.value.word rows_is) n s ≡ Some word)
          (sym (eqb-true put.birth k parts.0))
          (subst
          (λ n. word_in (with_word rows (slot_words put.object) put.birth s put.value.word rows_is) k n ≡ Some word)
          (sym (eqb-true s t parts.1)) e) in
          word_in-set_same rows (slot_words put.object) put.birth s put.value.word rows_is word own
          ∙ sym (ap (λ c. if c then put.value.word else last_written turns k t) here)
      by_place k t word e false there =
          known.last k t word
          (word_in-set_other rows (slot_words put.object) put.birth s put.value.word rows_is k t word
          (λ p q.
          no_other there (together (put.birth == k) (s == t) (eq-eqb put.birth k (sym p)) (eq-eqb s t (sym q)))) e)
          ∙ sym (ap (λ c. if c then put.value.word else last_written turns k t) there)

pub written-step : (turns : List Turn) (a : State) (command : Command) (group : List Line) (b : State)
    → AreWritten turns a → IsStep a command group b → AreWritten (turns ++ turn_of a command group b ∷ []) b
written-step turns a (commands.Put i s j) group b known step =
    split (refusal a (commands.Put i s j)) refl step
  where
    split : (because : Option Refusal) → refusal a (commands.Put i s j) ≡ because
        → IsStepUnless because a (commands.Put i s j) group b
        → AreWritten (turns ++ turn_of a (commands.Put i s j) group b ∷ []) b
    split (Some because) e m =
        let refused : was_refused (turn_of a (commands.Put i s j) group b) ≡ true =
        ap (λ log. option_map_or is_refusal (reply_in log) false) m.group_is in
        written-unwritten turns a (commands.Put i s j) group b known
        (ap (λ c. if c then None else write_in a (commands.Put i s j)) refused) []
        (ap (λ (x : State). map slot_words x.objects) m.state_is ∙ sym (append-nil (map slot_words a.objects)))
    split None e m = written-put turns a i s j group b known (put-allowed a i s j e) m
written-step turns a command group b known step =
    let turn = turn_of a command group b in
    written-unwritten turns a command group b known (write_of-none turn (write_in-none a command refl))
    (map (λ (born : Born). born.shape.slots) (births_of turn))
    (bears-step slot_words no_words words (stable_view slot_words (λ _. refl) (λ _ _. refl)) a command group b
    (λ e. cc) step
    ∙ ap (λ more. map slot_words a.objects ++ more) (rows_of-births (births_of turn)))
