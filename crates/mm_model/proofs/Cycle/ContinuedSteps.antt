-- Each step after which a cycle still runs goes on from the state before it, as marking sees it.
use Rattle.std.proofs.Common.{◌≡◌, ℕ, Bool, true, false, not, ◌||◌, List, [], ◌∷◌, Option, Some, None, refl, sym, ap}
use Rattle.std.proofs.Common.{◌∙◌, subst, ◌⊎◌}
use Rattle.std.specs.Prelude.{IsTrue, is_some, slice_get, slice_index, ◌&&◌, ◌==◌, if◌then◌else◌}
use Rattle.std.specs.Option.{option_map}
use Rattle.mm_model.specs.declared.command.Command.{Command}
use Rattle.mm_model.specs.declared.command.Command.TheVariants as commands
use Rattle.mm_model.specs.declared.line.Line.{Line}
use Rattle.mm_model.specs.declared.object.Shape.{Shape}
use Rattle.mm_model.specs.declared.refusal.Refusal.{Refusal}
use Rattle.mm_model.specs.declared.refusal.Refusal.TheVariants as refusals
use Rattle.mm_model.specs.declared.reply.Reply.TheVariants as replies
use Rattle.mm_model.specs.Places.SizeClass.{object_bytes, area_bytes}
use Rattle.mm_model.specs.Value.{Value, words_of}
use Rattle.mm_model.specs.Object.{Object, newborn}
use Rattle.mm_model.specs.State.{State, Area, Lives, one_more_command, with_black_birth}
use Rattle.mm_model.specs.Words.{slot_kind, cell_kind, area_words, root_words, names, falls}
use Rattle.mm_model.specs.Sets.Reached.{IsReached}
use Rattle.mm_model.specs.Count.{with_sticky}
use Rattle.mm_model.specs.Meaning.{meant_at, object_meant}
use Rattle.mm_model.specs.Sets.Marking.{is_raw, is_passed, with_grayed, IsMarked}
use Rattle.mm_model.specs.Places.Place.{Family, Objects, Areas}
use Rattle.mm_model.specs.Areas.{area_at, with_changed_area}
use Rattle.mm_model.specs.Phase.{cycle_left, reaped}
use Rattle.mm_model.specs.Places.Search.{Searches, At_once, After_reap, After_collection}
use Rattle.mm_model.specs.Store.{is_counted_slot, recounted, with_object, with_slot, with_cell, put_in_slot}
use Rattle.mm_model.specs.Store.{put_in_cell}
use Rattle.mm_model.specs.Effect.{Effect, with_some, made_at, weak_shape, weak_made, new_effect, weak_effect}
use Rattle.mm_model.specs.Effect.{area_effect, pushes_object, look_effect, plain_effect}
use Rattle.mm_model.specs.Refusing.{first_refusal, refusal, is_bad_shape}
use Rattle.mm_model.specs.Step.{Makes, IsPlain, MakesWeak, Carries, is_full, Ends, Refused_as_full, Below_threshold}
use Rattle.mm_model.specs.Step.{At_threshold, IsCarriedOut, IsStepUnless, IsStep}
use Rattle.mm_model.specs.Good.{IsShaped, IsGood}
use Rattle.mm_model.proofs.Good.Making.Births.{made_is_good}
use Rattle.mm_model.proofs.Cycle.Continuing.{Continues, marked_before, continues-self, Thins, thins-then}
use Rattle.mm_model.proofs.Cycle.Continuing.{continues-then, thins-same, thins-reaped, thins-recounted, thins-weak}
use Rattle.mm_model.proofs.Cycle.Continuing.{good-each_colour, continues-put, continues-born, continues-scanned}
use Rattle.mm_model.proofs.Cycle.Marked.{stack_named}
use Rattle.mm_model.proofs.Good.Making.Searching.{searched_is_found}
use Rattle.mm_model.proofs.Good.Making.Shapes.{shaped-newborn, shaped-weak}
use Rattle.mm_model.proofs.Good.Steps.{shape_allowed}

-- the second state goes on from the first, by words that are its roots
pub record IsContinued (a b : State) : Type 0 where
  pub words : List ℕ
  pub continues : Continues words a b
  pub rooted : (object : Object) → names words object ≡ true → names (root_words b) object ≡ true

-- where it goes on by no word
continued : (a b : State) → Continues [] a b → IsContinued a b
continued a b on = record { words = []; continues = on; rooted = λ object e. cc }

-- the roots stay where objects only become fewer
continued-then : (a b c : State) → IsContinued a b → Thins b c → root_words c ≡ root_words b → IsContinued a c
continued-then a b c on thins roots =
    record {
      words = on.words;
      continues = continues-then on.words a b c on.continues thins;
      rooted = λ object e. ap (λ ws. names ws object) roots ∙ on.rooted object e;
    }

continued-thin : (a b : State) → Thins a b → IsContinued a b
continued-thin a b thins = continued a b (continues-then [] a a b (continues-self a) thins)

continued-same : (a b : State) → b.settings ≡ a.settings → b.objects ≡ a.objects → b.cycle ≡ a.cycle
    → IsContinued a b
continued-same a b settings objects cycle = continued-thin a b (thins-same a b settings objects cycle)

continued-with_some : {X : Type 0} (a b : State) (found : Option X) (effect : X → Effect) → IsContinued a b
    → ((x : X) → found ≡ Some x → IsContinued a (effect x).state) → IsContinued a (with_some found b effect).state
continued-with_some a b None effect on h = on
continued-with_some a b (Some x) effect on h = h x refl

-- a store and what follows it change no root
roots-put : (a : State) (birth : ℕ) (object : Object) (s : ℕ) (value : Value)
    → root_words (put_in_slot a birth object s value) ≡ root_words a
roots-put a birth object s value =
    let kind = slot_kind object s in
    let store = with_object birth (with_slot a object s value) a in
    let old = slice_index (words_of object.slots) s in
    let counted = recounted kind old value.word store in
    let shaded : (b : Bool) → root_words (if b then with_grayed (value.word ∷ []) counted else counted)
    ≡ root_words counted =
    elim [ true ↦ refl | false ↦ refl ] in
    let made_sticky : (b : Bool) → root_words (if b then with_sticky value.word store else store) ≡ root_words a =
    elim [ true ↦ refl | false ↦ refl ] in
    shaded (not (is_raw kind) && is_passed counted.cycle birth s)
    ∙ made_sticky (is_counted_slot kind && not (old == value.word))

or_false : (b : Bool) → (b || false) ≡ true → b ≡ true
or_false true e = refl
or_false false e = e

continued-put : (a : State) (birth : ℕ) (object : Object) (s i : ℕ) (value : Value) → IsGood a
    → slice_get a.objects birth ≡ Some object → slice_get a.stack i ≡ Some value
    → IsContinued a (put_in_slot a birth object s value)
continued-put a birth object s i value good is on_stack =
    record {
      words = value.word ∷ [];
      continues = continues-put a birth object s value is (good-each_colour a good);
      rooted = λ o e.
          ap (λ ws. names ws o) (roots-put a birth object s value)
          ∙ stack_named a.stack (area_words a) i value o on_stack (or_false (falls value.word o.base o.extent) e);
    }

continued-area_put : (a : State) (area : Area) (s : ℕ) (value : Value) → IsContinued a (put_in_cell a area s value)
continued-area_put a area s value =
    let kind = cell_kind area s in
    let store = with_changed_area (with_cell a area s value) a in
    let old = slice_index (words_of area.cells) s in
    continued-thin a (recounted kind old value.word store)
    (thins-then a store (recounted kind old value.word store) (thins-same a store refl refl refl)
    (thins-recounted kind old value.word store))

continued-object : (a : State) (birth : ℕ) → IsContinued a (pushes_object a birth).state
continued-object a birth =
    continued-with_some a a (slice_get a.objects birth) _ (continued-same a a refl refl refl)
    (λ object is. continued-same a _ refl refl refl)

continued-look : (a : State) (target : Option ℕ) → IsContinued a (look_effect a target).state
continued-look a None = continued-same a _ refl refl refl
continued-look a (Some target) = continued-object a target

-- `begin` is refused in a cycle
begin_is_refused : (a : State) → IsTrue (is_some a.cycle) → refusal a commands.Begin ≡ None → ⊥
begin_is_refused a runs e =
    let busy : refusal a commands.Begin ≡ Some refusals.Busy =
    ap (λ b. first_refusal ((b, refusals.Busy) ∷ [])) runs in
    cc

continued-plain : (a : State) (command : Command) → IsGood a → IsTrue (is_some a.cycle) → refusal a command ≡ None
    → IsContinued a (plain_effect a command).state
continued-plain a (commands.New shape) good runs e = continued-same a _ refl refl refl
continued-plain a (commands.Push word) good runs e = continued-same a _ refl refl refl
continued-plain a (commands.Dup i) good runs e =
    continued-with_some a a (slice_get a.stack i) _ (continued-same a a refl refl refl)
    (λ value is. continued-same a _ refl refl refl)
continued-plain a (commands.Pop k) good runs e = continued-same a _ refl refl refl
continued-plain a (commands.Inner i bytes) good runs e =
    continued-with_some a a (slice_get a.stack i) _ (continued-same a a refl refl refl)
    (λ value is. continued-same a _ refl refl refl)
continued-plain a (commands.Get i s) good runs e =
    let self = continued-same a a refl refl refl in
    continued-with_some a a (object_meant a i) _ self
    (λ object is.
    continued-with_some a a (slice_get object.slots s) _ self (λ value there. continued-same a _ refl refl refl))
continued-plain a (commands.Put i s j) good runs e =
    let self = continued-same a a refl refl refl in
    continued-with_some a a (meant_at a i) _ self
    (λ birth meant.
    continued-with_some a a (slice_get a.objects birth) _ self
    (λ object is.
    continued-with_some a a (slice_get a.stack j) _ self
    (λ value on_stack. continued-put a birth object s j value good is on_stack)))
continued-plain a (commands.Weak i) good runs e = continued-same a _ refl refl refl
continued-plain a (commands.Look i) good runs e =
    continued-with_some a a (object_meant a i) _ (continued-same a a refl refl refl)
    (λ object is. continued-look a object.partner)
continued-plain a (commands.Root counted cells) good runs e = continued-same a _ refl refl refl
continued-plain a (commands.Fixed cells) good runs e = continued-same a _ refl refl refl
continued-plain a (commands.DropArea number) good runs e = continued-same a _ refl refl refl
continued-plain a (commands.AreaGet number s) good runs e =
    let self = continued-same a a refl refl refl in
    continued-with_some a a (area_at a number) _ self
    (λ area is.
    continued-with_some a a (slice_get area.cells s) _ self (λ value there. continued-same a _ refl refl refl))
continued-plain a (commands.AreaPut number s j) good runs e =
    let self = continued-same a a refl refl refl in
    continued-with_some a a (area_at a number) _ self
    (λ area is.
    continued-with_some a a (slice_get a.stack j) _ self (λ value there. continued-area_put a area s value))
continued-plain a commands.Reap good runs e = continued-same a _ refl refl refl
continued-plain a commands.Collect good runs e = continued-same a _ refl refl refl
continued-plain a commands.Begin good runs e = absurd (begin_is_refused a runs e)
continued-plain a (commands.Step k) good runs e = continued-same a _ refl refl refl
continued-plain a commands.Finish good runs e = continued-same a _ refl refl refl
continued-plain a (commands.Map i) good runs e = continued-same a _ refl refl refl
continued-plain a commands.Stat good runs e = continued-same a _ refl refl refl

is_some-map : {X : Type 0} (f : X → X) (found : Option X) → is_some (option_map f found) ≡ is_some found
is_some-map f None = refl
is_some-map f (Some x) = refl

not_running : {X : Type 0} (found : Option X) → found ≡ None → IsTrue (is_some found) → ⊥
not_running None e runs = cc
not_running (Some x) e runs = cc

-- a search that doesn't end the cycle frees objects at most
searched-thins : (a : State) (family : Family) (bytes : ℕ) (log : List Line) (b : State) (found : Option ℕ)
    → Searches a family bytes log b found → IsTrue (is_some b.cycle) → Thins a b
searched-thins a family bytes log b found (At_once base place lines same is) runs =
    subst (Thins a) (sym same) (thins-same a a refl refl refl)
searched-thins a family bytes log b found (After_reap base dead none reapable place lines same is) runs =
    subst (Thins a) (sym same) (thins-reaped a dead)
searched-thins a family bytes log b found (After_collection dead lost none reapable no_place unreached lines same is)
    runs =
    absurd (not_running b.cycle (ap (λ (x : State). x.cycle) same) runs)

-- what a search left, and an area at a place that it found
module _ (a : State) (family : Family) (bytes : ℕ) (log : List Line) (b : State) where
  continued-searched : (found : Option ℕ) → Searches a family bytes log b found → IsTrue (is_some b.cycle)
      → IsContinued a b
  continued-searched found search runs = continued-thin a b (searched-thins a family bytes log b found search runs)

  continued-area : (scanned : Bool) (counted cells : ℕ) (found : Option ℕ) → Searches a family bytes log b found
      → IsTrue (is_some (area_effect b scanned counted cells found).state.cycle)
      → IsContinued a (area_effect b scanned counted cells found).state
  continued-area scanned counted cells None search runs = continued-searched None search runs
  continued-area scanned counted cells (Some base) search runs =
      continued-thin a _
      (thins-then a b _ (searched-thins a family bytes log b (Some base) search runs) (thins-same b _ refl refl refl))

module _ (a : State) (good : IsGood a) (shape : Shape) (shaped : (base : ℕ) → IsShaped (newborn shape base))
    (log : List Line) (b : State) (base : ℕ)
    (search : Searches a Objects (object_bytes shape.slots) log b (Some base)) (runs : IsTrue (is_some b.cycle)) where
  continues-made : Continues [] a (made_at b shape base)
  continues-made =
      let found = searched_is_found a Objects (object_bytes shape.slots) log b (Some base) good search in
      let on : Continues [] a b =
      continues-then [] a a b (continues-self a)
      (searched-thins a Objects (object_bytes shape.slots) log b (Some base) search runs) in
      continues-born a b on shape base (good-each_colour b found.good)
      (made_is_good b shape found.place.0 base found.good found.place.1 found.place.2 (shaped base))

continued-new : (a : State) (shape : Shape) (log : List Line) (b : State) (found : Option ℕ) → IsGood a
    → is_bad_shape shape ≡ false → Searches a Objects (object_bytes shape.slots) log b found
    → IsTrue (is_some (new_effect b shape found).state.cycle) → IsContinued a (new_effect b shape found).state
continued-new a shape log b None good accepted search runs =
    continued-searched a Objects (object_bytes shape.slots) log b None search runs
continued-new a shape log b (Some base) good accepted search runs =
    continued a _
    (continues-made a good shape (λ base. shaped-newborn shape base accepted) log b base search
    (sym (is_some-map with_black_birth b.cycle) ∙ runs))

continued-weak : (a : State) (target : ℕ) (log : List Line) (b : State) (found : Option ℕ) → IsGood a
    → Searches a Objects (object_bytes 0) log b found
    → IsTrue (is_some (weak_effect b target found).state.cycle) → IsContinued a (weak_effect b target found).state
continued-weak a target log b None good looked runs =
    continued-searched a Objects (object_bytes 0) log b None looked runs
continued-weak a target log b (Some base) good looked runs = split (slice_get b.objects target) refl runs
  where
    split : (there : Option Object) → slice_get b.objects target ≡ there
        → IsTrue (is_some (with_some there b
        (λ object. record { state = weak_made b target object base; reply = replies.New base })).state.cycle)
        → IsContinued a (with_some there b
        (λ object. record { state = weak_made b target object base; reply = replies.New base })).state
    split None is on = continued-searched a Objects (object_bytes 0) log b (Some base) looked on
    split (Some object) is on =
        continued a _
        (continues-then [] a (made_at b weak_shape base) (weak_made b target object base)
        (continues-made a good weak_shape shaped-weak log b base looked
        (sym (is_some-map with_black_birth b.cycle) ∙ on))
        (thins-weak b target object base is))

-- the row of a command, where a cycle runs after it
module _ (a : State) (good : IsGood a) (began : IsTrue (is_some a.cycle))
    (effect : Effect) (runs : IsTrue (is_some effect.state.cycle)) where
  by_effect : (is : Effect) → effect ≡ is → (IsTrue (is_some is.state.cycle) → IsContinued a is.state)
      → IsContinued a effect.state
  by_effect is e on =
      subst (λ (x : Effect). IsContinued a x.state) (sym e)
      (on (subst (λ (x : Effect). IsTrue (is_some x.state.cycle)) e runs))

  carried-plain : (command : Command) (log : List Line) → refusal a command ≡ None
      → IsPlain log effect (plain_effect a command) → IsContinued a effect.state
  carried-plain command log e h =
      by_effect (plain_effect a command) h.effect_is (λ on. continued-plain a command good began e)

  carried-area : (scanned : Bool) (counted cells : ℕ) (log : List Line)
      → Makes a Areas (area_bytes cells) (λ b found. area_effect b scanned counted cells found) log effect
      → IsContinued a effect.state
  carried-area scanned counted cells log h =
      by_effect (area_effect h.state scanned counted cells h.found) h.effect_is
      (λ on.
      continued-area a Areas (area_bytes cells) log h.state scanned counted cells h.found h.search on)

  carried-weak : (target : ℕ) (partner : Option ℕ) (log : List Line) → MakesWeak a target partner log effect
      → IsContinued a effect.state
  carried-weak target (Some weak) log h =
      by_effect (pushes_object a weak) h.effect_is (λ on. continued-object a weak)
  carried-weak target None log h =
      by_effect (weak_effect h.state target h.found) h.effect_is
      (λ on. continued-weak a target log h.state h.found good h.search on)

  ended_cycle : effect.state.cycle ≡ None → IsContinued a effect.state
  ended_cycle e = absurd (not_running effect.state.cycle e runs)

  carried : (command : Command) (log : List Line) → refusal a command ≡ None → Carries a command log effect
      → IsContinued a effect.state
  carried (commands.New shape) log e h =
      by_effect (new_effect h.state shape h.found) h.effect_is
      (λ on.
      continued-new a shape log h.state h.found good
      (shape_allowed a shape e) h.search on)
  carried (commands.Push word) log e h = carried-plain (commands.Push word) log e h
  carried (commands.Dup i) log e h = carried-plain (commands.Dup i) log e h
  carried (commands.Pop k) log e h = carried-plain (commands.Pop k) log e h
  carried (commands.Inner i bytes) log e h = carried-plain (commands.Inner i bytes) log e h
  carried (commands.Get i s) log e h = carried-plain (commands.Get i s) log e h
  carried (commands.Put i s j) log e h = carried-plain (commands.Put i s j) log e h
  carried (commands.Weak i) log e h = carried-weak h.target h.object.partner log h.makes
  carried (commands.Look i) log e h = carried-plain (commands.Look i) log e h
  carried (commands.Root counted cells) log e h = carried-area true counted cells log h
  carried (commands.Fixed cells) log e h = carried-area false 0 cells log h
  carried (commands.DropArea number) log e h = carried-plain (commands.DropArea number) log e h
  carried (commands.AreaGet number s) log e h = carried-plain (commands.AreaGet number s) log e h
  carried (commands.AreaPut number s j) log e h = carried-plain (commands.AreaPut number s j) log e h
  carried commands.Reap log e h =
      subst (IsContinued a) (sym h.0.state) (continued-thin a (reaped h.0.dead a) (thins-reaped a h.0.dead))
  carried commands.Collect log e h = ended_cycle (ap (λ (x : State). x.cycle) h.0.state)
  carried commands.Begin log e h = carried-plain commands.Begin log e h
  carried (commands.Step k) log e h =
      continued a effect.state (continues-scanned a h.0.births log effect.state good h.0.scanned)
  carried commands.Finish log e h = ended_cycle (ap (λ (x : State). x.cycle) h.0.state)
  carried (commands.Map i) log e h = carried-plain (commands.Map i) log e h
  carried commands.Stat log e h = carried-plain commands.Stat log e h

-- what the end of a command leaves
pub record IsEnd (a b : State) : Type 0 where
  pub thins : Thins a b
  pub roots : root_words b ≡ root_words a
  pub runs : is_some b.cycle ≡ is_some a.cycle

pub ends_is_end : (a : State) (full : Bool) (log : List Line) (b : State) → Ends a full log b
    → IsEnd a (one_more_command b)
ends_is_end a full log b ends =
    let same : (x : State) → x ≡ a → IsEnd a (one_more_command x) =
    λ x e.
    subst (λ (y : State). IsEnd a (one_more_command y)) (sym e)
    (record { thins = thins-same a (one_more_command a) refl refl refl; roots = refl; runs = refl }) in
    split ends same
  where
    split : Ends a full log b → ((x : State) → x ≡ a → IsEnd a (one_more_command x)) → IsEnd a (one_more_command b)
    split (Refused_as_full e lines is) same = same b is
    split (Below_threshold e few lines is) same = same b is
    split (At_threshold e many reaps) same =
        let left = reaped reaps.dead a in
        subst (λ (y : State). IsEnd a (one_more_command y)) (sym reaps.state)
        (record {
          thins = thins-then a left (one_more_command left) (thins-reaped a reaps.dead)
              (thins-same left (one_more_command left) refl refl refl);
          roots = refl;
          runs = is_some-map (cycle_left a reaps.dead) a.cycle;
        })

carried_out-continued : (a : State) (command : Command) (group : List Line) (b : State) → IsGood a
    → IsTrue (is_some a.cycle) → IsTrue (is_some b.cycle)
    → refusal a command ≡ None → IsCarriedOut a command group b → IsContinued a b
carried_out-continued a command group b good began runs e h =
    let end = ends_is_end h.effect.state (is_full h.effect.reply) h.end_log h.end h.ends in
    let on = subst (λ (x : State). IsTrue (is_some x.cycle)) h.state_is runs in
    subst (IsContinued a) (sym h.state_is)
    (continued-then a h.effect.state (one_more_command h.end)
    (carried a good began h.effect (sym end.runs ∙ on) command h.log e h.carries) end.thins end.roots)

-- a step in a cycle that doesn't end it goes on from the state before
pub step_is_continued : (a : State) (command : Command) (group : List Line) (b : State) → IsGood a
    → IsStep a command group b → IsTrue (is_some a.cycle)
    → IsTrue (is_some b.cycle) → IsContinued a b
step_is_continued a command group b good step began runs = split (refusal a command) refl step
  where
    split : (found : Option Refusal) → refusal a command ≡ found → IsStepUnless found a command group b
        → IsContinued a b
    split (Some because) e h =
        subst (IsContinued a) (sym h.state_is) (continued-same a (one_more_command a) refl refl refl)
    split None e h = carried_out-continued a command group b good began runs e h

-- While a cycle runs, what marking reaches after a command it reached before, or it is reached.
pub step_continues : (a : State) (command : Command) (group : List Line) (b : State) → IsGood a
    → IsStep a command group b → IsTrue (is_some a.cycle)
    → IsTrue (is_some b.cycle) → (j : ℕ) → IsMarked b j → (object : Object) → Lives a j object
    → IsMarked a j ⊎ IsReached b j
step_continues a command group b good step began runs =
    let on = step_is_continued a command group b good step began runs in
    marked_before on.words a b on.continues on.rooted
