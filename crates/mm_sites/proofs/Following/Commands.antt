-- What a command leaves of what is entered: what its lines free is taken away, and what it bears comes.
use Rattle.std.proofs.Common.{◌≡◌, ℕ, Bool, true, false, List, [], ◌∷◌, ◌++◌, map, length, Option, Some}
use Rattle.std.proofs.Common.{None, refl, sym, ap, ◌∙◌, subst}
use Rattle.std.proofs.lemmas.List.{append-nil, length-map}
use Rattle.std.specs.Prelude.{slice_get}
use Rattle.mm_model.specs.declared.command.Command.{Command}
use Rattle.mm_model.specs.declared.command.Command.TheVariants as commands
use Rattle.mm_model.specs.declared.object.Shape.{Shape}
use Rattle.mm_model.specs.declared.refusal.Refusal.TheVariants as refusals
use Rattle.mm_model.specs.declared.reply.Reply.{Reply}
use Rattle.mm_model.specs.declared.reply.Reply.TheVariants as replies
use Rattle.mm_model.specs.declared.line.Line.{Line}
use Rattle.mm_model.specs.declared.line.Phase.{Phase}
use Rattle.mm_model.specs.declared.line.Phase.TheVariants.{Reap, Collect}
use Rattle.mm_model.specs.Places.Place.{Family}
use Rattle.mm_model.specs.Object.{Object}
use Rattle.mm_model.specs.State.{State, Lives}
use Rattle.mm_model.specs.Good.{IsGood}
use Rattle.mm_model.specs.Words.{stack_words, names}
use Rattle.mm_model.specs.Sets.Marking.{part_done}
use Rattle.mm_model.specs.Sets.Scan.{AreScanned}
use Rattle.mm_model.specs.Phase.{lists, phase_lines, released, reaped, collected}
use Rattle.mm_model.specs.Places.Search.{Searches, At_once, After_reap, After_collection}
use Rattle.mm_model.specs.Effect.{Effect, with_some, weak_shape, new_effect, weak_effect, area_effect}
use Rattle.mm_model.specs.Effect.{weak_made, pushes}
use Rattle.mm_model.specs.Effect.{pushes_object, plain_effect}
use Rattle.mm_model.specs.Meaning.{meant_at}
use Rattle.mm_model.specs.Refusing.{refusal}
use Rattle.mm_model.specs.Step.{IsPlain, Makes, MakesWeak, Carries, Ends, Refused_as_full, Below_threshold}
use Rattle.mm_model.specs.Step.{At_threshold}
use Rattle.mm_model.specs.After.{freed_bases}
use Rattle.mm_model.specs.Logs.Turns.{Born, born_at, births_if}
use Rattle.mm_model.proofs.Good.Phases.{reap-spares}
use Rattle.mm_model.proofs.Good.Making.Searching.{searched_is_found}
use Rattle.mm_model.proofs.Steps.Groups.{freed_bases-phase_lines, freed_bases-append}
use Rattle.mm_laws.proofs.Keeping.FollowingSteps.{keeps-searched, strong-allowed, scanned-objects}
use Rattle.mm_laws.proofs.Keeping.Seeing.{SeesSame, same-object, same-plain}
use Rattle.mm_laws.proofs.Turning.Bearing.{SeesBorn, bears-new, bears-weak, births_if-none}
use Rattle.mm_laws.proofs.Turning.Phases.{freed_bases-scanned}
use Rattle.mm_sites.specs.Entries.{EntriesByBase, without}
use Rattle.mm_sites.specs.Living.{AreEntered}
use Rattle.mm_sites.proofs.Following.Freeing.{entered-released, without-append}
use Rattle.mm_sites.proofs.Following.Spans.{span, span_of, spans, entered-same}

-- What some lines free is taken away, and nothing is born.
pub record LeavesEntered (a : State) (log : List Line) (b : State) : Type 0 where
  pub as_many : length b.objects ≡ length a.objects
  pub entered : (sites : List ℕ) (entries : EntriesByBase) → AreEntered a sites entries
      → AreEntered b sites (without entries (freed_bases log))

as_many-same : (a b : State) → SeesSame span a b → length b.objects ≡ length a.objects
as_many-same a b same = sym (length-map b.objects span) ∙ ap length same ∙ length-map a.objects span

leaves-same : (a : State) (log : List Line) (b : State) → freed_bases log ≡ [] → SeesSame span a b
    → LeavesEntered a log b
leaves-same a log b none same =
    record {
      as_many = as_many-same a b same;
      entered = λ sites entries entered.
          subst (λ bases. AreEntered b sites (without entries bases)) (sym none)
          (entered-same a b same sites entries entered);
    }

freed_bases-phase : (what : Phase) (a : State) (bases : List ℕ) (log : List Line) → log ≡ phase_lines what a bases
    → freed_bases log ≡ bases
freed_bases-phase what a bases log log_is =
    ap freed_bases (log_is ∙ sym (append-nil (phase_lines what a bases)))
    ∙ freed_bases-phase_lines what a bases [] ∙ append-nil bases

leaves-phase : (what : Phase) (a : State) (bases : List ℕ) (log : List Line) (b : State)
    → log ≡ phase_lines what a bases → SeesSame span (released bases a) b → LeavesEntered a log b
leaves-phase what a bases log b log_is same =
    record {
      as_many = as_many-same (released bases a) b same ∙ length-map a.objects _;
      entered = λ sites entries entered.
          subst (λ bs. AreEntered b sites (without entries bs)) (sym (freed_bases-phase what a bases log log_is))
          (entered-same (released bases a) b same sites (without entries bases)
          (entered-released a bases sites entries entered));
    }

leaves-then : (a b c : State) (log more : List Line) → LeavesEntered a log b → LeavesEntered b more c
    → LeavesEntered a (log ++ more) c
leaves-then a b c log more first second =
    record {
      as_many = second.as_many ∙ first.as_many;
      entered = λ sites entries entered.
          subst (AreEntered c sites)
          (sym (ap (without entries) (freed_bases-append log more)
          ∙ without-append entries (freed_bases log) (freed_bases more)))
          (second.entered sites (without entries (freed_bases log)) (first.entered sites entries entered));
    }

leaves-searched : (a : State) (family : Family) (bytes : ℕ) (log : List Line) (b : State) (found : Option ℕ)
    → Searches a family bytes log b found → LeavesEntered a log b
leaves-searched a family bytes log b found (At_once base here log_is b_is found_is) =
    leaves-same a log b (ap freed_bases log_is) (ap (λ (s : State). map span s.objects) b_is)
leaves-searched a family bytes log b found (After_reap base dead none are here log_is b_is found_is) =
    leaves-phase Reap a dead log b log_is (ap (λ (s : State). map span s.objects) b_is)
leaves-searched a family bytes log b found (After_collection dead lost none are still gone log_is b_is found_is) =
    let middle : State = reaped dead a in
    subst (λ more. LeavesEntered a more b) (sym log_is)
    (leaves-then a middle b (phase_lines Reap a dead) (phase_lines Collect middle lost)
    (leaves-phase Reap a dead (phase_lines Reap a dead) middle refl refl)
    (leaves-phase Collect middle lost (phase_lines Collect middle lost) b refl
    (ap (λ (s : State). map span s.objects) b_is)))

-- What a command bears behind what it frees: nothing, or one object whose base is on the stack.
pub data Bears (a middle : State) (births : List Born) (b : State) : Type 0 where
  Nothing_born : births ≡ [] → SeesSame span middle b → Bears a middle births b
  One_born : (born : Born) → births ≡ born ∷ [] → SeesBorn span span_of middle (born ∷ []) b
      → slice_get (stack_words b) 0 ≡ Some born.base → b.settings ≡ a.settings → Bears a middle births b

-- a row frees first, and then bears
pub record Follows (a : State) (command : Command) (log : List Line) (effect : Effect) : Type 0 where
  pub middle : State
  pub leaves : LeavesEntered a log middle
  pub bears : Bears a middle (births_if a command (Some effect.reply)) effect.state

-- what is made of the place that a search found: an object, a weak reference, or an area
module _ (a m : State) (settings : m.settings ≡ a.settings) where
  bears-one_new : (shape : Shape) (found : Option ℕ)
      → Bears a m (births_if a (commands.New shape) (Some (new_effect m shape found).reply))
      (new_effect m shape found).state
  bears-one_new shape None = Nothing_born refl refl
  bears-one_new shape (Some base) =
      One_born (record { base = base; shape = shape; target = None }) refl
      (bears-new span span_of spans a m shape (Some base)) refl settings

  bears-one_weak : (i target : ℕ) (object : Object) (found : Option ℕ) → slice_get m.objects target ≡ Some object
      → Bears a m (births_if a (commands.Weak i) (Some (weak_effect m target found).reply))
      (weak_effect m target found).state
  bears-one_weak i target object None is = Nothing_born refl refl
  bears-one_weak i target object (Some base) is =
      let born : Born = record { base = base; shape = weak_shape; target = meant_at a i } in
      let made : Option Object → Effect = λ o.
      with_some o m (λ x. record { state = weak_made m target x base; reply = replies.New base }) in
      let sees : SeesBorn span span_of m (born ∷ []) (weak_made m target object base) =
      subst (λ (o : Option Object).
      SeesBorn span span_of m (births_if a (commands.Weak i) (Some (made o).reply)) (made o).state) is
      (bears-weak span span_of spans a m i target object (Some base) is) in
      subst (λ (o : Option Object).
      Bears a m (births_if a (commands.Weak i) (Some (made o).reply)) (made o).state) (sym is)
      (One_born born refl sees refl settings)

bears-no_area : (a m : State) (command : Command) (scanned : Bool) (counted cells : ℕ) (found : Option ℕ)
    → ((base : ℕ) → born_at a command base ≡ [])
    → Bears a m (births_if a command (Some (area_effect m scanned counted cells found).reply))
    (area_effect m scanned counted cells found).state
bears-no_area a m command scanned counted cells None none =
    Nothing_born (births_if-none a command none (replies.Refused refusals.Full)) refl
bears-no_area a m command scanned counted cells (Some base) none =
    let effect = area_effect m scanned counted cells (Some base) in
    Nothing_born (births_if-none a command none effect.reply) refl

module _ (a : State) (log : List Line) (effect : Effect) where
  follows-makes : (family : Family) (bytes : ℕ) (made : State → Option ℕ → Effect) (command : Command) → IsGood a
      → (m : Makes a family bytes made log effect)
      → ((settings : m.state.settings ≡ a.settings)
      → Bears a m.state (births_if a command (Some (made m.state m.found).reply)) (made m.state m.found).state)
      → Follows a command log effect
  follows-makes family bytes made command good m bears =
      record {
        middle = m.state;
        leaves = leaves-searched a family bytes log m.state m.found m.search;
        bears = subst (λ (e : Effect). Bears a m.state (births_if a command (Some e.reply)) e.state) (sym m.effect_is)
            (bears (searched_is_found a family bytes log m.state m.found good m.search).settings);
      }

  -- where nothing is born
  follows-alone : (command : Command) → births_if a command (Some effect.reply) ≡ []
      → LeavesEntered a log effect.state → Follows a command log effect
  follows-alone command none leaves =
      record { middle = effect.state; leaves = leaves; bears = Nothing_born none refl }

  follows-plain : (command : Command) → ((base : ℕ) → born_at a command base ≡ [])
      → IsPlain log effect (plain_effect a command) → Follows a command log effect
  follows-plain command none m =
      follows-alone command (births_if-none a command none effect.reply)
      (leaves-same a log effect.state (ap freed_bases m.no_lines)
      (ap (λ (e : Effect). map span e.state.objects) m.effect_is
      ∙ same-plain span spans.unstuck a command (λ _ _ _ _. refl)))

  follows-phase : (command : Command) (what : Phase) (bases : List ℕ) (b : State)
      → ((base : ℕ) → born_at a command base ≡ []) → log ≡ phase_lines what a bases
      → SeesSame span (released bases a) b → effect.state ≡ b → Follows a command log effect
  follows-phase command what bases b none log_is same state_is =
      follows-alone command (births_if-none a command none effect.reply)
      (leaves-phase what a bases log effect.state log_is
      (ap (λ (s : State). map span s.objects) state_is ∙ same))

  -- the weak reference that there is
  births-kept : (i weak : ℕ) → births_if a (commands.Weak i) (Some (pushes_object a weak).reply) ≡ []
  births-kept i weak = split (slice_get a.objects weak)
    where
      split : (found : Option Object)
          → births_if a (commands.Weak i)
          (Some (with_some found a (λ object. pushes (record { word = object.base; origin = Some weak }) a)).reply)
          ≡ []
      split None = refl
      split (Some object) = refl

  follows-weak : (i target : ℕ) (object : Object) → slice_get a.objects target ≡ Some object → (partner : Option ℕ)
      → IsGood a → MakesWeak a target partner log effect → Follows a (commands.Weak i) log effect
  follows-weak i target object is (Some weak) good m =
      follows-alone (commands.Weak i)
      (ap (λ (e : Effect). births_if a (commands.Weak i) (Some e.reply)) m.effect_is ∙ births-kept i weak)
      (leaves-same a log effect.state (ap freed_bases m.no_lines)
      (ap (λ (e : Effect). map span e.state.objects) m.effect_is ∙ same-object span spans.unstuck a weak))
  follows-weak i target object is None good m =
      let one = keeps-searched a _ _ log m.state m.found m.search target object is in
      follows-makes _ _ _ (commands.Weak i) good m
      (λ settings. bears-one_weak a m.state settings i target one.after m.found one.is)

  pub follows-carried : (command : Command) → IsGood a → refusal a command ≡ None → Carries a command log effect
      → Follows a command log effect
  follows-carried (commands.New shape) good allowed m =
      follows-makes _ _ _ (commands.New shape) good m (λ settings. bears-one_new a m.state settings shape m.found)
  follows-carried (commands.Weak i) good allowed m =
      follows-weak i m.target m.object
      (strong-allowed a i m.target m.object allowed m.target_is m.object_is).is m.object.partner good m.makes
  follows-carried (commands.Root counted cells) good allowed m =
      follows-makes _ _ _ (commands.Root counted cells) good m
      (λ settings. bears-no_area a m.state (commands.Root counted cells) true counted cells m.found (λ _. refl))
  follows-carried (commands.Fixed cells) good allowed m =
      follows-makes _ _ _ (commands.Fixed cells) good m
      (λ settings. bears-no_area a m.state (commands.Fixed cells) false 0 cells m.found (λ _. refl))
  follows-carried commands.Reap good allowed m =
      follows-phase commands.Reap Reap m.0.dead (reaped m.0.dead a) (λ _. refl) m.0.log_is refl m.0.state
  follows-carried commands.Collect good allowed m =
      follows-phase commands.Collect Collect m.0.lost (collected m.0.lost a) (λ _. refl) m.0.log_is refl m.0.state
  follows-carried commands.Finish good allowed m =
      follows-phase commands.Finish Collect m.0.lost (collected m.0.lost a) (λ _. refl) m.0.log_is refl m.0.state
  follows-carried (commands.Step k) good allowed m =
      follows-alone (commands.Step k) (births_if-none a (commands.Step k) (λ _. refl) effect.reply)
      (leaves-same a log effect.state (freed_bases-scanned a m.0.births log effect.state m.0.scanned)
      (ap (map span) (scanned-objects a m.0.births log effect.state m.0.scanned)))
  follows-carried (commands.Push word) good allowed m = follows-plain (commands.Push word) (λ _. refl) m
  follows-carried (commands.Dup i) good allowed m = follows-plain (commands.Dup i) (λ _. refl) m
  follows-carried (commands.Pop k) good allowed m = follows-plain (commands.Pop k) (λ _. refl) m
  follows-carried (commands.Inner i d) good allowed m = follows-plain (commands.Inner i d) (λ _. refl) m
  follows-carried (commands.Get i s) good allowed m = follows-plain (commands.Get i s) (λ _. refl) m
  follows-carried (commands.Put i s j) good allowed m = follows-plain (commands.Put i s j) (λ _. refl) m
  follows-carried (commands.Look i) good allowed m = follows-plain (commands.Look i) (λ _. refl) m
  follows-carried (commands.DropArea n) good allowed m = follows-plain (commands.DropArea n) (λ _. refl) m
  follows-carried (commands.AreaGet n s) good allowed m = follows-plain (commands.AreaGet n s) (λ _. refl) m
  follows-carried (commands.AreaPut n s j) good allowed m = follows-plain (commands.AreaPut n s j) (λ _. refl) m
  follows-carried commands.Begin good allowed m = follows-plain commands.Begin (λ _. refl) m
  follows-carried (commands.Map i) good allowed m = follows-plain (commands.Map i) (λ _. refl) m
  follows-carried commands.Stat good allowed m = follows-plain commands.Stat (λ _. refl) m

-- the end of a command frees too, and nothing that the stack names
pub leaves-ended : (a : State) (full : Bool) (log : List Line) (b : State) → Ends a full log b
    → LeavesEntered a log b
leaves-ended a full log b (Refused_as_full is none same) =
    leaves-same a log b (ap freed_bases none) (ap (λ (s : State). map span s.objects) same)
leaves-ended a full log b (Below_threshold is below none same) =
    leaves-same a log b (ap freed_bases none) (ap (λ (s : State). map span s.objects) same)
leaves-ended a full log b (At_threshold is above reaps) =
    leaves-phase Reap a reaps.dead log b reaps.log_is (ap (λ (s : State). map span s.objects) reaps.state)

pub end-spares : (a : State) (full : Bool) (log : List Line) (b : State) → IsGood a → Ends a full log b
    → (birth : ℕ) (object : Object) → Lives a birth object → names (stack_words a) object ≡ true
    → lists (freed_bases log) object.base ≡ false
end-spares a full log b good (Refused_as_full is none same) birth object lives named =
    ap (λ (log : List Line). lists (freed_bases log) object.base) none
end-spares a full log b good (Below_threshold is below none same) birth object lives named =
    ap (λ (log : List Line). lists (freed_bases log) object.base) none
end-spares a full log b good (At_threshold is above reaps) birth object lives named =
    ap (λ (bases : List ℕ). lists bases object.base) (freed_bases-phase Reap a reaps.dead log reaps.log_is)
    ∙ (reap-spares a reaps.dead good reaps.reapable).stack birth object lives named
