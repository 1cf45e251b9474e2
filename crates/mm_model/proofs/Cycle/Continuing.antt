-- A state that goes on from another, as marking sees it: what marking reaches then it reached before, or it is reached.
use Rattle.std.proofs.Common.{◌≡◌, ℕ, ◌+◌, ◌≤◌, Bool, true, false, not, ◌||◌, List, [], ◌∷◌, map, length, Option, Some}
use Rattle.std.proofs.Common.{None, refl, sym, ap, ◌∙◌, subst, ◌⊎◌, ⊎_elim, inl, inr, arith}
use Rattle.std.proofs.lemmas.List.{length-map, length-set, length_push, get_or_append_left}
use Rattle.std.proofs.lemmas.Option.{slice_get-map, slice_get_within}
use Rattle.std.specs.Prelude.{IfSome, slice_get, slice_set, slice_index, ◌&&◌, ◌==◌, if◌then◌else◌}
use Rattle.std.specs.List.{list_any}
use Rattle.std.specs.Option.{option_map}
use Rattle.mm_model.specs.declared.line.Line.{Line}
use Rattle.mm_model.specs.declared.object.Colour.TheVariants.{White, Black}
use Rattle.mm_model.specs.declared.object.Shape.{Shape}
use Rattle.mm_model.specs.Value.{Value, words_of}
use Rattle.mm_model.specs.Object.{Object, newborn, is_live, is_scanned}
use Rattle.mm_model.specs.State.{State, Cycle, Lives, with_black_birth}
use Rattle.mm_model.specs.Words.{SlotKind, slot_kind, root_words, scanned_slots, names, falls}
use Rattle.mm_model.specs.Sets.Reached.{IsReached}
use Rattle.mm_model.specs.Count.{made_sticky, with_sticky}
use Rattle.mm_model.specs.Meaning.{stored}
use Rattle.mm_model.specs.Sets.Marking.{is_white, is_raw, is_passed, colour_in, grayed_cycle, with_grayed, part_done}
use Rattle.mm_model.specs.Sets.Marking.{IsMarked}
use Rattle.mm_model.specs.Phase.{is_freed, unless_freed, after_release, cycle_left, released, reaped}
use Rattle.mm_model.specs.Sets.Scan.{AreScanned}
use Rattle.mm_model.specs.Store.{is_counted_slot, recounted, with_object, with_slot, put_in_slot}
use Rattle.mm_model.specs.Effect.{made_at, weak_shape, weak_made}
use Rattle.mm_model.specs.Good.{IsColoured, IsGood}
use Rattle.mm_model.proofs.Good.Making.Births.{IsZero, scanned_zeros}
use Rattle.mm_model.proofs.Cycle.Marked.{mark_reached-part}
use Rattle.mm_model.proofs.Places.Falling.{falls_from, named_word}
use Rattle.mm_model.proofs.Good.Graying.{not_white-before}
use Rattle.mm_model.proofs.Lists.Growing.{get-front, get-push, get-last}
use Rattle.mm_model.proofs.Good.Living.{lives_same, lives_from_page_1}
use Rattle.mm_model.proofs.Good.Scanning.{part_is_good}
use Rattle.mm_model.proofs.Lists.Replaced.{get-set_cases}
use Rattle.mm_model.proofs.Good.Writing.Stores.{named-set}

-- two objects that words name alike
pub record IsAlike (before object : Object) : Type 0 where
  pub base : object.base ≡ before.base
  pub extent : object.extent ≡ before.extent

pub names-alike : (words : List ℕ) (before object : Object) → IsAlike before object
    → names words object ≡ names words before
names-alike words before object alike =
    ap (λ base. list_any (λ word. falls word base object.extent) words) alike.base
    ∙ ap (λ extent. list_any (λ word. falls word before.base extent) words) alike.extent

-- a scanned slot of the object with a birth number names this one
pub record IsHeldBy (a : State) (by : ℕ) (object : Object) : Type 0 where
  pub holder : Object
  pub lives : Lives a by holder
  pub named : names (scanned_slots holder) object ≡ true

-- The second state goes on from the first: what lived is named alike, and where marking reaches further, it does so by
-- one of the words.
pub record Continues (words : List ℕ) (a b : State) : Type 0 where
  pub settings : b.settings ≡ a.settings
  pub births : length a.objects ≤ length b.objects
  pub alike : (j : ℕ) (before object : Object) → Lives a j before → Lives b j object → IsAlike before object
  -- what isn't white was reached by marking
  pub shaded : (j : ℕ) (before object : Object) → Lives a j before → Lives b j object
      → not (is_white (colour_in b.cycle j)) ≡ true → IsMarked a j ⊎ (names words object ≡ true)
  -- what a slot names it named before
  pub held : (j : ℕ) (before object : Object) (by : ℕ) (holder : Object) → Lives a j before → Lives b j object
      → Lives b by holder → names (scanned_slots holder) object ≡ true
      → IsHeldBy a by object ⊎ (names words object ≡ true)

module _ (words : List ℕ) (a b : State) (on : Continues words a b)
    (rooted : (object : Object) → names words object ≡ true → names (root_words b) object ≡ true) where
  -- What marking reaches that lived before, it reached before, or it is reached.
  pub marked_before : (j : ℕ) → IsMarked b j → (before : Object) → Lives a j before
      → IsMarked a j ⊎ IsReached b j
  marked_before j (IsMarked.Already _ object lives colour) before lived =
      ⊎_elim (λ (l : IsMarked a j). inl l)
      (λ (r : names words object ≡ true). inr (IsReached.By_root j object lives (rooted object r)))
      (on.shaded j before object lived lives colour)
  marked_before j (IsMarked.By_slot _ object by holder lives holds named own) before lived =
      ⊎_elim
      (λ (l : IsHeldBy a by object).
      ⊎_elim
      (λ (marked : IsMarked a by).
      inl (IsMarked.By_slot j before by l.holder lived l.lives
      (sym (names-alike (scanned_slots l.holder) before object (on.alike j before object lived lives)) ∙ l.named)
      marked))
      (λ (reached : IsReached b by). inr (IsReached.By_slot j object by holder lives holds named reached))
      (marked_before by own l.holder l.lives))
      (λ (r : names words object ≡ true). inr (IsReached.By_root j object lives (rooted object r)))
      (on.held j before object by holder lived lives holds named)

-- a state goes on from itself
pub continues-self : (a : State) → Continues [] a a
continues-self a =
    record {
      settings = refl;
      births = omega arith;
      alike = λ j before object lived lives.
          let f = lived.is in
          let g = lives.is in
          let same : before ≡ object = cc in
          record { base = ap (λ (o : Object). o.base) (sym same); extent = ap (λ (o : Object). o.extent) (sym same) };
      shaded = λ j before object lived lives colour. inl (IsMarked.Already j object lives colour);
      held = λ j before object by holder lived lives holds named.
          inl (record { holder = holder; lives = holds; named = named });
    }

-- what an object was, as marking sees it
pub record WasAlike (a : State) (j : ℕ) (object : Object) : Type 0 where
  pub before : Object
  pub lived : Lives a j before
  pub alike : IsAlike before object
  pub slots : scanned_slots object ≡ scanned_slots before

-- The second state is the first as marking sees it, but for objects that are gone.
pub record Thins (a b : State) : Type 0 where
  pub settings : b.settings ≡ a.settings
  pub births : length b.objects ≡ length a.objects
  pub was : (j : ℕ) (object : Object) → Lives b j object → WasAlike a j object
  pub colour : (j : ℕ) → colour_in b.cycle j ≡ colour_in a.cycle j

alike-then : (x y z : Object) → IsAlike x y → IsAlike y z → IsAlike x z
alike-then x y z h k = record { base = k.base ∙ h.base; extent = k.extent ∙ h.extent }

pub thins-then : (a b c : State) → Thins a b → Thins b c → Thins a c
thins-then a b c h k =
    record {
      settings = k.settings ∙ h.settings;
      births = k.births ∙ h.births;
      was = λ j object lives.
          let now = k.was j object lives in
          let old = h.was j now.before now.lived in
          record {
            before = old.before;
            lived = old.lived;
            alike = alike-then old.before now.before object old.alike now.alike;
            slots = now.slots ∙ old.slots;
          };
      colour = λ j. k.colour j ∙ h.colour j;
    }

pub continues-then : (words : List ℕ) (a b c : State) → Continues words a b → Thins b c → Continues words a c
continues-then words a b c on thins =
    let as_before : (before object : Object) → IsAlike before object → names words before ≡ true
    → names words object ≡ true =
    λ before object alike e. names-alike words before object alike ∙ e in
    record {
      settings = thins.settings ∙ on.settings;
      births = let more = on.births in let same = thins.births in omega arith;
      alike = λ j before object lived lives.
          let was = thins.was j object lives in
          alike-then before was.before object (on.alike j before was.before lived was.lived) was.alike;
      shaded = λ j before object lived lives colour.
          let was = thins.was j object lives in
          ⊎_elim (λ (l : IsMarked a j). inl l)
          (λ (r : names words was.before ≡ true). inr (as_before was.before object was.alike r))
          (on.shaded j before was.before lived was.lived (ap (λ c. not (is_white c)) (sym (thins.colour j)) ∙ colour));
      held = λ j before object by holder lived lives holds named.
          let was = thins.was j object lives in
          let held = thins.was by holder holds in
          ⊎_elim
          (λ (l : IsHeldBy a by was.before).
          inl (record {
            holder = l.holder;
            lives = l.lives;
            named = names-alike (scanned_slots l.holder) was.before object was.alike ∙ l.named;
          }))
          (λ (r : names words was.before ≡ true). inr (as_before was.before object was.alike r))
          (on.held j before was.before by held.before lived was.lived held.lived
          (ap (λ ws. names ws was.before) (sym held.slots)
          ∙ sym (names-alike (scanned_slots holder) was.before object was.alike) ∙ named));
    }

-- a state with the same objects and cycle
pub thins-same : (a b : State) → b.settings ≡ a.settings → b.objects ≡ a.objects → b.cycle ≡ a.cycle → Thins a b
thins-same a b settings objects cycle =
    record {
      settings = settings;
      births = ap length objects;
      was = λ j object lives.
          record {
            before = object;
            lived = record { is = ap (λ os. slice_get os j) (sym objects) ∙ lives.is; live = lives.live };
            alike = record { base = refl; extent = refl };
            slots = refl;
          };
      colour = λ j. ap (λ (c : Option Cycle). colour_in c j) cycle;
    }

-- what a change of objects leaves of one that lives after it
pub record IsSeenAlike (before object : Object) : Type 0 where
  pub live : is_live before ≡ true
  pub alike : IsAlike before object
  pub slots : scanned_slots object ≡ scanned_slots before

-- a state in which each object is changed
pub thins-map : (a b : State) (change : Object → Object)
    → ((o : Object) → is_live (change o) ≡ true → IsSeenAlike o (change o)) → b.settings ≡ a.settings
    → b.objects ≡ map change a.objects → ((j : ℕ) → colour_in b.cycle j ≡ colour_in a.cycle j) → Thins a b
thins-map a b change seen settings objects colour =
    record {
      settings = settings;
      births = ap length objects ∙ length-map a.objects change;
      was = λ j object lives.
          split j object lives.live (slice_get a.objects j) refl
          (sym (slice_get-map change a.objects j) ∙ ap (λ os. slice_get os j) (sym objects) ∙ lives.is);
      colour = colour;
    }
  where
    split : (j : ℕ) (object : Object) → is_live object ≡ true → (found : Option Object)
        → slice_get a.objects j ≡ found → option_map change (slice_get a.objects j) ≡ Some object
        → WasAlike a j object
    split j object live None e is = let none = ap (option_map change) e in cc
    split j object live (Some o) e is =
        let some = ap (option_map change) e in
        let same : change o ≡ object = cc in
        let own = seen o (ap is_live same ∙ live) in
        record {
          before = o;
          lived = record { is = e; live = own.live };
          alike = subst (λ (x : Object). IsAlike o x) same own.alike;
          slots = ap scanned_slots (sym same) ∙ own.slots;
        }

-- what is freed is gone, and the rest stays as it was
pub thins-released : (a : State) (bases : List ℕ) → Thins a (released bases a)
thins-released a bases =
    thins-map a (released bases a) (after_release a bases) seen refl refl (λ j. colour a.cycle j)
  where
    seen : (o : Object) → is_live (after_release a bases o) ≡ true → IsSeenAlike o (after_release a bases o)
    seen o = split (is_freed bases o)
      where
        split : (b : Bool)
            → is_live (if b then record o { gone = true } else record o { partner = unless_freed a bases o.partner })
            ≡ true
            → IsSeenAlike o
            (if b then record o { gone = true } else record o { partner = unless_freed a bases o.partner })
        split true e = cc
        split false e = record { live = e; alike = record { base = refl; extent = refl }; slots = refl }

    colour : (cycle : Option Cycle) (j : ℕ) → colour_in (option_map (cycle_left a bases) cycle) j ≡ colour_in cycle j
    colour None j = refl
    colour (Some cycle) j = refl

pub thins-reaped : (a : State) (bases : List ℕ) → Thins a (reaped bases a)
thins-reaped a bases =
    thins-then a (released bases a) (reaped bases a) (thins-released a bases)
    (thins-same (released bases a) (reaped bases a) refl refl refl)

-- a sticky mark says nothing to marking
pub thins-recounted : (kind : SlotKind) (old new : ℕ) (a : State) → Thins a (recounted kind old new a)
thins-recounted kind old new a = split (is_counted_slot kind && not (old == new))
  where
    split : (b : Bool) → Thins a (if b then with_sticky new a else a)
    split true =
        thins-map a (with_sticky new a) (made_sticky a new)
        (λ o e. record { live = e; alike = record { base = refl; extent = refl }; slots = refl }) refl refl (λ j. refl)
    split false = thins-same a a refl refl refl

-- nor does a partner
module _ (a : State) (target : ℕ) (object : Object) (base : ℕ) (is : slice_get a.objects target ≡ Some object) where
  abbrev targeted : Object
  targeted = record object { partner = Some (length a.objects) }

  abbrev weak : Object
  weak = record (newborn weak_shape base) { partner = Some target }

  abbrev made : State
  made = made_at a weak_shape base

  was-weak : (j : ℕ) (o : Object) → Lives (weak_made a target object base) j o → WasAlike made j o
  was-weak j o lives =
      ⊎_elim
      (λ (front : slice_get (slice_set a.objects target targeted) j ≡ Some o).
      ⊎_elim
      (λ (l : (j ≡ target) × (targeted ≡ o)).
      let here : slice_get a.objects j ≡ Some object = ap (slice_get a.objects) l.0 ∙ is in
      record {
        before = object;
        lived = record {
          is = get-front a.objects (newborn weak_shape base ∷ []) j object here;
          live = ap is_live l.1 ∙ lives.live;
        };
        alike = record {
          base = ap (λ (x : Object). x.base) (sym l.1);
          extent = ap (λ (x : Object). x.extent) (sym l.1);
        };
        slots = ap (λ (x : Object). scanned_slots x) (sym l.1);
      })
      (λ (r : slice_get a.objects j ≡ Some o).
      record {
        before = o;
        lived = record { is = get-front a.objects (newborn weak_shape base ∷ []) j o r; live = lives.live };
        alike = record { base = refl; extent = refl };
        slots = refl;
      })
      (get-set_cases a.objects target j targeted o front))
      (λ (last : (j ≡ length (slice_set a.objects target targeted)) × (weak ≡ o)).
      let place : j ≡ length a.objects = last.0 ∙ length-set a.objects target targeted in
      record {
        before = newborn weak_shape base;
        lived = record {
          is = ap (slice_get made.objects) place ∙ get-last a.objects (newborn weak_shape base);
          live = refl;
        };
        alike = record {
          base = ap (λ (x : Object). x.base) (sym last.1);
          extent = ap (λ (x : Object). x.extent) (sym last.1);
        };
        slots = ap (λ (x : Object). scanned_slots x) (sym last.1);
      })
      (get-push (slice_set a.objects target targeted) weak j o lives.is)

  pub thins-weak : Thins made (weak_made a target object base)
  thins-weak =
      record {
        settings = refl;
        births = length_push (slice_set a.objects target targeted) weak
            ∙ ap (λ n. n + 1) (length-set a.objects target targeted)
            ∙ sym (length_push a.objects (newborn weak_shape base));
        was = was-weak;
        colour = λ j. refl;
      }

-- a cycle has a colour for each object
abbrev pub HasEachColour : State → Type 0
HasEachColour a = IfSome a.cycle (λ cycle. length cycle.colours ≡ length a.objects)

pub good-each_colour : (a : State) → IsGood a → HasEachColour a
good-each_colour a good = split a.cycle good.coloured
  where
    split : (cycle : Option Cycle) → IfSome cycle (IsColoured a)
        → IfSome cycle (λ c. length c.colours ≡ length a.objects)
    split None h = tt
    split (Some cycle) h = h.each

-- where the words gray what they name, marking reaches no further than by them
pub continues-grayed : (words : List ℕ) (a b : State) → Continues words a b → HasEachColour b
    → Continues words a (with_grayed words b)
continues-grayed words a b on each =
    record {
      settings = on.settings;
      births = on.births;
      alike = λ j before object lived lives. on.alike j before object lived (lives-in j object lives);
      shaded = λ j before object lived lives colour.
          let own = lives-in j object lives in
          ⊎_elim
          (λ (l : not (is_white (colour_in b.cycle j)) ≡ true). on.shaded j before object lived own l)
          (λ (r : names words object ≡ true). inr r)
          (not_white b.cycle each j object own colour);
      held = λ j before object by holder lived lives holds named.
          on.held j before object by holder lived (lives-in j object lives) (lives-in by holder holds) named;
    }
  where
    lives-in : (j : ℕ) (object : Object) → Lives (with_grayed words b) j object → Lives b j object
    lives-in j object lives = record { is = lives.is; live = lives.live }

    not_white : (cycle : Option Cycle) → IfSome cycle (λ c. length c.colours ≡ length b.objects) → (j : ℕ)
        (object : Object) → Lives b j object
        → not (is_white (colour_in (option_map (grayed_cycle words b) cycle) j)) ≡ true
        → (not (is_white (colour_in cycle j)) ≡ true) ⊎ (names words object ≡ true)
    not_white None each j object lives e = inl e
    not_white (Some cycle) each j object lives e = not_white-before b words cycle each j object lives e

-- A store into any slot: the new word alone can be named.
module _ (a : State) (birth : ℕ) (object : Object) (s : ℕ) (value : Value)
    (is : slice_get a.objects birth ≡ Some object) where
  abbrev changed : Object
  changed = with_slot a object s value

  abbrev store : State
  store = with_object birth changed a

  abbrev words : List ℕ
  words = value.word ∷ []

  names-new : (o : Object) → falls value.word o.base o.extent ≡ true → names words o ≡ true
  names-new o e = ap (λ b. b || false) e

  -- what it was before, and that it is the changed one, or as it was
  record WasStored (j : ℕ) (o : Object) : Type 0 where
    before : Object
    lived : Lives a j before
    alike : IsAlike before o
    slots : (other : Object) → names (scanned_slots o) other ≡ true
        → (names (scanned_slots before) other ≡ true) ⊎ (names words other ≡ true)

  was-stored : (j : ℕ) (o : Object) → Lives store j o → WasStored j o
  was-stored j o lives =
      ⊎_elim
      (λ (l : (j ≡ birth) × (changed ≡ o)).
      record {
        before = object;
        lived = record { is = ap (slice_get a.objects) l.0 ∙ is; live = ap is_live l.1 ∙ lives.live };
        alike = record {
          base = ap (λ (x : Object). x.base) (sym l.1);
          extent = ap (λ (x : Object). x.extent) (sym l.1);
        };
        slots = λ other named.
            ⊎_elim (λ (old : names (scanned_slots object) other ≡ true). inl old)
            (λ (new : (is_raw (slot_kind object s) ≡ false) × (falls value.word other.base other.extent ≡ true)).
            inr (names-new other new.1))
            (named-set (is_scanned object.kind) object.counted s object.slots (stored a (slot_kind object s) value)
            other (ap (λ (x : Object). names (scanned_slots x) other) l.1 ∙ named));
      })
      (λ (r : slice_get a.objects j ≡ Some o).
      record {
        before = o;
        lived = record { is = r; live = lives.live };
        alike = record { base = refl; extent = refl };
        slots = λ other named. inl named;
      })
      (get-set_cases a.objects birth j changed o lives.is)

  continues-store : Continues words a store
  continues-store =
      record {
        settings = refl;
        births = let same = length-set a.objects birth changed in omega arith;
        alike = λ j before o lived lives.
            let was = was-stored j o lives in
            subst (λ (x : Object). IsAlike x o) (lives_same a j was.before before was.lived lived) was.alike;
        shaded = λ j before o lived lives colour. inl (IsMarked.Already j before lived colour);
        held = λ j before o by holder lived lives holds named.
            let held = was-stored by holder holds in
            ⊎_elim
            (λ (l : names (scanned_slots held.before) o ≡ true).
            inl (record { holder = held.before; lives = held.lived; named = l }))
            (λ (r : names words o ≡ true). inr r)
            (held.slots o named);
      }

  each-store : HasEachColour a → HasEachColour store
  each-store = split a.cycle
    where
      split : (cycle : Option Cycle) → IfSome cycle (λ c. length c.colours ≡ length a.objects)
          → IfSome cycle (λ c. length c.colours ≡ length store.objects)
      split None each = tt
      split (Some cycle) each = each ∙ sym (length-set a.objects birth changed)

  each-recounted : (kind : SlotKind) (old new : ℕ) (b : State) → HasEachColour b
      → HasEachColour (recounted kind old new b)
  each-recounted kind old new b each = split (is_counted_slot kind && not (old == new))
    where
      by_cycle : (cycle : Option Cycle) → IfSome cycle (λ c. length c.colours ≡ length b.objects)
          → IfSome cycle (λ c. length c.colours ≡ length (with_sticky new b).objects)
      by_cycle None each = tt
      by_cycle (Some cycle) each = each ∙ sym (length-map b.objects (made_sticky b new))

      split : (c : Bool) → HasEachColour (if c then with_sticky new b else b)
      split true = by_cycle b.cycle each
      split false = each

  pub continues-put : HasEachColour a → Continues words a (put_in_slot a birth object s value)
  continues-put each =
      let kind = slot_kind object s in
      let old = slice_index (words_of object.slots) s in
      let counted = recounted kind old value.word store in
      let on : Continues words a counted =
      continues-then words a store counted continues-store (thins-recounted kind old value.word store) in
      let split : (b : Bool) → Continues words a (if b then with_grayed words counted else counted) =
      elim [
        | true ↦ continues-grayed words a counted on (each-recounted kind old value.word store (each-store each))
        | false ↦ on
      ] in
      split (not (is_raw kind) && is_passed counted.cycle birth s)

-- A birth: the newborn is black, but lived not before, and its slots name nothing.
module _ (a b : State) (on : Continues [] a b) (shape : Shape) (base : ℕ) (each : HasEachColour b)
    (good : IsGood (made_at b shape base)) where
  abbrev born : State
  born = made_at b shape base

  -- what lived before is no newborn
  old-born : (j : ℕ) (before o : Object) → Lives a j before → Lives born j o → Lives b j o
  old-born j before o lived lives =
      ⊎_elim (λ (old : slice_get b.objects j ≡ Some o). record { is = old; live = lives.live })
      (λ (last : (j ≡ length b.objects) × (newborn shape base ≡ o)).
      let known = slice_get_within a.objects j before lived.is in
      let more = on.births in
      let place = last.0 in
      absurd (omega arith))
      (get-push b.objects (newborn shape base) j o lives.is)

  zeros_name_nothing : (j : ℕ) (o : Object) → Lives born j o
      → names (scanned_slots (newborn shape base)) o ≡ true → ⊥
  zeros_name_nothing j o lives named =
      let low = lives_from_page_1 born good.placed j o lives in
      let word = named_word (scanned_slots (newborn shape base)) o named IsZero (scanned_zeros shape base) in
      let falls = falls_from word.0 o.base o.extent word.1 in
      let is = word.2 in
      omega arith

  colour-born : (j : ℕ) (o : Object) → Lives b j o → colour_in born.cycle j ≡ colour_in b.cycle j
  colour-born j o lives = split b.cycle each
    where
      split : (cycle : Option Cycle) → IfSome cycle (λ c. length c.colours ≡ length b.objects)
          → colour_in (option_map with_black_birth cycle) j ≡ colour_in cycle j
      split None each = refl
      split (Some cycle) each =
          let within = slice_get_within b.objects j o lives.is in
          get_or_append_left cycle.colours (Black ∷ []) White j (omega arith)

  pub continues-born : Continues [] a born
  continues-born =
      record {
        settings = on.settings;
        births = let more = on.births in let one = length_push b.objects (newborn shape base) in omega arith;
        alike = λ j before o lived lives. on.alike j before o lived (old-born j before o lived lives);
        shaded = λ j before o lived lives colour.
            let own = old-born j before o lived lives in
            on.shaded j before o lived own (ap (λ c. not (is_white c)) (sym (colour-born j o own)) ∙ colour);
        held = λ j before o by holder lived lives holds named.
            ⊎_elim
            (λ (old : slice_get b.objects by ≡ Some holder).
            on.held j before o by holder lived (old-born j before o lived lives)
            (record { is = old; live = holds.live }) named)
            (λ (last : (by ≡ length b.objects) × (newborn shape base ≡ holder)).
            absurd (zeros_name_nothing j o lives (ap (λ (x : Object). names (scanned_slots x) o) last.1 ∙ named)))
            (get-push b.objects (newborn shape base) by holder holds.is);
      }

-- the scans of `step` change no object, and marking reaches no more
objects-scanned : (a : State) (births : List ℕ) (log : List Line) (b : State) → AreScanned a births log b
    → b.objects ≡ a.objects
objects-scanned a [] log b h = ap (λ (x : State). x.objects) h.1
objects-scanned a (birth ∷ births) log b h = objects-scanned (part_done a birth h.0) births h.1 b h.4

settings-scanned : (a : State) (births : List ℕ) (log : List Line) (b : State) → AreScanned a births log b
    → b.settings ≡ a.settings
settings-scanned a [] log b h = ap (λ (x : State). x.settings) h.1
settings-scanned a (birth ∷ births) log b h = settings-scanned (part_done a birth h.0) births h.1 b h.4

mark_reached-scanned : (a : State) (births : List ℕ) (log : List Line) (b : State) → IsGood a
    → AreScanned a births log b → (j : ℕ) → IsMarked b j → IsMarked a j
mark_reached-scanned a [] log b good h j own = subst (λ (x : State). IsMarked x j) h.1 own
mark_reached-scanned a (birth ∷ births) log b good h j own =
    mark_reached-part a birth h.0 good h.2 j
    (mark_reached-scanned (part_done a birth h.0) births h.1 b (part_is_good a birth h.0 good h.2) h.4 j own)

pub continues-scanned : (a : State) (births : List ℕ) (log : List Line) (b : State) → IsGood a
    → AreScanned a births log b → Continues [] a b
continues-scanned a births log b good h =
    let objects = objects-scanned a births log b h in
    let lives-in : (j : ℕ) (o : Object) → Lives b j o → Lives a j o =
    λ j o lives. record { is = ap (λ os. slice_get os j) (sym objects) ∙ lives.is; live = lives.live } in
    let self = continues-self a in
    record {
      settings = settings-scanned a births log b h;
      births = let same = ap length objects in omega arith;
      alike = λ j before o lived lives. self.alike j before o lived (lives-in j o lives);
      shaded = λ j before o lived lives colour.
          inl (mark_reached-scanned a births log b good h j (IsMarked.Already j o lives colour));
      held = λ j before o by holder lived lives holds named.
          inl (record { holder = holder; lives = lives-in by holder holds; named = named });
    }
