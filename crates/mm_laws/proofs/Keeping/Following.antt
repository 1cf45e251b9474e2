-- What a state keeps of the objects of another: each stands there still, and weak references follow their targets.
use Rattle.std.proofs.Common.{◌≡◌, ℕ, Bool, true, false, List, ◌++◌, map, length, Option, Some, None, refl, sym, ap}
use Rattle.std.proofs.Common.{◌∙◌, eqb-true}
use Rattle.std.proofs.lemmas.Bool.{eq-eqb}
use Rattle.std.proofs.lemmas.Option.{slice_get-map}
use Rattle.std.specs.Prelude.{IsTrue, slice_get, slice_set, ◌==◌, if◌then◌else◌}
use Rattle.std.specs.Option.{option_map, option_map_or}
use Rattle.mm_model.specs.declared.object.Kind.{Kind}
use Rattle.mm_model.specs.Object.{Object, is_weak}
use Rattle.mm_model.specs.State.{State}
use Rattle.mm_model.specs.Phase.{is_freed, is_freed_birth, unless_freed, after_release}
use Rattle.mm_model.specs.Effect.{weak_made}
use Rattle.mm_model.proofs.Lists.Growing.{get-front}
use Rattle.mm_model.proofs.Lists.Replaced.{get-set_same, get-set_other}
use Rattle.mm_model.specs.Logs.Course.{IsGone}
use Rattle.mm_model.proofs.Lists.Truth.{no_other}
use Rattle.mm_model.specs.WeakReferences.{IsTarget, Partner, Freed, IsMadeFor}

-- What becomes of an object: it stands under its birth number, what was freed stays so, and a weak reference keeps its
-- target or is emptied with it.
pub record IsKept (b : State) (birth : ℕ) (before : Object) : Type 0 where
  pub after : Object
  pub is : slice_get b.objects birth ≡ Some after
  pub kind : after.kind ≡ before.kind
  pub base : after.base ≡ before.base
  pub gone : IsTrue before.gone → IsTrue after.gone
  pub empty : is_weak before.kind ≡ true → before.partner ≡ None → after.partner ≡ None
  pub follows : is_weak before.kind ≡ true → (target : ℕ) → before.partner ≡ Some target → IsTarget b after target

abbrev pub Keeps : State → State → Type 0
Keeps a b = (birth : ℕ) (before : Object) → slice_get a.objects birth ≡ Some before → IsKept b birth before

pub gone-kept : (a b : State) (birth : ℕ) → Keeps a b → IsGone a birth → IsGone b birth
gone-kept a b birth keeps h =
    let one = keeps birth h.object h.is in
    record { object = one.after; is = one.is; gone = one.gone h.gone }

target-kept : (a b : State) (birth : ℕ) (before : Object) (keeps : Keeps a b) (one : IsKept b birth before) (target : ℕ)
    → is_weak before.kind ≡ true → IsTarget a before target → IsTarget b one.after target
target-kept a b birth before keeps one target weak (Partner is) = one.follows weak target is
target-kept a b birth before keeps one target weak (Freed none gone) =
    Freed (one.empty weak none) (gone-kept a b target keeps gone)

-- a weak reference goes on to be that of its target
pub made_for-kept : (a b : State) (weak target : ℕ) → Keeps a b → IsMadeFor a weak target → IsMadeFor b weak target
made_for-kept a b weak target keeps h =
    let one = keeps weak h.object h.is in
    record {
      object = one.after;
      is = one.is;
      is_weak = ap is_weak one.kind ∙ h.is_weak;
      of_target = target-kept a b weak h.object keeps one target h.is_weak h.of_target;
    }

pub keeps-then : (a b c : State) → Keeps a b → Keeps b c → Keeps a c
keeps-then a b c first second birth before e =
    let one = first birth before e in
    let two = second birth one.after one.is in
    record {
      after = two.after;
      is = two.is;
      kind = two.kind ∙ one.kind;
      base = two.base ∙ one.base;
      gone = λ g. two.gone (one.gone g);
      empty = λ w none. two.empty (ap is_weak one.kind ∙ w) (one.empty w none);
      follows = λ w target is.
          target-kept b c birth one.after second two target (ap is_weak one.kind ∙ w) (one.follows w target is);
    }

-- what of an object a store changes nothing of
pub record Marks : Type 0 where
  pub kind : Kind
  pub base : ℕ
  pub gone : Bool
  pub partner : Option ℕ

abbrev pub marks : Object → Marks
marks object = record { kind = object.kind; base = object.base; gone = object.gone; partner = object.partner }

abbrev pub HasSameMarks : State → State → Type 0
HasSameMarks a b = map marks b.objects ≡ map marks a.objects

alike-kept : (b : State) (birth : ℕ) (before after : Object) → slice_get b.objects birth ≡ Some after
    → marks after ≡ marks before → IsKept b birth before
alike-kept b birth before after is same =
    record {
      after = after;
      is = is;
      kind = ap (λ (m : Marks). m.kind) same;
      base = ap (λ (m : Marks). m.base) same;
      gone = λ g. ap (λ (m : Marks). m.gone) same ∙ g;
      empty = λ w none. ap (λ (m : Marks). m.partner) same ∙ none;
      follows = λ w target e. Partner (ap (λ (m : Marks). m.partner) same ∙ e);
    }

pub keeps-same_marks : (a b : State) → HasSameMarks a b → Keeps a b
keeps-same_marks a b same birth before e =
    split (slice_get b.objects birth) refl
    (sym (slice_get-map marks b.objects birth)
    ∙ ap (λ ms. slice_get ms birth) same
    ∙ slice_get-map marks a.objects birth
    ∙ ap (option_map marks) e)
  where
    split : (found : Option Object) → slice_get b.objects birth ≡ found → option_map marks found ≡ Some (marks before)
        → IsKept b birth before
    split None is m = cc
    split (Some after) is m = let alike : marks after ≡ marks before = cc in alike-kept b birth before after is alike

pub keeps-same : (a b : State) → b.objects ≡ a.objects → Keeps a b
keeps-same a b same = keeps-same_marks a b (ap (map marks) same)

-- more objects behind the others
pub keeps-more : (a b : State) (more : List Object) → b.objects ≡ a.objects ++ more → Keeps a b
keeps-more a b more is birth before e =
    alike-kept b birth before before (ap (λ os. slice_get os birth) is ∙ get-front a.objects more birth before e) refl

-- the target of a new weak reference
abbrev targeted : State → Object → Object
targeted a object = record object { partner = Some (length a.objects) }

-- A new weak reference: its target isn't one itself, and no other object is changed.
pub keeps-weak_made : (a : State) (target : ℕ) (object : Object) (base : ℕ) → slice_get a.objects target ≡ Some object
    → is_weak object.kind ≡ false → Keeps a (weak_made a target object base)
keeps-weak_made a target object base is strong birth before e = split (birth == target) refl
  where
    split : (c : Bool) → (birth == target) ≡ c → IsKept (weak_made a target object base) birth before
    split true p =
        let here = eqb-true _ _ p in
        let same : object ≡ before = let found = ap (slice_get a.objects) here in cc in
        let strong_before : is_weak before.kind ≡ false = ap (λ (o : Object). is_weak o.kind) (sym same) ∙ strong in
        record {
          after = targeted a object;
          is = get-front (slice_set a.objects target (targeted a object)) _ birth (targeted a object)
              (ap (slice_get (slice_set a.objects target (targeted a object))) here
              ∙ get-set_same a.objects target object (targeted a object) is);
          kind = ap (λ (o : Object). o.kind) same;
          base = ap (λ (o : Object). o.base) same;
          gone = λ g. ap (λ (o : Object). o.gone) same ∙ g;
          empty = λ w none. absurd (no_other strong_before w);
          follows = λ w t partner. absurd (no_other strong_before w);
        }
    split false p =
        let other : birth ≡ target → ⊥ = λ same. no_other p (eq-eqb _ _ same) in
        alike-kept (weak_made a target object base) birth before before
        (get-front (slice_set a.objects target (targeted a object)) _ birth before
        (get-set_other a.objects target birth (targeted a object) other ∙ e)) refl

-- A phase empties exactly the weak references whose targets it frees.
module _ (a b : State) (bases : List ℕ) (is : b.objects ≡ map (after_release a bases) a.objects) where
  pub get-released : (birth : ℕ) (before : Object) → slice_get a.objects birth ≡ Some before
      → slice_get b.objects birth ≡ Some (after_release a bases before)
  get-released birth before e =
      ap (λ os. slice_get os birth) is ∙ slice_get-map (after_release a bases) a.objects birth
      ∙ ap (option_map (after_release a bases)) e

  freed_is_gone : (birth : ℕ) → is_freed_birth a bases birth ≡ true → IsGone b birth
  freed_is_gone birth freed = split (slice_get a.objects birth) refl freed
    where
      split : (found : Option Object) → slice_get a.objects birth ≡ found
          → option_map_or (is_freed bases) found false ≡ true → IsGone b birth
      split None e f = cc
      split (Some before) e f =
          record {
            object = after_release a bases before;
            is = get-released birth before e;
            gone = ap
                (λ c.
                (if c then record before { gone = true }
                else record before { partner = unless_freed a bases before.partner }).gone) f;
          }

  target-released : (weak : Object) (target : ℕ) → weak.partner ≡ Some target
      → IsTarget b (record weak { partner = unless_freed a bases weak.partner }) target
  target-released weak target e = split (is_freed_birth a bases target) refl
    where
      split : (c : Bool) → is_freed_birth a bases target ≡ c
          → IsTarget b (record weak { partner = unless_freed a bases weak.partner }) target
      split true f =
          Freed (ap (unless_freed a bases) e ∙ ap (λ c. if c then None else Some target) f) (freed_is_gone target f)
      split false f = Partner (ap (unless_freed a bases) e ∙ ap (λ c. if c then None else Some target) f)

  pub keeps-released : Keeps a b
  keeps-released birth before e = split (is_freed bases before) (get-released birth before e)
    where
      split : (c : Bool)
          → slice_get b.objects birth
          ≡ Some (if c then record before { gone = true }
          else record before { partner = unless_freed a bases before.partner })
          → IsKept b birth before
      split true found =
          record {
            after = record before { gone = true };
            is = found;
            kind = refl;
            base = refl;
            gone = λ g. refl;
            empty = λ w none. none;
            follows = λ w target partner. Partner partner;
          }
      split false found =
          record {
            after = record before { partner = unless_freed a bases before.partner };
            is = found;
            kind = refl;
            base = refl;
            gone = λ g. g;
            empty = λ w none. ap (unless_freed a bases) none;
            follows = λ w target partner. target-released before target partner;
          }
