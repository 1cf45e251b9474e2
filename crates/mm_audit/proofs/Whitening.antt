-- Objects that become white in order of base.
use Rattle.std.proofs.Common.{◌≡◌, ◌≢◌, ℕ, ◌+◌, ◌<◌, ◌≤◌, Bool, true, false, if◌then◌else◌, Option, Some}
use Rattle.std.proofs.Common.{refl, sym, ap, ◌∙◌, ⊎_elim, arith}
use Rattle.std.specs.Prelude.{nat_lt}
use Rattle.std.proofs.lemmas.Bool.{cases_lt}
use Rattle.std.proofs.lemmas.Bool.Decides.{nat_tests}
use Rattle.mm_model.specs.declared.object.Colour.{Colour}
use Rattle.mm_model.specs.declared.object.Colour.TheVariants.{White, Gray}
use Rattle.mm_model.specs.Views.ByBase.{Begins, with_entry, changed}
use Rattle.mm_model.specs.Views.ObjectView.{ObjectView, ObjectsByBase}
use Rattle.mm_model.specs.Views.ViewEffect.{with_colour}
use Rattle.mm_model.proofs.View.ByBase.ChangedEntries.{changed-none, changed-one, changed-changed, changed-alike}
use Rattle.mm_model.proofs.View.ByBase.ChangedEntries.{one_after, begins_changed, changed_begins}
use Rattle.mm_audit.specs.Objects.{IsNextObject, NoObjectFrom, NoneIsGray, grays_in}
use Rattle.mm_audit.proofs.Grays.{grays-none}

abbrev pub white_object : ObjectView → ObjectView
white_object object = record object { colour = White }

-- those that begin below an address become white
abbrev pub white_below : ℕ → ℕ → ObjectView → Option ObjectView
white_below limit base object = Some (if nat_lt base limit then white_object object else object)

below-white : (limit base : ℕ) (object : ObjectView) → base < limit
    → white_below limit base object ≡ Some (white_object object)
below-white limit base object below =
    ap (λ b. Some (if b then white_object object else object)) (test base limit below)
  where
    test : (m n : ℕ) → m < n → nat_lt m n ≡ true
    test m n less = grind (arith, nat_tests)

behind-same : (limit base : ℕ) (object : ObjectView) → limit ≤ base → white_below limit base object ≡ Some object
behind-same limit base object behind =
    ap (λ b. Some (if b then white_object object else object)) (test base limit behind)
  where
    test : (m n : ℕ) → n ≤ m → nat_lt m n ≡ false
    test m n most = grind (arith, nat_tests)

inside : (x y : ObjectView) → Some x ≡ Some y → x ≡ y
inside x y e = cc

pub none-below : (objects : ObjectsByBase) → changed (white_below 0) objects ≡ objects
none-below objects =
    changed-none (white_below 0) objects (λ base object begins. behind-same 0 base object (omega arith))

module _ (objects : ObjectsByBase) (from : ℕ) where
  abbrev so_far : ObjectsByBase
  so_far = changed (white_below from) objects

  -- what begins below is white already
  white-already : (base : ℕ) (object : ObjectView) → base < from → Begins so_far base object
      → white_object object ≡ object
  white-already base object below begins =
      let was = changed_begins (white_below from) objects base object begins in
      let same = inside (white_object was.before) object
      (sym (below-white from base was.before below) ∙ was.is) in
      ap white_object (sym same) ∙ same

  module _ (base : ℕ) (object : ObjectView) (next : IsNextObject so_far from base)
      (begins : Begins so_far base object) where
    reached : from ≤ base
    reached = next.reached

    twice : (b : ℕ) (o : ObjectView)
        → one_after (white_below (base + 16)) (white_below from) b o ≡ white_below (base + 16) b o
    twice b o = split (nat_lt b from) (nat_lt b (base + 16)) (within b from (base + 16) (omega (arith, reached)))
      where
        within : (b m n : ℕ) → m ≤ n → nat_lt b m ≡ true → nat_lt b n ≡ true
        within b m n most e = grind (arith, nat_tests)

        split : (first second : Bool) → (first ≡ true → second ≡ true)
            → ◌≡◌ {A = Option ObjectView}
            (Some (if second then white_object (if first then white_object o else o)
            else (if first then white_object o else o)))
            (Some (if second then white_object o else o))
        split true true h = refl
        split true false h = absurd (clash (h refl))
          where
            clash : false ≡ true → ⊥
            clash e = cc
        split false second h = refl

    -- no other one changes
    others : (b : ℕ) (o : ObjectView) → b ≢ base → Begins so_far b o → white_below (base + 16) b o ≡ Some o
    others b o other there =
        ⊎_elim
        (λ (below : b < from).
        below-white (base + 16) b o (omega (arith, reached))
        ∙ ap (λ (x : ObjectView). Some x) (white-already b o below there))
        (λ (behind : from ≤ b).
        let least = next.least b o behind there in
        let at = there.aligned in
        let here = begins.aligned in
        behind-same (base + 16) b o (omega arith))
        (cases_lt b from)

    pub next-white : with_entry base (Some (white_object object)) so_far ≡ changed (white_below (base + 16)) objects
    next-white =
        ap (λ (o : Option ObjectView). with_entry base o so_far)
        (sym (below-white (base + 16) base object (omega arith)))
        ∙ sym (changed-one (white_below (base + 16)) so_far base object begins others)
        ∙ changed-changed (white_below (base + 16)) (white_below from) objects
        ∙ changed-alike (one_after (white_below (base + 16)) (white_below from)) (white_below (base + 16)) objects
        (λ b o there. twice b o)

  -- where none begins from there on, all are white
  pub all-white : NoObjectFrom so_far from → so_far ≡ changed (with_colour White) objects
  all-white none =
      changed-alike (white_below from) (with_colour White) objects
      (λ base object begins.
      ⊎_elim (λ (below : base < from). below-white from base object below)
      (λ (behind : from ≤ base).
      absurd
      (none base object behind
      (begins_changed (white_below from) objects base object object begins (behind-same from base object behind))))
      (cases_lt base from))

pub white-none_gray : (objects : ObjectsByBase) → grays_in (changed (with_colour White) objects) ≡ 0
white-none_gray objects = (grays-none (changed (with_colour White) objects)).1 none
  where
    apart : ◌≡◌ {A = Colour} White Gray → ⊥
    apart e = cc

    none : NoneIsGray (changed (with_colour White) objects)
    none base object begins gray =
        let was = changed_begins (with_colour White) objects base object begins in
        apart (ap (λ (o : ObjectView). o.colour) (inside (white_object was.before) object was.is) ∙ gray)
