-- What a view shows of how far an object is scanned, and of one that becomes black.
use Rattle.std.proofs.Common.{◌≡◌, ℕ, ◌*◌, ◌<◌, eqb-true, length, Option, Some, None, refl, sym, ap, ◌∙◌, subst, arith}
use Rattle.std.proofs.Common.{get_or-set_same, get_or-set_other}
use Rattle.std.proofs.lemmas.Bool.{eq-eqb}
use Rattle.std.specs.Prelude.{IsTrue, IfSome, slice_set, ◌==◌, if◌then◌else◌}
use Rattle.std.specs.Option.{option_map, option_and_then}
use Rattle.mm_model.specs.declared.object.Colour.TheVariants.{White, Black}
use Rattle.mm_model.specs.Object.{Object}
use Rattle.mm_model.specs.State.{State, Cycle, PartlyScanned, Lives}
use Rattle.mm_model.specs.Places.Place.{live_pieces, object_piece}
use Rattle.mm_model.specs.Sets.Marking.{colour_in, done_in, done_of, may_continue}
use Rattle.mm_model.specs.Good.{IsPlaced, IsPartlyScanned, IsColoured}
use Rattle.mm_model.specs.Views.ByBase.{with_entry}
use Rattle.mm_model.specs.Views.ObjectView.{ObjectView}
use Rattle.mm_model.specs.Views.View.{seen, seen_at, seen_objects, seen_partly, seen_cycle, base_of}
use Rattle.mm_model.specs.Views.ViewStep.{slots_done_of, slots_done_in, may_go_on}
use Rattle.mm_model.proofs.Lists.Tests.{same_tests}
use Rattle.mm_model.proofs.Good.Living.{lives_same, lives_inside, lives_once_at}
use Rattle.mm_model.proofs.View.ByBase.CommonBases.{seen_at-alike, seen_at-base}
use Rattle.mm_model.proofs.View.ByBase.Seen.{piece_grain, seen_objects-with_entry}

pub base_of-lives : (a : State) (birth : ℕ) (object : Object) → Lives a birth object
    → base_of a birth ≡ Some object.base
base_of-lives a birth object lives = ap (option_map (λ (o : Object). o.base)) lives.is

module _ (a : State) (placed : IsPlaced a.settings.max (live_pieces a)) where
  -- live objects are told apart by base and by birth number alike
  pub same_base : (i j : ℕ) (x y : Object) → Lives a i x → Lives a j y → (x.base == y.base) ≡ (i == j)
  same_base i j x y h k =
      same_tests (x.base == y.base) (i == j)
      (λ e. eq-eqb i j (lives_once_at a placed i j x y h k (eqb-true _ _ e)))
      (λ e.
      let same = eqb-true i j e in
      eq-eqb x.base y.base
      (ap (λ (o : Object). o.base) (lives_same a j x y (subst (λ n. Lives a n x) same h) k)))

  module _ (birth : ℕ) (object : Object) (lives : Lives a birth object) (cycle : Cycle)
      (coloured : IsColoured a cycle) where
    slots_done-partly : (partly : Option PartlyScanned) → IfSome partly (IsPartlyScanned a cycle)
        → slots_done_of (option_and_then (seen_partly a) partly) object.base ≡ done_in partly birth
    slots_done-partly None h = refl
    slots_done-partly (Some partly) h =
        ap
        (λ (base : Option ℕ).
        slots_done_of (option_map (λ b. record { base = b; slots_done = partly.slots_done }) base) object.base)
        (base_of-lives a partly.object h.object h.lives)
        ∙ ap (λ b. if b then partly.slots_done else 0)
        (same_base partly.object birth h.object object h.lives lives)

    may_go_on-partly : (partly : Option PartlyScanned) → IfSome partly (IsPartlyScanned a cycle)
        → may_go_on (option_and_then (seen_partly a) partly) object.base ≡ may_continue partly birth
    may_go_on-partly None h = refl
    may_go_on-partly (Some partly) h =
        ap
        (λ (base : Option ℕ).
        may_go_on (option_map (λ b. record { base = b; slots_done = partly.slots_done }) base) object.base)
        (base_of-lives a partly.object h.object h.lives)
        ∙ same_base partly.object birth h.object object h.lives lives

  -- how much of an object is done, and whether its turn may come
  pub slots_done-seen : (birth : ℕ) (object : Object) → Lives a birth object → (cycle : Option Cycle)
      → IfSome cycle (IsColoured a)
      → slots_done_in (option_map (seen_cycle a) cycle) object.base ≡ done_of cycle birth
  slots_done-seen birth object lives None h = refl
  slots_done-seen birth object lives (Some cycle) h =
      slots_done-partly birth object lives cycle h cycle.partly_scanned h.partly_scanned

  pub turn-seen : (birth : ℕ) (object : Object) → Lives a birth object → (cycle : Option Cycle)
      → IfSome cycle (IsColoured a)
      → IfSome (option_map (seen_cycle a) cycle) (λ c. IsTrue (may_go_on c.partly_scanned object.base))
      → IfSome cycle (λ c. IsTrue (may_continue c.partly_scanned birth))
  turn-seen birth object lives None h turn = tt
  turn-seen birth object lives (Some cycle) h turn =
      sym (may_go_on-partly birth object lives cycle h cycle.partly_scanned h.partly_scanned) ∙ turn

-- one object of a cycle becomes black
module _ (a : State) (cycle : Cycle) (placed : IsPlaced a.settings.max (live_pieces a)) (birth : ℕ) (object : Object)
    (lives : Lives a birth object) (within : birth < length cycle.colours) where
  abbrev before : State
  before = record a { cycle = Some cycle }

  abbrev after : State
  after =
      record a { cycle = Some (record cycle { colours = slice_set cycle.colours birth Black; partly_scanned = None }) }

  abbrev blackened : ObjectView
  blackened = record (seen a birth object) { colour = Black }

  colour-here : colour_in after.cycle birth ≡ Black
  colour-here = get_or-set_same cycle.colours birth Black White within

  seen-here : seen after birth object ≡ blackened
  seen-here = ap (λ c. record (seen a birth object) { colour = c }) colour-here

  colour-other : (j : ℕ) → (j ≡ birth → ⊥) → colour_in after.cycle j ≡ colour_in before.cycle j
  colour-other j other = get_or-set_other cycle.colours birth j Black White other

  pub blackened-seen : seen_objects after ≡ with_entry object.base (Some blackened) (seen_objects before)
  blackened-seen =
      let inside = piece_grain a.settings.max (object_piece object) (lives_inside a placed birth object lives) in
      let here : seen_at after (16 * inside.0) ≡ Some blackened =
      seen_at-base after placed birth object (16 * inside.0) (record { is = lives.is; live = lives.live }) inside.1
      ∙ ap (λ (x : ObjectView). Some x) seen-here in
      seen_objects-with_entry before after refl inside.0 (Some blackened) inside.2 here
      (λ k below other.
      seen_at-alike before after (16 * k) placed placed
      (λ j o l at.
      record {
        birth = j;
        object = o;
        lives = record { is = l.is; live = l.live };
        at = at;
        is = ap (λ c. record (seen a j o) { colour = c })
            (colour-other j
            (λ same.
            let own : o ≡ object = lives_same a birth o object
            (subst (λ n. Lives a n o) same (record { is = l.is; live = l.live })) lives in
            let base : o.base ≡ object.base = ap (λ (x : Object). x.base) own in
            let is = inside.1 in
            other (omega arith)));
      })
      (λ j o l at. record { birth = j; object = o; lives = record { is = l.is; live = l.live }; at = at }))
      ∙ ap (λ base. with_entry base (Some blackened) (seen_objects before)) (sym inside.1)
