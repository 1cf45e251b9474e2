-- Graying what some words name, and beginning a cycle, do to a view what they do to its state.
use Rattle.std.proofs.Common.{◌≡◌, ℕ, ◌*◌, Bool, true, false, eqb-true, List, length, replicate, Option, Some, None}
use Rattle.std.proofs.Common.{refl, sym, ap, ◌∙◌}
use Rattle.std.proofs.lemmas.List.{length-replicate}
use Rattle.std.specs.Prelude.{IsTrue, IfSome, is_some, ◌&&◌, if◌then◌else◌}
use Rattle.std.specs.List.{list_any}
use Rattle.std.specs.Option.{option_map}
use Rattle.mm_model.specs.declared.object.Colour.TheVariants.{White, Gray}
use Rattle.mm_model.specs.declared.command.Command.TheVariants as commands
use Rattle.mm_model.specs.Object.{Object, is_live}
use Rattle.mm_model.specs.State.{State, Cycle, gone_count}
use Rattle.mm_model.specs.Words.{falls, names, root_words}
use Rattle.mm_model.specs.Sets.Marking.{is_white, colour_of, with_grayed, begun}
use Rattle.mm_model.specs.Effect.{plain_effect}
use Rattle.mm_model.specs.Views.ByBase.{changed}
use Rattle.mm_model.specs.Views.ObjectView.{ObjectView}
use Rattle.mm_model.specs.Views.SetsByBase.{with_grayed_objects, grayed_at}
use Rattle.mm_model.specs.Views.View.{seen, seen_objects, view_of}
use Rattle.mm_model.specs.Views.ViewStore.{view_with_grayed}
use Rattle.mm_model.specs.Views.ViewEffect.{with_colour, view_begun, view_plain_effect}
use Rattle.mm_model.proofs.Good.Beginning.{all_white}
use Rattle.mm_model.proofs.Good.Writing.Shading.{shade, colour-grayed}
use Rattle.mm_model.proofs.Places.Placing.{both}
use Rattle.mm_model.proofs.View.ByBase.Changes.{seen_at-changed}
use Rattle.mm_model.proofs.View.Commands.SameEffects.{SameEffect}
use Rattle.mm_model.proofs.View.ByBase.Seen.{seen_objects-changed}
use Rattle.mm_model.proofs.View.Words.{marking_words-seen}

module _ (a : State) (words : List ℕ) (cycle : Cycle) (each : length cycle.colours ≡ length a.objects) where
  abbrev running : State
  running = record a { cycle = Some cycle }

  abbrev after : State
  after = with_grayed words running

  -- an object that lives shows the colour that the words leave it
  shade-seen : (birth : ℕ) (object : Object) (base : ℕ) → is_live object ≡ true → object.base ≡ base
      → ◌≡◌ {A = Option ObjectView}
      (Some (record (seen running birth object) { colour = shade words object (colour_of cycle birth) }))
      (grayed_at words base (seen running birth object))
  shade-seen birth object base live at =
      ap (λ b. Some (record (seen running birth object) {
        colour = if is_white (colour_of cycle birth) && b && names words object then Gray else colour_of cycle birth;
      })) live
      ∙ ap (λ base. Some (record (seen running birth object) {
        colour = if is_white (colour_of cycle birth) && true && list_any (λ word. falls word base object.extent) words
            then Gray else colour_of cycle birth;
      })) at
      ∙ split (is_white (colour_of cycle birth)) (list_any (λ word. falls word base object.extent) words)
    where
      split : (white named : Bool) → ◌≡◌ {A = Option ObjectView}
          (Some (record (seen running birth object) {
            colour = if white && true && named then Gray else colour_of cycle birth;
          }))
          (Some (if white && named then record (seen running birth object) { colour = Gray }
          else seen running birth object))
      split true true = refl
      split true false = refl
      split false named = refl

  grayed-seen : seen_objects after ≡ with_grayed_objects words (seen_objects running)
  grayed-seen =
      seen_objects-changed running after refl (grayed_at words)
      (λ k below. seen_at-changed running after (16 * k) refl (grayed_at words (16 * k))
      (λ birth object is passes.
      let live = both _ _ passes in
      ap (option_map (seen after birth)) is
      ∙ ap (λ colour. Some (record (seen running birth object) { colour = colour }))
      (colour-grayed words a.objects cycle.colours birth object each is)
      ∙ shade-seen birth object (16 * k) live.0 (eqb-true _ _ live.1)))

-- each object has a colour
abbrev pub HasColours : State → Cycle → Type 0
HasColours a cycle = length cycle.colours ≡ length a.objects

-- In a cycle, the objects that are gray then are those of the view.
pub seen_objects-grayed : (a : State) (words : List ℕ) (cycle : Cycle) → a.cycle ≡ Some cycle → HasColours a cycle
    → seen_objects (with_grayed words a) ≡ with_grayed_objects words (seen_objects a)
seen_objects-grayed a words cycle is each =
    ap (λ c. seen_objects (with_grayed words (record a { cycle = c }))) is
    ∙ grayed-seen a words cycle each
    ∙ sym (ap (λ c. with_grayed_objects words (seen_objects (record a { cycle = c }))) is)

-- and so is the whole view
pub view_with_grayed-seen : (a : State) (words : List ℕ) → IsTrue (is_some a.cycle) → IfSome a.cycle (HasColours a)
    → view_with_grayed words (view_of a) ≡ view_of (with_grayed words a)
view_with_grayed-seen a words running each = split a.cycle running each
  where
    split : (c : Option Cycle) → IsTrue (is_some c) → IfSome c (HasColours a)
        → view_with_grayed words (view_of (record a { cycle = c }))
        ≡ view_of (with_grayed words (record a { cycle = c }))
    split None t h = cc
    split (Some cycle) t h =
        ap (λ objects. record (view_of (record a { cycle = Some cycle })) { objects = objects })
        (sym (grayed-seen a words cycle h))

module _ (a : State) where
  -- the cycle in which every object is white
  abbrev white : Cycle
  white =
      record { colours = replicate (length a.objects) White; gone_before = gone_count a; partly_scanned = None }

  abbrev all_white_state : State
  all_white_state = record a { cycle = Some white }

  white-seen : seen_objects all_white_state ≡ changed (with_colour White) (seen_objects a)
  white-seen =
      seen_objects-changed a all_white_state refl (with_colour White)
      (λ k below. seen_at-changed a all_white_state (16 * k) refl (with_colour White (16 * k))
      (λ birth object is passes.
      ap (option_map (seen all_white_state birth)) is
      ∙ ap (λ colour. Some (record (seen a birth object) { colour = colour })) (all_white (length a.objects) birth)))

  pub view_begun-seen : view_begun (view_of a) ≡ view_of (begun a)
  view_begun-seen =
      ap (λ objects. record (view_of (begun a)) { objects = objects })
      (ap (λ words. with_grayed_objects words (changed (with_colour White) (seen_objects a))) (marking_words-seen a)
      ∙ ap (with_grayed_objects (root_words a)) (sym white-seen)
      ∙ sym (grayed-seen a (root_words a) white (length-replicate (length a.objects) White)))

  -- `begin`
  pub begin-seen : SameEffect (view_plain_effect (view_of a) commands.Begin) (plain_effect a commands.Begin)
  begin-seen = record { view = view_begun-seen; reply = refl }
