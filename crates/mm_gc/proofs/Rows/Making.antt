-- The rows of the commands that look for a place.
use Rattle.std.proofs.Common.{◌≡◌, ℕ, ◌≤◌, Bool, true, false, List, [], ◌++◌, length, Option, Some, None, refl, sym}
use Rattle.std.proofs.Common.{subst}
use Rattle.std.specs.Prelude.{◌==◌}
use Rattle.std.specs.Option.{option_map_or}
use Rattle.mm_model.specs.declared.object.Shape.{Shape}
use Rattle.mm_model.specs.declared.command.Command.TheVariants as commands
use Rattle.mm_model.specs.declared.refusal.Refusal.TheVariants as refusals
use Rattle.mm_model.specs.declared.reply.Reply.TheVariants as replies
use Rattle.mm_model.specs.declared.line.Line.{Line}
use Rattle.mm_model.specs.declared.line.Phase.TheVariants.{Reap, Collect}
use Rattle.mm_model.specs.Places.SizeClass.{object_bytes, area_bytes}
use Rattle.mm_model.specs.Places.Place.{Family, Objects, Areas}
use Rattle.mm_model.specs.Areas.{most_areas}
use Rattle.mm_model.specs.Object.{is_weak}
use Rattle.mm_model.specs.Refusing.{is_bad_shape, is_bad_area}
use Rattle.mm_model.specs.Views.ByBase.{Based}
use Rattle.mm_model.specs.Views.ObjectView.{ObjectView}
use Rattle.mm_model.specs.Views.View.{View}
use Rattle.mm_model.specs.Views.ViewWords.{view_meant}
use Rattle.mm_model.specs.Views.ViewEffect.{ViewEffect, view_pushed, view_pushes, view_new_effect, view_weak_effect}
use Rattle.mm_model.specs.Views.ViewEffect.{view_area_effect}
use Rattle.mm_model.specs.Views.ViewPhase.{view_phase_lines, view_reaped, view_collected, ViewReaps, ViewCollects}
use Rattle.mm_model.specs.Views.ViewStep.{IsViewRow, ViewMakes, ViewMakesWeak, ViewSearches, view_place_now}
use Rattle.mm_model.specs.Views.ViewStep.{view_place_grown}
use Rattle.mm_gc.proofs.Refusals.{RefusesIn, row-carried}
use Rattle.mm_gc.proofs.Refusals.Refuses.{Here, Later, Allowed}
use Rattle.mm_gc.proofs.Rows.Cells.{le-true, HasRoomOnStack, IsFull, is_cell}
use Rattle.mm_gc.proofs.Rows.Reading.{MeansObject, MeansNothing, some_meant, none_meant, told}

-- what follows once a place was found at once, after a reap, and after a collection
module _ (view : View) (family : Family) (bytes : ℕ) (after : View → Option ℕ → ViewEffect) where
  pub makes-at_once : (base : ℕ) → view_place_now view family bytes ≡ Some base
      → ViewMakes view family bytes after [] (after view (Some base))
  makes-at_once base place =
      record {
        left = view;
        found = Some base;
        search = ViewSearches.At_once base place refl refl refl;
        effect_is = refl;
      }

  pub makes-after_reap : (base : ℕ) (dead : List ℕ) → view_place_now view family bytes ≡ None → ViewReaps view dead
      → view_place_grown (view_reaped dead view) family bytes ≡ Some base
      → ViewMakes view family bytes after (view_phase_lines Reap view dead) (after (view_reaped dead view) (Some base))
  makes-after_reap base dead none reaps place =
      record {
        left = view_reaped dead view;
        found = Some base;
        search = ViewSearches.After_reap base dead none reaps place refl refl refl;
        effect_is = refl;
      }

  pub makes-after_collection : (dead lost : List ℕ) (found : Option ℕ) → view_place_now view family bytes ≡ None
      → ViewReaps view dead → view_place_grown (view_reaped dead view) family bytes ≡ None
      → ViewCollects (view_reaped dead view) lost
      → found ≡ view_place_grown (view_collected lost (view_reaped dead view)) family bytes
      → ViewMakes view family bytes after
      (view_phase_lines Reap view dead ++ view_phase_lines Collect (view_reaped dead view) lost)
      (after (view_collected lost (view_reaped dead view)) found)
  makes-after_collection dead lost found none reaps still collects place =
      record {
        left = view_collected lost (view_reaped dead view);
        found = found;
        search = ViewSearches.After_collection dead lost none reaps still collects refl refl place;
        effect_is = refl;
      }

-- new
module _ (view : View) (shape : Shape) where
  pub new-shape : is_bad_shape shape ≡ true → RefusesIn view (commands.New shape) (Some refusals.Shape)
  new-shape bad = Here bad

  pub new-full : is_bad_shape shape ≡ false → IsFull view
      → RefusesIn view (commands.New shape) (Some refusals.StackFull)
  new-full fine full = Later fine (Here full)

  pub new-row : (log : List Line) (effect : ViewEffect) → is_bad_shape shape ≡ false → HasRoomOnStack view
      → ViewMakes view Objects (object_bytes shape.slots) (λ left found. view_new_effect left shape found) log effect
      → IsViewRow view (commands.New shape) log effect
  new-row log effect fine room makes =
      row-carried view (commands.New shape) log effect (Later fine (Later room Allowed)) makes

-- weak
pub weak-no_cell : (view : View) (i : ℕ) → length view.stack ≤ i
    → RefusesIn view (commands.Weak i) (Some refusals.NoCell)
weak-no_cell view i past = Here (le-true (length view.stack) i past)

pub weak-nothing : (view : View) (i : ℕ) → MeansNothing view i
    → RefusesIn view (commands.Weak i) (Some refusals.Nothing)
weak-nothing view i h = Later (is_cell view i h.word h.cell) (Here (none_meant view i h.meant))

module _ (view : View) (i word : ℕ) (o : Based ObjectView) (h : MeansObject view i word o) where
  test_weak : {b : Bool} → is_weak o.value.kind ≡ b
      → option_map_or (λ o. is_weak o.value.kind) (view_meant view i) false ≡ b
  test_weak is = told view i o h.meant (λ o. is_weak o.value.kind) is

  pub weak-weak : is_weak o.value.kind ≡ true → RefusesIn view (commands.Weak i) (Some refusals.NoWeak)
  weak-weak weak =
      Later (is_cell view i word h.cell) (Later (some_meant view i o h.meant) (Here (test_weak weak)))

  pub weak-full : is_weak o.value.kind ≡ false → IsFull view
      → RefusesIn view (commands.Weak i) (Some refusals.StackFull)
  weak-full strong full =
      Later (is_cell view i word h.cell)
      (Later (some_meant view i o h.meant) (Later (test_weak strong) (Here full)))

  weak-row : (log : List Line) (effect : ViewEffect) → is_weak o.value.kind ≡ false → HasRoomOnStack view
      → ViewMakesWeak view o.base o.value.partner log effect → IsViewRow view (commands.Weak i) log effect
  weak-row log effect strong room makes =
      row-carried view (commands.Weak i) log effect
      (Later (is_cell view i word h.cell)
      (Later (some_meant view i o h.meant) (Later (test_weak strong) (Later room Allowed))))
      (record { target = o; target_is = h.meant; makes = makes })

  -- there is a weak reference
  pub weak-kept : (weak : ℕ) → is_weak o.value.kind ≡ false → HasRoomOnStack view → o.value.partner ≡ Some weak
      → IsViewRow view (commands.Weak i) [] (record { view = view_pushed weak view; reply = replies.Word weak })
  weak-kept weak strong room partner =
      weak-row [] (view_pushes weak view) strong room
      (subst (λ partner. ViewMakesWeak view o.base partner [] (view_pushes weak view)) (sym partner)
      (record { no_lines = refl; effect_is = refl }))

  -- one is made
  pub weak-made : (log : List Line) (effect : ViewEffect) → is_weak o.value.kind ≡ false → HasRoomOnStack view
      → o.value.partner ≡ None
      → ViewMakes view Objects (object_bytes 0) (λ left found. view_weak_effect left o.base found) log effect
      → IsViewRow view (commands.Weak i) log effect
  weak-made log effect strong room alone makes =
      weak-row log effect strong room
      (subst (λ partner. ViewMakesWeak view o.base partner log effect) (sym alone) makes)

-- root and fixed
abbrev pub AreAreasFull : View → Bool → Type 0
AreAreasFull view full = (length view.areas == most_areas) ≡ full

module _ (view : View) (counted cells : ℕ) where
  pub root-shape : is_bad_area counted cells ≡ true → RefusesIn view (commands.Root counted cells) (Some refusals.Shape)
  root-shape bad = Here bad

  pub root-full : is_bad_area counted cells ≡ false → AreAreasFull view true
      → RefusesIn view (commands.Root counted cells) (Some refusals.AreasFull)
  root-full fine full = Later fine (Here full)

  pub root-row : (log : List Line) (effect : ViewEffect) → is_bad_area counted cells ≡ false → AreAreasFull view false
      → ViewMakes view Areas (area_bytes cells) (λ left found. view_area_effect left true counted cells found) log
      effect
      → IsViewRow view (commands.Root counted cells) log effect
  root-row log effect fine room makes =
      row-carried view (commands.Root counted cells) log effect (Later fine (Later room Allowed)) makes

module _ (view : View) (cells : ℕ) where
  pub fixed-shape : is_bad_area 0 cells ≡ true → RefusesIn view (commands.Fixed cells) (Some refusals.Shape)
  fixed-shape bad = Here bad

  pub fixed-full : is_bad_area 0 cells ≡ false → AreAreasFull view true
      → RefusesIn view (commands.Fixed cells) (Some refusals.AreasFull)
  fixed-full fine full = Later fine (Here full)

  pub fixed-row : (log : List Line) (effect : ViewEffect) → is_bad_area 0 cells ≡ false → AreAreasFull view false
      → ViewMakes view Areas (area_bytes cells) (λ left found. view_area_effect left false 0 cells found) log effect
      → IsViewRow view (commands.Fixed cells) log effect
  fixed-row log effect fine room makes =
      row-carried view (commands.Fixed cells) log effect (Later fine (Later room Allowed)) makes
