-- What is made at a place that a search may find leaves a good state shown.
use Rattle.std.proofs.Common.{◌≡◌, ℕ, ◌≤◌, ◌⊎◌, ⊎_elim, Bool, false, Option, Some, None, IfSome, length, refl, sym, ap}
use Rattle.std.proofs.Common.{◌∙◌, subst, arith}
use Rattle.std.proofs.lemmas.List.{length-map}
use Rattle.std.specs.Prelude.{◌==◌}
use Rattle.std.specs.Option.{option_and_then}
use Rattle.mm_model.specs.declared.object.Shape.{Shape}
use Rattle.mm_model.specs.Places.SizeClass.{object_bytes, area_bytes}
use Rattle.mm_model.specs.Places.Place.{Family, Objects, Areas, place_of, region_pages}
use Rattle.mm_model.specs.declared.reply.Reply.TheVariants as replies
use Rattle.mm_model.specs.Object.{Object, is_weak}
use Rattle.mm_model.specs.State.{State}
use Rattle.mm_model.specs.Good.{IsGood, IsPaired}
use Rattle.mm_model.specs.Areas.{most_areas, free_number}
use Rattle.mm_model.specs.Refusing.{is_bad_shape, is_bad_area, are_areas_full}
use Rattle.mm_model.specs.Effect.{Effect, with_some, new_effect, weak_made, weak_effect, area_effect}
use Rattle.mm_model.specs.Views.ByBase.{Begins}
use Rattle.mm_model.specs.Views.ObjectView.{ObjectView}
use Rattle.mm_model.specs.Views.View.{View, Shows, view_of, seen_area, seen_objects, base_of}
use Rattle.mm_model.specs.Views.ViewEffect.{ViewEffect, view_new_effect, view_weak_effect, view_area_effect}
use Rattle.mm_model.specs.Views.ViewStep.{view_place_now, view_place_grown}
use Rattle.mm_model.proofs.Good.Making.Births.{made_is_good}
use Rattle.mm_model.proofs.Good.Making.WeakReferences.{weak_made_is_good}
use Rattle.mm_model.proofs.Good.Making.Shapes.{shaped-newborn, shaped-area}
use Rattle.mm_model.proofs.Good.Making.AreaBirths.{area_made_is_good}
use Rattle.mm_model.proofs.Good.Making.Searching.{region_pages-most}
use Rattle.mm_model.proofs.View.Commands.SameEffects.{SameEffect}
use Rattle.mm_model.proofs.View.Shown.{shown-is, view_of-shows}
use Rattle.mm_model.proofs.View.Room.{view_place_now-seen, view_place_grown-seen}
use Rattle.mm_model.proofs.View.Commands.NewObjects.{new-seen}
use Rattle.mm_model.proofs.View.Commands.WeakBirths.{weak-seen}
use Rattle.mm_model.proofs.View.ByBase.Seen.{seen-begins}
use Rattle.mm_model.proofs.View.Marking.Scanning.{base_of-lives}
use Rattle.mm_model.proofs.View.Commands.Areas.{area_effect-seen}
use Rattle.mm_gc.specs.Showing.{IsShowing}

-- the place within the region as it is, or in one that has grown
abbrev pub IsPlaceOf : View → Family → ℕ → Option ℕ → Type 0
IsPlaceOf view family bytes found =
    (found ≡ view_place_now view family bytes) ⊎ (found ≡ view_place_grown view family bytes)

-- a place below a limit of the region
record IsWithin (a : State) (family : Family) (bytes base : ℕ) : Type 0 where
  limit : ℕ
  most : limit ≤ a.settings.max
  place : place_of a limit family bytes ≡ Some base

place-within : (a : State) → IsGood a → (family : Family) (bytes base : ℕ)
    → IsPlaceOf (view_of a) family bytes (Some base) → IsWithin a family bytes base
place-within a good family bytes base at =
    ⊎_elim
    (λ (now : Some base ≡ view_place_now (view_of a) family bytes).
    record {
      limit = region_pages a;
      most = region_pages-most a good.placed good.growing;
      place = sym (now ∙ view_place_now-seen a good.placed family bytes);
    })
    (λ (grown : Some base ≡ view_place_grown (view_of a) family bytes).
    record {
      limit = a.settings.max;
      most = omega arith;
      place = sym (grown ∙ view_place_grown-seen a good.placed family bytes);
    })
    at

-- the view of a state that is good
shows-same : (v : ViewEffect) (e : Effect) → SameEffect v e → IsGood e.state → IsShowing v.view
shows-same v e same good =
    record {
      state = e.state;
      good = good;
      shows = subst (λ view. Shows view e.state) (sym same.view)
          (view_of-shows e.state);
    }

object_of_state : (a : State) → IsGood a → (shape : Shape) → is_bad_shape shape ≡ false → (found : Option ℕ)
    → IsPlaceOf (view_of a) Objects (object_bytes shape.slots) found
    → IsShowing (view_new_effect (view_of a) shape found).view
object_of_state a good shape accepted None at = record { state = a; good = good; shows = view_of-shows a }
object_of_state a good shape accepted (Some base) at =
    let within = place-within a good Objects (object_bytes shape.slots) base at in
    shows-same (view_new_effect (view_of a) shape (Some base)) (new_effect a shape (Some base))
    (new-seen a good shape (Some base) (within.limit, within.most, within.place))
    (made_is_good a shape within.limit base good within.most within.place (shaped-newborn shape base accepted))

pub object-shows : (view : View) → IsShowing view → (shape : Shape) → is_bad_shape shape ≡ false → (found : Option ℕ)
    → IsPlaceOf view Objects (object_bytes shape.slots) found → IsShowing (view_new_effect view shape found).view
object-shows view showing shape accepted found at =
    let is = shown-is view showing.state showing.shows in
    subst (λ v. IsShowing (view_new_effect v shape found).view) (sym is)
    (object_of_state showing.state showing.good shape accepted found
    (subst (λ v. IsPlaceOf v Objects (object_bytes shape.slots) found) is at))

area_of_state : (a : State) → IsGood a → (scanned : Bool) (counted cells : ℕ) → is_bad_area counted cells ≡ false
    → (scanned ≡ false → counted ≡ 0) → are_areas_full a ≡ false → (found : Option ℕ)
    → IsPlaceOf (view_of a) Areas (area_bytes cells) found
    → IsShowing (view_area_effect (view_of a) scanned counted cells found).view
area_of_state a good scanned counted cells accepted raw room None at =
    record { state = a; good = good; shows = view_of-shows a }
area_of_state a good scanned counted cells accepted raw room (Some base) at =
    let within = place-within a good Areas (area_bytes cells) base at in
    shows-same (view_area_effect (view_of a) scanned counted cells (Some base))
    (area_effect a scanned counted cells (Some base)) (area_effect-seen a scanned counted cells (Some base))
    (area_made_is_good a scanned counted cells within.limit base good within.most room within.place
    (shaped-area (free_number a) base scanned counted cells accepted raw))

pub area-shows : (view : View) → IsShowing view → (scanned : Bool) (counted cells : ℕ)
    → is_bad_area counted cells ≡ false → (scanned ≡ false → counted ≡ 0) → (length view.areas == most_areas) ≡ false
    → (found : Option ℕ) → IsPlaceOf view Areas (area_bytes cells) found
    → IsShowing (view_area_effect view scanned counted cells found).view
area-shows view showing scanned counted cells accepted raw room found at =
    let is = shown-is view showing.state showing.shows in
    let a = showing.state in
    let full : are_areas_full a ≡ false =
    ap (λ n. n == most_areas) (sym (length-map a.areas seen_area))
    ∙ ap (λ (v : View). length v.areas == most_areas) (sym is) ∙ room in
    subst (λ v. IsShowing (view_area_effect v scanned counted cells found).view) (sym is)
    (area_of_state a showing.good scanned counted cells accepted raw full found
    (subst (λ v. IsPlaceOf v Areas (area_bytes cells) found) is at))

-- an object without a partner in the view has none in the state
alone-seen : (a : State) → (birth : ℕ) (object : Object) (partner : Option ℕ) → IfSome partner (IsPaired a birth object)
    → option_and_then (base_of a) partner ≡ None → partner ≡ None
alone-seen a birth object None paired e = refl
alone-seen a birth object (Some other) paired e =
    let there = base_of-lives a other paired.partner paired.lives in cc

weak_of_state : (a : State) → IsGood a → (base : ℕ) (target : ObjectView) → Begins (seen_objects a) base target
    → target.partner ≡ None → is_weak target.kind ≡ false → (found : Option ℕ)
    → IsPlaceOf (view_of a) Objects (object_bytes 0) found → IsShowing (view_weak_effect (view_of a) base found).view
weak_of_state a good base target begins alone strong None at = record
    { state = a; good = good; shows = view_of-shows a }
weak_of_state a good base target begins alone strong (Some place) at =
    let one = seen-begins a base target begins in
    let within = place-within a good Objects (object_bytes 0) place at in
    let none : option_and_then (base_of a) one.object.partner ≡ None =
    ap (λ (o : ObjectView). o.partner) (sym one.is) ∙ alone in
    let free = alone-seen a one.birth one.object one.object.partner (good.paired one.birth one.object one.lives) none in
    let kind : is_weak one.object.kind ≡ false = ap (λ (o : ObjectView). is_weak o.kind) (sym one.is) ∙ strong in
    subst (λ b. IsShowing (view_weak_effect (view_of a) b (Some place)).view) one.at
    (shows-same (view_weak_effect (view_of a) one.object.base (Some place)) (weak_effect a one.birth (Some place))
    (weak-seen a good one.birth one.object one.lives (Some place) (within.limit, within.most, within.place))
    (subst (λ (o : Option Object). IsGood (with_some o a
    (λ x. record { state = weak_made a one.birth x place; reply = replies.New place })).state) (sym one.lives.is)
    (weak_made_is_good a one.birth one.object within.limit place good one.lives free kind within.most within.place)))

pub weak-shows : (view : View) → IsShowing view → (base : ℕ) (target : ObjectView) → Begins view.objects base target
    → target.partner ≡ None → is_weak target.kind ≡ false → (found : Option ℕ)
    → IsPlaceOf view Objects (object_bytes 0) found → IsShowing (view_weak_effect view base found).view
weak-shows view showing base target begins alone strong found at =
    let is = shown-is view showing.state showing.shows in
    subst (λ v. IsShowing (view_weak_effect v base found).view) (sym is)
    (weak_of_state showing.state showing.good base target
    (subst (λ (v : View). Begins v.objects base target) is begins) alone strong found
    (subst (λ v. IsPlaceOf v Objects (object_bytes 0) found) is at))
