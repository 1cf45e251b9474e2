-- What a birth in a good state does to its view, with or without another object changed.
use Rattle.std.proofs.Common.{◌≡◌, ℕ, ◌+◌, ◌-◌, ◌<◌, true, List, [], ◌∷◌, ◌++◌, map, length, Option, Some, None, refl}
use Rattle.std.proofs.Common.{sym, ap, ◌∙◌, subst, append_assoc, arith}
use Rattle.std.proofs.lemmas.List.{map-append, length_push, length-map, get_or_append_left, get_or_push}
use Rattle.std.proofs.lemmas.List.Elements.{filter-append}
use Rattle.std.specs.Prelude.{IfSome, if◌then◌else◌, slice_get}
use Rattle.std.specs.Option.{option_map, option_and_then}
use Rattle.mm_model.specs.declared.object.Colour.TheVariants.{White, Black}
use Rattle.mm_model.specs.Value.{reference}
use Rattle.mm_model.specs.Object.{Object, is_live, live_objects}
use Rattle.mm_model.specs.State.{State, Cycle, PartlyScanned, Lives, live_count, totals_of, pushed, with_black_birth}
use Rattle.mm_model.specs.State.{with_born}
use Rattle.mm_model.specs.Sets.Marking.{colour_in}
use Rattle.mm_model.specs.Places.Place.{area_piece, object_piece, live_pieces}
use Rattle.mm_model.specs.Good.{IsPlaced, IsPartlyScanned, IsColoured, IsGood}
use Rattle.mm_model.specs.Views.ByBase.{with_entry}
use Rattle.mm_model.specs.Views.ObjectView.{ObjectView, ObjectsByBase}
use Rattle.mm_model.specs.Views.View.{base_of, seen_objects, seen_partly, seen_cycle, view_of}
use Rattle.mm_model.specs.Views.ViewEffect.{birth_colour, one_more_born, view_with_born}
use Rattle.mm_model.proofs.Lists.Growing.{get-front, get-last}
use Rattle.mm_model.proofs.Good.Making.Births.{placed-push}
use Rattle.mm_model.proofs.Places.Placing.{Goes}
use Rattle.mm_model.proofs.View.Marking.Scanning.{base_of-lives}

module _ (a : State) (good : IsGood a) where
  -- the colours after a birth
  pub colour-old : (cycle : Option Cycle) → IfSome cycle (IsColoured a) → (j : ℕ) → j < length a.objects
      → colour_in (option_map with_black_birth cycle) j ≡ colour_in cycle j
  colour-old None h j below = refl
  colour-old (Some cycle) h j below =
      let each = h.each in get_or_append_left cycle.colours (Black ∷ []) White j (omega arith)

  pub colour-newborn : (cycle : Option Cycle) → IfSome cycle (IsColoured a)
      → colour_in (option_map with_black_birth cycle) (length a.objects)
      ≡ birth_colour (option_map (seen_cycle a) cycle)
  colour-newborn None h = refl
  colour-newborn (Some cycle) h = get_or_push cycle.colours Black White (length a.objects) h.each

-- An object is born where other objects may be changed in what neither their pieces nor their bases tell.
module _ (a : State) (good : IsGood a) (front : List Object) (newborn : Object)
    (pieces : map object_piece (live_objects front) ≡ map object_piece (live_objects a.objects))
    (births : length front ≡ length a.objects)
    (bases : (j : ℕ) → base_of (record a { objects = front }) j ≡ base_of a j)
    (live : is_live newborn ≡ true) (goes : Goes a.settings.max (live_pieces a) (object_piece newborn)) where
  abbrev pub born : State
  born = pushed (reference newborn.base (length a.objects)) (with_born newborn (record a { objects = front }))

  live_objects-born : live_objects (front ++ newborn ∷ []) ≡ live_objects front ++ newborn ∷ []
  live_objects-born =
      filter-append is_live front (newborn ∷ [])
      ∙ ap (λ b. live_objects front ++ (if b then newborn ∷ [] else [])) live

  live_pieces-born : live_pieces born ≡ live_pieces a ++ object_piece newborn ∷ []
  live_pieces-born =
      let areas = map area_piece a.areas in
      ap (λ os. areas ++ map object_piece os) live_objects-born
      ∙ ap (λ ps. areas ++ ps) (map-append object_piece (live_objects front) (newborn ∷ []))
      ∙ ap (λ ps. areas ++ (ps ++ object_piece newborn ∷ [])) pieces
      ∙ sym (append_assoc areas (map object_piece (live_objects a.objects)) (object_piece newborn ∷ []))

  pub placed-born : IsPlaced born.settings.max (live_pieces born)
  placed-born =
      subst (IsPlaced a.settings.max) (sym live_pieces-born) (placed-push _ _ _ good.placed goes)

  pub lives-newborn : Lives born (length a.objects) newborn
  lives-newborn =
      record {
        is = subst (λ n. slice_get (front ++ newborn ∷ []) n ≡ Some newborn) births (get-last front newborn);
        live = live;
      }

  -- the base of an old object is what it was
  pub base_of-old : (j : ℕ) (o : Object) → Lives a j o → base_of born j ≡ base_of a j
  base_of-old j o lives = split (slice_get front j) refl
    where
      split : (found : Option Object) → slice_get front j ≡ found → base_of born j ≡ base_of a j
      split None e =
          let none : None ≡ base_of a j = sym (ap (option_map (λ (x : Object). x.base)) e) ∙ bases j in
          let some = base_of-lives a j o lives in
          cc
      split (Some x) e =
          ap (option_map (λ (y : Object). y.base)) (get-front front (newborn ∷ []) j x e)
          ∙ sym (ap (option_map (λ (y : Object). y.base)) e) ∙ bases j

  pub cycle-born : (cycle : Option Cycle) → IfSome cycle (IsColoured a)
      → option_map (seen_cycle born) (option_map with_black_birth cycle) ≡ option_map (seen_cycle a) cycle
  cycle-born None h = refl
  cycle-born (Some cycle) h =
      ap (λ partly. Some (record { gone_before = cycle.gone_before; partly_scanned = partly }))
      (partly cycle.partly_scanned h.partly_scanned)
    where
      partly : (p : Option PartlyScanned) → IfSome p (IsPartlyScanned a cycle)
          → option_and_then (seen_partly born) p ≡ option_and_then (seen_partly a) p
      partly None k = refl
      partly (Some p) k =
          ap (option_map (λ base. record { base = base; slots_done = p.slots_done }))
          (base_of-old p.object k.object k.lives)

  totals-born : totals_of born ≡ one_more_born (totals_of a)
  totals-born =
      let all : length (front ++ newborn ∷ []) ≡ length a.objects + 1 =
      length_push front newborn ∙ ap (λ n. n + 1) births in
      let still : length (live_objects front) ≡ live_count a =
      sym (length-map (live_objects front) object_piece) ∙ ap length pieces
      ∙ length-map (live_objects a.objects) object_piece in
      let living : live_count born ≡ live_count a + 1 =
      ap length live_objects-born ∙ length_push (live_objects front) newborn ∙ ap (λ n. n + 1) still in
      let freed : length (front ++ newborn ∷ []) - live_count born ≡ length a.objects - live_count a = omega arith in
      λ t. record { commands = a.commands; born = all t; freed = freed t; live = living t }

  -- what is left besides the objects
  pub view_with_born-seen : (entries : ObjectsByBase) (o : ObjectView)
      → with_entry newborn.base (Some o) entries ≡ seen_objects born
      → view_with_born newborn.base o (record (view_of a) { objects = entries }) ≡ view_of born
  view_with_born-seen entries o same =
      let cycle = sym (cycle-born a.cycle good.coloured) in
      let totals = sym totals-born in
      λ t. record (view_of born) { objects = same t; cycle = cycle t; totals = totals t }
