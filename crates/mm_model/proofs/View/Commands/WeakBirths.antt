-- What `weak` does to a view where it makes a weak reference is what it does to the state.
use Rattle.std.proofs.Common.{◌≡◌, ℕ, ◌*◌, ◌/◌, ◌<◌, ◌≤◌, Bool, true, false, eqb-true, List, [], ◌∷◌, map, length}
use Rattle.std.proofs.Common.{Option, Some, None, refl, sym, ap, ◌∙◌, subst, ⊎_elim, arith}
use Rattle.std.proofs.lemmas.Bool.{eq-eqb}
use Rattle.std.proofs.lemmas.List.{length-set}
use Rattle.std.proofs.lemmas.Option.{slice_get_within}
use Rattle.std.specs.Prelude.{IfSome, slice_get, slice_set, ◌==◌, if◌then◌else◌}
use Rattle.std.specs.Option.{option_map, option_and_then}
use Rattle.mm_model.specs.declared.reply.Reply.TheVariants as replies
use Rattle.mm_model.specs.Places.SizeClass.{object_bytes}
use Rattle.mm_model.specs.Object.{Object, newborn, live_objects}
use Rattle.mm_model.specs.State.{State, Lives}
use Rattle.mm_model.specs.Places.Place.{Objects, object_piece, live_pieces, place_of}
use Rattle.mm_model.specs.Effect.{with_some, weak_shape, weak_made, weak_effect}
use Rattle.mm_model.specs.Good.{IsPlaced, IsPaired, IsGood}
use Rattle.mm_model.specs.Views.ByBase.{with_entry}
use Rattle.mm_model.specs.Views.ObjectView.{ObjectView, ObjectsByBase}
use Rattle.mm_model.specs.Views.View.{seen, seen_at, seen_objects, seen_cycle, base_of, view_of}
use Rattle.mm_model.specs.Views.ViewEffect.{with_found, newborn_view, view_weak_made, view_weak_effect}
use Rattle.mm_model.proofs.Lists.Growing.{get-front, get-push}
use Rattle.mm_model.proofs.Lists.Replaced.{get-set_same, get-set_other, get-set_cases, map_live-set}
use Rattle.mm_model.proofs.Lists.Replaced.{option_get-set_alike}
use Rattle.mm_model.proofs.Good.Making.Births.{goes_at}
use Rattle.mm_model.proofs.Good.Living.{lives_same, lives_inside}
use Rattle.mm_model.proofs.Places.Placing.{Goes}
use Rattle.mm_model.proofs.View.Commands.Births.{colour-old, colour-newborn, placed-born, lives-newborn, base_of-old}
use Rattle.mm_model.proofs.View.Commands.Births.{view_with_born-seen}
use Rattle.mm_model.proofs.View.ByBase.CommonBases.{seen_at-base, seen_at-alike}
use Rattle.mm_model.proofs.View.ByBase.Entries.{get-with_entry}
use Rattle.mm_model.proofs.View.Meaning.{object_at-lives}
use Rattle.mm_model.proofs.View.Commands.SameEffects.{SameEffect}
use Rattle.mm_model.proofs.View.Marking.Scanning.{base_of-lives}
use Rattle.mm_model.proofs.View.ByBase.Seen.{seen_based, piece_grain, length-seen, get-seen, seen_objects-entries}

module _ (a : State) (good : IsGood a) (target : ℕ) (object : Object) (lives : Lives a target object) (base : ℕ)
    (goes : Goes a.settings.max (live_pieces a) (object_piece (newborn weak_shape base))) where
  -- the target and its weak reference, as partners
  abbrev targeted : Object
  targeted = record object { partner = Some (length a.objects) }

  abbrev weak : Object
  weak = record (newborn weak_shape base) { partner = Some target }

  abbrev front : List Object
  front = slice_set a.objects target targeted

  abbrev made : State
  made = weak_made a target object base

  pieces : map object_piece (live_objects front) ≡ map object_piece (live_objects a.objects)
  pieces = map_live-set object_piece a.objects target object targeted lives.is refl refl

  births : length front ≡ length a.objects
  births = length-set a.objects target targeted

  bases : (j : ℕ) → base_of (record a { objects = front }) j ≡ base_of a j
  bases j = option_get-set_alike (λ (o : Object). o.base) a.objects target j object targeted lives.is refl

  placed : IsPlaced made.settings.max (live_pieces made)
  placed = placed-born a good front weak pieces births bases refl goes

  lives-weak : Lives made (length a.objects) weak
  lives-weak = lives-newborn a good front weak pieces births bases refl goes

  lives-target : Lives made target targeted
  lives-target =
      record {
        is = get-front front (weak ∷ []) target targeted (get-set_same a.objects target object targeted lives.is);
        live = lives.live;
      }

  lives-other : (j : ℕ) (o : Object) → Lives a j o → (j ≡ target → ⊥) → Lives made j o
  lives-other j o h apart =
      record {
        is = get-front front (weak ∷ []) j o (get-set_other a.objects target j targeted apart ∙ h.is);
        live = h.live;
      }

  old-base : (j : ℕ) (o : Object) → Lives a j o → base_of made j ≡ base_of a j
  old-base = base_of-old a good front weak pieces births bases refl goes

  partner-old : (j : ℕ) (o : Object) (partner : Option ℕ) → IfSome partner (IsPaired a j o)
      → option_and_then (base_of made) partner ≡ option_and_then (base_of a) partner
  partner-old j o None h = refl
  partner-old j o (Some other) h = old-base other h.partner h.lives

  seen-other : (j : ℕ) (o : Object) → Lives a j o → seen made j o ≡ seen a j o
  seen-other j o h =
      let within = slice_get_within a.objects j o h.is in
      ap (λ partner. record (seen made j o) { partner = partner }) (partner-old j o o.partner (good.paired j o h))
      ∙ ap (λ colour. record (seen a j o) { colour = colour }) (colour-old a good a.cycle good.coloured j within)

  abbrev target_view : ObjectView
  target_view = record (seen a target object) { partner = Some base }

  abbrev weak_view : ObjectView
  weak_view =
      record (newborn_view weak_shape (option_map (seen_cycle a) a.cycle)) { partner = Some object.base }

  seen-target : seen made target targeted ≡ target_view
  seen-target =
      let within = slice_get_within a.objects target object lives.is in
      ap (λ partner. record (seen made target object) { partner = partner })
      (base_of-lives made (length a.objects) weak lives-weak)
      ∙ ap (λ colour. record target_view { colour = colour }) (colour-old a good a.cycle good.coloured target within)

  seen-weak : seen made (length a.objects) weak ≡ weak_view
  seen-weak =
      ap (λ partner. record (seen made (length a.objects) weak) { partner = partner })
      (old-base target object lives ∙ base_of-lives a target object lives)
      ∙ ap (λ colour. record weak_view { colour = colour }) (colour-newborn a good a.cycle good.coloured)

  module _ (grain to : ℕ) (begins : base ≡ 16 * grain) (target_begins : object.base ≡ 16 * to)
      (below : grain < 256 * a.settings.max) (target_below : to < 256 * a.settings.max) where
    abbrev middle : ObjectsByBase
    middle = with_entry (16 * to) (Some target_view) (seen_objects a)

    length-middle : length middle ≡ 256 * a.settings.max
    length-middle = length-set (seen_objects a) (16 * to / 16) (Some target_view) ∙ length-seen a

    clash : false ≡ true → ⊥
    clash e = cc

    -- what is at any other base was there before
    at_other : (k : ℕ) → (k ≡ grain → ⊥) → (k ≡ to → ⊥) → seen_at made (16 * k) ≡ seen_at a (16 * k)
    at_other k apart apart_too =
        seen_at-alike a made (16 * k) good.placed placed
        (λ j o h at.
        let distinct : j ≡ target → ⊥ = λ same.
        let own : o ≡ object = lives_same a target o object (subst (λ n. Lives a n o) same h) lives in
        let there : o.base ≡ object.base = ap (λ (x : Object). x.base) own in
        apart_too (omega arith) in
        record { birth = j; object = o; lives = lives-other j o h distinct; at = at; is = seen-other j o h })
        (λ j o h at.
        ⊎_elim
        (λ (old : slice_get front j ≡ Some o).
        ⊎_elim
        (λ (l : (j ≡ target) × (targeted ≡ o)).
        let there : object.base ≡ o.base = ap (λ (x : Object). x.base) l.1 in
        absurd (apart_too (omega arith)))
        (λ (r : slice_get a.objects j ≡ Some o).
        record { birth = j; object = o; lives = record { is = r; live = h.live }; at = at })
        (get-set_cases a.objects target j targeted o old))
        (λ (last : (j ≡ length front) × (weak ≡ o)).
        let there : base ≡ o.base = ap (λ (x : Object). x.base) last.1 in
        absurd (apart (omega arith)))
        (get-push front weak j o h.is))

    some : {x y : Option ObjectView} → x ≡ y → ◌≡◌ {A = Option (Option ObjectView)} (Some x) (Some y)
    some e = ap (λ (o : Option ObjectView). Some o) e

    at_middle : (k : ℕ) → k < 256 * a.settings.max → (k ≡ grain → ⊥) → slice_get middle k ≡ Some (seen_at made (16 * k))
    at_middle k inside apart =
        let all = length-seen a in
        get-with_entry (seen_objects a) to (Some target_view) k (omega arith) ∙ split (k == to) refl
      where
        split : (b : Bool) → (k == to) ≡ b
            → (if b then Some (Some target_view) else slice_get (seen_objects a) k) ≡ Some (seen_at made (16 * k))
        split true e =
            let same : k ≡ to = eqb-true _ _ e in
            let at : object.base ≡ 16 * k = omega arith in
            some (sym (seen_at-base made placed target targeted (16 * k) lives-target at
            ∙ ap (λ (x : ObjectView). Some x) seen-target))
        split false e =
            get-seen a k inside ∙ some (sym (at_other k apart (λ same. clash (sym e ∙ eq-eqb _ _ same))))

    at_each : (k : ℕ) → k < 256 * a.settings.max
        → slice_get (with_entry (16 * grain) (Some weak_view) middle) k ≡ Some (seen_at made (16 * k))
    at_each k inside =
        let all = length-middle in
        get-with_entry middle grain (Some weak_view) k (omega arith) ∙ split (k == grain) refl
      where
        split : (b : Bool) → (k == grain) ≡ b
            → (if b then Some (Some weak_view) else slice_get middle k) ≡ Some (seen_at made (16 * k))
        split true e =
            let same : k ≡ grain = eqb-true _ _ e in
            let at : base ≡ 16 * k = omega arith in
            some (sym (seen_at-base made placed (length a.objects) weak (16 * k) lives-weak at
            ∙ ap (λ (x : ObjectView). Some x) seen-weak))
        split false e = at_middle k inside (λ same. clash (sym e ∙ eq-eqb _ _ same))

    entries-made : seen_objects made ≡ with_entry (16 * grain) (Some weak_view) middle
    entries-made =
        seen_objects-entries a made refl (with_entry (16 * grain) (Some weak_view) middle)
        (length-set middle (16 * grain / 16) (Some weak_view) ∙ length-middle) at_each

  pub weak_made-seen : view_weak_made (view_of a) (seen_based a target object) base ≡ view_of made
  weak_made-seen =
      let inside = piece_grain a.settings.max (object_piece (newborn weak_shape base)) goes.inside in
      let there = piece_grain a.settings.max (object_piece object) (lives_inside a good.placed target object lives) in
      let entries : with_entry base (Some weak_view) (with_entry object.base (Some target_view) (seen_objects a))
      ≡ seen_objects made =
      ap (λ b. with_entry b (Some weak_view) (with_entry object.base (Some target_view) (seen_objects a))) inside.1
      ∙ ap (λ b. with_entry (16 * inside.0) (Some weak_view) (with_entry b (Some target_view) (seen_objects a))) there.1
      ∙ sym (entries-made inside.0 there.0 inside.1 there.1 inside.2 there.2) in
      view_with_born-seen a good front weak pieces births bases refl goes
      (with_entry object.base (Some target_view) (seen_objects a)) weak_view entries

pub weak-seen : (a : State) (good : IsGood a) (target : ℕ) (object : Object) → Lives a target object
    → (found : Option ℕ) → IfSome found (λ base.
    (limit : ℕ) × (limit ≤ a.settings.max) × (place_of a limit Objects (object_bytes 0) ≡ Some base))
    → SameEffect (view_weak_effect (view_of a) object.base found) (weak_effect a target found)
weak-seen a good target object lives None place = record { view = refl; reply = refl }
weak-seen a good target object lives (Some base) place =
    let goes = goes_at a weak_shape place.0 base good place.1 place.2 in
    subst
    (λ found. SameEffect (with_found found (view_of a) (λ o.
    record { view = view_weak_made (view_of a) o base; reply = replies.New base }))
    (weak_effect a target (Some base)))
    (sym (object_at-lives a good.placed target object lives))
    (subst
    (λ found.
    SameEffect
    (record { view = view_weak_made (view_of a) (seen_based a target object) base; reply = replies.New base })
    (with_some found a (λ o. record { state = weak_made a target o base; reply = replies.New base })))
    (sym lives.is)
    (record { view = weak_made-seen a good target object lives base goes; reply = refl }))
