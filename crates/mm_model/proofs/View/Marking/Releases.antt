-- Releasing objects does to a view what it does to its state.
use Rattle.std.proofs.Common.{◌≡◌, ℕ, ◌*◌, Bool, true, false, List, Option, Some, None, refl, sym, ap, ◌∙◌}
use Rattle.std.proofs.lemmas.Option.{slice_get-map}
use Rattle.std.specs.Prelude.{IfSome, slice_get, ◌&&◌, if◌then◌else◌}
use Rattle.std.specs.Option.{option_map, option_and_then, option_map_or}
use Rattle.mm_model.specs.Object.{Object}
use Rattle.mm_model.specs.State.{State, Cycle, PartlyScanned, Lives}
use Rattle.mm_model.specs.Sets.Marking.{colour_in}
use Rattle.mm_model.specs.Phase.{lists, is_freed, is_freed_birth, unless_freed, after_release, partly_scanned_left}
use Rattle.mm_model.specs.Phase.{cycle_left, released}
use Rattle.mm_model.specs.Places.Place.{live_pieces}
use Rattle.mm_model.specs.Good.{IsPlaced, IsPaired, IsPartlyScanned, IsColoured, IsGood}
use Rattle.mm_model.specs.Views.ByBase.{changed}
use Rattle.mm_model.specs.Views.ObjectView.{ObjectView}
use Rattle.mm_model.specs.Views.View.{PartlyScannedView, base_of, seen, seen_at, seen_objects, seen_partly, seen_cycle}
use Rattle.mm_model.specs.Views.ViewPhase.{unless_listed, view_after_release, view_partly_left, view_cycle_left}
use Rattle.mm_model.proofs.Good.Releases.{stayed, stays_lives}
use Rattle.mm_model.proofs.View.ByBase.Seen.{IsSeen, seen_at-some, seen_at-lives, seen_objects-changed}

-- the object with a birth number begins where it began
pub base_of-released : (a : State) (bases : List ℕ) (birth : ℕ) → base_of (released bases a) birth ≡ base_of a birth
base_of-released a bases birth =
    ap (option_map (λ (o : Object). o.base)) (slice_get-map (after_release a bases) a.objects birth)
    ∙ split (slice_get a.objects birth)
  where
    base : (o : Object) (c : Bool)
        → (if c then record o { gone = true } else record o { partner = unless_freed a bases o.partner }).base ≡ o.base
    base o true = refl
    base o false = refl

    split : (found : Option Object) → option_map (λ (o : Object). o.base) (option_map (after_release a bases) found)
        ≡ option_map (λ (o : Object). o.base) found
    split None = refl
    split (Some o) = ap (λ (n : ℕ). Some n) (base o (is_freed bases o))

-- a live object is freed where its base is listed
is_freed_birth-lives : (a : State) (bases : List ℕ) (birth : ℕ) (object : Object) → Lives a birth object
    → is_freed_birth a bases birth ≡ lists bases object.base
is_freed_birth-lives a bases birth object h =
    ap (λ found. option_map_or (is_freed bases) found false) h.is ∙ ap (λ c. c && lists bases object.base) h.live

-- colours stay
colour_in-released : (a : State) (bases : List ℕ) (birth : ℕ)
    → colour_in (released bases a).cycle birth ≡ colour_in a.cycle birth
colour_in-released a bases birth = split a.cycle
  where
    split : (c : Option Cycle) → colour_in (option_map (cycle_left a bases) c) birth ≡ colour_in c birth
    split None = refl
    split (Some cycle) = refl

-- a partner that lives goes on to be one where it isn't freed
partner-released : (a : State) (bases : List ℕ) (birth : ℕ) (object : Object) (partner : Option ℕ)
    → IfSome partner (IsPaired a birth object)
    → option_and_then (base_of (released bases a)) (unless_freed a bases partner)
    ≡ unless_listed bases (option_and_then (base_of a) partner)
partner-released a bases birth object None h = refl
partner-released a bases birth object (Some other) h =
    let base : base_of a other ≡ Some h.partner.base = ap (option_map (λ (o : Object). o.base)) h.lives.is in
    ap (λ c. option_and_then (base_of (released bases a)) (if c then None else Some other))
    (is_freed_birth-lives a bases other h.partner h.lives)
    ∙ split (lists bases h.partner.base) (base_of-released a bases other ∙ base)
    ∙ ap (unless_listed bases) (sym base)
  where
    split : {n : ℕ} (c : Bool) → base_of (released bases a) other ≡ Some n
        → option_and_then (base_of (released bases a)) (if c then None else Some other) ≡ (if c then None else Some n)
    split true e = refl
    split false e = e

module _ (a : State) (good : IsGood a) (bases : List ℕ)
    (after : IsPlaced (released bases a).settings.max (live_pieces (released bases a))) where
  abbrev b : State
  b = released bases a

  seen-released : (birth : ℕ) (object : Object) → Lives a birth object
      → seen b birth (record object { partner = unless_freed a bases object.partner })
      ≡ record (seen a birth object) { partner = unless_listed bases (option_and_then (base_of a) object.partner) }
  seen-released birth object lives =
      ap (λ colour. record (seen b birth (record object { partner = unless_freed a bases object.partner })) {
        colour = colour;
      }) (colour_in-released a bases birth)
      ∙ ap (λ partner. record (seen a birth object) { partner = partner })
      (partner-released a bases birth object object.partner (good.paired birth object lives))

  seen_at-released : (base : ℕ) → seen_at b base ≡ option_and_then (view_after_release bases base) (seen_at a base)
  seen_at-released base = split (seen_at a base) refl
    where
      -- what is seen afterwards was seen before
      before : (o : ObjectView) → seen_at b base ≡ Some o → (birth : ℕ) × (object : Object) × Lives a birth object
          × (object.base ≡ base) × (lists bases base ≡ false)
      before o e =
          let s = seen_at-some b base o e in
          let w = stayed a bases s.birth s.object s.lives in
          let at : w.before.base ≡ base = ap (λ (x : Object). x.base) w.is ∙ s.at in
          (s.birth, w.before, w.lived, at, ap (lists bases) (sym at) ∙ w.unlisted)

      none : ((o : ObjectView) → seen_at b base ≡ Some o → ⊥) → seen_at b base ≡ None
      none f = by (seen_at b base) refl
        where
          by : (found : Option ObjectView) → seen_at b base ≡ found → found ≡ None
          by None e = refl
          by (Some o) e = absurd (f o e)

      unseen : seen_at a base ≡ None → (o : ObjectView) → seen_at b base ≡ Some o → ⊥
      unseen e o f =
          let w = before o f in
          let there = ap (seen_at a) (sym w.3) ∙ seen_at-lives a good.placed w.0 w.1 w.2 in
          let clash = sym e ∙ there in
          cc

      freed : lists bases base ≡ true → (o : ObjectView) → seen_at b base ≡ Some o → ⊥
      freed e o f = let w = before o f in let clash = sym e ∙ w.4 in cc

      left : (o : ObjectView) → IsSeen a base o → lists bases base ≡ false
          → seen_at b base ≡ Some (record o { partner = unless_listed bases o.partner })
      left o s e =
          let lives = stays_lives a bases s.birth s.object s.lives (ap (lists bases) s.at ∙ e) in
          ap (seen_at b) (sym s.at)
          ∙ seen_at-lives b after s.birth
          (record s.object { partner = unless_freed a bases s.object.partner }) lives
          ∙ ap (λ (x : ObjectView). Some x) (seen-released s.birth s.object s.lives)
          ∙ ap (λ (x : ObjectView). Some (record x { partner = unless_listed bases x.partner })) (sym s.is)

      listed : (o : ObjectView) → IsSeen a base o → (c : Bool) → lists bases base ≡ c
          → seen_at b base ≡ (if c then None else Some (record o { partner = unless_listed bases o.partner }))
      listed o s true e = none (freed e)
      listed o s false e = left o s e

      split : (found : Option ObjectView) → seen_at a base ≡ found
          → seen_at b base ≡ option_and_then (view_after_release bases base) found
      split None e = none (unseen e)
      split (Some o) e = listed o (seen_at-some a base o e) (lists bases base) refl

  -- the objects that are left
  pub objects-released : changed (view_after_release bases) (seen_objects a) ≡ seen_objects b
  objects-released =
      sym (seen_objects-changed a b refl (view_after_release bases) (λ k below. seen_at-released (16 * k)))

  partly-released : (cycle : Cycle) (partly_scanned : Option PartlyScanned)
      → IfSome partly_scanned (IsPartlyScanned a cycle)
      → view_partly_left bases (option_and_then (seen_partly a) partly_scanned)
      ≡ option_and_then (seen_partly b) (partly_scanned_left a bases partly_scanned)
  partly-released cycle None h = refl
  partly-released cycle (Some p) h =
      let base : base_of a p.object ≡ Some h.object.base = ap (option_map (λ (o : Object). o.base)) h.lives.is in
      ap (λ found. view_partly_left bases
      (option_map (λ (n : ℕ). record { base = n; slots_done = p.slots_done }) found)) base
      ∙ split (lists bases h.object.base) (base_of-released a bases p.object ∙ base)
      ∙ ap (λ c. option_and_then (seen_partly b) (if c then None else Some p))
      (sym (is_freed_birth-lives a bases p.object h.object h.lives))
    where
      split : {n : ℕ} (c : Bool) → base_of b p.object ≡ Some n
          → ◌≡◌ {A = Option PartlyScannedView}
          (if c then None else Some (record { base = n; slots_done = p.slots_done }))
          (option_and_then (seen_partly b) (if c then None else Some p))
      split true e = refl
      split false e =
          ap (λ found. option_map (λ (n : ℕ). record { base = n; slots_done = p.slots_done }) found) (sym e)

  -- the cycle that is left
  pub cycle-released : option_map (view_cycle_left bases) (option_map (seen_cycle a) a.cycle)
      ≡ option_map (seen_cycle b) b.cycle
  cycle-released = split a.cycle good.coloured
    where
      split : (c : Option Cycle) → IfSome c (IsColoured a)
          → option_map (view_cycle_left bases) (option_map (seen_cycle a) c)
          ≡ option_map (seen_cycle b) (option_map (cycle_left a bases) c)
      split None h = refl
      split (Some cycle) h =
          ap (λ partly_scanned. Some (record { gone_before = cycle.gone_before; partly_scanned = partly_scanned }))
          (partly-released cycle cycle.partly_scanned h.partly_scanned)
