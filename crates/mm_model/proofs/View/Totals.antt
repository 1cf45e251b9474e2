-- How many objects a phase frees: one for each base, so that a view's totals follow those of its state.
use Rattle.std.proofs.Common.{◌≡◌, ℕ, ◌+◌, ◌-◌, ◌<◌, Bool, true, false, cond, not, ◌||◌, eqb-true, List, [], ◌∷◌, map}
use Rattle.std.proofs.Common.{length, refl, sym, ap, ◌∙◌, arith}
use Rattle.std.proofs.lemmas.Bool.{eq-eqb}
use Rattle.std.proofs.lemmas.List.{length-map}
use Rattle.std.proofs.lemmas.List.Sums.{sum_by-cons, length-filter, count_by-le-length}
use Rattle.std.specs.Prelude.{◌&&◌, ◌==◌, if◌then◌else◌}
use Rattle.std.specs.List.{count_by, AllByRecursion}
use Rattle.mm_model.specs.Object.{Object, is_live, live_objects}
use Rattle.mm_model.specs.State.{State, Lives, live_count, gone_count, totals_of}
use Rattle.mm_model.specs.declared.line.Totals.{Totals}
use Rattle.mm_model.specs.Places.Place.{live_pieces}
use Rattle.mm_model.specs.Good.{IsPlaced}
use Rattle.mm_model.specs.Phase.{lists, IsAscending, is_freed, unless_freed, after_release, released, AreBasesOf}
use Rattle.mm_model.specs.Views.ViewPhase.{so_many_freed}
use Rattle.mm_model.proofs.Lists.Counts.{count-none_passes, count-one_passes, sum_by-split}
use Rattle.mm_model.proofs.Lists.Keyed.{refuted}
use Rattle.mm_model.proofs.Places.Placing.{both}
use Rattle.mm_model.proofs.Good.Living.{lives_where}
use Rattle.mm_model.proofs.Good.LiveLists.{one_birth}

-- a number below all of a list isn't listed
unlisted_below : (base : ℕ) (bases : List ℕ) → AllByRecursion (λ next. base < next) bases → lists bases base ≡ false
unlisted_below base [] h = refl
unlisted_below base (next ∷ bases) h =
    let more = h.0 in
    let apart : next ≡ base → ⊥ = λ e. omega arith in
    let other : (next == base) ≡ false = refuted (next == base) (λ e. apart (eqb-true _ _ e)) in
    ap (λ b. b || lists bases base) other ∙ unlisted_below base bases h.1

same_totals : (commands : ℕ) {born b freed f live l : ℕ} → born ≡ b → freed ≡ f → live ≡ l
    → ◌≡◌ {A = Totals} (record { commands = commands; born = born; freed = freed; live = live })
    (record { commands = commands; born = b; freed = f; live = l })
same_totals commands {born} {b} {freed} {f} {live} {l} p q r =
    ap (λ n. record { commands = commands; born = n; freed = freed; live = live }) p
    ∙ ap (λ n. record { commands = commands; born = b; freed = n; live = live }) q
    ∙ ap (λ n. record { commands = commands; born = b; freed = f; live = n }) r

module _ (a : State) (placed : IsPlaced a.settings.max (live_pieces a)) (Dead : ℕ → Type 0) where
  -- a live object begins there
  abbrev IsBase : ℕ → Type 0
  IsBase base = (birth : ℕ) × (object : Object) × Lives a birth object × (object.base ≡ base) × Dead birth

  abbrev begins : ℕ → Object → Bool
  begins base o = is_live o && base == o.base

  -- one object begins at a base
  one_begins : (base : ℕ) → IsBase base → count_by (begins base) a.objects ≡ 1
  one_begins base h =
      count-one_passes (begins base) a.objects h.0 h.1 h.2.is
      (ap (λ b. b && base == h.1.base) h.2.live ∙ eq-eqb base h.1.base (sym h.3))
      (λ j o is passes.
      one_birth a placed j h.0 o h.1 (lives_where a j o _ is passes) h.2
      (sym (eqb-true base o.base (both _ _ passes).1) ∙ sym h.3))

  -- what is freed begins at the first base or at another one
  freed_apart : (base : ℕ) (bases : List ℕ) → lists bases base ≡ false → (o : Object)
      → cond (is_freed (base ∷ bases) o) 1 0 ≡ cond (begins base o) 1 0 + cond (is_freed bases o) 1 0
  freed_apart base bases e o =
      split (is_live o) (base == o.base) refl (lists bases o.base) refl
    where
      split : (live here : Bool) → (base == o.base) ≡ here → (listed : Bool) → lists bases o.base ≡ listed
          → ◌≡◌ {A = ℕ} (cond (live && (here || listed)) 1 0) (cond (live && here) 1 0 + cond (live && listed) 1 0)
      split false here p listed q = refl
      split true true p true q =
          let same : base ≡ o.base = eqb-true _ _ p in
          let clash = sym e ∙ ap (lists bases) same ∙ q in
          cc
      split true true p false q = refl
      split true false p true q = refl
      split true false p false q = refl

  -- as many objects are freed as there are bases
  pub count-freed : (bases : List ℕ) → IsAscending bases → AllByRecursion IsBase bases
      → count_by (is_freed bases) a.objects ≡ length bases
  count-freed [] ascending only =
      count-none_passes (is_freed []) a.objects (λ i o is passes. none (is_live o) passes)
    where
      none : (b : Bool) → (b && false) ≡ true → ⊥
      none true e = cc
      none false e = cc
  count-freed (base ∷ bases) ascending only =
      let rest = count-freed bases ascending.1 only.1 in
      let one = one_begins base only.0 in
      let all = sum_by-split (λ o. cond (is_freed (base ∷ bases) o) 1 0) (λ o. cond (begins base o) 1 0)
      (λ o. cond (is_freed bases o) 1 0) (freed_apart base bases (unlisted_below base bases ascending.0)) a.objects in
      omega (arith, rest, one, all)

  live-after : (bases : List ℕ) (o : Object)
      → is_live (after_release a bases o) ≡ (is_live o && not (is_freed bases o))
  live-after bases o = split (is_freed bases o)
    where
      and_true : (b : Bool) → b ≡ (b && true)
      and_true true = refl
      and_true false = refl

      and_false : (b : Bool) → false ≡ (b && false)
      and_false true = refl
      and_false false = refl

      split : (c : Bool)
          → is_live (if c then record o { gone = true } else record o { partner = unless_freed a bases o.partner })
          ≡ (is_live o && not c)
      split true = and_false (is_live o)
      split false = and_true (is_live o)

  -- one object more: what is left of it lives or it is freed, if it lived
  one_more-parts : (bases : List ℕ) (o x : Object) (left os : List Object)
      → is_live x ≡ (is_live o && not (is_freed bases o))
      → length left + count_by (is_freed bases) os ≡ length (live_objects os)
      → length (cond (is_live x) (x ∷ left) left) + count_by (is_freed bases) (o ∷ os) ≡ length (live_objects (o ∷ os))
  one_more-parts bases o x left os lives rest =
      ap (λ b. length (cond b (x ∷ left) left) + count_by (is_freed bases) (o ∷ os)) lives
      ∙ ap (λ n. length (cond (is_live o && not (is_freed bases o)) (x ∷ left) left) + n)
      (sum_by-cons (λ y. cond (is_freed bases y) 1 0) o os)
      ∙ split (is_live o) (lists bases o.base)
    where
      split : (live listed : Bool)
          → length (cond (live && not (live && listed)) (x ∷ left) left)
          + (cond (live && listed) 1 0 + count_by (is_freed bases) os)
          ≡ length (cond live (o ∷ live_objects os) (live_objects os))
      split true true = omega (arith, rest)
      split true false = omega (arith, rest)
      split false listed = omega (arith, rest)

  -- what lives and what is freed together lived before
  live_count-parts : (bases : List ℕ) (objects : List Object)
      → length (live_objects (map (after_release a bases) objects)) + count_by (is_freed bases) objects
      ≡ length (live_objects objects)
  live_count-parts bases [] = refl
  live_count-parts bases (o ∷ os) =
      one_more-parts bases o (after_release a bases o) (live_objects (map (after_release a bases) os)) os
      (live-after bases o) (live_count-parts bases os)

  -- the totals that are left
  pub totals-released : (bases : List ℕ) → AreBasesOf a Dead bases
      → so_many_freed (length bases) (totals_of a) ≡ totals_of (released bases a)
  totals-released bases are =
      let freed = count-freed bases are.ascending are.only in
      let parts = live_count-parts bases a.objects in
      let all = length-map a.objects (after_release a bases) in
      let most = count_by-le-length is_live a.objects in
      let lived = length-filter is_live a.objects in
      let live : live_count a - length bases ≡ live_count (released bases a) = omega (arith, freed, parts) in
      let gone : gone_count a + length bases ≡ gone_count (released bases a) =
      omega (arith, freed, parts, all, most, lived) in
      same_totals a.commands (sym all) gone live
