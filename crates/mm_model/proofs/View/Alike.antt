-- What two states show alike: their cycles where each object has the same base in both, and their totals.
use Rattle.std.proofs.Common.{◌≡◌, ℕ, suc, ◌+◌, ◌-◌, Bool, true, false, cond, List, [], ◌∷◌, map, length, Option, Some}
use Rattle.std.proofs.Common.{None, refl, ap, ◌∙◌}
use mathlib.Core.Path.{fun_ext}
use Rattle.std.proofs.lemmas.Option.{slice_get-map}
use Rattle.std.specs.Prelude.{slice_get}
use Rattle.std.specs.List.{position_from}
use Rattle.std.specs.Option.{option_map, option_and_then}
use Rattle.mm_model.specs.Object.{Object, is_live, live_objects}
use Rattle.mm_model.specs.State.{State, Cycle, totals_of, live_count}
use Rattle.mm_model.specs.Views.View.{base_of, seen_cycle}

module _ (a b : State) where
  pub partner-alike : base_of b ≡ base_of a → (partner : Option ℕ)
      → option_and_then (base_of b) partner ≡ option_and_then (base_of a) partner
  partner-alike bases partner = ap (λ base. option_and_then base partner) bases

  pub cycle-alike : base_of b ≡ base_of a → (cycle : Option Cycle)
      → option_map (seen_cycle b) cycle ≡ option_map (seen_cycle a) cycle
  cycle-alike bases cycle =
      ap (λ (base : ℕ → Option ℕ). option_map (λ cycle. record {
        gone_before = cycle.gone_before;
        partly_scanned = option_and_then (λ partly.
            option_map (λ base. record { base = base; slots_done = partly.slots_done }) (base partly.object))
            cycle.partly_scanned;
      }) cycle) bases

  pub totals-alike : length b.objects ≡ length a.objects → live_count b ≡ live_count a → b.commands ≡ a.commands
      → totals_of b ≡ totals_of a
  totals-alike born live commands t =
      record { commands = commands t; born = born t; freed = born t - live t; live = live t }

-- an object changed in what isn't its base keeps it
pub base_of-map : (a b : State) (f : Object → Object) → b.objects ≡ map f a.objects
    → ((o : Object) → (f o).base ≡ o.base) → base_of b ≡ base_of a
base_of-map a b f is same = fun_ext (λ birth.
    ap (λ objects. option_map (λ (o : Object). o.base) (slice_get objects birth)) is
    ∙ ap (option_map (λ (o : Object). o.base)) (slice_get-map f a.objects birth)
    ∙ split (slice_get a.objects birth))
  where
    split : (found : Option Object)
        → option_map (λ (o : Object). o.base) (option_map f found) ≡ option_map (λ (o : Object). o.base) found
    split None = refl
    split (Some o) = ap (λ (base : ℕ). Some base) (same o)

pub position_from-map : {X : Type 0} (f : X → X) (test : X → Bool) → ((x : X) → test (f x) ≡ test x) → (low : ℕ)
    (xs : List X) → position_from test low (map f xs) ≡ position_from test low xs
position_from-map f test same low [] = refl
position_from-map f test same low (x ∷ xs) =
    ap (λ b. cond b (Some low) (position_from test (low + 1) (map f xs))) (same x)
    ∙ ap (cond (test x) (Some low)) (position_from-map f test same (low + 1) xs)

pub live_count-map : (f : Object → Object) → ((o : Object) → is_live (f o) ≡ is_live o) → (objects : List Object)
    → length (live_objects (map f objects)) ≡ length (live_objects objects)
live_count-map f same [] = refl
live_count-map f same (o ∷ os) =
    let rest = live_count-map f same os in
    let split : (b : Bool) → length (cond b (f o ∷ live_objects (map f os)) (live_objects (map f os)))
    ≡ length (cond b (o ∷ live_objects os) (live_objects os)) =
    elim [ true ↦ ap suc rest | false ↦ rest ] in
    ap (λ b. length (cond b (f o ∷ live_objects (map f os)) (live_objects (map f os)))) (same o) ∙ split (is_live o)
