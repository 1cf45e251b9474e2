-- A search keeps a state good, finds places in the region, and spares what the stack names.
use Rattle.std.proofs.Common.{◌≡◌, ℕ, ◌+◌, ◌/◌, ◌<◌, ◌≤◌, Bool, true, false, ◌||◌, List, Option, Some, None, refl, sym}
use Rattle.std.proofs.Common.{ap, ◌∙◌, subst, arith}
use Rattle.std.proofs.lemmas.Bool.Decides.{nat_tests}
use Rattle.std.specs.Prelude.{IfSome, nat_lt}
use Rattle.std.specs.List.{list_any}
use Rattle.mm_model.specs.declared.line.Line.{Line}
use Rattle.mm_model.specs.Object.{Object}
use Rattle.mm_model.specs.State.{State, Lives}
use Rattle.mm_model.specs.Value.{words_of}
use Rattle.mm_model.specs.Words.{stack_words, names, falls}
use Rattle.mm_model.specs.Places.Place.{Family, live_pieces, place_of, region_pages}
use Rattle.mm_model.specs.Phase.{unless_freed, released, reaped, collected, AreReaped, AreCollected}
use Rattle.mm_model.specs.Places.Search.{place_grown, Searches, At_once, After_reap, After_collection}
use Rattle.mm_model.specs.Good.{IsInside, IsPlaced, IsGood}
use Rattle.mm_model.proofs.Good.Closing.{Spares}
use Rattle.mm_model.proofs.Good.Phases.{reap-spares, collection-spares, reaped_is_good, collected_is_good}
use Rattle.mm_model.proofs.Places.Placing.{some_with}
use Rattle.mm_model.proofs.Good.Releases.{stays_lives}
use Rattle.mm_model.proofs.Places.Ends.{ends, fold-ends}

-- the region has at most its greatest number of pages
pub region_pages-most : (a : State) → IsPlaced a.settings.max (live_pieces a) → a.settings.pages ≤ a.settings.max
    → region_pages a ≤ a.settings.max
unfolding ends
region_pages-most a placed least =
    let most = a.settings.max in
    let past : nat_lt most (region_pages a) ≡ true → ⊥ =
    λ e. by_parts (sym (fold-ends a.settings.pages most (live_pieces a)) ∙ e) in
    grind (arith, nat_tests)
  where
    by_parts : (nat_lt a.settings.max a.settings.pages || list_any (ends a.settings.max) (live_pieces a)) ≡ true → ⊥
    by_parts e = split (nat_lt a.settings.max a.settings.pages) refl e
      where
        split : (b : Bool) → nat_lt a.settings.max a.settings.pages ≡ b
            → (b || list_any (ends a.settings.max) (live_pieces a)) ≡ true → ⊥
        split true p q = let more : a.settings.max < a.settings.pages = grind (arith, nat_tests) in omega arith
        split false p q =
            let hit = some_with (ends a.settings.max) (IsInside a.settings.max) (live_pieces a) q placed.inside in
            let inside = hit.2.to in
            let end = hit.1 in
            let more : a.settings.max < (hit.0.base + hit.0.extent + 4095) / 4096 = grind (arith, nat_tests) in
            omega arith

-- an object that the stack names lives on, with its kind, and has no partner if it had none
pub record IsSpared (b : State) (birth : ℕ) (object : Object) : Type 0 where
  pub after : Object
  pub lives : Lives b birth after
  pub base : after.base ≡ object.base
  pub extent : after.extent ≡ object.extent
  pub kind : after.kind ≡ object.kind
  pub alone : object.partner ≡ None → after.partner ≡ None

abbrev pub SparesStack : State → State → Type 0
SparesStack a b =
    (birth : ℕ) (object : Object) → Lives a birth object → names (stack_words a) object ≡ true
    → IsSpared b birth object

-- What a search leaves: a good state with the same stack, areas and settings. What it finds is a place there.
pub record IsFound (a : State) (family : Family) (bytes : ℕ) (b : State) (found : Option ℕ) : Type 0 where
  pub good : IsGood b
  pub stack : b.stack ≡ a.stack
  pub areas : b.areas ≡ a.areas
  pub settings : b.settings ≡ a.settings
  pub spared : SparesStack a b
  pub place : IfSome found
      (λ base. (limit : ℕ) × (limit ≤ b.settings.max) × (place_of b limit family bytes ≡ Some base))

released-spares : (a : State) (bases : List ℕ) → Spares a bases → SparesStack a (released bases a)
released-spares a bases spares birth object lives named =
    record {
      after = record object { partner = unless_freed a bases object.partner };
      lives = stays_lives a bases birth object lives (spares.stack birth object lives named);
      base = refl;
      extent = refl;
      kind = refl;
      alone = λ e. ap (unless_freed a bases) e;
    }

spares-reaped : (a : State) (good : IsGood a) (bases : List ℕ) → AreReaped a bases → SparesStack a (reaped bases a)
spares-reaped a good bases are birth object lives named =
    let one = released-spares a bases (reap-spares a bases good are) birth object lives named in
    record {
      after = one.after;
      lives = record { is = one.lives.is; live = one.lives.live };
      base = one.base;
      extent = one.extent;
      kind = one.kind;
      alone = one.alone;
    }

spares-collected : (a : State) (good : IsGood a) (bases : List ℕ) → AreCollected a bases
    → SparesStack a (collected bases a)
spares-collected a good bases are birth object lives named =
    let one = released-spares a bases (collection-spares a bases good are) birth object lives named in
    record {
      after = one.after;
      lives = record { is = one.lives.is; live = one.lives.live };
      base = one.base;
      extent = one.extent;
      kind = one.kind;
      alone = one.alone;
    }

-- one phase after another
spares-then : (a b c : State) → b.stack ≡ a.stack → SparesStack a b → SparesStack b c → SparesStack a c
spares-then a b c stack first second birth object lives named =
    let one = first birth object lives named in
    let still : names (stack_words b) one.after ≡ true =
    ap (λ base. list_any (λ word. falls word base one.after.extent) (stack_words b)) one.base
    ∙ ap (λ extent. list_any (λ word. falls word object.base extent) (stack_words b)) one.extent
    ∙ ap (λ s. names (words_of s) object) stack ∙ named in
    let two = second birth one.after one.lives still in
    record {
      after = two.after;
      lives = two.lives;
      base = two.base ∙ one.base;
      extent = two.extent ∙ one.extent;
      kind = two.kind ∙ one.kind;
      alone = λ e. two.alone (one.alone e);
    }

pub searched_is_found : (a : State) (family : Family) (bytes : ℕ) (log : List Line) (b : State) (found : Option ℕ)
    → IsGood a → Searches a family bytes log b found → IsFound a family bytes b found
searched_is_found a family bytes log b found good (At_once base place lines same is) =
    subst (λ c. IsFound a family bytes c found) (sym same)
    (subst (IsFound a family bytes a) (sym is)
    (record {
      good = good;
      stack = refl;
      areas = refl;
      settings = refl;
      spared = λ birth object lives named.
          record { after = object; lives = lives; base = refl; extent = refl; kind = refl; alone = λ e. e };
      place = (region_pages a, region_pages-most a good.placed good.growing, place);
    }))
searched_is_found a family bytes log b found good (After_reap base dead none reapable place lines same is) =
    subst (λ c. IsFound a family bytes c found) (sym same)
    (subst (IsFound a family bytes (reaped dead a)) (sym is)
    (record {
      good = reaped_is_good a dead good reapable;
      stack = refl;
      areas = refl;
      settings = refl;
      spared = spares-reaped a good dead reapable;
      place = (a.settings.max, omega arith, place);
    }))
searched_is_found a family bytes log b found good
    (After_collection dead lost none reapable no_place unreached lines same is) =
    let middle = reaped dead a in
    let good_middle = reaped_is_good a dead good reapable in
    let last = collected lost middle in
    let place : (o : Option ℕ) → place_grown last family bytes ≡ o
    → IfSome o (λ base. (limit : ℕ) × (limit ≤ last.settings.max) × (place_of last limit family bytes ≡ Some base)) =
    elim [ None ↦ λ e. tt | Some base ↦ λ e. (a.settings.max, omega arith, e) ] in
    subst (λ c. IsFound a family bytes c found) (sym same)
    (subst (IsFound a family bytes last) (sym is)
    (record {
      good = collected_is_good middle lost good_middle unreached;
      stack = refl;
      areas = refl;
      settings = refl;
      spared = spares-then a middle last refl (spares-reaped a good dead reapable)
          (spares-collected middle good_middle lost unreached);
      place = place (place_grown last family bytes) refl;
    }))
