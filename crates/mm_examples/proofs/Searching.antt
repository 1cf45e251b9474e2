-- The lines of a search, as they are computed from what its phases free, and that it is one.
use Rattle.std.proofs.Common.{◌≡◌, ℕ, Bool, true, ◌&&◌, List, [], ◌++◌, Option, Some, None, refl}
use Rattle.std.proofs.lemmas.Bool.{and_parts}
use Rattle.mm_model.specs.declared.line.Line.{Line}
use Rattle.mm_model.specs.declared.line.Phase.TheVariants.{Reap, Collect}
use Rattle.mm_model.specs.State.{State}
use Rattle.mm_model.specs.Places.Place.{Family}
use Rattle.mm_model.specs.Phase.{phase_lines, reaped}
use Rattle.mm_model.specs.Places.Search.{place_now, place_grown, Searches, At_once, After_reap, After_collection}
use Rattle.mm_model.specs.After.{first_phase, later_phases, collected_unless, reaped_unless, searched}
use Rattle.mm_examples.proofs.Freeing.{reaps, collects, reaped_if, collected_if}

-- a search that reaped, by the place that it found then
abbrev collection_log : Option ℕ → State → List (List ℕ) → List Line → List Line
collection_log (Some base) b phases log = log
collection_log None b phases log = log ++ phase_lines Collect b (first_phase phases)

-- a search, by the place that it found at once
abbrev reap_log : Option ℕ → State → Family → ℕ → List (List ℕ) → List Line
reap_log (Some base) a family bytes phases = []
reap_log None a family bytes phases =
    let b = reaped (first_phase phases) a in
    collection_log (place_grown b family bytes) b (later_phases phases) (phase_lines Reap a (first_phase phases))

abbrev pub search_log : State → Family → ℕ → List (List ℕ) → List Line
search_log a family bytes phases = reap_log (place_now a family bytes) a family bytes phases

abbrev collection_checks : Option ℕ → State → List (List ℕ) → Bool
collection_checks (Some base) b phases = true
collection_checks None b phases = collects b (first_phase phases)

abbrev reap_checks : Option ℕ → State → Family → ℕ → List (List ℕ) → Bool
reap_checks (Some base) a family bytes phases = true
reap_checks None a family bytes phases =
    let b = reaped (first_phase phases) a in
    reaps a (first_phase phases) && collection_checks (place_grown b family bytes) b (later_phases phases)

abbrev pub search_checks : State → Family → ℕ → List (List ℕ) → Bool
search_checks a family bytes phases = reap_checks (place_now a family bytes) a family bytes phases

module _ (a : State) (family : Family) (bytes : ℕ) (phases : List (List ℕ)) where
  collection_is : place_now a family bytes ≡ None → reaps a (first_phase phases) ≡ true → (found : Option ℕ)
      → place_grown (reaped (first_phase phases) a) family bytes ≡ found
      → collection_checks found (reaped (first_phase phases) a) (later_phases phases) ≡ true
      → let s = collected_unless found (reaped (first_phase phases) a) family bytes (later_phases phases) in
      Searches a family bytes
      (collection_log found (reaped (first_phase phases) a) (later_phases phases)
      (phase_lines Reap a (first_phase phases))) s.state s.found
  collection_is none reap (Some base) place checks =
      After_reap base (first_phase phases) none (reaped_if a (first_phase phases) reap) place refl refl refl
  collection_is none reap None place checks =
      After_collection (first_phase phases) (first_phase (later_phases phases)) none
      (reaped_if a (first_phase phases) reap) place
      (collected_if (reaped (first_phase phases) a) (first_phase (later_phases phases)) checks) refl refl refl

  search_is : (found : Option ℕ) → place_now a family bytes ≡ found
      → reap_checks found a family bytes phases ≡ true
      → let s = reaped_unless found a family bytes phases in
      Searches a family bytes (reap_log found a family bytes phases) s.state s.found
  search_is (Some base) place checks = At_once base place refl refl refl
  search_is None place checks =
      let b : State = reaped (first_phase phases) a in
      let parts = and_parts (reaps a (first_phase phases))
      (collection_checks (place_grown b family bytes) b (later_phases phases)) checks in
      collection_is place parts.0 (place_grown b family bytes) refl parts.1

  -- the search that the lines tell of
  pub searches_if : search_checks a family bytes phases ≡ true
      → let s = searched a family bytes phases in
      Searches a family bytes (search_log a family bytes phases) s.state s.found
  searches_if checks = search_is (place_now a family bytes) refl checks
