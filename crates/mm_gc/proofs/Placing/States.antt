-- A place among some pieces is the lowest one, since there is a state in which these pieces live.
use Rattle.std.proofs.Common.{◌≡◌, ℕ, ◌*◌, ◌/◌, ◌+◌, ◌<◌, ◌≤◌, Bool, true, false, ◌||◌, List, [], ◌∷◌, map}
use Rattle.std.proofs.Common.{Option, Some, None, refl, sym, ap, ◌∙◌, subst}
use Rattle.std.proofs.lemmas.List.Folds.{list_any-append}
use Rattle.std.specs.Prelude.{slice_index}
use Rattle.std.specs.List.{list_any}
use Rattle.mm_model.specs.declared.object.Kind.TheVariants.{Leaf}
use Rattle.mm_model.specs.Places.SizeClass.{class_sizes, class_index, size_of, extent_of_size, extent_of}
use Rattle.mm_model.specs.Object.{Object, live_objects}
use Rattle.mm_model.specs.State.{State, Area, empty_state}
use Rattle.mm_model.specs.Places.Place.{Family, Objects, Areas, Piece, object_piece, area_piece, live_pieces}
use Rattle.mm_model.specs.Places.Place.{place_among}
use Rattle.mm_model.specs.Places.Lowest.{IsRun, IsFreeCell, IsNowhere, IsLowest, IsLowestOf, IsPreferred, Of_first}
use Rattle.mm_model.specs.Places.Lowest.{Of_second}
use Rattle.mm_model.proofs.Places.Choosing.{size_of-small, size_of-large, cells_go_lowest, pages_go_lowest}
use Rattle.mm_model.proofs.Places.SeenAlike.{AreSeenAlike, is_vacant-alike, place_among-alike}

-- what is lowest of some places is lowest of the same places otherwise said
module _ (P Q : ℕ → Type 0) (to : (base : ℕ) → P base → Q base) (from : (base : ℕ) → Q base → P base) where
  pub lowest-like : (base : ℕ) → IsLowest P base → IsLowest Q base
  lowest-like base p = record { is = to base p.is; least = λ other q. p.least other (from other q) }

  pub nowhere-like : IsNowhere P → IsNowhere Q
  nowhere-like none base q = none base (from base q)

  pub lowest_of-like : (found : Option ℕ) → IsLowestOf P found → IsLowestOf Q found
  lowest_of-like None p = nowhere-like p
  lowest_of-like (Some base) p = lowest-like base p

pub preferred-like : (P Q R S : ℕ → Type 0) → ((base : ℕ) → P base → Q base) → ((base : ℕ) → Q base → P base)
    → ((base : ℕ) → R base → S base) → ((base : ℕ) → S base → R base) → (found : Option ℕ) → IsPreferred P R found
    → IsPreferred Q S found
preferred-like P Q R S to from on back found (Of_first base e p) = Of_first base e (lowest-like P Q to from base p)
preferred-like P Q R S to from on back found (Of_second none p) =
    Of_second (nowhere-like P Q to from none) (lowest_of-like R S on back found p)

-- the areas of a state, with one more where the piece is of their family
abbrev with_area : Family → Piece → List Area → List Area
with_area Objects piece areas = areas
with_area Areas piece areas =
    record { number = 0; base = piece.base; extent = piece.extent; scanned = false; counted = 0; cells = [] } ∷ areas

abbrev with_object : Family → Piece → List Object → List Object
with_object Objects piece objects =
    record {
      base = piece.base;
      extent = piece.extent;
      kind = Leaf;
      finalize = false;
      counted = 0;
      slots = [];
      sticky = false;
      gone = false;
      partner = None;
    } ∷ objects
with_object Areas piece objects = objects

abbrev areas_of : List Piece → List Area
areas_of [] = []
areas_of (piece ∷ pieces) = with_area piece.family piece (areas_of pieces)

abbrev objects_of : List Piece → List Object
objects_of [] = []
objects_of (piece ∷ pieces) = with_object piece.family piece (objects_of pieces)

-- a state in which these pieces live
state_of : List Piece → State
state_of pieces =
    record (empty_state (record { pages = 2; max = 2; zct = 1; queue = 1; stack = 1 })) {
      objects = objects_of pieces;
      areas = areas_of pieces;
    }

seen-piece : (test : Piece → Bool) (p : Piece) (family : Family) → p.family ≡ family
    → test (record { base = p.base; extent = p.extent; family = family }) ≡ test p
seen-piece test p family e =
    ap (λ (f : Family). test (record { base = p.base; extent = p.extent; family = f })) (sym e)

module _ (test : Piece → Bool) where
  abbrev in_areas : List Area → Bool
  in_areas areas = list_any test (map area_piece areas)

  abbrev in_objects : List Object → Bool
  in_objects objects = list_any test (map object_piece (live_objects objects))

  seen-one : (p : Piece) (areas : List Area) (objects : List Object) (family : Family) → p.family ≡ family
      → (in_areas (with_area family p areas) || in_objects (with_object family p objects))
      ≡ (test p || (in_areas areas || in_objects objects))
  seen-one p areas objects Objects e =
      ap (λ b. in_areas areas || (b || in_objects objects)) (seen-piece test p Objects e)
      ∙ swap (in_areas areas) (test p) (in_objects objects)
    where
      swap : (a b c : Bool) → (a || (b || c)) ≡ (b || (a || c))
      swap true true c = refl
      swap true false c = refl
      swap false true c = refl
      swap false false c = refl
  seen-one p areas objects Areas e =
      ap (λ b. (b || in_areas areas) || in_objects objects) (seen-piece test p Areas e)
      ∙ regroup (test p) (in_areas areas) (in_objects objects)
    where
      regroup : (a b c : Bool) → ((a || b) || c) ≡ (a || (b || c))
      regroup true b c = refl
      regroup false b c = refl

  seen-each : (pieces : List Piece) → (in_areas (areas_of pieces) || in_objects (objects_of pieces))
      ≡ list_any test pieces
  seen-each [] = refl
  seen-each (p ∷ pieces) =
      seen-one p (areas_of pieces) (objects_of pieces) p.family refl ∙ ap (λ b. test p || b) (seen-each pieces)

lives-alike : (pieces : List Piece) → AreSeenAlike (live_pieces (state_of pieces)) pieces
unfolding state_of
lives-alike pieces test =
    list_any-append test (map area_piece (areas_of pieces)) (map object_piece (live_objects (objects_of pieces)))
    ∙ seen-each test pieces

-- places among pieces that tests see alike
module _ (ps qs : List Piece) (alike : AreSeenAlike ps qs) (limit extent : ℕ) where
  run-alike : (base : ℕ) → IsRun ps limit extent base → IsRun qs limit extent base
  run-alike base run = record {
    page = run.page;
    from = run.from;
    to = run.to;
    vacant = sym (is_vacant-alike ps qs alike base extent) ∙ run.vacant;
  }

  cell-alike : (family : Family) (base : ℕ) → IsFreeCell ps limit family extent base
      → IsFreeCell qs limit family extent base
  cell-alike family base cell = record {
    page = cell.page;
    cell = cell.cell;
    at = cell.at;
    from = cell.from;
    below = cell.below;
    whole = cell.whole;
    of_page = sym (alike _) ∙ cell.of_page;
    vacant = sym (is_vacant-alike ps qs alike base extent) ∙ cell.vacant;
  }

module _ (pieces : List Piece) (limit : ℕ) (family : Family) (bytes : ℕ) (found : Option ℕ) where
  abbrev live : List Piece
  live = live_pieces (state_of pieces)

  to_live : AreSeenAlike pieces (live_pieces (state_of pieces))
  to_live test = sym (lives-alike pieces test)

  -- a cell goes to the lowest free cell, or else to the lowest free page
  pub cell_goes-among : bytes ≤ 2048
      → IsPreferred (IsFreeCell pieces limit family (slice_index class_sizes (class_index bytes)))
      (IsRun pieces limit 4096) found → place_among pieces limit family (size_of bytes) ≡ found
  cell_goes-among small preferred =
      let class : ℕ = slice_index class_sizes (class_index bytes) in
      let extent : extent_of bytes ≡ class = ap extent_of_size (size_of-small bytes small) in
      let there : IsPreferred (IsFreeCell live limit family class) (IsRun live limit 4096) found =
      preferred-like (IsFreeCell pieces limit family class) (IsFreeCell live limit family class)
      (IsRun pieces limit 4096) (IsRun live limit 4096) (cell-alike pieces live to_live limit class family)
      (cell-alike live pieces (lives-alike pieces) limit class family) (run-alike pieces live to_live limit 4096)
      (run-alike live pieces (lives-alike pieces) limit 4096) found preferred in
      sym (place_among-alike live pieces (lives-alike pieces) limit family (size_of bytes))
      ∙ (cells_go_lowest (state_of pieces) limit family bytes found small).1
      (subst (λ (n : ℕ). IsPreferred (IsFreeCell live limit family n) (IsRun live limit 4096) found) (sym extent) there)

  -- whole pages go to the lowest free ones
  pub pages_go-among : 2048 < bytes → IsLowestOf (IsRun pieces limit (4096 * ((bytes + 4095) / 4096))) found
      → place_among pieces limit family (size_of bytes) ≡ found
  pages_go-among large lowest =
      let count : ℕ = (bytes + 4095) / 4096 in
      let extent : extent_of bytes ≡ 4096 * count = ap extent_of_size (size_of-large bytes large) in
      let there : IsLowestOf (IsRun live limit (4096 * count)) found =
      lowest_of-like (IsRun pieces limit (4096 * count)) (IsRun live limit (4096 * count))
      (run-alike pieces live to_live limit (4096 * count))
      (run-alike live pieces (lives-alike pieces) limit (4096 * count)) found lowest in
      sym (place_among-alike live pieces (lives-alike pieces) limit family (size_of bytes))
      ∙ (pages_go_lowest (state_of pieces) limit family bytes found large).1
      (subst (λ (n : ℕ). IsLowestOf (IsRun live limit n) found) (sym extent) there)
