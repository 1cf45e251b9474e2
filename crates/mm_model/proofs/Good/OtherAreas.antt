-- A good state stays sound with other areas that fit it, and good with fewer of its areas.
use Rattle.std.proofs.Common.{◌≡◌, ℕ, ◌<◌, ◌≤◌, Bool, true, false, not, cond, List, [], ◌∷◌, ◌++◌, map, take, Some}
use Rattle.std.proofs.Common.{refl, arith}
use Rattle.std.proofs.lemmas.List.Sums.{sum_by-cons}
use Rattle.std.specs.Prelude.{IsTrue, slice_get, ◌==◌}
use Rattle.std.specs.List.{AllByRecursion, filter, sum_by}
use Rattle.mm_model.specs.Value.{Value}
use Rattle.mm_model.specs.Object.{Object, live_objects}
use Rattle.mm_model.specs.State.{State, Area, Cycle, Lives}
use Rattle.mm_model.specs.Words.{slot_kind, cell_kind, scanned_slots, counted_cells}
use Rattle.mm_model.specs.Count.{refs}
use Rattle.mm_model.specs.Areas.{most_areas, without_area}
use Rattle.mm_model.specs.Phase.{IsAscending}
use Rattle.mm_model.specs.Places.Place.{Piece, object_piece, area_piece, live_pieces}
use Rattle.mm_model.specs.Good.{IsInside, AreApart, AreAllApart, IsPlaced, IsStored, is_tight, IsPaired, NamesNoWhite}
use Rattle.mm_model.specs.Good.{IsPartlyScanned, IsColoured, IsAreaShaped, AreNumbered, IsGood}
use Rattle.mm_model.proofs.Good.Around.{if_some-weaker}
use Rattle.mm_model.proofs.Good.Writing.CountedWords.{count_in, get-filter, each_counted_slot, each_counted_cell}
use Rattle.mm_model.proofs.Good.Writing.CountedWords.{each_counted_word, refs-sum}
use Rattle.mm_model.proofs.Good.Living.{each_before, each_after, each_append}
use Rattle.mm_model.proofs.Good.References.{Keeps, is_stored-kept, each_referring-kept}
use Rattle.mm_model.proofs.Good.Writing.Sticking.{IsSound, AreFew, sound_is_good}

abbrev pub numbers : List Area → List ℕ
numbers areas = map (λ area. area.number) areas

-- an area whose shape and cells a state allows
pub record IsFit (a : State) (area : Area) : Type 0 where
  pub shaped : IsAreaShaped area
  pub cells : (s : ℕ) (value : Value) → slice_get area.cells s ≡ Some value → IsStored a (cell_kind area s) value
  pub tight : AllByRecursion (λ word. IsTrue (is_tight a word)) (counted_cells area)

pub good_areas_fit : (a : State) → IsGood a → (n : ℕ) (area : Area) → slice_get a.areas n ≡ Some area → IsFit a area
good_areas_fit a good n area is =
    record {
      shaped = good.areas_shaped n area is;
      cells = good.referred.cells n area is;
      tight = each_counted_cell (λ word. IsTrue (is_tight a word)) a good.tight n area is;
    }

module _ (a : State) (areas : List Area) where
  abbrev pub with_areas : State
  with_areas = record a { areas = areas }

  lives-areas : (birth : ℕ) (object : Object) → Lives a birth object → Lives with_areas birth object
  lives-areas birth object h = record { is = h.is; live = h.live }

  pub lives_before : (birth : ℕ) (object : Object) → Lives with_areas birth object → Lives a birth object
  lives_before birth object h = record { is = h.is; live = h.live }

  keeps-areas : Keeps a with_areas
  keeps-areas birth object h =
      record { after = object; lives = lives-areas birth object h; base = refl; extent = refl; kind = refl }

  no_white-areas : (cycle : Cycle) (words : List ℕ) → NamesNoWhite a cycle words → NamesNoWhite with_areas cycle words
  no_white-areas cycle words h birth object lives = h birth object (lives_before birth object lives)

  coloured-areas : (cycle : Cycle) → IsColoured a cycle → IsColoured with_areas cycle
  coloured-areas cycle h =
      record {
        each = h.each;
        black = λ birth object lives black.
            no_white-areas cycle (scanned_slots object) (h.black birth object (lives_before birth object lives) black);
        partly_scanned = if_some-weaker (IsPartlyScanned a cycle) (IsPartlyScanned with_areas cycle)
            (λ partly_scanned p.
            record {
              object = p.object;
              lives = lives-areas partly_scanned.object p.object p.lives;
              gray = p.gray;
              some_done = p.some_done;
              some_left = p.some_left;
              names = no_white-areas cycle (take partly_scanned.slots_done (scanned_slots p.object)) p.names;
            }) cycle.partly_scanned h.partly_scanned;
      }

  module _ (good : IsGood a) where
    pub sound-areas : IsPlaced a.settings.max (live_pieces with_areas) → AreNumbered areas
        → ((n : ℕ) (area : Area) → slice_get areas n ≡ Some area → IsFit a area) → IsSound with_areas
    sound-areas placed numbered fit =
        record {
          growing = good.growing;
          placed = placed;
          shaped = λ birth object h. good.shaped birth object (lives_before birth object h);
          areas_shaped = λ n area is. (fit n area is).shaped;
          numbered = numbered;
          referred = record {
            stack = each_referring-kept a with_areas keeps-areas a.stack good.referred.stack;
            slots = λ birth object h s value e.
                is_stored-kept a with_areas keeps-areas (slot_kind object s) value
                (good.referred.slots birth object (lives_before birth object h) s value e);
            cells = λ n area is s value e.
                is_stored-kept a with_areas keeps-areas (cell_kind area s) value ((fit n area is).cells s value e);
          };
          tight = each_counted_word (λ word. IsTrue (is_tight a word)) with_areas
              (λ birth object h.
              each_counted_slot (λ word. IsTrue (is_tight a word)) a good.tight birth object
              (lives_before birth object h))
              (λ n area is. (fit n area is).tight);
          paired = λ birth object h.
              if_some-weaker (IsPaired a birth object) (IsPaired with_areas birth object)
              (λ other p.
              record {
                partner = p.partner;
                lives = lives-areas other p.partner p.lives;
                back = p.back;
                one_weak = p.one_weak;
              })
              object.partner (good.paired birth object (lives_before birth object h));
          coloured = if_some-weaker (IsColoured a) (IsColoured with_areas) coloured-areas a.cycle good.coloured;
        }

    -- where no count has risen, few places hold what isn't sticky
    pub few-areas : (Where : ℕ → Type 0) → ((base : ℕ) → Where base → refs with_areas base ≤ refs a base)
        → AreFew with_areas Where
    few-areas Where no_more birth object h counted free there =
        let less = no_more object.base there in
        let most = good.counted birth object (lives_before birth object h) counted free in
        omega arith

-- what holds of each image, and of each element through the function
pub each_from_map : {X Y : Type 0} (P : Y → Type 0) (f : X → Y) (xs : List X) → AllByRecursion (λ x. P (f x)) xs
    → AllByRecursion P (map f xs)
each_from_map P f [] h = tt
each_from_map P f (x ∷ xs) h = (h.0, each_from_map P f xs h.1)

pub each_map : {X Y : Type 0} (P : Y → Type 0) (f : X → Y) (xs : List X) → AllByRecursion P (map f xs)
    → AllByRecursion (λ x. P (f x)) xs
each_map P f [] h = tt
each_map P f (x ∷ xs) h = (h.0, each_map P f xs h.1)

each-filter : {X : Type 0} (P : X → Type 0) (test : X → Bool) (xs : List X) → AllByRecursion P xs
    → AllByRecursion P (filter test xs)
each-filter P test [] h = tt
each-filter P test (x ∷ xs) h =
    let rest = each-filter P test xs h.1 in
    let split : (b : Bool) → AllByRecursion P (cond b (x ∷ filter test xs) (filter test xs)) =
    elim [ true ↦ (h.0, rest) | false ↦ rest ] in
    split (test x)

each_map-filter : {X Y : Type 0} (P : Y → Type 0) (f : X → Y) (test : X → Bool) (xs : List X)
    → AllByRecursion P (map f xs) → AllByRecursion P (map f (filter test xs))
each_map-filter P f test xs h =
    each_from_map P f (filter test xs) (each-filter (λ x. P (f x)) test xs (each_map P f xs h))

-- the same before other elements
each_front-filter : {X Y : Type 0} (P : Y → Type 0) (f : X → Y) (test : X → Bool) (xs : List X) (ys : List Y)
    → AllByRecursion P (map f xs ++ ys) → AllByRecursion P (map f (filter test xs) ++ ys)
each_front-filter P f test xs ys h =
    each_append P (map f (filter test xs)) ys (each_map-filter P f test xs (each_before P (map f xs) ys h))
    (each_after P (map f xs) ys h)

all_apart-filter : {X : Type 0} (f : X → Piece) (test : X → Bool) (xs : List X) (ps : List Piece)
    → AreAllApart (map f xs ++ ps) → AreAllApart (map f (filter test xs) ++ ps)
all_apart-filter f test [] ps h = h
all_apart-filter f test (x ∷ xs) ps h =
    let rest = all_apart-filter f test xs ps h.1 in
    let others = each_front-filter (AreApart (f x)) f test xs ps h.0 in
    let split : (b : Bool) → AreAllApart (map f (cond b (x ∷ filter test xs) (filter test xs)) ++ ps) =
    elim [ true ↦ (others, rest) | false ↦ rest ] in
    split (test x)

ascending-filter : {X : Type 0} (f : X → ℕ) (test : X → Bool) (xs : List X) → IsAscending (map f xs)
    → IsAscending (map f (filter test xs))
ascending-filter f test [] h = tt
ascending-filter f test (x ∷ xs) h =
    let rest = ascending-filter f test xs h.1 in
    let others = each_map-filter (λ next. f x < next) f test xs h.0 in
    let split : (b : Bool) → IsAscending (map f (cond b (x ∷ filter test xs) (filter test xs))) =
    elim [ true ↦ (others, rest) | false ↦ rest ] in
    split (test x)

sum-filter : {X : Type 0} (f : X → ℕ) (test : X → Bool) (xs : List X) → sum_by f (filter test xs) ≤ sum_by f xs
sum-filter f test [] = omega arith
sum-filter f test (x ∷ xs) =
    let rest = sum-filter f test xs in
    let whole = sum_by-cons f x xs in
    let own = sum_by-cons f x (filter test xs) in
    let split : (b : Bool) → sum_by f (cond b (x ∷ filter test xs) (filter test xs)) ≤ sum_by f (x ∷ xs) =
    elim [ true ↦ omega arith | false ↦ omega arith ] in
    split (test x)

-- an area that goes leaves a good state
pub dropped_is_good : (a : State) (number : ℕ) → IsGood a → IsGood (without_area number a)
dropped_is_good a number good =
    let test : Area → Bool = λ area. not (area.number == number) in
    let areas = filter test a.areas in
    let b = with_areas a areas in
    let objects = map object_piece (live_objects a.objects) in
    let placed : IsPlaced a.settings.max (live_pieces b) =
    record {
      inside = each_front-filter (IsInside a.settings.max) area_piece test a.areas objects good.placed.inside;
      apart = all_apart-filter area_piece test a.areas objects good.placed.apart;
    } in
    let numbered : AreNumbered areas =
    record {
      ascending = ascending-filter (λ (area : Area). area.number) test a.areas good.numbered.ascending;
      below = each-filter (λ (area : Area). area.number < most_areas) test a.areas good.numbered.below;
    } in
    let sound = sound-areas a areas good placed numbered
    (λ n area is. let from = get-filter test a.areas n area is in good_areas_fit a good from.0 area from.1) in
    sound_is_good b sound
    (few-areas a areas good (λ base. Unit {0})
    (λ base any.
    let before = refs-sum a base in
    let after = refs-sum b base in
    let less = sum-filter (λ (area : Area). count_in base (counted_cells area)) test a.areas in
    omega arith))
