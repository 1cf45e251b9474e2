-- A new area keeps a state good: it gets a number that is free and a place that was found, and its cells are 0.
use Rattle.std.proofs.Common.{◌≡◌, ℕ, suc, ◌+◌, ◌<◌, ◌≤◌, Bool, true, false, not, cond, eqb-true, List, [], ◌∷◌, ◌++◌}
use Rattle.std.proofs.Common.{map, length, take, replicate, Option, Some, None, refl, sym, ap, ◌∙◌, subst, ⊎_elim, inl}
use Rattle.std.proofs.Common.{inr, arith}
use Rattle.std.proofs.lemmas.Bool.{eq-eqb, cases_lt}
use Rattle.std.proofs.lemmas.Bool.Decides.{nat_tests}
use Rattle.std.proofs.lemmas.List.Sums.{sum_by-cons}
use Rattle.std.specs.Prelude.{IsTrue, is_some, unwrap_or, slice_get, nat_lt, ◌==◌, ◌||◌}
use Rattle.std.specs.List.{AllByRecursion, find, sum_by}
use Rattle.mm_model.specs.Value.{integer}
use Rattle.mm_model.specs.Object.{live_objects}
use Rattle.mm_model.specs.Places.SizeClass.{size_of, area_bytes}
use Rattle.mm_model.specs.State.{State, Area}
use Rattle.mm_model.specs.Words.{cell_kind, if_scanned, counted_cells}
use Rattle.mm_model.specs.Count.{refs, names_counted}
use Rattle.mm_model.specs.Areas.{most_areas, free_number, new_area, area_inserted, with_area}
use Rattle.mm_model.specs.Phase.{IsAscending}
use Rattle.mm_model.specs.Places.Place.{Piece, Areas, object_piece, area_piece, live_pieces, first_from, place_of}
use Rattle.mm_model.specs.Refusing.{are_areas_full}
use Rattle.mm_model.specs.Good.{IsInside, AreApart, AreAllApart, IsPlaced, IsStored, is_tight, IsAreaShaped}
use Rattle.mm_model.specs.Good.{AreNumbered, IsGood}
use Rattle.mm_model.proofs.Good.Making.Births.{IsZero, zero_words, zero_value, size_of-IsSize, goes-weaker}
use Rattle.mm_model.proofs.Good.Writing.CountedWords.{count_in, refs-sum}
use Rattle.mm_model.proofs.Lists.Keyed.{refuted}
use Rattle.mm_model.proofs.Lists.Growing.{count-none}
use Rattle.mm_model.proofs.Good.Living.{each_get, each_before, each_after, each_append, lives_from_page_1}
use Rattle.mm_model.proofs.Good.OtherAreas.{numbers, IsFit, good_areas_fit, with_areas, lives_before, sound-areas}
use Rattle.mm_model.proofs.Good.OtherAreas.{few-areas, each_map, each_from_map}
use Rattle.mm_model.proofs.Places.Placing.{Goes, place_goes, each_weaker}
use Rattle.mm_model.proofs.Good.Writing.Sticking.{sound_is_good}
use Rattle.mm_model.proofs.Lists.Tests.{first_from-Some, first_from-None}

abbrev numbered_as : ℕ → Area → Bool
numbered_as number area = area.number == number

find-above : (number : ℕ) (areas : List Area) → AllByRecursion (λ next. number < next) (numbers areas)
    → find (numbered_as number) areas ≡ None
find-above number [] h = refl
find-above number (area ∷ areas) h =
    let above = h.0 in
    let other : (area.number == number) ≡ false =
    refuted (area.number == number)
    (λ e. let same : area.number ≡ number = eqb-true _ _ e in absurd (omega arith)) in
    ap (λ b. cond b (Some area) (find (numbered_as number) areas)) other ∙ find-above number areas h.1

find-none : (number : ℕ) (areas : List Area) → find (numbered_as number) areas ≡ None
    → AllByRecursion (λ area. area.number ≡ number → ⊥) areas
find-none number [] e = tt
find-none number (area ∷ areas) e =
    let rest = find-none number areas in
    let split : (b : Bool) → (area.number == number) ≡ b
    → ◌≡◌ {A = Option Area} (cond b (Some area) (find (numbered_as number) areas)) None
    → AllByRecursion (λ area. area.number ≡ number → ⊥) (area ∷ areas) =
    elim [
      | true ↦ λ p q. cc
      | false ↦ λ p q. ((λ same. clash (sym p ∙ eq-eqb _ _ same)), rest q)
    ] in
    split (area.number == number) refl e
  where
    clash : false ≡ true → ⊥
    clash p = cc

-- where each number from low to below the limit is taken, there are so many areas
all_taken : (areas : List Area) (low limit : ℕ) → low ≤ limit → IsAscending (numbers areas)
    → AllByRecursion (λ n. low ≤ n) (numbers areas) → AllByRecursion (λ n. n < limit) (numbers areas)
    → ((k : ℕ) → low ≤ k → k < limit → is_some (find (numbered_as k) areas) ≡ true) → low + length areas ≡ limit
all_taken [] low limit l up above below taken =
    ⊎_elim (λ (less : low < limit). let none = taken low (omega arith) less in cc)
    (λ (past : limit ≤ low). omega arith) (cases_lt low limit)
all_taken (x ∷ xs) low limit l up above below taken =
    let least = above.0 in
    let most = below.0 in
    let later : AllByRecursion (λ next. low < next) (numbers xs) =
    each_weaker (λ next. x.number < next) (λ next. low < next) (λ n less. omega arith) (numbers xs) up.0 in
    let first : is_some (cond (x.number == low) (Some x) (find (numbered_as low) xs)) ≡ true =
    taken low (omega arith) (omega arith) in
    let here : x.number ≡ low = split (x.number == low) refl (find-above low xs later) first in
    let rest = all_taken xs (low + 1) limit (omega arith) up.1
    (each_weaker (λ next. low < next) (λ n. low + 1 ≤ n) (λ n less. omega arith) (numbers xs) later) below.1
    (λ k from to.
    let other : (x.number == k) ≡ false =
    refuted (x.number == k) (λ e. let same : x.number ≡ k = eqb-true _ _ e in absurd (omega arith)) in
    ap (λ b. is_some (cond b (Some x) (find (numbered_as k) xs))) (sym other) ∙ taken k (omega arith) to) in
    omega arith
  where
    split : (b : Bool) → (x.number == low) ≡ b → find (numbered_as low) xs ≡ None
        → is_some (cond b (Some x) (find (numbered_as low) xs)) ≡ true → x.number ≡ low
    split true p none some = eqb-true _ _ p
    split false p none some = let no = ap is_some none in cc

-- a number that no area has
record IsFree (areas : List Area) (most number : ℕ) : Type 0 where
  below : number < most
  others : AllByRecursion (λ area. area.number ≡ number → ⊥) areas

free_below : (areas : List Area) (most : ℕ) → IsAscending (numbers areas)
    → AllByRecursion (λ area. area.number < most) areas → (length areas ≡ most → ⊥) → (found : Option ℕ)
    → first_from (λ number. not (is_some (find (numbered_as number) areas))) 0 most ≡ found
    → IsFree areas most (unwrap_or found most)
free_below areas most up below room None e =
    absurd (room (whole (all_taken areas 0 most (omega arith) up
    (each_from_map (λ n. 0 ≤ n) (λ (x : Area). x.number) areas
    (each_weaker (λ x. x.number < most) (λ x. 0 ≤ x.number) (λ x less. omega arith) areas below))
    (each_from_map (λ n. n < most) (λ (x : Area). x.number) areas below)
    (λ k from to.
    not_false (is_some (find (numbered_as k) areas))
    (first_from-None (λ number. not (is_some (find (numbered_as number) areas))) 0 most e k from (omega arith))))))
  where
    whole : 0 + length areas ≡ most → length areas ≡ most
    whole e = omega arith

    not_false : (b : Bool) → not b ≡ false → b ≡ true
    not_false true e = refl
    not_false false e = cc
free_below areas most up below room (Some n) e =
    let first = first_from-Some (λ number. not (is_some (find (numbered_as number) areas))) 0 most n e in
    let less = first.below in
    record {
      below = omega arith;
      others = find-none n areas (none (find (numbered_as n) areas) first.passes);
    }
  where
    none : (found : Option Area) → not (is_some found) ≡ true → found ≡ None
    none None p = refl
    none (Some x) p = cc

-- what is so of each area and of the new one
each_inserted : (P : Area → Type 0) (new : Area) (areas : List Area) → AllByRecursion P areas → P new
    → AllByRecursion P (area_inserted new areas)
each_inserted P new [] h p = (p, tt)
each_inserted P new (area ∷ areas) h p =
    let rest = each_inserted P new areas h.1 p in
    let split : (b : Bool) → AllByRecursion P (cond b (new ∷ area ∷ areas) (area ∷ area_inserted new areas)) =
    elim [ true ↦ (p, h) | false ↦ (h.0, rest) ] in
    split (nat_lt new.number area.number)

each_map-inserted : {Y : Type 0} (P : Y → Type 0) (f : Area → Y) (new : Area) (areas : List Area)
    → AllByRecursion P (map f areas) → P (f new) → AllByRecursion P (map f (area_inserted new areas))
each_map-inserted P f new areas h p =
    each_from_map P f (area_inserted new areas) (each_inserted (λ x. P (f x)) new areas (each_map P f areas h) p)

ascending-inserted : (new : Area) (areas : List Area) → IsAscending (numbers areas)
    → AllByRecursion (λ area. area.number ≡ new.number → ⊥) areas → IsAscending (numbers (area_inserted new areas))
ascending-inserted new [] up others = (tt, tt)
ascending-inserted new (area ∷ areas) up others =
    let rest = ascending-inserted new areas up.1 others.1 in
    let split : (b : Bool) → nat_lt new.number area.number ≡ b
    → IsAscending (numbers (cond b (new ∷ area ∷ areas) (area ∷ area_inserted new areas))) =
    elim [
      | true ↦ λ e.
          let less : new.number < area.number = grind (arith, nat_tests) in (
            (
              less,
              each_weaker (λ next. area.number < next) (λ next. new.number < next) (λ n above. omega arith)
                  (numbers areas) up.0,
            ),
            up,
          )
      | false ↦ λ e.
          let past : area.number ≤ new.number = grind (arith, nat_tests) in
          let less : area.number < new.number = strictly area.number new.number past others.0 in
          (each_map-inserted (λ next. area.number < next) (λ (x : Area). x.number) new areas up.0 less, rest)
    ] in
    split (nat_lt new.number area.number) refl
  where
    strictly : (m n : ℕ) → m ≤ n → (m ≡ n → ⊥) → m < n
    strictly m n l other =
        ⊎_elim (λ (less : m < n). less) (λ (past : n ≤ m). absurd (other (omega arith))) (cases_lt m n)

sum-inserted : (f : Area → ℕ) (new : Area) (areas : List Area)
    → sum_by f (area_inserted new areas) ≡ f new + sum_by f areas
sum-inserted f new [] = sum_by-cons f new []
sum-inserted f new (area ∷ areas) =
    let rest = sum-inserted f new areas in
    let first = sum_by-cons f new (area ∷ areas) in
    let own = sum_by-cons f area areas in
    let later = sum_by-cons f area (area_inserted new areas) in
    let split : (b : Bool) → sum_by f (cond b (new ∷ area ∷ areas) (area ∷ area_inserted new areas))
    ≡ f new + sum_by f (area ∷ areas) =
    elim [ true ↦ first | false ↦ omega arith ] in
    split (nat_lt new.number area.number)

pub apart-sym : (p q : Piece) → AreApart p q → AreApart q p
apart-sym p q h =
    record {
      disjoint = ⊎_elim (λ (l : p.base + p.extent ≤ q.base). inr l) (λ (r : q.base + q.extent ≤ p.base). inl r)
          h.disjoint;
      alike = λ page here there. let same = h.alike page there here in (sym same.0, sym same.1);
    }

apart-inserted : (new : Area) (areas : List Area) (ps : List Piece) → AreAllApart (map area_piece areas ++ ps)
    → AllByRecursion (λ p. AreApart p (area_piece new)) (map area_piece areas ++ ps)
    → AreAllApart (map area_piece (area_inserted new areas) ++ ps)
apart-inserted new [] ps h apart =
    let swapped = each_weaker (λ p. AreApart p (area_piece new)) (AreApart (area_piece new))
    (λ p. apart-sym p (area_piece new)) ps apart in
    (swapped, h)
apart-inserted new (area ∷ areas) ps h apart =
    let rest = apart-inserted new areas ps h.1 apart.1 in
    let front = map area_piece areas in
    let swapped = each_weaker (λ p. AreApart p (area_piece new)) (AreApart (area_piece new))
    (λ p. apart-sym p (area_piece new)) (map area_piece (area ∷ areas) ++ ps) apart in
    let others = each_append (AreApart (area_piece area)) (map area_piece (area_inserted new areas)) ps
    (each_map-inserted (AreApart (area_piece area)) area_piece new areas
    (each_before (AreApart (area_piece area)) front ps h.0) apart.0)
    (each_after (AreApart (area_piece area)) front ps h.0) in
    let split : (b : Bool)
    → AreAllApart (map area_piece (cond b (new ∷ area ∷ areas) (area ∷ area_inserted new areas)) ++ ps) =
    elim [ true ↦ (swapped, h) | false ↦ (others, rest) ] in
    split (nat_lt new.number area.number)

module _ (a : State) (scanned : Bool) (counted cells limit base : ℕ) (good : IsGood a) (within : limit ≤ a.settings.max)
    (room : are_areas_full a ≡ false) (found : place_of a limit Areas (area_bytes cells) ≡ Some base)
    (shaped : IsAreaShaped (new_area (free_number a) base scanned counted cells)) where
  abbrev new : Area
  new = new_area (free_number a) base scanned counted cells

  abbrev areas : List Area
  areas = area_inserted new a.areas

  abbrev after : State
  after = with_areas a areas

  free : IsFree a.areas most_areas (free_number a)
  free =
      free_below a.areas most_areas good.numbered.ascending good.numbered.below
      (λ e. clash (sym room ∙ eq-eqb _ _ e)) _ refl
    where
      clash : false ≡ true → ⊥
      clash p = cc

  goes : Goes a.settings.max (live_pieces a) (area_piece new)
  goes =
      let size = size_of (area_bytes cells) in
      goes-weaker limit a.settings.max (live_pieces a) (area_piece new) within
      (place_goes limit (live_pieces a) Areas size base (size_of-IsSize (area_bytes cells)) good.placed.apart found)

  placed : IsPlaced a.settings.max (live_pieces after)
  placed =
      let front = map area_piece a.areas in
      let objects = map object_piece (live_objects a.objects) in
      let P : Piece → Type 0 = IsInside a.settings.max in
      record {
        inside = each_append P (map area_piece areas) objects
            (each_map-inserted P area_piece new a.areas (each_before P front objects good.placed.inside) goes.inside)
            (each_after P front objects good.placed.inside);
        apart = apart-inserted new a.areas objects good.placed.apart goes.apart;
      }

  numbered : AreNumbered areas
  numbered =
      record {
        ascending = ascending-inserted new a.areas good.numbered.ascending free.others;
        below = each_inserted (λ area. area.number < most_areas) new a.areas good.numbered.below free.below;
      }

  zeros : AllByRecursion IsZero (counted_cells new)
  zeros = split scanned
    where
      split : (b : Bool) → AllByRecursion IsZero (if_scanned b (take counted (replicate cells (integer 0))))
      split true = zero_words counted cells
      split false = tt

  new_fits : IsFit a new
  new_fits =
      record {
        shaped = shaped;
        cells = λ s value e.
            subst (IsStored a (cell_kind new s)) (sym (zero_value cells s value e))
            (record { refers = tt; kept = refl });
        tight = each_weaker IsZero (λ word. IsTrue (is_tight a word))
            (λ word e. ap (λ n. n == 0 || names_counted a n) e) (counted_cells new) zeros;
      }

  areas_fit : (n : ℕ) (area : Area) → slice_get areas n ≡ Some area → IsFit a area
  areas_fit n area is =
      each_get (IsFit a) areas n area
      (each_inserted (IsFit a) new a.areas (from_get a.areas (good_areas_fit a good)) new_fits) is
    where
      from_get : (xs : List Area) → ((n : ℕ) (x : Area) → slice_get xs n ≡ Some x → IsFit a x)
          → AllByRecursion (IsFit a) xs
      from_get [] h = tt
      from_get (x ∷ xs) h = (h 0 x refl, from_get xs (λ n. h (suc n)))

  refs-made : (x : ℕ) → 4096 ≤ x → refs after x ≤ refs a x
  refs-made x low =
      let before = refs-sum a x in
      let then = refs-sum after x in
      let more = sum-inserted (λ area. count_in x (counted_cells area)) new a.areas in
      let none : count_in x (counted_cells new) ≡ 0 =
      count-none x (counted_cells new)
      (each_weaker IsZero (λ w. w ≡ x → ⊥) (λ w e same. omega arith) (counted_cells new) zeros) in
      omega arith

  -- a new area keeps a state good
  pub area_made_is_good : IsGood (with_area (new_area (free_number a) base scanned counted cells) a)
  area_made_is_good =
      sound_is_good after (sound-areas a areas good placed numbered areas_fit)
      (λ birth object h is free any.
      few-areas a areas good (λ x. 4096 ≤ x) refs-made birth object h is free
      (lives_from_page_1 a good.placed birth object (lives_before a areas birth object h)))
