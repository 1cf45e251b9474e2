-- The place that is found is the lowest one that there is, and a piece fits there.
use Rattle.std.proofs.Common.{◌≡◌, ℕ, suc, ◌+◌, ◌-◌, ◌*◌, ◌/◌, ◌%◌, ◌<◌, ◌≤◌, Bool, true, false, ◌||◌, cond, List, []}
use Rattle.std.proofs.Common.{◌∷◌, Option, Some, None, refl, sym, ap, ◌∙◌, subst, ⊎_elim, arith}
use Rattle.std.proofs.lemmas.Bool.{cases_lt}
use Rattle.std.proofs.lemmas.Bool.Decides.{nat_tests}
use Rattle.std.proofs.lemmas.Nat.{le-div}
use Rattle.std.proofs.Math.Nat.{mul-le-mul_right, suc-mul, div-mul-le_self}
use Rattle.std.specs.Prelude.{◌↔◌, nat_le, is_some, slice_index}
use Rattle.std.specs.List.{list_any, AllByRecursion, Contains}
use Rattle.std.specs.Option.{option_map}
use Rattle.mm_model.specs.declared.object.Size.{Size}
use Rattle.mm_model.specs.declared.object.Size.TheVariants.{Small, Pages}
use Rattle.mm_model.specs.Places.SizeClass.{class_sizes, class_index, size_of, extent_of_size, extent_of}
use Rattle.mm_model.specs.State.{State}
use Rattle.mm_model.specs.Places.Place.{Family, Piece, overlaps, live_pieces, first_from, is_vacant, is_page_of}
use Rattle.mm_model.specs.Places.Place.{free_cell}
use Rattle.mm_model.specs.Places.Place.{has_room, cell_place, place_among, place_of}
use Rattle.mm_model.specs.Good.{AreApart, IsPlaced}
use Rattle.mm_model.proofs.Lists.Tests.{first_from-Some, first_from-None}
use Rattle.mm_model.proofs.Places.SizeClasses.{class_bounds, class_of_small, class_fits}
use Rattle.mm_model.proofs.Places.Placing.{mapped, both, IsSize, place_goes}
use Rattle.mm_model.specs.Places.Lowest.{piece_of, IsFreeFor, IsRun, IsFreeCell, IsNowhere, IsLowest, IsLowestOf}
use Rattle.mm_model.specs.Places.Lowest.{IsPreferred}
use Rattle.mm_model.specs.Places.Lowest.{Of_first, Of_second}
use Rattle.mm_model.proofs.Lists.Truth.{together, not-false, no_other}

-- nothing was found through a function
unmapped : (f : ℕ → ℕ) (found : Option ℕ) → option_map f found ≡ None → found ≡ None
unmapped f None e = refl
unmapped f (Some x) e = cc

-- what is lowest is one thing
module _ (Place : ℕ → Type 0) where
  lowest-same : (b c : ℕ) → IsLowest Place b → IsLowest Place c → b ≡ c
  lowest-same b c p q =
      let one = p.least c q.is in
      let other = q.least b p.is in
      omega arith

  lowest_of-same : (x y : Option ℕ) → IsLowestOf Place x → IsLowestOf Place y → x ≡ y
  lowest_of-same None None p q = refl
  lowest_of-same None (Some c) p q = absurd (p c q.is)
  lowest_of-same (Some b) None p q = absurd (q b p.is)
  lowest_of-same (Some b) (Some c) p q = ap (λ (n : ℕ). Some n) (lowest-same b c p q)

preferred-same : (First Second : ℕ → Type 0) (x y : Option ℕ) → IsPreferred First Second x
    → IsPreferred First Second y → x ≡ y
preferred-same First Second x y (Of_first b e p) (Of_first c f q) =
    e ∙ ap (λ (n : ℕ). Some n) (lowest-same First b c p q) ∙ sym f
preferred-same First Second x y (Of_first b e p) (Of_second none q) = absurd (none b p.is)
preferred-same First Second x y (Of_second none p) (Of_first c f q) = absurd (none c q.is)
preferred-same First Second x y (Of_second none p) (Of_second other q) = lowest_of-same Second x y p q

module _ (pieces : List Piece) (limit : ℕ) where
  -- whole pages
  module _ (count : ℕ) where
    abbrev is_free_run : ℕ → Bool
    is_free_run page = is_vacant pieces (4096 * page) (4096 * count)

    abbrev lowest_run : Option ℕ
    lowest_run = option_map (λ page. 4096 * page) (first_from is_free_run 1 (limit - count))

    abbrev IsFreeRun : ℕ → Type 0
    IsFreeRun base = IsRun pieces limit (4096 * count) base

    -- where the search meets a run
    record IsMet (base : ℕ) : Type 0 where
      page : ℕ
      at : 4096 * page ≡ base
      from : 1 ≤ page
      below : page < 1 + (limit - count)
      free : is_free_run page ≡ true

    met : (base : ℕ) → IsFreeRun base → IsMet base
    met base run =
        let whole : base % 4096 ≡ 0 = run.page in
        let first : 4096 ≤ base = run.from in
        let last : base + 4096 * count ≤ 4096 * limit = run.to in
        let at : 4096 * (base / 4096) ≡ base = omega arith in
        record {
          page = base / 4096;
          at = at;
          from = omega arith;
          below = omega arith;
          free = subst (λ low. is_vacant pieces low (4096 * count) ≡ true) (sym at) run.vacant;
        }

    lowest_run-Some : (base : ℕ) → lowest_run ≡ Some base → IsLowest IsFreeRun base
    lowest_run-Some base e =
        let found = mapped (λ page. 4096 * page) (first_from is_free_run 1 (limit - count)) base e in
        let page = found.from in
        let first = first_from-Some is_free_run 1 (limit - count) page found.is in
        let lowest : IsLowest IsFreeRun (4096 * page) =
        record {
          is = record { page = omega arith; from = omega arith; to = omega arith; vacant = first.passes };
          least = λ other run.
              let at = met other run in
              ⊎_elim
              (λ (l : at.page < page). absurd (no_other (first.none_before at.page at.from l) at.free))
              (λ (l : page ≤ at.page). omega arith) (cases_lt at.page page);
        } in
        subst (IsLowest IsFreeRun) found.to lowest

    lowest_run-None : lowest_run ≡ None → IsNowhere IsFreeRun
    lowest_run-None e base run =
        let at = met base run in
        no_other (first_from-None is_free_run 1 (limit - count)
        (unmapped (λ page. 4096 * page) (first_from is_free_run 1 (limit - count)) e) at.page at.from at.below) at.free

    lowest_run-is : IsLowestOf IsFreeRun lowest_run
    lowest_run-is =
        let split : (o : Option ℕ) → lowest_run ≡ o → IsLowestOf IsFreeRun o =
        elim [ None ↦ λ e. lowest_run-None e | Some base ↦ λ e. lowest_run-Some base e ] in
        split lowest_run refl

  -- cells of one class and family
  module _ (family : Family) (extent : ℕ) (known : Contains class_sizes extent) where
    abbrev IsCellHere : ℕ → Type 0
    IsCellHere base = IsFreeCell pieces limit family extent base

    abbrev is_free_at : ℕ → ℕ → Bool
    is_free_at page m = is_vacant pieces (4096 * page + m * extent) extent

    abbrev room : ℕ → Bool
    room = has_room pieces family extent

    is_some-free_cell : (page m : ℕ) → m < 4096 / extent → is_free_at page m ≡ true
        → is_some (free_cell pieces extent page) ≡ true
    is_some-free_cell page m below free =
        let split : (o : Option ℕ) → first_from (is_free_at page) 0 (4096 / extent) ≡ o
        → is_some (option_map (λ m. 4096 * page + m * extent) o) ≡ true =
        elim [
          | None ↦ λ e.
              absurd
              (no_other (first_from-None (is_free_at page) 0 (4096 / extent) e m (omega arith) (omega arith)) free)
          | Some x ↦ λ e. refl
        ] in
        split (first_from (is_free_at page) 0 (4096 / extent)) refl

    cell-below : (cell : ℕ) → cell * extent + extent ≤ 4096 → cell < 4096 / extent
    cell-below cell whole =
        let bounds = class_bounds extent known in
        let more : suc cell * extent ≤ 4096 = omega (arith, suc-mul cell extent) in
        let fits : suc cell ≤ 4096 / extent = le-div (suc cell) 4096 extent (omega arith) more in
        omega arith

    cell-whole : (cell : ℕ) → cell < 4096 / extent → cell * extent + extent ≤ 4096
    cell-whole cell below =
        let more : suc cell ≤ 4096 / extent = omega arith in
        omega (arith, mul-le-mul_right extent more, suc-mul cell extent, div-mul-le_self 4096 extent)

    cell_room : (base : ℕ) (c : IsCellHere base) → room c.page ≡ true
    cell_room base c =
        together _ _ c.of_page
        (is_some-free_cell c.page c.cell (cell-below c.cell c.whole)
        (subst (λ low. is_vacant pieces low extent ≡ true) (sym c.at) c.vacant))

    -- the lowest free cell of the lowest page that has one
    free_cell-lowest : (page base : ℕ) → first_from room 1 (limit - 1) ≡ Some page
        → free_cell pieces extent page ≡ Some base → IsLowest IsCellHere base
    free_cell-lowest page base is e =
        let pages = first_from-Some room 1 (limit - 1) page is in
        let found = mapped (λ m. 4096 * page + m * extent) (first_from (is_free_at page) 0 (4096 / extent)) base e in
        let m = found.from in
        let cells = first_from-Some (is_free_at page) 0 (4096 / extent) m found.is in
        let own = both (is_page_of pieces family extent page) (is_some (free_cell pieces extent page)) pages.passes in
        let whole = cell-whole m (omega arith) in
        record {
          is = record {
            page = page;
            cell = m;
            at = found.to;
            from = pages.least;
            below = omega arith;
            whole = whole;
            of_page = own.0;
            vacant = subst (λ low. is_vacant pieces low extent ≡ true) found.to cells.passes;
          };
          least = λ other c.
              ⊎_elim
              (λ (l : c.page < page). absurd (no_other (pages.none_before c.page c.from l) (cell_room other c)))
              (λ (l : page ≤ c.page).
              ⊎_elim
              (λ (further : page < c.page). omega (arith, found.to, c.at))
              (λ (h : c.page ≤ page). same_page page m base found.to cells.none_before other c (omega arith))
              (cases_lt page c.page))
              (cases_lt c.page page);
        }
      where
        same_page : (page m base : ℕ) → 4096 * page + m * extent ≡ base
            → ((k : ℕ) → 0 ≤ k → k < m → is_free_at page k ≡ false) → (other : ℕ) (c : IsCellHere other)
            → c.page ≡ page → base ≤ other
        same_page page m base at none other c same =
            ⊎_elim
            (λ (l : c.cell < m).
            absurd (no_other (none c.cell (omega arith) l)
            (subst (λ low. is_vacant pieces low extent ≡ true)
            (sym c.at ∙ ap (λ n. 4096 * n + c.cell * extent) same) c.vacant)))
            (λ (l : m ≤ c.cell). omega (arith, mul-le-mul_right extent l, at, c.at, same)) (cases_lt c.cell m)

    free_cell-None : (page : ℕ) → room page ≡ true → free_cell pieces extent page ≡ None → ⊥
    free_cell-None page has e =
        let own = both (is_page_of pieces family extent page) (is_some (free_cell pieces extent page)) has in
        let none : is_some (free_cell pieces extent page) ≡ false = ap (λ (o : Option ℕ). is_some o) e in
        no_other none own.1

    cell_place-is : (found : Option ℕ) → first_from room 1 (limit - 1) ≡ found
        → IsPreferred IsCellHere (IsRun pieces limit 4096) (cell_place pieces limit found extent)
    cell_place-is None e =
        Of_second
        (λ base c. no_other (first_from-None room 1 (limit - 1) e c.page c.from (omega (arith, c.below, c.from)))
        (cell_room base c))
        (lowest_run-is 1)
    cell_place-is (Some page) e =
        let first = first_from-Some room 1 (limit - 1) page e in
        let split : (o : Option ℕ) → free_cell pieces extent page ≡ o
        → IsPreferred IsCellHere (IsRun pieces limit 4096) o =
        elim [
          | None ↦ λ none. absurd (free_cell-None page first.passes none)
          | Some base ↦ λ here. Of_first base refl (free_cell-lowest page base e here)
        ] in
        split (free_cell pieces extent page) refl

determined : (P : Option ℕ → Type 0) (place found : Option ℕ) → P place
    → ((x y : Option ℕ) → P x → P y → x ≡ y) → (place ≡ found) ↔ P found
determined P place found is same = (λ e. subst P e is, λ h. same place found is h)

pub size_of-small : (bytes : ℕ) → bytes ≤ 2048 → size_of bytes ≡ Small (class_index bytes)
size_of-small bytes h =
    let small : nat_le bytes 2048 ≡ true = grind (arith, nat_tests) in
    ap (λ b. cond b (Small (class_index bytes)) (Pages ((bytes + 4095) / 4096))) small

pub size_of-large : (bytes : ℕ) → 2048 < bytes → size_of bytes ≡ Pages ((bytes + 4095) / 4096)
size_of-large bytes h =
    let large : nat_le bytes 2048 ≡ false = grind (arith, nat_tests) in
    ap (λ b. cond b (Small (class_index bytes)) (Pages ((bytes + 4095) / 4096))) large

pub cells_go_lowest : (a : State) (limit : ℕ) (family : Family) (bytes : ℕ) (found : Option ℕ) → bytes ≤ 2048
    → (place_of a limit family bytes ≡ found)
    ↔ IsPreferred (IsFreeCell (live_pieces a) limit family (extent_of bytes)) (IsRun (live_pieces a) limit 4096) found
cells_go_lowest a limit family bytes found small =
    let pieces = live_pieces a in
    let extent = slice_index class_sizes (class_index bytes) in
    subst
    (λ (size : Size).
    (place_among pieces limit family size ≡ found)
    ↔ IsPreferred (IsFreeCell pieces limit family (extent_of_size size)) (IsRun pieces limit 4096) found)
    (sym (size_of-small bytes small))
    (determined (IsPreferred (IsFreeCell pieces limit family extent) (IsRun pieces limit 4096))
    (place_among pieces limit family (Small (class_index bytes))) found
    (cell_place-is pieces limit family extent (class_of_small bytes small)
    (first_from (has_room pieces family extent) 1 (limit - 1)) refl)
    (preferred-same (IsFreeCell pieces limit family extent) (IsRun pieces limit 4096)))

pub pages_go_lowest : (a : State) (limit : ℕ) (family : Family) (bytes : ℕ) (found : Option ℕ) → 2048 < bytes
    → (place_of a limit family bytes ≡ found) ↔ IsLowestOf (IsRun (live_pieces a) limit (extent_of bytes)) found
pages_go_lowest a limit family bytes found large =
    let pieces = live_pieces a in
    let count = (bytes + 4095) / 4096 in
    subst
    (λ (size : Size).
    (place_among pieces limit family size ≡ found) ↔ IsLowestOf (IsRun pieces limit (extent_of_size size)) found)
    (sym (size_of-large bytes large))
    (determined (IsLowestOf (IsRun pieces limit (4096 * count))) (place_among pieces limit family (Pages count)) found
    (lowest_run-is pieces limit count) (lowest_of-same (IsRun pieces limit (4096 * count))))

sized : (bytes : ℕ) → IsSize (size_of bytes)
sized bytes =
    ⊎_elim
    (λ (large : 2048 < bytes).
    let some : 0 < (bytes + 4095) / 4096 = omega arith in
    subst IsSize (sym (size_of-large bytes large)) some)
    (λ (small : bytes ≤ 2048). subst IsSize (sym (size_of-small bytes small)) (class_of_small bytes small))
    (cases_lt 2048 bytes)

none_overlaps : (q : Piece) (pieces : List Piece) → AllByRecursion (λ p. AreApart p q) pieces
    → list_any (overlaps q.base q.extent) pieces ≡ false
none_overlaps q [] h = refl
none_overlaps q (p ∷ ps) h =
    let here : overlaps q.base q.extent p ≡ false =
    ⊎_elim (λ (l : p.base + p.extent ≤ q.base). past p l) (λ (l : q.base + q.extent ≤ p.base). short p l)
    h.0.disjoint in
    ap (λ b. b || list_any (overlaps q.base q.extent) ps) here ∙ none_overlaps q ps h.1
  where
    past : (p : Piece) → p.base + p.extent ≤ q.base → overlaps q.base q.extent p ≡ false
    past p l = grind (arith, nat_tests)

    short : (p : Piece) → q.base + q.extent ≤ p.base → overlaps q.base q.extent p ≡ false
    short p l = grind (arith, nat_tests)

pub place_fits : (a : State) (limit : ℕ) (family : Family) (bytes base : ℕ) → IsPlaced a.settings.max (live_pieces a)
    → place_of a limit family bytes ≡ Some base → IsFreeFor limit (live_pieces a) (piece_of family bytes base)
place_fits a limit family bytes base placed e =
    let goes = place_goes limit (live_pieces a) family (size_of bytes) base (sized bytes) placed.apart e in
    record {
      inside = goes.inside;
      vacant = not-false _ (none_overlaps (piece_of family bytes base) (live_pieces a) goes.apart);
      apart = goes.apart;
    }

pub extent_of-enough : (bytes : ℕ) → bytes ≤ extent_of bytes
extent_of-enough bytes =
    ⊎_elim
    (λ (large : 2048 < bytes).
    let enough : bytes ≤ 4096 * ((bytes + 4095) / 4096) = omega arith in
    subst (λ (size : Size). bytes ≤ extent_of_size size) (sym (size_of-large bytes large)) enough)
    (λ (small : bytes ≤ 2048).
    subst (λ (size : Size). bytes ≤ extent_of_size size) (sym (size_of-small bytes small)) (class_fits bytes small))
    (cases_lt 2048 bytes)
