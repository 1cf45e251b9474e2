-- A place that is found is inside the region and apart from all that lives.
use Rattle.std.proofs.Common.{◌≡◌, ℕ, suc, ◌+◌, ◌-◌, ◌*◌, ◌/◌, ◌%◌, ◌<◌, ◌≤◌, Bool, true, false, not, ◌||◌, eqb-true}
use Rattle.std.proofs.Common.{add-zero, List, [], ◌∷◌, Option, Some, None, refl, sym, ap, ◌∙◌, subst, ◌⊎◌, ⊎_elim, inl}
use Rattle.std.proofs.Common.{inr, arith}
use Rattle.std.proofs.lemmas.Bool.Decides.{nat_tests}
use Rattle.std.proofs.Math.Nat.{mul-le-mul_right, suc-mul, div-mul-le_self, mul-mod_left, zero-mod}
use Rattle.std.specs.Prelude.{IsTrue, ◌&&◌, ◌==◌, is_some, slice_index}
use Rattle.std.specs.List.{list_any, AllByRecursion, Contains}
use Rattle.std.specs.Option.{option_map}
use Rattle.mm_model.specs.declared.object.Size.{Size}
use Rattle.mm_model.specs.declared.object.Size.TheVariants.{Small, Pages}
use Rattle.mm_model.specs.Places.SizeClass.{class_sizes, extent_of_size}
use Rattle.mm_model.specs.Places.Place.{Family, Objects, Areas, same_family, Piece, overlaps, first_from, is_vacant}
use Rattle.mm_model.specs.Places.Place.{is_page_of, free_cell, has_room, fresh_page, cell_place, place_among}
use Rattle.mm_model.specs.Good.{IsInside, AreApart, AreAllApart}
use Rattle.mm_model.proofs.Lists.Truth.{no_other}
use Rattle.mm_model.proofs.Lists.Tests.{first_from-Some, none_passes}
use Rattle.mm_model.proofs.Places.SizeClasses.{class_bounds}

-- which sizes there are
abbrev pub IsSize : Size → Type 0
IsSize (Small class) = Contains class_sizes (slice_index class_sizes class)
IsSize (Pages count) = 0 < count

-- a piece that doesn't reach into a range of bytes
pub clear : (low bytes : ℕ) (p : Piece) → overlaps low bytes p ≡ false
    → (p.base + p.extent ≤ low) ⊎ (low + bytes ≤ p.base)
clear low bytes p e = grind (arith, nat_tests)

-- and one that does
pub record Reaches (low bytes : ℕ) (p : Piece) : Type 0 where
  pub before_end : p.base < low + bytes
  pub past_start : low < p.base + p.extent

pub reaches : (low bytes : ℕ) (p : Piece) → IsTrue (overlaps low bytes p) → Reaches low bytes p
reaches low bytes p e = record { before_end = grind (arith, nat_tests); past_start = grind (arith, nat_tests) }

not_false : (b : Bool) → not b ≡ true → b ≡ false
not_false true e = cc
not_false false e = refl

vacant_none : (pieces : List Piece) (low bytes : ℕ) → is_vacant pieces low bytes ≡ true
    → AllByRecursion (λ p. overlaps low bytes p ≡ false) pieces
vacant_none pieces low bytes e = none_passes (overlaps low bytes) pieces (not_false _ e)

pub each_weaker : {X : Type 0} (P Q : X → Type 0) → ((x : X) → P x → Q x) → (xs : List X) → AllByRecursion P xs
    → AllByRecursion Q xs
each_weaker P Q f [] h = tt
each_weaker P Q f (x ∷ xs) h = (f x h.0, each_weaker P Q f xs h.1)

pub each_both : {X : Type 0} (P Q R : X → Type 0) → ((x : X) → P x → Q x → R x) → (xs : List X) → AllByRecursion P xs
    → AllByRecursion Q xs → AllByRecursion R xs
each_both P Q R f [] h k = tt
each_both P Q R f (x ∷ xs) h k = (f x h.0 k.0, each_both P Q R f xs h.1 k.1)

-- a piece that fits the region and is apart from those that live
pub record Goes (limit : ℕ) (pieces : List Piece) (q : Piece) : Type 0 where
  pub inside : IsInside limit q
  pub apart : AllByRecursion (λ p. AreApart p q) pieces

-- whole pages
module _ (page count : ℕ) (family : Family) where
  run : Piece
  run = record { base = 4096 * page; extent = 4096 * count; family = family }

  run_apart : (p : Piece) → overlaps (4096 * page) (4096 * count) p ≡ false → AreApart p run
  unfolding run
  run_apart p e =
      record {
        disjoint = clear (4096 * page) (4096 * count) p e;
        alike = λ n here there.
            let a = reaches (4096 * n) 4096 p here in
            let b = reaches (4096 * n) 4096 run there in
            ⊎_elim (λ (h : p.base + p.extent ≤ 4096 * page). absurd (omega arith))
            (λ (h : 4096 * page + 4096 * count ≤ p.base). absurd (omega arith))
            (clear (4096 * page) (4096 * count) p e);
      }

  run_goes : (limit : ℕ) (pieces : List Piece) → 1 ≤ page → page + count ≤ limit → 0 < count
      → is_vacant pieces (4096 * page) (4096 * count) ≡ true → Goes limit pieces run
  unfolding run
  run_goes limit pieces first last some e =
      record {
        inside = record {
          from = omega arith;
          to = omega arith;
          placed = inr (record { page = omega arith; pages = omega arith; some = omega arith });
        };
        apart = each_weaker _ _ run_apart pieces (vacant_none pieces (4096 * page) (4096 * count) e);
      }

-- where it reaches into the page, it is of this extent and family
abbrev IsAlike : ℕ → ℕ → Family → Piece → Type 0
IsAlike page extent family p = IsTrue (overlaps (4096 * page) 4096 p) → (p.extent ≡ extent) × (p.family ≡ family)

-- a cell at an offset in a page
module _ (page offset extent : ℕ) (family : Family) where
  cell : Piece
  cell = record { base = 4096 * page + offset; extent = extent; family = family }

  cell_apart : offset + extent ≤ 4096 → (p : Piece) → overlaps (4096 * page + offset) extent p ≡ false
      → IsAlike page extent family p → AreApart p cell
  unfolding cell
  cell_apart fits p e same =
      record {
        disjoint = clear (4096 * page + offset) extent p e;
        alike = λ n here there.
            let b = reaches (4096 * n) 4096 cell there in
            let own : n ≡ page = omega arith in
            same (subst (λ n. IsTrue (overlaps (4096 * n) 4096 p)) own here);
      }

  cell_goes : (limit : ℕ) (pieces : List Piece) → Contains class_sizes extent → offset % extent ≡ 0
      → offset + extent ≤ 4096 → 1 ≤ page → page < limit
      → AllByRecursion (λ p. overlaps (4096 * page + offset) extent p ≡ false) pieces
      → AllByRecursion (IsAlike page extent family) pieces → Goes limit pieces cell
  unfolding cell
  cell_goes limit pieces known grid fits first last e same =
      let bounds = class_bounds extent known in
      let within : (4096 * page + offset) % 4096 ≡ offset = omega arith in
      record {
        inside = record {
          from = omega arith;
          to = omega arith;
          placed = inl (record {
            class = known;
            grid = ap (λ n. n % extent) within ∙ grid;
            whole = subst (λ n. n + extent ≤ 4096) (sym within) fits;
          });
        };
        apart = each_both _ _ _ (cell_apart fits) pieces e same;
      }

-- an element that passes a test, with what holds of each
pub some_with : {X : Type 0} (test : X → Bool) (P : X → Type 0) (xs : List X) → list_any test xs ≡ true
    → AllByRecursion P xs → (x : X) × (test x ≡ true) × P x
some_with test P [] e h = cc
some_with test P (x ∷ xs) e h =
    let split : (b : Bool) → test x ≡ b → (b || list_any test xs) ≡ true → (x : _) × (test x ≡ true) × P x =
    elim [ true ↦ λ p q. (x, p, h.0) | false ↦ λ p q. some_with test P xs q h.1 ] in
    split (test x) refl e

-- what the test for a page of a class says
pub record IsOfPage (family : Family) (extent page : ℕ) (p : Piece) : Type 0 where
  pub family_is : p.family ≡ family
  pub extent_is : p.extent ≡ extent
  pub reaches : IsTrue (overlaps (4096 * page) 4096 p)

abbrev of_page : Family → ℕ → ℕ → Piece → Bool
of_page family extent page p = same_family p.family family && p.extent == extent && overlaps (4096 * page) 4096 p

family_from : (f g : Family) → same_family f g ≡ true → f ≡ g
family_from Objects Objects e = refl
family_from Objects Areas e = cc
family_from Areas Objects e = cc
family_from Areas Areas e = refl

pub both : (a b : Bool) → (a && b) ≡ true → (a ≡ true) × (b ≡ true)
both true true e = (refl, refl)
both true false e = cc
both false b e = cc

is_of_page : (family : Family) (extent page : ℕ) (p : Piece) → of_page family extent page p ≡ true
    → IsOfPage family extent page p
is_of_page family extent page p e =
    let outer = both _ _ e in
    let inner = both _ _ outer.0 in
    record { family_is = family_from _ _ inner.0; extent_is = eqb-true _ _ inner.1; reaches = outer.1 }

-- all that reaches into a page of a class is of that class and family
page_alike : (family : Family) (extent page : ℕ) (pieces : List Piece) → AreAllApart pieces
    → is_page_of pieces family extent page ≡ true → AllByRecursion (IsAlike page extent family) pieces
page_alike family extent page [] a e = tt
page_alike family extent page (p ∷ ps) a e =
    let split : (b : Bool) → of_page family extent page p ≡ b → (b || is_page_of ps family extent page) ≡ true
    → AllByRecursion (IsAlike page extent family) (p ∷ ps) =
    elim [
      | true ↦ λ h rest.
          let own = is_of_page family extent page p h in (
            (λ _. (own.extent_is, own.family_is)),
            each_weaker _ _ (λ q between there.
                let same = between.alike page own.reaches there in
                (sym same.0 ∙ own.extent_is, sym same.1 ∙ own.family_is)) ps a.0,
          )
      | false ↦ λ h rest.
          let other = some_with (of_page family extent page) (AreApart p) ps rest a.0 in
          let own = is_of_page family extent page other.0 other.1 in (
            (λ here.
                let same = other.2.alike page here own.reaches in
                (same.0 ∙ own.extent_is, same.1 ∙ own.family_is)),
            page_alike family extent page ps a.1 rest,
          )
    ] in
    split (of_page family extent page p) refl e

-- nothing reaches into a page in which nothing lies
vacant_alike : (family : Family) (extent page : ℕ) (pieces : List Piece) → is_vacant pieces (4096 * page) 4096 ≡ true
    → AllByRecursion (IsAlike page extent family) pieces
vacant_alike family extent page pieces e =
    each_weaker _ _ (λ p none here. absurd (no_other none here)) pieces (vacant_none pieces (4096 * page) 4096 e)

-- what was found through a function, if anything was
pub record Mapped (f : ℕ → ℕ) (found : Option ℕ) (y : ℕ) : Type 0 where
  pub from : ℕ
  pub is : found ≡ Some from
  pub to : f from ≡ y

pub mapped : (f : ℕ → ℕ) (found : Option ℕ) (y : ℕ) → option_map f found ≡ Some y → Mapped f found y
mapped f None y e = cc
mapped f (Some x) y e = record { from = x; is = refl; to = cc }

narrower : (page extent : ℕ) → extent ≤ 2048 → (p : Piece) → overlaps (4096 * page) 4096 p ≡ false
    → overlaps (4096 * page + 0) extent p ≡ false
narrower page extent fits p e = grind (arith, nat_tests)

-- the page in which a search among whole pages or pages with room ended
module _ (limit : ℕ) (pieces : List Piece) (family : Family) where
  -- the piece that goes there
  abbrev placed_piece : ℕ → ℕ → Piece
  placed_piece base extent = record { base = base; extent = extent; family = family }

  pages_go : (count base : ℕ) → 0 < count → place_among pieces limit family (Pages count) ≡ Some base
      → Goes limit pieces (placed_piece base (4096 * count))
  unfolding run
  pages_go count base some e =
      let found = mapped (λ page. 4096 * page) _ base e in
      let first = first_from-Some (λ page. is_vacant pieces (4096 * page) (4096 * count)) 1
      (limit - count) found.from found.is in
      let goes = run_goes found.from count family limit pieces first.least (omega arith) some first.passes in
      subst (λ base. Goes limit pieces (placed_piece base (4096 * count))) found.to goes

  fresh_goes : (extent base : ℕ) → Contains class_sizes extent → fresh_page pieces limit ≡ Some base
      → Goes limit pieces (placed_piece base extent)
  unfolding cell
  fresh_goes extent base known e =
      let bounds = class_bounds extent known in
      let found = mapped (λ page. 4096 * page) _ base e in
      let page = found.from in
      let first = first_from-Some (λ page. is_vacant pieces (4096 * page) 4096) 1 (limit - 1) page found.is in
      let clear_cell = each_weaker _ _ (narrower page extent bounds.most) pieces
      (vacant_none pieces (4096 * page) 4096 first.passes) in
      let fits : 0 + extent ≤ 4096 = omega arith in
      let below : page < limit = omega arith in
      let goes = cell_goes page 0 extent family limit pieces known (zero-mod extent) fits first.least below clear_cell
      (vacant_alike family extent page pieces first.passes) in
      let start : 4096 * page + 0 ≡ base = add-zero (4096 * page) ∙ found.to in
      subst (λ base. Goes limit pieces (placed_piece base extent)) start goes

  free_goes : (extent page base : ℕ) → Contains class_sizes extent → AreAllApart pieces → 1 ≤ page → page < limit
      → is_page_of pieces family extent page ≡ true
      → free_cell pieces extent page ≡ Some base → Goes limit pieces (placed_piece base extent)
  unfolding cell
  free_goes extent page base known apart low high own e =
      let bounds = class_bounds extent known in
      let found = mapped (λ m. 4096 * page + m * extent) _ base e in
      let m = found.from in
      let first = first_from-Some (λ m. is_vacant pieces (4096 * page + m * extent) extent) 0
      (4096 / extent) m found.is in
      let more : suc m ≤ 4096 / extent = omega arith in
      let fits : m * extent + extent ≤ 4096 =
      omega (arith, mul-le-mul_right extent more, suc-mul m extent, div-mul-le_self 4096 extent) in
      let goes = cell_goes page (m * extent) extent family limit pieces known (mul-mod_left m extent) fits low high
      (vacant_none pieces (4096 * page + m * extent) extent first.passes)
      (page_alike family extent page pieces apart own) in
      subst (λ base. Goes limit pieces (placed_piece base extent)) found.to goes

  -- Where a place is found, a piece of that size goes there.
  pub place_goes : (size : Size) (base : ℕ) → IsSize size → AreAllApart pieces
      → place_among pieces limit family size ≡ Some base
      → Goes limit pieces (placed_piece base (extent_of_size size))
  place_goes (Pages count) base some apart e = pages_go count base some e
  place_goes (Small class) base known apart e =
      let extent = slice_index class_sizes class in
      let split : (found : Option ℕ) → first_from (has_room pieces family extent) 1 (limit - 1) ≡ found
      → cell_place pieces limit found extent ≡ Some base
      → Goes limit pieces (placed_piece base extent) =
      elim [
        | None ↦ λ is h. fresh_goes extent base known h
        | Some page ↦ λ is h.
            let first = first_from-Some (has_room pieces family extent) 1 (limit - 1) page is in
            let room : (is_page_of pieces family extent page ≡ true)
            × (is_some (free_cell pieces extent page) ≡ true) = both _ _ first.passes in
            let below : page < limit = omega arith in
            free_goes extent page base known apart first.least below room.0 h
      ] in
      split (first_from (has_room pieces family extent) 1 (limit - 1)) refl e
