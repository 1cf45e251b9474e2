-- Behind all pieces every page is free, so a search finds no place past as many of these as its bytes take.
use Rattle.std.proofs.Common.{◌≡◌, ℕ, ◌+◌, ◌-◌, ◌*◌, ◌/◌, ◌<◌, ◌≤◌, inl, inr, Bool, true, false, List, Option}
use Rattle.std.proofs.Common.{Some, None, refl, sym, ap, ◌∙◌, subst, arith}
use Rattle.std.proofs.lemmas.Bool.{cases_lt, cases_order, false_from_ne_true}
use Rattle.std.specs.Prelude.{is_some, ◌&&◌}
use Rattle.std.specs.List.{Contains}
use Rattle.std.specs.Option.{option_map}
use Rattle.mm_model.specs.declared.object.Size.{Size}
use Rattle.mm_model.specs.declared.object.Size.TheVariants.{Small, Pages}
use Rattle.mm_model.specs.Places.SizeClass.{class_index, size_of, extent_of_size}
use Rattle.mm_model.specs.Places.Place.{Family, Piece, first_from, is_vacant, is_page_of, free_cell, has_room}
use Rattle.mm_model.specs.Places.Place.{cell_place}
use Rattle.mm_model.specs.Places.Place.{place_among}
use Rattle.mm_model.proofs.Lists.Tests.{IsFirst, first_from-Some, first_from-None}
use Rattle.mm_model.proofs.Lists.Truth.{no_other}
use Rattle.mm_model.proofs.Places.Choosing.{size_of-small, size_of-large}
use Rattle.mm_gc.proofs.Placing.Contained.{vacant-from}
use Rattle.mm_gc.proofs.Placing.FreeCells.{page_of-any}

-- where a late number passes only if an early one does, a search through few numbers finds the same
module _ (test : ℕ → Bool) (from few more : ℕ) (fewer : few ≤ more)
    (early : (n : ℕ) → from + few ≤ n → test n ≡ true
    → (m : ℕ) × (from ≤ m) × (m < from + few) × (test m ≡ true)) where
  none-passes : first_from test from few ≡ None → (n : ℕ) → from ≤ n → test n ≡ true → ⊥
  none-passes none n least passes = elim (cases_lt n (from + few)) [
    | inl below ↦ no_other (first_from-None test from few none n least below) passes
    | inr past ↦
        let there = early n past passes in
        no_other (first_from-None test from few none there.0 there.1 there.2) there.3
  ]

  one-first : (m n : ℕ) → IsFirst test from more m → IsFirst test from few n → m ≡ n
  one-first m n p q = elim (cases_order m n) [
    | inl same ↦ same
    | inr (inl before) ↦ absurd (no_other (q.none_before m p.least before) p.passes)
    | inr (inr after) ↦ absurd (no_other (p.none_before n q.least after) q.passes)
  ]

  found-same : (x y : Option ℕ) → first_from test from more ≡ x → first_from test from few ≡ y → x ≡ y
  found-same None None d e = refl
  found-same None (Some n) d e =
      let first = first_from-Some test from few n e in
      let below : n < from + more = omega (arith, first.below, fewer) in
      absurd (no_other (first_from-None test from more d n first.least below) first.passes)
  found-same (Some m) None d e =
      let first = first_from-Some test from more m d in
      absurd (none-passes e m first.least first.passes)
  found-same (Some m) (Some n) d e =
      ap (λ (k : ℕ). Some k) (one-first m n (first_from-Some test from more m d) (first_from-Some test from few n e))

  first_from-few : first_from test from more ≡ first_from test from few
  first_from-few = found-same (first_from test from more) (first_from test from few) refl refl

module _ (pieces : List Piece) (pages : ℕ) (some : 1 ≤ pages)
    (ended : (p : Piece) → Contains pieces p → p.base + p.extent ≤ 4096 * pages) where
  vacant-behind : (page bytes : ℕ) → pages ≤ page → is_vacant pieces (4096 * page) bytes ≡ true
  vacant-behind page bytes behind =
      vacant-from pieces (4096 * page) bytes (λ o. omega (arith, ended o.piece o.within, o.past_start, behind))

  no_room-behind : (family : Family) (extent page : ℕ) → pages ≤ page → has_room pieces family extent page ≡ false
  no_room-behind family extent page behind =
      ap (λ b. b && is_some (free_cell pieces extent page))
      (false_from_ne_true (is_page_of pieces family extent page) (λ e.
      let own = page_of-any pieces family extent page e in
      omega (arith, ended own.piece own.within, own.past_start, behind)))

  module _ (few most : ℕ) (fewer : few ≤ most) where
    room-few : (family : Family) (extent : ℕ) → pages < few
        → first_from (has_room pieces family extent) 1 (most - 1)
        ≡ first_from (has_room pieces family extent) 1 (few - 1)
    room-few family extent enough =
        first_from-few (has_room pieces family extent) 1 (few - 1) (most - 1) (omega (arith, fewer))
        (λ n past passes. absurd (no_other (no_room-behind family extent n (omega (arith, past, enough))) passes))

    run-few : (count : ℕ) → pages + count ≤ few
        → first_from (λ page. is_vacant pieces (4096 * page) (4096 * count)) 1 (most - count)
        ≡ first_from (λ page. is_vacant pieces (4096 * page) (4096 * count)) 1 (few - count)
    run-few count enough =
        first_from-few (λ page. is_vacant pieces (4096 * page) (4096 * count)) 1 (few - count) (most - count)
        (omega (arith, fewer))
        (λ n past passes. (
          pages,
          some,
          omega (arith, enough),
          vacant-behind pages (4096 * count) (omega arith),
        ))

    cell_place-few : (found : Option ℕ) (extent : ℕ) → pages < few
        → cell_place pieces most found extent ≡ cell_place pieces few found extent
    cell_place-few None extent enough =
        ap (λ (first : Option ℕ). option_map (λ page. 4096 * page) first) (run-few 1 (omega (arith, enough)))
    cell_place-few (Some page) extent enough = refl

    cell-few : (family : Family) (class : ℕ) → pages < few
        → place_among pieces most family (Small class) ≡ place_among pieces few family (Small class)
    cell-few family class enough =
        let extent : ℕ = extent_of_size (Small class) in
        ap (λ (found : Option ℕ). cell_place pieces most found extent) (room-few family extent enough)
        ∙ cell_place-few (first_from (has_room pieces family extent) 1 (few - 1)) extent enough

    pages-few : (family : Family) (count : ℕ) → pages + count ≤ few
        → place_among pieces most family (Pages count) ≡ place_among pieces few family (Pages count)
    pages-few family count enough =
        ap (λ (first : Option ℕ). option_map (λ page. 4096 * page) first) (run-few count enough)

    -- among few pages that have room for so many bytes behind all pieces, and among more, the place is the same
    pub place_among-few : (family : Family) (bytes : ℕ) → 1 ≤ bytes → 4096 * pages + bytes ≤ 4096 * few
        → place_among pieces most family (size_of bytes) ≡ place_among pieces few family (size_of bytes)
    place_among-few family bytes wanted room = elim (cases_lt 2048 bytes) [
      | inl large ↦
          subst (λ (size : Size). place_among pieces most family size ≡ place_among pieces few family size)
          (sym (size_of-large bytes large)) (pages-few family ((bytes + 4095) / 4096) (omega (arith, room)))
      | inr small ↦
          subst (λ (size : Size). place_among pieces most family size ≡ place_among pieces few family size)
          (sym (size_of-small bytes small)) (cell-few family (class_index bytes) (omega (arith, room, wanted)))
    ]
