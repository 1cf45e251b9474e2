-- A place depends on the pieces only by what tests see of them.
use Rattle.std.proofs.Common.{◌≡◌, ℕ, ◌+◌, ◌-◌, ◌*◌, ◌/◌, Bool, not, List, Option, Some, None, ap, ◌∙◌}
use mathlib.Core.Path.{fun_ext}
use Rattle.std.specs.Prelude.{is_some, ◌&&◌}
use Rattle.std.specs.List.{list_any}
use Rattle.std.specs.Option.{option_map}
use Rattle.mm_model.specs.declared.object.Size.{Size}
use Rattle.mm_model.specs.declared.object.Size.TheVariants.{Small, Pages}
use Rattle.mm_model.specs.Places.SizeClass.{extent_of_size}
use Rattle.mm_model.specs.Places.Place.{Family, Piece, first_from, is_vacant, is_page_of, free_cell, has_room}
use Rattle.mm_model.specs.Places.Place.{fresh_page}
use Rattle.mm_model.specs.Places.Place.{cell_place, place_among}

abbrev pub AreSeenAlike : List Piece → List Piece → Type 0
AreSeenAlike ps qs = (test : Piece → Bool) → list_any test ps ≡ list_any test qs

module _ (ps qs : List Piece) (alike : AreSeenAlike ps qs) where
  pub is_vacant-alike : (low bytes : ℕ) → is_vacant ps low bytes ≡ is_vacant qs low bytes
  is_vacant-alike low bytes = ap not (alike _)

  free_cell-alike : (extent page : ℕ) → free_cell ps extent page ≡ free_cell qs extent page
  free_cell-alike extent page =
      ap (λ test. option_map (λ m. 4096 * page + m * extent) (first_from test 0 (4096 / extent)))
      (fun_ext (λ m. is_vacant-alike (4096 * page + m * extent) extent))

  has_room-alike : (family : Family) (extent page : ℕ) → has_room ps family extent page ≡ has_room qs family extent page
  has_room-alike family extent page =
      ap (λ b. b && is_some (free_cell ps extent page)) (alike _)
      ∙ ap (λ cell. is_page_of qs family extent page && is_some cell) (free_cell-alike extent page)

  fresh_page-alike : (limit : ℕ) → fresh_page ps limit ≡ fresh_page qs limit
  fresh_page-alike limit =
      ap (λ test. option_map (λ page. 4096 * page) (first_from test 1 (limit - 1)))
      (fun_ext (λ page. is_vacant-alike (4096 * page) 4096))

  cell_place-alike : (limit : ℕ) (found : Option ℕ) (extent : ℕ)
      → cell_place ps limit found extent ≡ cell_place qs limit found extent
  cell_place-alike limit None extent = fresh_page-alike limit
  cell_place-alike limit (Some page) extent = free_cell-alike extent page

  pub place_among-alike : (limit : ℕ) (family : Family) (size : Size)
      → place_among ps limit family size ≡ place_among qs limit family size
  place_among-alike limit family (Small class) =
      let extent = extent_of_size (Small class) in
      ap (λ test. cell_place ps limit (first_from test 1 (limit - 1)) extent)
      (fun_ext (λ page. has_room-alike family extent page))
      ∙ cell_place-alike limit (first_from (has_room qs family extent) 1 (limit - 1)) extent
  place_among-alike limit family (Pages count) =
      ap (λ test. option_map (λ page. 4096 * page) (first_from test 1 (limit - count)))
      (fun_ext (λ page. is_vacant-alike (4096 * page) (4096 * count)))
