-- A view takes the room that its state takes, so places, pages of the region and free pages are the same.
use Rattle.std.proofs.Common.{◌≡◌, ℕ, ◌-◌, ◌*◌, Bool, true, false, ◌||◌, List, [], ◌∷◌, ◌++◌, map, refl, sym, ap, ◌∙◌}
use mathlib.Core.Path.{fun_ext}
use Rattle.std.specs.List.{list_any, count_by, range_with_len}
use Rattle.mm_model.specs.Object.{live_objects}
use Rattle.mm_model.specs.State.{State, Area}
use Rattle.mm_model.specs.Places.SizeClass.{size_of}
use Rattle.mm_model.specs.Places.Place.{Family, Piece, object_piece, area_piece, live_pieces, is_vacant, place_among}
use Rattle.mm_model.specs.Places.Place.{region_pages}
use Rattle.mm_model.specs.Places.Search.{place_now, place_grown}
use Rattle.mm_model.specs.Effect.{free_pages}
use Rattle.mm_model.specs.Good.{IsPlaced}
use Rattle.mm_model.specs.Views.ByBase.{based}
use Rattle.mm_model.specs.Views.ObjectView.{piece_of_object}
use Rattle.mm_model.specs.Views.View.{seen_objects, seen_area, view_of}
use Rattle.mm_model.specs.Views.ViewWords.{piece_of_area, view_pieces, view_region_pages}
use Rattle.mm_model.specs.Views.ViewEffect.{view_free_pages}
use Rattle.mm_model.specs.Views.ViewStep.{view_place_now, view_place_grown}
use Rattle.mm_model.proofs.Lists.Keyed.{any-map}
use Rattle.mm_model.proofs.Places.Ends.{fold-alike}
use Rattle.mm_model.proofs.Places.SeenAlike.{AreSeenAlike, is_vacant-alike, place_among-alike}
use Rattle.mm_model.proofs.View.ByBase.Seen.{any-seen}
use Rattle.mm_model.proofs.Good.LiveLists.{any-live}

any-append : {X : Type 0} (test : X → Bool) (xs ys : List X)
    → list_any test (xs ++ ys) ≡ (list_any test xs || list_any test ys)
any-append test [] ys = refl
any-append test (x ∷ xs) ys =
    let split : (b : Bool) → (b || list_any test (xs ++ ys)) ≡ ((b || list_any test xs) || list_any test ys) =
    elim [ true ↦ refl | false ↦ any-append test xs ys ] in
    split (test x)

pub area_pieces-seen : (areas : List Area) → map piece_of_area (map seen_area areas) ≡ map area_piece areas
area_pieces-seen [] = refl
area_pieces-seen (area ∷ areas) = ap (λ ps. area_piece area ∷ ps) (area_pieces-seen areas)

module _ (a : State) (placed : IsPlaced a.settings.max (live_pieces a)) where
  pub pieces_alike : AreSeenAlike (view_pieces (view_of a)) (live_pieces a)
  pieces_alike test =
      let objects = any-map piece_of_object test (based (seen_objects a))
      ∙ any-seen a placed (λ o. test (piece_of_object o)) (λ o. test (object_piece o)) (λ birth object lives. refl)
      ∙ sym (any-live (λ o. test (object_piece o)) a.objects)
      ∙ sym (any-map object_piece test (live_objects a.objects)) in
      any-append test (map piece_of_area (map seen_area a.areas)) (map piece_of_object (based (seen_objects a)))
      ∙ ap (λ ps. list_any test ps || list_any test (map piece_of_object (based (seen_objects a))))
      (area_pieces-seen a.areas)
      ∙ ap (λ b. list_any test (map area_piece a.areas) || b) objects
      ∙ sym (any-append test (map area_piece a.areas) (map object_piece (live_objects a.objects)))

  pub view_region_pages-seen : view_region_pages (view_of a) ≡ region_pages a
  view_region_pages-seen = fold-alike a.settings.pages (view_pieces (view_of a)) (live_pieces a) pieces_alike

  pub view_place_now-seen : (family : Family) (bytes : ℕ)
      → view_place_now (view_of a) family bytes ≡ place_now a family bytes
  view_place_now-seen family bytes =
      ap (λ pages. place_among (view_pieces (view_of a)) pages family (size_of bytes)) view_region_pages-seen
      ∙ place_among-alike (view_pieces (view_of a)) (live_pieces a) pieces_alike (region_pages a) family (size_of bytes)

  pub view_place_grown-seen : (family : Family) (bytes : ℕ)
      → view_place_grown (view_of a) family bytes ≡ place_grown a family bytes
  view_place_grown-seen family bytes =
      place_among-alike (view_pieces (view_of a)) (live_pieces a) pieces_alike a.settings.max family (size_of bytes)

  pub view_free_pages-seen : view_free_pages (view_of a) ≡ free_pages a
  view_free_pages-seen =
      let vacant = λ (ps : List Piece) (page : ℕ). is_vacant ps (4096 * page) 4096 in
      ap (λ test. count_by test (range_with_len 1 (view_region_pages (view_of a) - 1)))
      (fun_ext (λ page. is_vacant-alike (view_pieces (view_of a)) (live_pieces a) pieces_alike (4096 * page) 4096))
      ∙ ap (λ pages. count_by (vacant (live_pieces a)) (range_with_len 1 (pages - 1))) view_region_pages-seen
