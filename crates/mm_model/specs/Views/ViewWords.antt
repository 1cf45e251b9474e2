-- Which words a view holds, by the places that hold them, and what its words and stack cells mean.
use Rattle.std.specs.Prelude.{ℕ, ◌==◌, ◌&&◌, Bool, not, if◌then◌else◌, List, [], ◌++◌, map, take, Option, slice_get}
use Rattle.std.specs.List.{list_any, find, flat_map, count_by, fold}
use Rattle.std.specs.Option.{option_and_then}
use Rattle.mm_model.specs.Object.{is_counted}
use Rattle.mm_model.specs.Words.{SlotKind, slot_kind_at, falls}
use Rattle.mm_model.specs.Store.{is_counted_slot}
use Rattle.mm_model.specs.Places.Place.{Piece, Areas, page_end}
use Rattle.mm_model.specs.Views.ByBase.{Based, based}
use Rattle.mm_model.specs.Views.ObjectView.{ObjectView, ObjectsByBase, pieces_of_objects}
use Rattle.mm_model.specs.Views.SetsByBase.{RootWords, zero_count_of}
use Rattle.mm_model.specs.Views.View.{View, AreaView}

-- the object in which a word falls, and the one that begins at a base
abbrev pub resolved_in : ObjectsByBase → ℕ → Option (Based ObjectView)
resolved_in objects word = find (λ o. falls word o.base o.value.extent) (based objects)

abbrev pub object_at : ObjectsByBase → ℕ → Option (Based ObjectView)
object_at objects base = find (λ o. o.base == base) (based objects)

-- the object that a stack cell means
abbrev pub view_meant : View → ℕ → Option (Based ObjectView)
view_meant view i = option_and_then (resolved_in view.objects) (slice_get view.stack i)

-- whether a counted object begins at a word, and whether the word falls in one
abbrev pub begins_counted_in : ObjectsByBase → ℕ → Bool
begins_counted_in objects word = list_any (λ o. is_counted o.value.kind && o.base == word) (based objects)

abbrev pub falls_in_counted_of : ObjectsByBase → ℕ → Bool
falls_in_counted_of objects word =
    list_any (λ o. is_counted o.value.kind && falls word o.base o.value.extent) (based objects)

abbrev pub area_in : View → ℕ → Option AreaView
area_in view number = find (λ area. area.number == number) view.areas

abbrev pub cell_kind_of : AreaView → ℕ → SlotKind
cell_kind_of area s = slot_kind_at area.scanned area.counted s

-- the words of an area's counted cells, and of all its scanned cells
abbrev pub counted_cells_of : AreaView → List ℕ
counted_cells_of area = if area.scanned then take area.counted area.words else []

abbrev pub scanned_cells_of : AreaView → List ℕ
scanned_cells_of area = if area.scanned then area.words else []

abbrev pub view_root_words : View → RootWords
view_root_words view =
    record {
      stack = view.stack;
      areas = flat_map scanned_cells_of view.areas;
      counted_cells = flat_map counted_cells_of view.areas;
    }

-- the words at which marking begins
abbrev pub marking_words : View → List ℕ
marking_words view = view.stack ++ (view_root_words view).areas

-- how many counted cells hold a base
abbrev pub outside_references : View → ℕ → ℕ
outside_references view base = count_by (λ word. word == base) (view_root_words view).counted_cells

abbrev pub view_zero_count : View → ℕ
view_zero_count view = zero_count_of view.objects (outside_references view)

-- the room that areas and objects take
abbrev pub piece_of_area : AreaView → Piece
piece_of_area area = record { base = area.base; extent = area.extent; family = Areas }

abbrev pub view_pieces : View → List Piece
view_pieces view = map piece_of_area view.areas ++ pieces_of_objects view.objects

-- how many pages the region has
abbrev pub view_region_pages : View → ℕ
view_region_pages view = fold page_end view.settings.pages (view_pieces view)

-- whether a counted slot or cell doesn't take a word
abbrev pub view_refuses_word : View → SlotKind → ℕ → Bool
view_refuses_word view kind word =
    is_counted_slot kind && not (word == 0) && not (begins_counted_in view.objects word)
