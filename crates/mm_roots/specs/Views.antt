-- The areas as the model sees them, with the words of their cells.
use Rattle.std.specs.Prelude.{ℕ, zero, suc, ◌+◌, ◌/◌, ◌==◌, not, if◌then◌else◌, List, [], ◌∷◌, drop}
use Rattle.std.specs.Prelude.{Option, Some, None, is_some, slice_index, slice_index_or, slice_set}
use Rattle.std.specs.Option.{unwrap_or}
use Rattle.std.specs.List.{find, flat_map}
use Rattle.mm_model.specs.Areas.{most_areas}
use Rattle.mm_model.specs.Places.Place.{first_from}
use Rattle.mm_model.specs.Views.View.{AreaView}
use Rattle.mm_model.specs.Views.ViewWords.{scanned_cells_of, cell_kind_of}
use Rattle.mm_object.specs.declared.slot.Slot.{Slot}
use Rattle.mm_object.specs.Object.{slot_with}
use Rattle.mm_roots.specs.declared.area_shape.AreaShape.{AreaShape}
use Rattle.mm_roots.specs.Areas.{Areas}

-- the word at a place of a heap's memory, 0 where there is none or it lies in an object
abbrev pub word_at : List (Option ℕ) → ℕ → ℕ
word_at raw place = unwrap_or (slice_index_or raw place None) 0

-- so many words from a place on
abbrev pub words_from : List (Option ℕ) → ℕ → ℕ → List ℕ
words_from raw place zero = []
words_from raw place (suc count) = word_at raw place ∷ words_from raw (place + 1) count

-- the words of so many cells that begin at a base
abbrev pub cell_words : List (Option ℕ) → ℕ → ℕ → List ℕ
cell_words raw base cells = words_from raw (base / 4) cells

-- the words of an area
abbrev pub area_words : List (Option ℕ) → AreaShape → List ℕ
area_words raw area = cell_words raw area.base area.cells

-- an area as the model sees it
abbrev pub view_of_area : List (Option ℕ) → ℕ → AreaShape → AreaView
view_of_area raw number area =
    record {
      number = number;
      base = area.base;
      extent = area.extent;
      scanned = area.scanned;
      counted = area.counted;
      words = area_words raw area;
    }

-- all of them by ascending number, where the first entry is for this number
abbrev pub views_from : List (Option ℕ) → ℕ → List (Option AreaShape) → List AreaView
views_from raw number [] = []
views_from raw number (None ∷ areas) = views_from raw (number + 1) areas
views_from raw number (Some area ∷ areas) = view_of_area raw number area ∷ views_from raw (number + 1) areas

abbrev pub views_of_areas : Areas → List (Option ℕ) → List AreaView
views_of_areas a raw = views_from raw 0 a.areas

-- the words of the scanned areas that have this number or a higher one, by ascending number
abbrev pub scanned_words_from : Areas → List (Option ℕ) → ℕ → List ℕ
scanned_words_from a raw from = flat_map scanned_cells_of (views_from raw from (drop from a.areas))

-- the view that has a number
abbrev pub view_numbered : List AreaView → ℕ → Option AreaView
view_numbered views number = find (λ area. area.number == number) views

-- the lowest number below 1,024 that no view has
unfoldable pub free_number_in : List AreaView → Option ℕ
free_number_in views = first_from (λ number. not (is_some (view_numbered views number))) 0 most_areas

-- another word in a cell
abbrev pub with_cell : ℕ → ℕ → ℕ → AreaView → AreaView
with_cell number s word area =
    if area.number == number then record area { words = slice_set area.words s word } else area

-- what reading a cell answers
abbrev pub slot_in : AreaView → ℕ → Slot
slot_in area s = slot_with (cell_kind_of area s) (slice_index area.words s)
