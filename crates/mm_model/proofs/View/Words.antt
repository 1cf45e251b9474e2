-- The words of a state's view, and how often counted places hold a base.
use Rattle.std.proofs.Common.{◌≡◌, ℕ, ◌+◌, Bool, true, false, not, cond, List, [], ◌∷◌, ◌++◌, map, take, drop, Some}
use Rattle.std.proofs.Common.{refl, sym, ap, ◌∙◌}
use mathlib.Core.Path.{fun_ext}
use Rattle.std.proofs.lemmas.List.Sums.{sum_by-append}
use Rattle.std.specs.Prelude.{◌&&◌, ◌==◌, if◌then◌else◌}
use Rattle.std.specs.List.{list_any, find, flat_map, count_by, take-map, drop-map}
use Rattle.std.specs.Option.{option_map}
use Rattle.mm_model.specs.Value.{Value, words_of}
use Rattle.mm_model.specs.Object.{Object, is_live, is_counted, is_scanned, live_objects}
use Rattle.mm_model.specs.State.{State, Area}
use Rattle.mm_model.specs.Words.{SlotKind, if_scanned, counted_slots, word_slots, counted_cells, scanned_cells}
use Rattle.mm_model.specs.Words.{area_words, root_words, counted_cell_words, falls}
use Rattle.mm_model.specs.Meaning.{falls_in}
use Rattle.mm_model.specs.Count.{refs, zero_count, names_counted}
use Rattle.mm_model.specs.Areas.{area_at}
use Rattle.mm_model.specs.Store.{is_counted_slot, refuses_word}
use Rattle.mm_model.specs.Places.Place.{live_pieces}
use Rattle.mm_model.specs.Good.{IsPlaced}
use Rattle.mm_model.specs.Views.ByBase.{Based, based}
use Rattle.mm_model.specs.Views.ObjectView.{ObjectView, counted_words_of, word_words_of, references_in}
use Rattle.mm_model.specs.Views.SetsByBase.{count_at, is_zero_count_at}
use Rattle.mm_model.specs.Views.View.{AreaView, seen, seen_objects, seen_area, view_of}
use Rattle.mm_model.specs.Views.ViewWords.{begins_counted_in, falls_in_counted_of, area_in, counted_cells_of}
use Rattle.mm_model.specs.Views.ViewWords.{scanned_cells_of, view_root_words, marking_words, outside_references}
use Rattle.mm_model.specs.Views.ViewWords.{view_zero_count, view_refuses_word}
use Rattle.mm_model.proofs.Lists.KeyedSums.{count-flat_map}
use Rattle.mm_model.proofs.View.ByBase.Seen.{any-seen, sum-seen, count-seen}

-- the words of an object's counted slots, and of its word slots
pub counted_words_of-seen : (a : State) (birth : ℕ) (object : Object)
    → counted_words_of (seen a birth object) ≡ counted_slots object
counted_words_of-seen a birth object = split (is_scanned object.kind)
  where
    split : (b : Bool)
        → (if b then take object.counted (words_of object.slots) else [])
        ≡ if_scanned b (take object.counted object.slots)
    split true = take-map (λ (v : Value). v.word) object.counted object.slots
    split false = refl

pub word_words_of-seen : (a : State) (birth : ℕ) (object : Object)
    → word_words_of (seen a birth object) ≡ word_slots object
word_words_of-seen a birth object = split (is_scanned object.kind)
  where
    split : (b : Bool)
        → (if b then drop object.counted (words_of object.slots) else [])
        ≡ if_scanned b (drop object.counted object.slots)
    split true = drop-map (λ (v : Value). v.word) object.counted object.slots
    split false = refl

-- the words of an area's counted cells
pub counted_cells_of-seen : (area : Area) → counted_cells_of (seen_area area) ≡ counted_cells area
counted_cells_of-seen area = split area.scanned
  where
    split : (b : Bool)
        → (if b then take area.counted (words_of area.cells) else []) ≡ if_scanned b (take area.counted area.cells)
    split true = take-map (λ (v : Value). v.word) area.counted area.cells
    split false = refl

each_counted_cells : (areas : List Area)
    → flat_map counted_cells_of (map seen_area areas) ≡ flat_map counted_cells areas
each_counted_cells [] = refl
each_counted_cells (area ∷ areas) =
    ap (λ ws. ws ++ flat_map counted_cells_of (map seen_area areas)) (counted_cells_of-seen area)
    ∙ ap (λ ws. counted_cells area ++ ws) (each_counted_cells areas)

each_scanned_cells : (areas : List Area)
    → flat_map scanned_cells_of (map seen_area areas) ≡ flat_map scanned_cells areas
each_scanned_cells [] = refl
each_scanned_cells (area ∷ areas) = ap (λ ws. scanned_cells area ++ ws) (each_scanned_cells areas)

-- the area under a number
pub area_in-seen : (a : State) (number : ℕ) → area_in (view_of a) number ≡ option_map seen_area (area_at a number)
area_in-seen a number = among a.areas
  where
    among : (areas : List Area)
        → find (λ (area : AreaView). area.number == number) (map seen_area areas)
        ≡ option_map seen_area (find (λ (area : Area). area.number == number) areas)
    among [] = refl
    among (area ∷ areas) =
        let split : (b : Bool)
        → cond b (Some (seen_area area)) (find (λ (area : AreaView). area.number == number) (map seen_area areas))
        ≡ option_map seen_area (cond b (Some area) (find (λ (area : Area). area.number == number) areas)) =
        elim [ true ↦ refl | false ↦ among areas ] in
        split (area.number == number)

module _ (a : State) where
  -- the words of scanned areas, of counted cells, and those at which marking begins
  pub area_words-seen : (view_root_words (view_of a)).areas ≡ area_words a
  area_words-seen = each_scanned_cells a.areas

  pub counted_cell_words-seen : (view_root_words (view_of a)).counted_cells ≡ counted_cell_words a
  counted_cell_words-seen = each_counted_cells a.areas

  pub marking_words-seen : marking_words (view_of a) ≡ root_words a
  marking_words-seen = ap (λ ws. words_of a.stack ++ ws) area_words-seen

  pub outside_references-seen : (base : ℕ)
      → outside_references (view_of a) base ≡ count_by (λ word. word == base) (counted_cell_words a)
  outside_references-seen base = ap (count_by (λ word. word == base)) counted_cell_words-seen

module _ (a : State) (placed : IsPlaced a.settings.max (live_pieces a)) where
  -- how many counted slots hold a base, and how many counted places
  pub references_in-seen : (base : ℕ)
      → references_in (seen_objects a) base
      ≡ count_by (λ word. word == base) (flat_map counted_slots (live_objects a.objects))
  references_in-seen base =
      let p = λ (word : ℕ). word == base in
      count-flat_map p (λ (o : Based ObjectView). counted_words_of o.value) (based (seen_objects a))
      ∙ sum-seen a placed (λ o. count_by p (counted_words_of o.value)) (λ o. count_by p (counted_slots o))
      (λ birth object lives. ap (count_by p) (counted_words_of-seen a birth object))
      ∙ sym (count-flat_map p counted_slots (live_objects a.objects))

  pub count_at-seen : (base : ℕ) → count_at (seen_objects a) (outside_references (view_of a)) base ≡ refs a base
  count_at-seen base =
      let f = λ (word : ℕ). cond (word == base) 1 0 in
      ap (λ n. n + outside_references (view_of a) base) (references_in-seen base)
      ∙ ap (λ n. count_by (λ word. word == base) (flat_map counted_slots (live_objects a.objects)) + n)
      (outside_references-seen a base)
      ∙ sym (sum_by-append f (flat_map counted_slots (live_objects a.objects)) (counted_cell_words a))

  pub is_zero_count_at-seen : (birth : ℕ) (object : Object)
      → is_zero_count_at (seen_objects a) (outside_references (view_of a)) object.base (seen a birth object)
      ≡ (is_counted object.kind && not object.sticky && refs a object.base == 0)
  is_zero_count_at-seen birth object =
      ap (λ n. is_counted object.kind && not object.sticky && n == 0) (count_at-seen object.base)

  pub view_zero_count-seen : view_zero_count (view_of a) ≡ zero_count a
  view_zero_count-seen =
      count-seen a placed
      (λ o. is_zero_count_at (seen_objects a) (outside_references (view_of a)) o.base o.value)
      (λ object. is_counted object.kind && not object.sticky && refs a object.base == 0)
      (λ birth object lives. is_zero_count_at-seen birth object)
      ∙ ap (λ test. count_by test a.objects)
      (fun_ext (λ object.
      regroup (is_live object) (is_counted object.kind) (not object.sticky) (refs a object.base == 0)))
    where
      regroup : (b c d e : Bool) → (b && (c && d && e)) ≡ (b && c && d && e)
      regroup true c d e = refl
      regroup false c d e = refl

  -- whether a counted object begins at a word, and whether a word falls in one
  pub begins_counted_in-seen : (word : ℕ) → begins_counted_in (seen_objects a) word ≡ names_counted a word
  begins_counted_in-seen word =
      any-seen a placed (λ o. is_counted o.value.kind && o.base == word)
      (λ object. is_counted object.kind && object.base == word) (λ birth object lives. refl)
      ∙ ap (λ test. list_any test a.objects)
      (fun_ext (λ object. regroup (is_live object) (is_counted object.kind) (object.base == word)))
    where
      regroup : (b c d : Bool) → (b && (c && d)) ≡ (b && c && d)
      regroup true c d = refl
      regroup false c d = refl

  pub falls_in_counted_of-seen : (word : ℕ)
      → falls_in_counted_of (seen_objects a) word
      ≡ list_any (λ object. is_counted object.kind && falls_in word object) a.objects
  falls_in_counted_of-seen word =
      any-seen a placed (λ o. is_counted o.value.kind && falls word o.base o.value.extent)
      (λ object. is_counted object.kind && falls word object.base object.extent) (λ birth object lives. refl)
      ∙ ap (λ test. list_any test a.objects)
      (fun_ext (λ object.
      swap (is_live object) (is_counted object.kind) (falls word object.base object.extent)))
    where
      swap : (b c d : Bool) → (b && (c && d)) ≡ (c && (b && d))
      swap true c d = refl
      swap false true d = refl
      swap false false d = refl

  pub view_refuses_word-seen : (kind : SlotKind) (word : ℕ)
      → view_refuses_word (view_of a) kind word ≡ refuses_word a kind word
  view_refuses_word-seen kind word =
      ap (λ named. is_counted_slot kind && not (word == 0) && not named) (begins_counted_in-seen word)
