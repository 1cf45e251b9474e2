-- The view of a good state is a good view.
use Rattle.std.proofs.Common.{◌≡◌, ℕ, ◌<◌, ◌≤◌, false, List, [], ◌∷◌, map, take, length, Option, Some, None, refl, sym}
use Rattle.std.proofs.Common.{ap, ◌∙◌, subst}
use Rattle.std.proofs.lemmas.List.{length-map}
use Rattle.std.proofs.lemmas.Option.{slice_get-map}
use Rattle.std.specs.Prelude.{IsTrue, IfSome, slice_get, ◌==◌, ◌||◌}
use Rattle.std.specs.List.{AllByRecursion}
use Rattle.std.specs.Option.{option_map, option_and_then}
use Rattle.mm_model.specs.declared.object.Colour.TheVariants.{Black}
use Rattle.mm_model.specs.Value.{Value, words_of}
use Rattle.mm_model.specs.Places.SizeClass.{extent_of, object_bytes, area_bytes}
use Rattle.mm_model.specs.Refusing.{most_slots}
use Rattle.mm_model.specs.Count.{refs}
use Rattle.mm_model.specs.Object.{Object, is_counted}
use Rattle.mm_model.specs.State.{State, Area, Cycle, PartlyScanned, Lives}
use Rattle.mm_model.specs.Words.{counted_slots, counted_cells, scanned_slots}
use Rattle.mm_model.specs.Sets.Marking.{colour_in, colour_of}
use Rattle.mm_model.specs.Areas.{most_areas}
use Rattle.mm_model.specs.Phase.{IsAscending}
use Rattle.mm_model.specs.Good.{IsShaped, IsAreaShaped, AreNumbered, is_tight, IsPaired, NamesNoWhite, IsPartlyScanned}
use Rattle.mm_model.specs.Good.{IsColoured, IsGood}
use Rattle.mm_model.specs.Views.ByBase.{Begins}
use Rattle.mm_model.specs.Views.ObjectView.{ObjectView, counted_words_of, scanned_words_of, names_at}
use Rattle.mm_model.specs.Views.SetsByBase.{count_at}
use Rattle.mm_model.specs.Views.View.{View, AreaView, seen, seen_objects, seen_area, seen_partly, seen_cycle, base_of}
use Rattle.mm_model.specs.Views.View.{Shows}
use Rattle.mm_model.specs.Views.View.{view_of}
use Rattle.mm_model.specs.Views.ViewWords.{begins_counted_in, counted_cells_of, outside_references}
use Rattle.mm_model.specs.Views.GoodView.{IsShapedView, IsAreaShapedView, AreTight, IsPairedAt, NamesNoWhiteAt}
use Rattle.mm_model.specs.Views.GoodView.{IsPartlyScannedAt, IsColouredAt, IsColouredView, AreNumberedViews, IsGoodView}
use Rattle.mm_model.proofs.Good.Writing.CountedWords.{each_counted_slot, each_counted_cell}
use Rattle.mm_model.proofs.Places.Placing.{each_weaker}
use Rattle.mm_model.proofs.View.Placed.{placed-seen}
use Rattle.mm_model.proofs.View.Marking.Scanning.{base_of-lives}
use Rattle.mm_model.proofs.View.ByBase.Seen.{length-seen, begins-seen, seen-begins}
use Rattle.mm_model.proofs.View.Shown.{shown-is}
use Rattle.mm_model.proofs.View.Words.{counted_words_of-seen, counted_cells_of-seen, count_at-seen}
use Rattle.mm_model.proofs.View.Words.{begins_counted_in-seen}

-- words are as many as the values that have them
count_words : (values : List Value) → length (words_of values) ≡ length values
count_words values = length-map values (λ (v : Value). v.word)

shaped-seen : (a : State) (birth : ℕ) (object : Object) → IsShaped object → IsShapedView (seen a birth object)
shaped-seen a birth object h =
    let same = sym (count_words object.slots) in
    record {
      extent = h.extent ∙ ap (λ n. extent_of (object_bytes n)) same;
      most = subst (λ n. n ≤ most_slots) same h.most;
      counted = subst (λ n. object.counted ≤ n) same h.counted;
      leaf = h.leaf;
      no_slot = λ weak. sym same ∙ h.no_slot weak;
      no_finalizer = h.no_finalizer;
    }

area_shaped-seen : (area : Area) → IsAreaShaped area → IsAreaShapedView (seen_area area)
area_shaped-seen area h =
    let same = sym (count_words area.cells) in
    record {
      extent = h.extent ∙ ap (λ n. extent_of (area_bytes n)) same;
      some = subst (λ n. 1 ≤ n) same h.some;
      most = subst (λ n. n ≤ most_slots) same h.most;
      counted = subst (λ n. area.counted ≤ n) same h.counted;
      raw = h.raw;
    }

numbered-seen : (areas : List Area) → AreNumbered areas → AreNumberedViews (map seen_area areas)
numbered-seen areas h =
    record { ascending = subst IsAscending (sym (numbers areas)) h.ascending; below = each_below areas h.below }
  where
    numbers : (areas : List Area)
        → map (λ (area : AreaView). area.number) (map seen_area areas) ≡ map (λ (area : Area). area.number) areas
    numbers [] = refl
    numbers (area ∷ areas) = ap (λ ns. area.number ∷ ns) (numbers areas)

    each_below : (areas : List Area) → AllByRecursion (λ (area : Area). area.number < most_areas) areas
        → AllByRecursion (λ (area : AreaView). area.number < most_areas) (map seen_area areas)
    each_below [] h = tt
    each_below (area ∷ areas) h = (h.0, each_below areas h.1)

-- the area that a view shows at a place
area_shown : (areas : List Area) (n : ℕ) (shown : AreaView) → slice_get (map seen_area areas) n ≡ Some shown
    → (area : Area) × (slice_get areas n ≡ Some area) × (shown ≡ seen_area area)
area_shown areas n shown e = split (slice_get areas n) refl (sym (slice_get-map seen_area areas n) ∙ e)
  where
    split : (found : Option Area) → slice_get areas n ≡ found → option_map seen_area found ≡ Some shown
        → (area : Area) × (slice_get areas n ≡ Some area) × (shown ≡ seen_area area)
    split None p q = cc
    split (Some area) p q = (area, p, cc)

module _ (a : State) (good : IsGood a) where
  tight-seen : (words : List ℕ) → AllByRecursion (λ word. IsTrue (is_tight a word)) words
      → AreTight (seen_objects a) words
  tight-seen words h =
      each_weaker (λ word. IsTrue (is_tight a word))
      (λ word. IsTrue (word == 0 || begins_counted_in (seen_objects a) word))
      (λ word tight. ap (λ b. word == 0 || b) (begins_counted_in-seen a good.placed word) ∙ tight) words h

  object_tight : (base : ℕ) (holder : ObjectView) → Begins (seen_objects a) base holder
      → AreTight (seen_objects a) (counted_words_of holder)
  object_tight base holder begins =
      let s = seen-begins a base holder begins in
      let own : counted_slots s.object ≡ counted_words_of holder =
      sym (counted_words_of-seen a s.birth s.object) ∙ ap counted_words_of (sym s.is) in
      subst (AreTight (seen_objects a)) own
      (tight-seen (counted_slots s.object)
      (each_counted_slot (λ word. IsTrue (is_tight a word)) a good.tight s.birth s.object s.lives))

  area_tight : (n : ℕ) (area : AreaView) → slice_get (map seen_area a.areas) n ≡ Some area
      → AreTight (seen_objects a) (counted_cells_of area)
  area_tight n area is =
      let one = area_shown a.areas n area is in
      let own : counted_cells one.0 ≡ counted_cells_of area =
      sym (counted_cells_of-seen one.0) ∙ ap counted_cells_of (sym one.2) in
      subst (AreTight (seen_objects a)) own
      (tight-seen (counted_cells one.0)
      (each_counted_cell (λ word. IsTrue (is_tight a word)) a good.tight n one.0 one.1))

  count-seen_few : (base : ℕ) (object : ObjectView) → Begins (seen_objects a) base object
      → IsTrue (is_counted object.kind) → object.sticky ≡ false
      → count_at (seen_objects a) (outside_references (view_of a)) base ≤ 254
  count-seen_few base object begins counted free =
      let s = seen-begins a base object begins in
      let few = good.counted s.birth s.object s.lives (subst (λ o. IsTrue (is_counted o.kind)) s.is counted)
      (subst (λ o. o.sticky ≡ false) s.is free) in
      subst (λ n. n ≤ 254) (ap (refs a) s.at ∙ sym (count_at-seen a good.placed base)) few

  partner-seen : (birth : ℕ) (object : Object) → Lives a birth object → (partner : Option ℕ)
      → IfSome partner (IsPaired a birth object)
      → IfSome (option_and_then (base_of a) partner)
      (IsPairedAt (seen_objects a) object.base (seen a birth object))
  partner-seen birth object lives None h = tt
  partner-seen birth object lives (Some other) h =
      let own : IsPairedAt (seen_objects a) object.base (seen a birth object) h.partner.base =
      record {
        partner = seen a other h.partner;
        begins = begins-seen a good.placed other h.partner h.lives;
        back = ap (option_and_then (base_of a)) h.back ∙ base_of-lives a birth object lives;
        one_weak = h.one_weak;
      } in
      subst (λ found. IfSome found (IsPairedAt (seen_objects a) object.base (seen a birth object)))
      (sym (base_of-lives a other h.partner h.lives)) own

  paired-seen : (base : ℕ) (object : ObjectView) → Begins (seen_objects a) base object
      → IfSome object.partner (IsPairedAt (seen_objects a) base object)
  paired-seen base object begins =
      let s = seen-begins a base object begins in
      let own = partner-seen s.birth s.object s.lives s.object.partner (good.paired s.birth s.object s.lives) in
      subst (λ o. IfSome o.partner (IsPairedAt (seen_objects a) base o)) (sym s.is)
      (subst (λ b. IfSome (seen a s.birth s.object).partner (IsPairedAt (seen_objects a) b (seen a s.birth s.object)))
      s.at own)

module _ (a : State) (good : IsGood a) (cycle : Cycle) (runs : a.cycle ≡ Some cycle) where
  colour-seen : (base : ℕ) (object : ObjectView) (birth : ℕ) (of : Object) → object ≡ seen a birth of
      → colour_of cycle birth ≡ object.colour
  colour-seen base object birth of is =
      ap (λ c. colour_in c birth) (sym runs) ∙ ap (λ (o : ObjectView). o.colour) (sym is)

  no_white-seen : (words : List ℕ) → NamesNoWhite a cycle words → NamesNoWhiteAt (seen_objects a) words
  no_white-seen words none base object begins white named =
      let s = seen-begins a base object begins in
      none s.birth s.object s.lives (colour-seen base object s.birth s.object s.is ∙ white)
      (ap (λ b. names_at words b (seen a s.birth s.object)) s.at ∙ ap (names_at words base) (sym s.is) ∙ named)

  black-seen : IsColoured a cycle → (base : ℕ) (object : ObjectView) → Begins (seen_objects a) base object
      → object.colour ≡ Black → NamesNoWhiteAt (seen_objects a) (scanned_words_of object)
  black-seen h base object begins black =
      let s = seen-begins a base object begins in
      subst (λ o. NamesNoWhiteAt (seen_objects a) (scanned_words_of o)) (sym s.is)
      (no_white-seen (scanned_slots s.object)
      (h.black s.birth s.object s.lives (colour-seen base object s.birth s.object s.is ∙ black)))

  partly-seen : (partly : Option PartlyScanned) → IfSome partly (IsPartlyScanned a cycle)
      → IfSome (option_and_then (seen_partly a) partly) (IsPartlyScannedAt (seen_objects a))
  partly-seen None h = tt
  partly-seen (Some partly) h =
      let same = sym (count_words h.object.slots) in
      let own : IsPartlyScannedAt (seen_objects a) (record { base = h.object.base; slots_done = partly.slots_done }) =
      record {
        object = seen a partly.object h.object;
        begins = begins-seen a good.placed partly.object h.object h.lives;
        gray = ap (λ c. colour_in c partly.object) runs ∙ h.gray;
        some_done = h.some_done;
        some_left = h.some_left;
        names = no_white-seen (take partly.slots_done (scanned_slots h.object)) h.names;
      } in
      subst (λ found. IfSome (option_map (λ base. record { base = base; slots_done = partly.slots_done }) found)
      (IsPartlyScannedAt (seen_objects a))) (sym (base_of-lives a partly.object h.object h.lives)) own

  coloured_at-seen : IsColoured a cycle
      → IsColouredAt (seen_objects a) (option_and_then (seen_partly a) cycle.partly_scanned)
  coloured_at-seen h =
      record { black = black-seen h; partly = partly-seen cycle.partly_scanned h.partly_scanned }

module _ (a : State) (good : IsGood a) where
  coloured-seen : (cycle : Option Cycle) → a.cycle ≡ cycle → IfSome cycle (IsColoured a)
      → IsColouredView (seen_objects a) (option_map (seen_cycle a) cycle)
  coloured-seen None runs h = λ base object begins.
      let s = seen-begins a base object begins in
      ap (λ (o : ObjectView). o.colour) s.is ∙ ap (λ c. colour_in c s.birth) runs
  coloured-seen (Some cycle) runs h = coloured_at-seen a good cycle runs h

  pub good-view : IsGoodView (view_of a)
  good-view =
      record {
        growing = good.growing;
        size = length-seen a;
        placed = placed-seen a good.placed;
        shaped = λ base object begins.
            let s = seen-begins a base object begins in
            subst IsShapedView (sym s.is) (shaped-seen a s.birth s.object (good.shaped s.birth s.object s.lives));
        areas_shaped = λ n area is.
            let one = area_shown a.areas n area is in
            subst IsAreaShapedView (sym one.2) (area_shaped-seen one.0 (good.areas_shaped n one.0 one.1));
        numbered = numbered-seen a.areas good.numbered;
        tight = object_tight a good;
        cells_tight = area_tight a good;
        counted = count-seen_few a good;
        paired = paired-seen a good;
        coloured = coloured-seen a.cycle refl good.coloured;
      }

-- so is each view that shows one
pub shown_is_good : (view : View) (a : State) → IsGood a → Shows view a → IsGoodView view
shown_is_good view a good shows = subst IsGoodView (sym (shown-is view a shows)) (good-view a good)
