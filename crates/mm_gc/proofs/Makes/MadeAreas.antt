-- What a heap keeps once an area was made in its region.
use Rattle.std.proofs.Common.{◌≡◌, ◌≢◌, ℕ, ◌+◌, ◌<◌, Bool, true, false, cond, List, [], ◌∷◌, take, length, replicate}
use Rattle.std.proofs.Common.{Some, sym, ap, ◌∙◌, subst, arith}
use Rattle.std.specs.Prelude.{◌==◌, nat_lt, if◌then◌else◌}
use Rattle.std.specs.List.{sum_by, count_by, flat_map}
use Rattle.std.proofs.lemmas.List.Sums.{sum_by-cons}
use Rattle.mm_model.specs.declared.reply.AreaAnswer.{AreaAnswer}
use Rattle.mm_model.specs.declared.reply.Reply.TheVariants as replies
use Rattle.mm_model.specs.Areas.{most_areas}
use Rattle.mm_model.specs.Views.ObjectView.{ObjectsByBase}
use Rattle.mm_model.specs.Views.View.{View, AreaView}
use Rattle.mm_model.specs.Views.ViewWords.{counted_cells_of}
use Rattle.mm_model.specs.Views.ViewEffect.{view_area_effect, view_area_inserted, view_free_number, new_area_view}
use Rattle.mm_model.proofs.Lists.KeyedSums.{count-flat_map}
use Rattle.mm_object.specs.Object.{views_of}
use Rattle.mm_count.proofs.Composites.{refutes}
use Rattle.mm_gc.specs.declared.wanted.AreaWanted.{AreaWanted}
use Rattle.mm_gc.specs.declared.wanted.Wanted.TheVariants as wanted
use Rattle.mm_gc.specs.declared.wanted.Made.TheVariants as made_variants
use Rattle.mm_gc.specs.declared.wanted.Reach.{Reach}
use Rattle.mm_gc.specs.Gc.{Region, Gc, view_of_gc, areas_in}
use Rattle.mm_gc.specs.Kept.{IsSettled, KeepsGc}
use Rattle.mm_gc.specs.Making.{place_in_reach, IsMade, IsWantedArea}
use Rattle.mm_gc.specs.Regions.{IsSameRegion}
use Rattle.mm_gc.specs.Showing.{IsShowing}
use Rattle.mm_gc.proofs.Makes.Births.{area-shows}
use Rattle.mm_gc.proofs.Makes.Made.{keeps-objects}
use Rattle.mm_count.proofs.References.{count-other}
use Rattle.mm_count.proofs.Newborn.{counted-zero}
use Rattle.mm_gc.proofs.Makes.Reaching.{place_in_reach-is}

-- one more area adds what it has
sum-inserted : (weight : AreaView → ℕ) (new : AreaView) (areas : List AreaView) → weight new ≡ 0
    → sum_by weight (view_area_inserted new areas) ≡ sum_by weight areas
sum-inserted weight new [] none = let first = sum_by-cons weight new [] in omega (arith, first, none)
sum-inserted weight new (area ∷ areas) none = split (nat_lt new.number area.number) (sum-inserted weight new areas none)
  where
    split : (b : Bool) → sum_by weight (view_area_inserted new areas) ≡ sum_by weight areas
        → sum_by weight (cond b (new ∷ area ∷ areas) (area ∷ view_area_inserted new areas))
        ≡ sum_by weight (area ∷ areas)
    split true rest = let first = sum_by-cons weight new (area ∷ areas) in omega (arith, first, none)
    split false rest =
        sum_by-cons weight area (view_area_inserted new areas)
        ∙ ap (λ n. weight area + n) rest ∙ sym (sum_by-cons weight area areas)

-- the cells of a new area hold no base
count-inserted : (base : ℕ) → base ≢ 0 → (number at counted cells : ℕ) (scanned : Bool) (areas : List AreaView)
    → count_by (λ word. word == base)
    (flat_map counted_cells_of (view_area_inserted (new_area_view number at scanned counted cells) areas))
    ≡ count_by (λ word. word == base) (flat_map counted_cells_of areas)
count-inserted base some number at counted cells scanned areas =
    let new = new_area_view number at scanned counted cells in
    let none : count_by (λ word. word == base) (counted_cells_of new) ≡ 0 =
    count-other (if scanned then take counted (replicate cells 0) else []) base
    (λ n word e same. some (sym same ∙ counted-zero scanned counted cells n word e)) in
    count-flat_map (λ word. word == base) counted_cells_of (view_area_inserted new areas)
    ∙ sum-inserted (λ area. count_by (λ word. word == base) (counted_cells_of area)) new areas none
    ∙ sym (count-flat_map (λ word. word == base) counted_cells_of areas)

module _ (gc : Gc) (keeps : KeepsGc gc) (r : Region) (same : IsSameRegion gc.region r) (settled : IsSettled r)
    (objects : r.heap.objects ≡ gc.region.heap.objects) (area : AreaWanted) (answer : AreaAnswer)
    (made : areas_in r ≡ view_area_inserted
    (new_area_view answer.number answer.base area.scanned area.counted area.cells) (areas_in gc.region))
    (number : answer.number ≡ view_free_number (view_of_gc gc)) where
  abbrev other : Gc
  other = record gc { region = r }

  pub view-area : view_of_gc other
      ≡ (view_area_effect (view_of_gc gc) area.scanned area.counted area.cells (Some answer.base)).view
  view-area =
      let view = view_of_gc gc in
      ap (λ (vs : ObjectsByBase). record (view_of_gc other) { objects = vs }) (ap views_of objects)
      ∙ ap (λ (views : List AreaView). record view { areas = views }) made
      ∙ ap
      (λ (n : ℕ). record view {
        areas = view_area_inserted (new_area_view n answer.base area.scanned area.counted area.cells) view.areas;
      }) number

  module _ (r' : Reach) (asked : IsWantedArea (view_of_gc gc) area)
      (place : place_in_reach r' (view_of_gc gc) (wanted.Area area) ≡ Some answer.base) where
    area-shown : IsShowing (view_of_gc other)
    area-shown =
        let view = view_of_gc gc in
        let few = asked.few in
        subst IsShowing (sym view-area)
        (subst (λ found. IsShowing (view_area_effect view area.scanned area.counted area.cells found).view) place
        (area-shows view keeps.shown area.scanned area.counted area.cells asked.fine asked.raw
        (refutes (length view.areas) most_areas (λ e. less few e)) (place_in_reach r' view (wanted.Area area))
        (place_in_reach-is r' view (wanted.Area area))))
      where
        less : {n m : ℕ} → n < m → n ≢ m
        less h e = omega (arith, h, e)

    pub area-made : IsMade (view_of_gc gc) (wanted.Area area) r' (view_of_gc other) (Some (made_variants.Area answer))
    area-made =
        let view = view_of_gc gc in
        ap (view_area_effect view area.scanned area.counted area.cells) place
        ∙ ap (λ (v : View). record {
          view = v;
          reply = replies.Area (record {
            number = view_free_number view;
            base =
                answer.base;
          });
        })
        (sym view-area)
        ∙ ap (λ (n : ℕ). record {
          view = view_of_gc other;
          reply = replies.Area (record {
            number = n;
            base =
                answer.base;
          });
        })
        (sym number)

    pub area-keeps : KeepsGc other
    area-keeps =
        keeps-objects gc keeps r same settled objects area-shown
        (λ base some.
        ap (λ (views : List AreaView). count_by (λ word. word == base) (flat_map counted_cells_of views)) made
        ∙ count-inserted base some answer.number answer.base area.counted area.cells area.scanned (areas_in gc.region))
