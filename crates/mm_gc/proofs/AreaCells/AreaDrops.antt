-- `drop_area`: what it needs, and what it leaves.
use Rattle.std.proofs.Common.{◌≡◌, ℕ, ◌<◌, Bool, true, false, not, List, [], ◌∷◌, map, take, Some}
use Rattle.std.proofs.Common.{refl, sym, ap, ◌∙◌}
use Rattle.std.proofs.Common.{subst, arith}
use Rattle.std.proofs.lemmas.Bool.Decides.{nat_tests}
use Rattle.std.proofs.lemmas.List.Folds.{find_at}
use Rattle.std.specs.Prelude.{◌==◌, if◌then◌else◌, nat_eq}
use Rattle.std.specs.List.{AllByRecursion, IsDistinct, count_by, filter, position_or_len}
use Rattle.mm_model.specs.declared.command.Command.TheVariants as commands
use Rattle.mm_model.specs.declared.reply.Reply.TheVariants as replies
use Rattle.mm_model.specs.Views.GoodView.{AreTight, IsGoodView}
use Rattle.mm_model.specs.Views.ObjectView.{ObjectsByBase, pieces_of_objects}
use Rattle.mm_model.specs.Phase.{IsAscending}
use Rattle.mm_model.specs.Views.View.{View, AreaView}
use Rattle.mm_model.specs.Views.ViewEffect.{view_without_area}
use Rattle.mm_model.specs.Views.ViewStep.{IsViewRow}
use Rattle.mm_model.specs.Views.ViewWords.{area_in, counted_cells_of, outside_references}
use Rattle.mm_model.proofs.Lists.KeyedSums.{count-flat_map, sum-without}
use Rattle.mm_object.specs.Object.{StoredObjects, views_of}
use Rattle.mm_object.specs.Heap.{Heap, IsSound}
use Rattle.mm_count.specs.Counts.{IsCountedBy}
use Rattle.mm_count.specs.Listed.{AllListed, NonePinned}
use Rattle.mm_count.specs.Table.{Table, IsSameTable}
use Rattle.mm_mark.specs.Marker.{AreKnown}
use Rattle.mm_mark.specs.Stale.{HasFewStale}
use Rattle.mm_roots.specs.declared.area_shape.AreaShape.{AreaShape}
use Rattle.mm_roots.specs.Areas.{area_at, IsAreaShape}
use Rattle.mm_roots.specs.Views.{area_words, view_of_area}
use Rattle.mm_gc.specs.AreaCells.{CanLowerAll, HasCells, outside_with}
use Rattle.mm_gc.specs.Gc.{Region, Gc, areas_in, objects_in, view_of_gc}
use Rattle.mm_gc.specs.Kept.{IsSettled, KeepsGc}
use Rattle.mm_gc.specs.Regions.{IsSameRegion}
use Rattle.mm_gc.specs.Rows.{Answers}
use Rattle.mm_gc.specs.Counts.{HasCounts}
use Rattle.mm_gc.proofs.AreaCells.AreaReads.{area_in-is}
use Rattle.mm_gc.proofs.Keeping.KeptParts.{counts-kept, with_region, keeps-region}
use Rattle.mm_gc.proofs.AreaCells.LoweredCells.{same_area}
use Rattle.mm_gc.proofs.Makes.Made.{right-moved}
use Rattle.mm_gc.proofs.Regions.SameObjects.{linked-same}
use Rattle.mm_gc.proofs.AreaCells.Replaced.{counts-outside}
use Rattle.mm_gc.proofs.Rows.Areas.{drop-row}
use Rattle.mm_gc.proofs.Writing.Settling.{settled-objects, same_region-objects, areas-objects, same_region-then}
use Rattle.mm_gc.proofs.Shown.{row-of, row-shows, showing-good}

-- numbers that ascend stand once each
distinct-ascending : (numbers : List ℕ) → IsAscending numbers → IsDistinct nat_eq numbers
unfolding IsDistinct
distinct-ascending [] h = tt
distinct-ascending (number ∷ numbers) h = (others numbers h.0, distinct-ascending numbers h.1)
  where
    apart : (m n : ℕ) → m < n → nat_eq m n ≡ false
    apart m n less = grind (arith, nat_tests)

    others : (numbers : List ℕ) → AllByRecursion (λ next. number < next) numbers
        → AllByRecursion (λ n. nat_eq number n ≡ false) numbers
    others [] h = tt
    others (next ∷ rest) h = (apart number next h.0, others rest h.1)

-- the same counts over another heap with the same objects
counts-moved : (table : Table) (before after : Heap) (outside : ℕ → ℕ) → after.pages ≡ before.pages
    → after.objects ≡ before.objects → HasCounts table before outside → HasCounts table after outside
counts-moved table before after outside pages objects counts =
    record {
      right = right-moved table before after pages objects counts.right;
      counted = subst (λ (os : StoredObjects). IsCountedBy os outside) (sym objects) counts.counted;
      listed = subst AllListed (sym objects) counts.listed;
      unpinned = subst NonePinned (sym objects) counts.unpinned;
      linked = linked-same before after objects counts.linked;
    }

module _ (gc : Gc) (keeps : KeepsGc gc) (number : ℕ) (area : AreaShape)
    (lives : area_at gc.region.areas number ≡ Some area) where
  abbrev view : View
  view = view_of_gc gc

  abbrev seen : AreaView
  seen = view_of_area gc.region.heap.raw number area

  abbrev words : List ℕ
  words = take area.counted (area_words gc.region.heap.raw area)

  abbrev after : View
  after = view_without_area number view

  there : area_in view number ≡ Some seen
  there = area_in-is gc number (Some area) lives

  shape : IsAreaShape area
  shape = keeps.settled.keeps.sound.areas.shapes number area lives

  pub has-cells : HasCells gc.region.areas number area.counted
  has-cells = record { area = area; lives = lives; within = shape.counted }

  counted-are : counted_cells_of seen ≡ words
  counted-are = split area.scanned refl
    where
      split : (b : Bool) → area.scanned ≡ b → (if b then words else []) ≡ words
      split true e = refl
      split false e = sym (ap (λ (n : ℕ). take n (area_words gc.region.heap.raw area)) (shape.raw e))

  good : IsGoodView view
  good = showing-good view keeps.shown

  -- the words of the area's counted cells, and those of the others
  outside-apart : (b : ℕ) → outside_with words (outside_references after) b ≡ outside_references view b
  outside-apart b =
      let all = count-flat_map (λ word. word == b) counted_cells_of view.areas in
      let left = count-flat_map (λ word. word == b) counted_cells_of after.areas in
      let one = sum-without (λ (a : AreaView). a.number) (λ a. count_by (λ word. word == b) (counted_cells_of a)) number
      view.areas seen
      (distinct-ascending (map (λ (a : AreaView). a.number) view.areas) good.numbered.ascending) there in
      let own = ap (count_by (λ word. word == b)) counted-are in
      omega arith

  counts-apart : HasCounts gc.table gc.region.heap (outside_with words (outside_references after))
  counts-apart =
      counts-outside gc.table gc.region.heap (outside_references view) (outside_with words (outside_references after))
      outside-apart (counts-kept gc keeps)

  pub can-lower_all : (other : AreaShape) → area_at gc.region.areas number ≡ Some other
      → CanLowerAll gc.table gc.region.heap (take area.counted (area_words gc.region.heap.raw other))
  can-lower_all other another =
      subst (λ (a : AreaShape). CanLowerAll gc.table gc.region.heap
      (take area.counted (area_words gc.region.heap.raw a))) (same_area lives another)
      (record {
        tight = subst (AreTight view.objects) counted-are
            (good.cells_tight (position_or_len (λ (a : AreaView). a.number == number) view.areas) seen
            (sym (find_at (λ (a : AreaView). a.number == number) view.areas) ∙ there));
        others = outside_references after;
        counts = counts-apart;
      })

  -- once the words are held no more
  module _ (heap : Heap) (views : views_of heap.objects ≡ objects_in gc.region)
      (rest : heap ≡ record gc.region.heap { objects = heap.objects }) (sound : IsSound heap) where
    abbrev middle : Region
    middle = record gc.region { heap = heap }

    pub settled-lowered : IsSettled middle
    settled-lowered = settled-objects gc.region heap rest keeps.settled (ap pieces_of_objects views) sound

    -- and the area is gone
    module _ (table : Table) (r : Region)
        (areas : areas_in r ≡ filter (λ (a : AreaView). not (a.number == number)) (areas_in middle))
        (objects : r.heap.objects ≡ heap.objects) where
      views-dropped : objects_in r ≡ objects_in gc.region
      views-dropped = ap views_of objects ∙ views

      view-drop : view_of_gc (with_region gc r table) ≡ after
      view-drop =
          ap (λ (vs : ObjectsByBase). record view { objects = vs; areas = areas_in r }) views-dropped
          ∙ ap (λ (left : List AreaView). record view { areas = left })
          (areas
          ∙ ap (filter (λ (a : AreaView). not (a.number == number))) (areas-objects gc.region heap rest))

      row : IsViewRow view (commands.DropArea number) []
          (record { view = view_of_gc (with_region gc r table); reply = replies.Done })
      row =
          subst (λ (v : View). IsViewRow view (commands.DropArea number) []
          (record { view = v; reply = replies.Done })) (sym view-drop) (drop-row view number seen there)

      pub drop-answers : Answers gc (with_region gc r table) (commands.DropArea number) replies.Done
      drop-answers =
          row-of view (view_of_gc (with_region gc r table)) (commands.DropArea number) [] replies.Done row

      pub drop-keeps : IsSameTable gc.table table
          → ((a : AreaShape) (others : ℕ → ℕ) → area_at gc.region.areas number ≡ Some a
          → HasCounts gc.table gc.region.heap
          (outside_with (take area.counted (area_words gc.region.heap.raw a)) others)
          → HasCounts table heap others)
          → IsSameRegion middle r → IsSettled r → KeepsGc (with_region gc r table)
      drop-keeps entries lowered same settled =
          keeps-region gc keeps r
          (same_region-then gc.region middle r (same_region-objects gc.region heap rest) same) settled table entries
          (row-shows view (view_of_gc (with_region gc r table)) (commands.DropArea number) [] replies.Done keeps.shown
          row)
          (subst (λ (v : View). HasCounts table r.heap (outside_references v)) (sym view-drop)
          (counts-moved table heap r.heap (outside_references after) same.heap_pages objects
          (lowered area (outside_references after) lives counts-apart)))
          (subst (AreKnown gc.marker) (sym views-dropped) keeps.marking.known)
          (λ stale few.
          subst (λ (vs : ObjectsByBase). HasFewStale (record { marker = gc.marker; objects = vs }) stale)
          (sym views-dropped) few)
